-- What the reading of a text says of a port.
use Rattle.std.proofs.Common.{◌≡◌, ◌≢◌, ◌⊎◌, inl, inr, ℕ, ◌<◌, List, [], ◌∷◌, ◌++◌, length, get_or, false, IsTrue, codes, refl, sym, ap, ◌∙◌, subst, arith}
use Rattle.plan_names.specs.declared.port.PortName.{PortName}
use Rattle.plan_names.specs.Spelling.{is_name}
use Rattle.toml.specs.Data.{Members}
use Rattle.loadfed_tables.specs.declared.fault.TableFault.{TableFault}
use Rattle.loadfed_tables.specs.declared.fault.TableFault.TheVariants.{WrongShape, Memory}
use Rattle.loadfed_tables.specs.Tables.{SaysText, SaysPort}
use Rattle.loadfed_tables.specs.TableFaults.{IsWrongAt}
use Rattle.loadfed_tables.proofs.OneReading.{one_text}
use Rattle.loadfed_tables.proofs.Dots.{name_has_none, HasNoDot}

pub text_of_port : (key : List ℕ) (m : Members) (p : PortName) → SaysPort key m p → (t : List ℕ) × SaysText key m t
text_of_port key m p h = (p.federate ++ (codes "." ++ p.port), h.text_is)

dot_inside : (xs ys : List ℕ) → (length xs < length (xs ++ (46 ∷ ys))) × (get_or (xs ++ (46 ∷ ys)) (length xs) 0 ≡ 46)
dot_inside [] ys = (omega arith, refl)
dot_inside (x ∷ xs) ys = let more = dot_inside xs ys in let low = more.0 in (omega arith, more.1)

-- a text without a dot is no port
pub no_port : (key : List ℕ) (m : Members) (text : List ℕ) → SaysText key m text → ((i : ℕ) → i < length text → get_or text i 0 ≢ 46) → (p : PortName) → SaysPort key m p → ⊥
no_port key m text says none p h =
    let same : text ≡ p.federate ++ (46 ∷ p.port) = one_text key m text (p.federate ++ (46 ∷ p.port)) says h.text_is in
    let dot = dot_inside p.federate p.port in
    let P : List ℕ → Type 0 = λ t. (length p.federate < length t) × (get_or t (length p.federate) 0 ≡ 46) in
    let here = subst P (sym same) dot in
    none (length p.federate) here.0 here.1

-- a text whose first dot parts what are no names is no port
pub no_port_of : (key : List ℕ) (m : Members) (text front back : List ℕ) → SaysText key m text → ((xs ys : List ℕ) → text ≡ xs ++ (46 ∷ ys) → HasNoDot xs → (front ≡ xs) × (back ≡ ys))
    → (IsTrue (is_name front) → IsTrue (is_name back) → ⊥) → (p : PortName) → SaysPort key m p → ⊥
no_port_of key m text front back says cut none p h =
    let same : text ≡ p.federate ++ (46 ∷ p.port) = one_text key m text (p.federate ++ (46 ∷ p.port)) says h.text_is in
    let parts = cut p.federate p.port same (name_has_none p.federate h.federate_named) in
    none (subst (λ x. IsTrue (is_name x)) (sym parts.0) h.federate_named) (subst (λ x. IsTrue (is_name x)) (sym parts.1) h.port_named)

pub front_told : (key : List ℕ) (m : Members) (text front back : List ℕ) (fault : TableFault) → SaysText key m text
    → ((xs ys : List ℕ) → text ≡ xs ++ (46 ∷ ys) → HasNoDot xs → (front ≡ xs) × (back ≡ ys))
    → (fault ≡ Memory) ⊎ ((fault ≡ WrongShape key) × (is_name front ≡ false)) → (fault ≡ Memory) ⊎ IsWrongAt key (SaysPort key m) fault
front_told key m text front back fault says cut (inl memory) = inl memory
front_told key m text front back fault says cut (inr h) =
    inr (record { told = h.0; nothing = no_port_of key m text front back says cut (λ f b. (let other = h.1 in cc)) })

pub back_told : (key : List ℕ) (m : Members) (text front back : List ℕ) (fault : TableFault) → SaysText key m text
    → ((xs ys : List ℕ) → text ≡ xs ++ (46 ∷ ys) → HasNoDot xs → (front ≡ xs) × (back ≡ ys))
    → (fault ≡ Memory) ⊎ ((fault ≡ WrongShape key) × (is_name back ≡ false)) → (fault ≡ Memory) ⊎ IsWrongAt key (SaysPort key m) fault
back_told key m text front back fault says cut (inl memory) = inl memory
back_told key m text front back fault says cut (inr h) =
    inr (record { told = h.0; nothing = no_port_of key m text front back says cut (λ f b. (let other = h.1 in cc)) })

pub port_read : (key : List ℕ) (m : Members) (text front back federate port : List ℕ) → SaysText key m text → text ≡ front ++ (46 ∷ back) → federate ≡ front → port ≡ back
    → IsTrue (is_name federate) → IsTrue (is_name port) → SaysPort key m (record { federate = federate; port = port })
port_read key m text front back federate port says parts f b named_f named_b =
    let same : text ≡ federate ++ (46 ∷ port) = parts ∙ sym (ap (λ x. x ++ (46 ∷ back)) f) ∙ sym (ap (λ x. federate ++ (46 ∷ x)) b) in
    record { text_is = subst (λ t. SaysText key m t) same says; federate_named = named_f; port_named = named_b }
