-- The connections by which a federate sends, and what goes out over them.
use Rattle.std.proofs.Common.{◌≡◌, ◌≢◌, ℕ, zero, suc, ◌+◌, ◌<◌, ◌≤◌, ℤ, Bool, true, false, nat_eq, if◌then◌else◌, List, [], ◌∷◌, ◌++◌, length, get_or, take, Option, None, Some, refl, ap, ◌∙◌, arith, append_assoc, append-nil, add-zero, add-one, zero-add, eq-eqb}
use Rattle.std.specs.List.{filter_map, cons_option}
use Rattle.std.proofs.lemmas.Bool.{ne_eqb}
use Rattle.std.proofs.lemmas.Grind.{flat_map-append}
use Rattle.tag.specs.LogicalTime.{LogicalTime}
use Rattle.network.specs.Connection.{Connection}
use Rattle.network.specs.Network.{Network}
use Rattle.protocol.specs.Federate.{message_over, sent_over, messages_from}
use Rattle.plan.specs.declared.draft.Draft.{Draft}
use Rattle.plan.specs.Federation.{connection_of, connections_of}
use Rattle.plan.specs.Legal.{IsLegal}
use Rattle.federate.specs.Outlets.{outlet_if, outlets_from, messages_by}

-- one connection more
outlets_step : (federate first : ℕ) (cs : List Connection) (i : ℕ) (d : Connection) → i < length cs →
    outlets_from federate first (take (suc i) cs) ≡ outlets_from federate first (take i cs) ++ outlet_if federate (first + i) (get_or cs i d)
outlets_step federate first [] i d h = absurd (omega arith)
outlets_step federate first (c ∷ cs) zero d h = rw (add-zero, append-nil) refl
outlets_step federate first (c ∷ cs) (suc i) d h =
    let moved : first + suc i ≡ first + 1 + i = omega arith in
    rw (moved, append_assoc) (ap (λ rest. outlet_if federate first c ++ rest) (outlets_step federate (first + 1) cs i d (omega arith)))

outlets_more : (federate : ℕ) (cs : List Connection) (i : ℕ) (c : Connection) → i < length cs → c ≡ get_or cs i c →
    outlets_from federate 0 (take (i + 1) cs) ≡ outlets_from federate 0 (take i cs) ++ outlet_if federate i c
outlets_more federate cs i c h is =
    rw (add-one, outlets_step federate 0 cs i c h, zero-add, ← is) refl

-- one that begins here, and one that begins elsewhere
pub outlet_here : (federate : ℕ) (cs : List Connection) (i : ℕ) (c : Connection) → i < length cs → c ≡ get_or cs i c → c.source ≡ federate →
    outlets_from federate 0 (take (i + 1) cs) ≡ outlets_from federate 0 (take i cs) ++ record { number = i; connection = c } ∷ []
outlet_here federate cs i c h is here =
    outlets_more federate cs i c h is
    ∙ ap (λ b. outlets_from federate 0 (take i cs) ++ (if b then record { number = i; connection = c } ∷ [] else [])) (eq-eqb c.source federate here)

pub outlet_elsewhere : (federate : ℕ) (cs : List Connection) (i : ℕ) (c : Connection) → i < length cs → c ≡ get_or cs i c → c.source ≢ federate →
    outlets_from federate 0 (take (i + 1) cs) ≡ outlets_from federate 0 (take i cs)
outlet_elsewhere federate cs i c h is other =
    outlets_more federate cs i c h is
    ∙ ap (λ b. outlets_from federate 0 (take i cs) ++ (if b then record { number = i; connection = c } ∷ [] else [])) (ne_eqb c.source federate other)
    ∙ append-nil (outlets_from federate 0 (take i cs))

-- there are no more connections than are declared
few_if : {Y : Type 0} (o : Option Y) (ys : List Y) (n : ℕ) → length ys ≤ n → length (cons_option o ys) ≤ suc n
few_if None ys n h = omega arith
few_if (Some y) ys n h = omega arith

few : {X Y : Type 0} (f : X → Option Y) (xs : List X) → length (filter_map f xs) ≤ length xs
few f [] = omega arith
few f (x ∷ xs) = few_if (f x) (filter_map f xs) (length xs) (few f xs)

pub few_connections : (d : Draft) → IsLegal d → length (connections_of d) ≤ 1024
few_connections d legal =
    let declared : length d.connections ≤ 1024 = legal.few_connections in
    omega (arith, few (connection_of d.federates) d.connections)

-- ---- messages

-- those over a federate's outlets are those over all connections
over_if : (n : Network) (j : ℕ) (tag : LogicalTime) (outputs : ℕ → Option ℤ) (number : ℕ) (c : Connection) (b : Bool) → nat_eq c.source j ≡ b →
    messages_by n tag outputs (outlet_if j number c) ≡ sent_over n j tag outputs number c
over_if n j tag outputs number c true is = rw is (append-nil (message_over n tag number c (outputs c.port)))
over_if n j tag outputs number c false is = rw is refl

pub messages_are : (n : Network) (j : ℕ) (tag : LogicalTime) (outputs : ℕ → Option ℤ) (number : ℕ) (cs : List Connection) →
    messages_by n tag outputs (outlets_from j number cs) ≡ messages_from n j tag outputs number cs
messages_are n j tag outputs number [] = refl
messages_are n j tag outputs number (c ∷ rest) =
    rw (flat_map-append, over_if n j tag outputs number c (nat_eq c.source j) refl, messages_are n j tag outputs (number + 1) rest) refl
