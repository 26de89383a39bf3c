-- A key says one thing: two readings of it are the same.
use Rattle.std.proofs.Common.{◌≡◌, ℕ, ℤ, List, [], ◌∷◌, ◌++◌, map, Option, Some, None, codes, refl, sym, ap, ◌∙◌, subst, inl, inr}
use Rattle.std.specs.Prelude.{pos}
use Rattle.tag_text.specs.Duration.{Spells}
use Rattle.tag_text.proofs.Spellings.{one_value}
use Rattle.plan_names.specs.declared.port.PortName.{PortName}
use Rattle.toml.specs.Data.{Data, string, integer, array, table, Members, get_member}
use Rattle.toml.specs.View.{items_of}
use Rattle.loadfed_tables.specs.Tables.{IsWithout, SaysText, SaysNumber, SaysDuration, SaysPort, MaySay, SaysDurationOrZero, SaysMicrostep, SaysArray, SaysTexts, SaysTables}
use Rattle.loadfed_tables.proofs.Dots.{one_split}

pub one_text : (key : List ℕ) (m : Members) (t u : List ℕ) → SaysText key m t → SaysText key m u → t ≡ u
one_text key m t u h k = let e : Some (string t) ≡ Some (string u) = sym h ∙ k in cc

pub one_number : (key : List ℕ) (m : Members) (x y : ℤ) → SaysNumber key m x → SaysNumber key m y → x ≡ y
one_number key m x y h k = let e : Some (integer x) ≡ Some (integer y) = sym h ∙ k in cc

pub one_duration : (key : List ℕ) (m : Members) (t u : ℕ) → SaysDuration key m t → SaysDuration key m u → t ≡ u
one_duration key m t u h k =
    let P : List ℕ → Type 0 = λ x. Spells x u in
    one_value h.0 t u h.2 (subst P (one_text key m k.0 h.0 k.1 h.1) k.2)

without_text : (key : List ℕ) (m : Members) (d : Data) → IsWithout key m → get_member key m ≡ Some d → ⊥
without_text key m d h k = let e : None ≡ Some d = sym h ∙ k in cc

pub one_after : (key : List ℕ) (m : Members) (t u : Option ℕ) → MaySay SaysDuration key m t → MaySay SaysDuration key m u → t ≡ u
one_after key m None None h k = refl
one_after key m None (Some u) h k = absurd (without_text key m (string k.0) h k.1)
one_after key m (Some t) None h k = absurd (without_text key m (string h.0) k h.1)
one_after key m (Some t) (Some u) h k = ap (λ x. Some x) (one_duration key m t u h k)

pub one_duration_or_zero : (key : List ℕ) (m : Members) (t u : ℕ) → SaysDurationOrZero key m t → SaysDurationOrZero key m u → t ≡ u
one_duration_or_zero key m t u (inl h) (inl k) = h.1 ∙ sym k.1
one_duration_or_zero key m t u (inl h) (inr k) = absurd (without_text key m (string k.0) h.0 k.1)
one_duration_or_zero key m t u (inr h) (inl k) = absurd (without_text key m (string h.0) k.0 h.1)
one_duration_or_zero key m t u (inr h) (inr k) = one_duration key m t u h k

same_pos : (x y : ℕ) → pos x ≡ pos y → x ≡ y
same_pos x y e = cc

pub one_microstep : (key : List ℕ) (m : Members) (t u : ℕ) → SaysMicrostep key m t → SaysMicrostep key m u → t ≡ u
one_microstep key m t u (inl h) (inl k) = h.1 ∙ sym k.1
one_microstep key m t u (inl h) (inr k) = absurd (without_text key m (integer (pos u)) h.0 k.0)
one_microstep key m t u (inr h) (inl k) = absurd (without_text key m (integer (pos t)) k.0 h.0)
one_microstep key m t u (inr h) (inr k) = same_pos t u (one_number key m (pos t) (pos u) h.0 k.0)

one_items : (ds es : List Data) → items_of ds ≡ items_of es → ds ≡ es
one_items [] [] h = refl
one_items [] (e ∷ es) h = cc
one_items (d ∷ ds) [] h = cc
one_items (d ∷ ds) (e ∷ es) h =
    let head : d ≡ e = cc in
    let tail : items_of ds ≡ items_of es = cc in
    ap (λ x. x ∷ ds) head ∙ ap (λ rest. e ∷ rest) (one_items ds es tail)

pub one_array : (key : List ℕ) (m : Members) (ds es : List Data) → SaysArray key m ds → SaysArray key m es → ds ≡ es
one_array key m ds es (inl h) (inl k) = h.1 ∙ sym k.1
one_array key m ds es (inl h) (inr k) = absurd (without_text key m (array (items_of es)) h.0 k)
one_array key m ds es (inr h) (inl k) = absurd (without_text key m (array (items_of ds)) k.0 h)
one_array key m ds es (inr h) (inr k) =
    let e : Some (array (items_of ds)) ≡ Some (array (items_of es)) = sym h ∙ k in
    let f : items_of ds ≡ items_of es = cc in
    one_items ds es f

one_strings : (ts us : List (List ℕ)) → map string ts ≡ map string us → ts ≡ us
one_strings [] [] h = refl
one_strings [] (u ∷ us) h = cc
one_strings (t ∷ ts) [] h = cc
one_strings (t ∷ ts) (u ∷ us) h =
    let head : string t ≡ string u = cc in
    let first : t ≡ u = cc in
    let tail : map string ts ≡ map string us = cc in
    ap (λ x. x ∷ ts) first ∙ ap (λ rest. u ∷ rest) (one_strings ts us tail)

one_table_list : (ts us : List Members) → map table ts ≡ map table us → ts ≡ us
one_table_list [] [] h = refl
one_table_list [] (u ∷ us) h = cc
one_table_list (t ∷ ts) [] h = cc
one_table_list (t ∷ ts) (u ∷ us) h =
    let head : table t ≡ table u = cc in
    let first : t ≡ u = cc in
    let tail : map table ts ≡ map table us = cc in
    ap (λ x. x ∷ ts) first ∙ ap (λ rest. u ∷ rest) (one_table_list ts us tail)

pub one_texts : (key : List ℕ) (m : Members) (ts us : List (List ℕ)) → SaysTexts key m ts → SaysTexts key m us → ts ≡ us
one_texts key m ts us h k = one_strings ts us (one_array key m (map string ts) (map string us) h k)

pub one_tables : (key : List ℕ) (m : Members) (ts us : List Members) → SaysTables key m ts → SaysTables key m us → ts ≡ us
one_tables key m ts us h k = one_table_list ts us (one_array key m (map table ts) (map table us) h k)

abbrev port_with : List ℕ → List ℕ → PortName
port_with f p = record { federate = f; port = p }

pub one_port : (key : List ℕ) (m : Members) (p q : PortName) → SaysPort key m p → SaysPort key m q → p ≡ q
one_port key m p q h k =
    let e = one_text key m (p.federate ++ (codes "." ++ p.port)) (q.federate ++ (codes "." ++ q.port)) h.text_is k.text_is in
    let s = one_split p.federate p.port q.federate q.port h.federate_named k.federate_named e in
    ap (λ x. port_with x p.port) s.0 ∙ ap (λ x. port_with q.federate x) s.1
