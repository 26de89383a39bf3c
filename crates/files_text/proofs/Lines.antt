-- A row's parts, with what stands between them.
use Rattle.std.proofs.Common.{◌≡◌, List, ℕ, [], ◌∷◌, ◌++◌, ◌+◌, ◌-◌, ◌<◌, ◌≤◌, length, take, drop, get_or, slice_range, codes, append_assoc, refl, sym, ap, subst, ◌∙◌, arith, Option, Result, Ok, Err, OnOk}
use Rattle.std.proofs.lemmas.List.{append-nil, length-drop, take-take, take-append-drop, drop-take, take_more, get_or-drop}
use Rattle.std.proofs.lemmas.Grind.{flat_map-append}
use Rattle.std.specs.Fmt.{decimal, digits}
use Rattle.std.specs.Io.KnownBytes.{Appends}
use Rattle.std.specs.List.{flat_map}
use Rattle.std.proofs.KnownBytes.{Appends-trans}
use Rattle.network.specs.Event.{Entry}
use Rattle.tag.specs.Printed.{printed_tag}
use Rattle.network.specs.Undivided.{Row}
use Rattle.plan.specs.declared.draft.Federate.{Federate}
use Rattle.files_text.specs.RowText.{printed_input, printed_output, bracketed, spaced_tag, printed_inputs, printed_outputs, printed_turn}
use Rattle.files_text.specs.Formats.{formatted_row, formatted_rows}
use Rattle.files_text.specs.declared.row_format.RowFormat.{RowFormat}

parts : (a t i o : List ℕ) → a ++ ((codes " " ++ (t ++ codes " ")) ++ ((i ++ codes " -> ") ++ (o ++ codes "\n"))) ≡ (a ++ (codes " " ++ (t ++ (codes " " ++ (i ++ (codes " -> " ++ o)))))) ++ codes "\n"
parts a t i o =
    let arrow : List ℕ = codes " -> " in
    let end : List ℕ = codes "\n" in
    let inner : (i ++ arrow) ++ (o ++ end) ≡ (i ++ (arrow ++ o)) ++ end = append_assoc i arrow (o ++ end) ∙ sym (append_assoc i (arrow ++ o) end) in
    let middle : (t ++ codes " ") ++ ((i ++ arrow) ++ (o ++ end)) ≡ (t ++ (codes " " ++ (i ++ (arrow ++ o)))) ++ end =
    append_assoc t (codes " ") ((i ++ arrow) ++ (o ++ end)) ∙ (ap (λ y. t ++ (32 ∷ y)) inner ∙ sym (append_assoc t (32 ∷ (i ++ (arrow ++ o))) end)) in
    ap (λ y. a ++ (32 ∷ y)) middle ∙ sym (append_assoc a (32 ∷ (t ++ (32 ∷ (i ++ (arrow ++ o))))) end)

pub turn_parts : (f : Federate) (row : Row) → f.name ++ (spaced_tag row.tag ++ (printed_inputs f.slots row.inputs ++ printed_outputs f.slots row.outputs)) ≡ printed_turn f row ++ codes "\n"
unfolding printed_turn spaced_tag printed_inputs printed_outputs
turn_parts f row = parts f.name (printed_tag row.tag) (bracketed (printed_input f.slots) row.inputs) (bracketed (printed_output f.slots) row.outputs)

pub zero_is : decimal 0 ≡ codes "0"
unfolding digits
zero_is = refl

-- one row more, of those from the first on
pub one_more : (format : RowFormat) (federates : List Federate) (rows : List Row) (first place : ℕ) (row : Row) → first ≤ place → place < length rows → row ≡ get_or rows place row →
    formatted_rows format federates (slice_range rows first (place + 1)) ≡ formatted_rows format federates (slice_range rows first place) ++ formatted_row format federates row
one_more format federates rows first place row after there is =
    let step : place + 1 - first ≡ place - first + 1 = omega arith in
    let at : first + (place - first) ≡ place = omega arith in
    let many : length (drop first rows) ≡ length rows - first = length-drop first rows in
    let within : place - first < length (drop first rows) = omega arith in
    let here : get_or (drop first rows) (place - first) row ≡ row = get_or-drop first rows (place - first) row ∙ (ap (λ k. get_or rows k row) at ∙ sym is) in
    ap (λ k. formatted_rows format federates (take k (drop first rows))) step
    ∙ (ap (formatted_rows format federates) (take_more (drop first rows) (place - first) row within)
    ∙ (ap (λ r. formatted_rows format federates (take (place - first) (drop first rows) ++ r ∷ [])) here
    ∙ (flat_map-append (formatted_row format federates) (take (place - first) (drop first rows)) (row ∷ [])
    ∙ ap (λ t. formatted_rows format federates (take (place - first) (drop first rows)) ++ t) (append-nil (formatted_row format federates row)))))

-- some rows more, after the first ones
pub some_more : (format : RowFormat) (federates : List Federate) (rows : List Row) (first end : ℕ) → first ≤ end →
    formatted_rows format federates (take end rows) ≡ formatted_rows format federates (take first rows) ++ formatted_rows format federates (slice_range rows first end)
some_more format federates rows first end after =
    let whole : first + (end - first) ≡ end = omega arith in
    let rest : drop first (take end rows) ≡ slice_range rows first end = ap (λ k. drop first (take k rows)) (sym whole) ∙ drop-take first (end - first) rows in
    ap (formatted_rows format federates) (sym (take-append-drop first (take end rows)))
    ∙ (flat_map-append (formatted_row format federates) (take first (take end rows)) (drop first (take end rows))
    ∙ (ap (λ t. formatted_rows format federates t ++ formatted_rows format federates (drop first (take end rows))) (take-take first end rows after)
    ∙ ap (λ t. formatted_rows format federates (take first rows) ++ formatted_rows format federates t) rest))

-- one entry more
pub entry_more :
    (printed : Entry → List ℕ) (entries : List Entry) (i : ℕ) (entry : Entry) (a b c : Option (List ℕ)) → i < length entries → entry ≡ get_or entries i entry →
    Appends a b (flat_map printed (take i entries)) → Appends b c (printed entry) → Appends a c (flat_map printed (take (i + 1) entries))
entry_more printed entries i entry a b c there is so_far more =
    let text : flat_map printed (take (i + 1) entries) ≡ flat_map printed (take i entries) ++ printed entry =
    ap (flat_map printed) (take_more entries i entry there ∙ ap (λ (e : Entry). take i entries ++ e ∷ []) (sym is))
    ∙ (flat_map-append printed (take i entries) (entry ∷ []) ∙ ap (λ t. flat_map printed (take i entries) ++ t) (append-nil (printed entry))) in
    subst (Appends a c) (sym text) (Appends-trans a b c _ _ so_far more)

bracket_parts : (p r end : List ℕ) → codes "[" ++ (p ++ (r ++ (codes "]" ++ end))) ≡ (codes "[" ++ ((p ++ r) ++ codes "]")) ++ end
bracket_parts p r end = ap (λ y. 91 ∷ y) (sym (append_assoc p r (codes "]" ++ end)) ∙ sym (append_assoc (p ++ r) (codes "]") end))

-- entries in brackets, with what stands behind them
pub in_brackets :
    {X E : Type 0} (printed : Entry → List ℕ) (end : List ℕ) (first : Entry) (rest entries : List Entry) (answer : Result X E) (a b c d e : Option (List ℕ)) → entries ≡ first ∷ rest →
    Appends a b (codes "[") → Appends b c (printed first) → Appends c d (flat_map (λ x. codes " " ++ printed x) rest) →
    OnOk answer (Appends d e (codes "]" ++ end)) → OnOk answer (Appends a e (bracketed printed entries ++ end))
in_brackets printed end first rest entries (Err error) a b c d e is p q r s = tt
in_brackets printed end first rest entries (Ok x) a b c d e is p q r s =
    rw is (subst (Appends a e) (bracket_parts (printed first) (flat_map (λ x. codes " " ++ printed x) rest) end)
    (Appends-trans a b e _ _ p (Appends-trans b c e _ _ q (Appends-trans c d e _ _ r s))))
