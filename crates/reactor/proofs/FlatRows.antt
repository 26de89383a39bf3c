-- Rows in flat room, with one row more.
use Rattle.std.proofs.Common.{◌≡◌, ℕ, suc, ◌≤◌, List, [], ◌∷◌, ◌++◌, length, map, drop, refl, sym, ap, ◌∙◌, arith, All, length-append}
use Rattle.std.specs.List.{between}
use Rattle.std.proofs.lemmas.Slice.{between_is}
use Rattle.std.proofs.lemmas.List.{take-append-le, drop_at}
use Rattle.std.proofs.Math.Seq.{take-length}
use Rattle.network.specs.Event.{Entry}
use Rattle.reactor.specs.declared.rows.Span.{Span}
use Rattle.reactor.specs.Rows.{row_in, IsSpanIn}
use Rattle.reactor_program.proofs.Present.{all_more}

between_kept : (xs ys : List Entry) (i j : ℕ) → j ≤ length xs → between i j (xs ++ ys) ≡ between i j xs
between_kept xs ys i j within = between_is (xs ++ ys) i j ∙ ap (λ zs. drop i zs) (take-append-le j xs ys within) ∙ sym (between_is xs i j)

row_kept : (xs ys : List Entry) (s : Span) → IsSpanIn (length xs) s → row_in (xs ++ ys) s ≡ row_in xs s
row_kept xs ys s within =
    let inputs = between_kept xs ys s.inputs s.outputs (omega (arith, within.outputs, within.end)) in
    let outputs = between_kept xs ys s.outputs s.end within.end in
    rw (inputs, outputs) refl

rows_kept : (xs ys : List Entry) (spans : List Span) → All (IsSpanIn (length xs)) spans → map (row_in (xs ++ ys)) spans ≡ map (row_in xs) spans
rows_kept xs ys [] within = refl
rows_kept xs ys (s ∷ spans) within =
    rw (row_kept xs ys s (within 0 s (omega arith)), rows_kept xs ys spans (λ k d below. within (suc k) d (omega arith))) refl

-- the entries from one place to the end
between_end : (xs ys : List Entry) → between (length xs) (length (xs ++ ys)) (xs ++ ys) ≡ ys
between_end xs ys = between_is (xs ++ ys) (length xs) (length (xs ++ ys)) ∙ ap (λ zs. drop (length xs) zs) (take-length (xs ++ ys)) ∙ drop_at xs ys (length xs) refl

map_end : {A B : Type 0} (f : A → B) (xs : List A) (x : A) → map f (xs ++ x ∷ []) ≡ map f xs ++ f x ∷ []
map_end f [] x = refl
map_end f (y ∷ xs) x = ap (λ rest. f y ∷ rest) (map_end f xs x)

pub pushed : (entries inputs outputs : List Entry) (spans : List Span) (s : Span) → All (IsSpanIn (length entries)) spans →
    s.inputs ≡ length entries → s.outputs ≡ length (entries ++ inputs) → s.end ≡ length ((entries ++ inputs) ++ outputs) →
    map (row_in ((entries ++ inputs) ++ outputs)) (spans ++ s ∷ []) ≡
    map (row_in entries) spans ++ record { reactor = s.federate; tag = s.tag; inputs = inputs; outputs = outputs } ∷ []
pushed entries inputs outputs spans s within first middle last =
    let all = (entries ++ inputs) ++ outputs in
    let ins : between s.inputs s.outputs all ≡ inputs =
    rw (first, middle) (between_kept (entries ++ inputs) outputs (length entries) (length (entries ++ inputs)) (omega arith) ∙ between_end entries inputs) in
    let outs : between s.outputs s.end all ≡ outputs = rw (middle, last) (between_end (entries ++ inputs) outputs) in
    let row : row_in all s ≡ record { reactor = s.federate; tag = s.tag; inputs = inputs; outputs = outputs } = rw (ins, outs) refl in
    let within_more : All (IsSpanIn (length (entries ++ inputs))) spans = λ k d below. let w = within k d below in record {
      inputs = w.inputs;
      outputs = w.outputs;
      end = omega (arith, w.end, length-append entries inputs);
    } in
    map_end (row_in all) spans s ∙ ap (λ r. map (row_in all) spans ++ r ∷ []) row ∙
    ap (λ rows. rows ++ record { reactor = s.federate; tag = s.tag; inputs = inputs; outputs = outputs } ∷ [])
    (rows_kept (entries ++ inputs) outputs spans within_more ∙ rows_kept entries inputs spans within)

all_end : {A : Type 0} (P : A → Type 0) (xs : List A) (x : A) → All P xs → P x → All P (xs ++ x ∷ [])
all_end P [] x all p = all_more P x [] p (λ k d below. absurd (omega arith))
all_end P (y ∷ xs) x all p = all_more P y (xs ++ x ∷ []) (all 0 y (omega arith)) (all_end P xs x (λ k d below. all (suc k) d (omega arith)) p)

pub pushed_within : (entries inputs outputs : List Entry) (spans : List Span) (s : Span) → All (IsSpanIn (length entries)) spans →
    s.inputs ≡ length entries → s.outputs ≡ length (entries ++ inputs) → s.end ≡ length ((entries ++ inputs) ++ outputs) →
    All (IsSpanIn (length ((entries ++ inputs) ++ outputs))) (spans ++ s ∷ [])
pushed_within entries inputs outputs spans s within first middle last =
    let one = length-append entries inputs in
    let two = length-append (entries ++ inputs) outputs in
    let more : All (IsSpanIn (length ((entries ++ inputs) ++ outputs))) spans = λ k d below. let w = within k d below in record {
      inputs = w.inputs;
      outputs = w.outputs;
      end = omega (arith, w.end, one, two);
    } in
    all_end (IsSpanIn (length ((entries ++ inputs) ++ outputs))) spans s more
    (record { inputs = omega (arith, first, middle, one); outputs = omega (arith, middle, last, two); end = omega (arith, last) })
