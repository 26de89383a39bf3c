-- The numbers of signals among frames that go one after the other.
use Rattle.std.proofs.Common.{◌≡◌, ◌∙◌, ℕ, ◌+◌, ◌<◌, max, List, [], ◌∷◌, ◌++◌, length, take, get_or, refl, sym, ap}
use Rattle.std.specs.Prelude.{fold}
use Rattle.std.proofs.lemmas.List.{take_more}
use Rattle.std.proofs.lemmas.List.Sums.{fold-append}
use Rattle.signal.specs.declared.frame.Frame.{Frame}
use Rattle.signal.specs.declared.frame.Frame.TheVariants.{Hello, Data, Ack, Refuse}
use Rattle.wires_traffic.specs.Counter.{numbers_of, highest_after}

numbers_append : (xs ys : List Frame) → numbers_of (xs ++ ys) ≡ numbers_of xs ++ numbers_of ys
numbers_append [] ys = refl
numbers_append (Hello hello ∷ xs) ys = numbers_append xs ys
numbers_append (Data incarnation number signal ∷ xs) ys = ap (λ (l : List ℕ). number ∷ l) (numbers_append xs ys)
numbers_append (Ack incarnation last_taken ∷ xs) ys = numbers_append xs ys
numbers_append (Refuse incarnation refusal ∷ xs) ys = numbers_append xs ys

-- behind one frame more
pub highest_more :
    (before : ℕ) (frames : List Frame) (i : ℕ) (frame : Frame) → i < length frames → frame ≡ get_or frames i frame →
    highest_after (highest_after before (take i frames)) (frame ∷ []) ≡ highest_after before (take (i + 1) frames)
highest_more before frames i frame within is =
    let more : take (i + 1) frames ≡ take i frames ++ frame ∷ [] =
    take_more frames i frame within ∙ ap (λ (f : Frame). take i frames ++ f ∷ []) (sym is) in
    sym (ap (highest_after before) more ∙ ap (fold max before) (numbers_append (take i frames) (frame ∷ []))
    ∙ fold-append max before (numbers_of (take i frames)) (numbers_of (frame ∷ [])))
