-- What is taken is a prefix of what was offered.
use Rattle.std.proofs.Common.{◌≡◌, ℕ, ◌+◌, ◌≤◌, List, [], ◌∷◌, ◌++◌, length, take, arith, ap, Some, ◌∙◌, sym, append-nil, append_assoc, length-append, length-take}
use Rattle.std.specs.Prelude.{cond, nat_lt, slice_get, All}
use Rattle.std.proofs.Math.Seq.{take-suc}
use Rattle.std.proofs.lemmas.Option.{slice_get_within, get_or_from_slice_get}
use Rattle.std.proofs.lemmas.List.Elements.{All-head, All-tail}
use Rattle.std.proofs.lemmas.Bool.Decides.{nat_tests}
use Rattle.signal.specs.declared.signal.Signal.{Signal}
use Rattle.signal.specs.declared.frame.Frame.{Frame}
use Rattle.signal.specs.declared.frame.Frame.TheVariants.{Hello, Data, Ack, Refuse}
use Rattle.link.specs.Image.{Image}
use Rattle.link.specs.Taken.{Carries, carried_by, after_coming, after_all, taken_of}

-- a list's beginning with the element after it
take_next : (xs : List Signal) (k : ℕ) (x : Signal) → slice_get xs k ≡ Some x → take (k + 1) xs ≡ take k xs ++ x ∷ []
take_next xs k x e =
    let here = take-suc xs k x (slice_get_within xs k x e) in
    let same = get_or_from_slice_get xs k x x e in
    grind arith

-- one frame: the signals taken so far, with what is taken of it, are a prefix
take-after_coming : (i : Image) (f : Frame) (incarnation : ℕ) (offered : List Signal) → i.incarnation ≡ incarnation → Carries incarnation offered f →
    take i.taken offered ++ cond (nat_lt i.taken (after_coming i f).taken) (carried_by f) [] ≡ take (after_coming i f).taken offered
take-after_coming i (Hello hello) incarnation offered e c = grind (arith, nat_tests, append-nil)
take-after_coming i (Data k n signal) incarnation offered e c = grind (arith, nat_tests, append-nil, take_next)
take-after_coming i (Ack _ n) incarnation offered e c = grind (arith, nat_tests, append-nil)
take-after_coming i (Refuse _ _) incarnation offered e c = grind (arith, nat_tests, append-nil)

incarnation-after_coming : (i : Image) (f : Frame) → (after_coming i f).incarnation ≡ i.incarnation
incarnation-after_coming i (Hello hello) = grind (arith, nat_tests)
incarnation-after_coming i (Data _ _ _) = grind (arith, nat_tests)
incarnation-after_coming i (Ack _ n) = grind (arith, nat_tests)
incarnation-after_coming i (Refuse _ _) = grind (arith, nat_tests)

length-after_coming : (i : Image) (f : Frame) →
    i.taken + length (cond (nat_lt i.taken (after_coming i f).taken) (carried_by f) []) ≡ (after_coming i f).taken
length-after_coming i (Hello hello) = grind (arith, nat_tests)
length-after_coming i (Data _ _ _) = grind (arith, nat_tests)
length-after_coming i (Ack _ n) = grind (arith, nat_tests)
length-after_coming i (Refuse _ _) = grind (arith, nat_tests)

-- all frames of a list: what is taken of them continues the beginning
pub take-after_all : (i : Image) (fs : List Frame) (incarnation : ℕ) (offered : List Signal) → i.incarnation ≡ incarnation →
    All (Carries incarnation offered) fs → take i.taken offered ++ taken_of i fs ≡ take (after_all i fs).taken offered
take-after_all i [] incarnation offered e c = append-nil (take i.taken offered)
take-after_all i (f ∷ fs) incarnation offered e c =
    let here = take-after_coming i f incarnation offered e (All-head (Carries incarnation offered) f fs c) in
    let rest = take-after_all (after_coming i f) fs incarnation offered (incarnation-after_coming i f ∙ e) (All-tail (Carries incarnation offered) f fs c) in
    let taken_here = cond (nat_lt i.taken (after_coming i f).taken) (carried_by f) [] in
    sym (append_assoc (take i.taken offered) taken_here (taken_of (after_coming i f) fs)) ∙ ap (λ xs. xs ++ taken_of (after_coming i f) fs) here ∙ rest

-- as many are taken as the number rises: each number once
pub length-taken_of : (i : Image) (fs : List Frame) → i.taken + length (taken_of i fs) ≡ (after_all i fs).taken
length-taken_of i [] = omega arith
length-taken_of i (f ∷ fs) =
    let rest = length-taken_of (after_coming i f) fs in
    let here = length-after_coming i f in
    let both = length-append (cond (nat_lt i.taken (after_coming i f).taken) (carried_by f) []) (taken_of (after_coming i f) fs) in
    omega arith

-- nothing is taken that wasn't offered
pub taken-after_all : (i : Image) (fs : List Frame) (incarnation : ℕ) (offered : List Signal) → i.incarnation ≡ incarnation →
    All (Carries incarnation offered) fs → i.taken ≤ length offered → (after_all i fs).taken ≤ length offered
taken-after_all i fs incarnation offered e c within =
    let same = ap length (take-after_all i fs incarnation offered e c) in
    let sum = length-append (take i.taken offered) (taken_of i fs) in
    let once = length-taken_of i fs in
    let before = length-take i.taken offered in
    let after = length-take (after_all i fs).taken offered in
    omega arith
