-- What is sent carries what was offered under its number.
use Rattle.std.proofs.Common.{◌≡◌, ℕ, ◌+◌, ◌-◌, List, [], ◌∷◌, ◌++◌, length, drop, arith, refl, Some, Ok, true, false, sym, subst, append_assoc, length-append}
use Rattle.std.specs.Prelude.{All, cond, slice_get}
use Rattle.std.proofs.lemmas.Option.{slice_get_within, get_or_from_slice_get, slice_get-get_or}
use Rattle.std.proofs.lemmas.List.{get_or_append_left, get_or_push, length_push}
use Rattle.std.proofs.lemmas.List.Elements.{All-nil, All-cons, All-drop}
use Rattle.std.proofs.lemmas.Bool.Decides.{nat_tests}
use Rattle.signal.specs.declared.signal.Signal.{Signal}
use Rattle.signal.specs.declared.frame.Frame.{Frame}
use Rattle.signal.specs.declared.frame.Frame.TheVariants.{Hello, Data, Ack, Refuse}
use Rattle.signal.specs.Batch.{numbered}
use Rattle.link.specs.End.{End, IsLawful, after_offer}
use Rattle.link.specs.Image.{offer_of, resent_by}
use Rattle.link.specs.Taken.{Carries}
use Rattle.link.proofs.Ends.{last_number-length, resent_by-offered}

slice_get-append : (xs ys : List Signal) (k : ℕ) (x : Signal) → slice_get xs k ≡ Some x → slice_get (xs ++ ys) k ≡ Some x
slice_get-append xs ys k x e =
    let within = slice_get_within xs k x e in
    let same = get_or_append_left xs ys x k within in
    let here = get_or_from_slice_get xs k x x e in
    let longer = length-append xs ys in
    let found = slice_get-get_or (xs ++ ys) k x (omega arith) in
    cc

slice_get-push : (xs : List Signal) (x : Signal) (k : ℕ) → k ≡ length xs → slice_get (xs ++ x ∷ []) k ≡ Some x
slice_get-push xs x k e =
    let longer = length_push xs x in
    let same = get_or_push xs x x k (sym e) in
    let found = slice_get-get_or (xs ++ x ∷ []) k x (omega arith) in
    cc

slice_get-middle : (xs : List Signal) (x : Signal) (ys : List Signal) (k : ℕ) → k ≡ length xs → slice_get (xs ++ x ∷ ys) k ≡ Some x
slice_get-middle xs x ys k e =
    let P : List Signal → Type 0 = λ zs. slice_get zs k ≡ Some x in
    subst P (append_assoc xs (x ∷ []) ys) (slice_get-append (xs ++ x ∷ []) ys k x (slice_get-push xs x k e))

-- what was carried is carried still when more was offered
pub Carries-more : (incarnation : ℕ) (offered more : List Signal) (f : Frame) → Carries incarnation offered f → Carries incarnation (offered ++ more) f
Carries-more incarnation offered more (Hello _) c = tt
Carries-more incarnation offered more (Data k n s) c = λ own positive. slice_get-append offered more (n - 1) s (c own positive)
Carries-more incarnation offered more (Ack _ _) c = tt
Carries-more incarnation offered more (Refuse _ _) c = tt

-- the frame of an offer
pub Carries-offer : (e : End) (s : Signal) (f : Frame) → IsLawful e → offer_of e.image s ≡ Ok f → Carries e.image.incarnation (after_offer e s).offered f
Carries-offer e s (Hello _) lawful o = tt
Carries-offer e s (Data k n x) lawful o = λ own positive. let number = last_number-length e lawful in grind (arith, nat_tests, slice_get-push)
Carries-offer e s (Ack _ _) lawful o = tt
Carries-offer e s (Refuse _ _) lawful o = tt

-- signals numbered behind those that stand before them
numbered_carry : (incarnation : ℕ) (before signals : List Signal) (first : ℕ) → first ≡ length before + 1 →
    All (Carries incarnation (before ++ signals)) (numbered incarnation first signals)
numbered_carry incarnation before [] first e = All-nil (Carries incarnation (before ++ []))
numbered_carry incarnation before (s ∷ signals) first e =
    let all = before ++ s ∷ signals in
    let place : first - 1 ≡ length before = omega arith in
    let first_carries : Carries incarnation all (Data incarnation first s) = λ _ _. slice_get-middle before s signals (first - 1) place in
    let P : List Signal → Type 0 = λ xs. All (Carries incarnation xs) (numbered incarnation (first + 1) signals) in
    let longer = length_push before s in
    let rest = subst P (append_assoc before (s ∷ []) signals) (numbered_carry incarnation (before ++ s ∷ []) signals (first + 1) (omega arith)) in
    All-cons (Carries incarnation all) (Data incarnation first s) (numbered incarnation (first + 1) signals) first_carries rest

-- all frames that are sent again
pub Carries-resent : (e : End) → IsLawful e → All (Carries e.image.incarnation e.offered) (resent_by e.image)
Carries-resent e lawful =
    let P = Carries e.image.incarnation e.offered in
    let all = All-drop P e.image.acknowledged (numbered e.image.incarnation 1 e.offered) (numbered_carry e.image.incarnation [] e.offered 1 refl) in
    let either = elim e.image.closed as (λ b. All P (cond b [] (drop e.image.acknowledged (numbered e.image.incarnation 1 e.offered)))) [ true ↦ All-nil P | false ↦ all ] in
    subst (All P) (sym (resent_by-offered e lawful)) either
