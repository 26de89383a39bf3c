-- What a direction offered, as more frames are sent in it, and that each frame stays what was said.
use Rattle.std.proofs.Common.{◌≡◌, ℕ, zero, suc, ◌+◌, ◌-◌, ◌≤◌, Bool, true, false, IsTrue, List, [], ◌∷◌, ◌++◌, length, take, drop, refl, sym, ap, subst, ◌∙◌, arith}
use Rattle.std.specs.Prelude.{nat_eq, nat_le, if◌then◌else◌, not, ◌&&◌, ◌||◌, All}
use Rattle.std.specs.List.{AllByRecursion}
use Rattle.std.proofs.lemmas.Bool.Decides.{nat_tests}
use Rattle.std.proofs.lemmas.List.{append-nil, append_assoc, take-append-drop, length-append}
use Rattle.network_laws.proofs.Lists.{each, from_each, each_more, each_append}
use Rattle.signal.specs.declared.signal.Signal.{Signal}
use Rattle.signal.specs.declared.frame.Frame.{Frame}
use Rattle.signal.specs.declared.frame.Frame.TheVariants.{Hello, Data, Ack, Refuse}
use Rattle.signal.specs.Batch.{numbered}
use Rattle.link_laws.specs.Direction.{with_offered, offered_with, offered_in, is_old, IsGenuine, IsGenuineDirection}
use Rattle.link_laws.proofs.Places.{get_seam, get_more, length_of_rest}

pub offered-append : (i : ℕ) (offered : List Signal) (xs ys : List Frame) → offered_with i offered (xs ++ ys) ≡ offered_with i (offered_with i offered xs) ys
offered-append i offered [] ys = refl
offered-append i offered (x ∷ xs) ys = offered-append i (with_offered i offered x) xs ys

-- the next number brings its signal
with_next : (i n : ℕ) (offered : List Signal) (signal : Signal) → n ≡ length offered + 1 → with_offered i offered (Data i n signal) ≡ offered ++ signal ∷ []
with_next i n offered signal e =
    let same : (nat_eq i i && nat_eq n (length offered + 1)) ≡ true = grind (arith, nat_tests) in
    ap (λ (b : Bool). if b then offered ++ signal ∷ [] else offered) same

pub offered_numbered : (i n : ℕ) (offered signals : List Signal) → n ≡ length offered + 1 → offered_with i offered (numbered i n signals) ≡ offered ++ signals
offered_numbered i n offered [] e = sym (append-nil offered)
offered_numbered i n offered (signal ∷ rest) e =
    let longer = length-append offered (signal ∷ []) in
    ap (λ (x : List Signal). offered_with i x (numbered i (n + 1) rest)) (with_next i n offered signal e) ∙
    offered_numbered i (n + 1) (offered ++ signal ∷ []) rest (omega arith) ∙ append_assoc offered (signal ∷ []) rest

-- an old one brings none
with_old : (i : ℕ) (offered : List Signal) (frame : Frame) → is_old i (length offered) frame ≡ true → with_offered i offered frame ≡ offered
with_old i offered (Hello hello) h = refl
with_old i offered (Data k n signal) h =
    let other : (nat_eq k i && nat_eq n (length offered + 1)) ≡ false = grind (arith, nat_tests) in
    ap (λ (b : Bool). if b then offered ++ signal ∷ [] else offered) other
with_old i offered (Ack k n) h = refl
with_old i offered (Refuse k n) h = refl

abbrev pub AreOld : ℕ → ℕ → List Frame → Type 0
AreOld i count frames = AllByRecursion (λ f. IsTrue (is_old i count f)) frames

pub offered_old : (i : ℕ) (offered : List Signal) (frames : List Frame) → AreOld i (length offered) frames → offered_with i offered frames ≡ offered
offered_old i offered [] h = refl
offered_old i offered (x ∷ xs) h = ap (λ (o : List Signal). offered_with i o xs) (with_old i offered x h.0) ∙ offered_old i offered xs h.1

-- what was said stays said as more is offered and more may be told
pub genuine_more : (i most more : ℕ) (offered others : List Signal) (frame : Frame) → most ≤ more → IsGenuine i offered most frame → IsGenuine i (offered ++ others) more frame
genuine_more i most more offered others (Hello hello) l h = λ e. (let m = h e in omega arith)
genuine_more i most more offered others (Data k n signal) l h = λ e. ((h e).0, get_more offered others (n - 1) signal (h e).1)
genuine_more i most more offered others (Ack k n) l h = λ e. (let m = h e in omega arith)
genuine_more i most more offered others (Refuse k n) l h = h

abbrev pub AreGenuine : ℕ → List Signal → ℕ → List Frame → Type 0
AreGenuine i offered most frames = AllByRecursion (IsGenuine i offered most) frames

pub all_genuine_more : (i most more : ℕ) (offered others : List Signal) (frames : List Frame) → most ≤ more → AreGenuine i offered most frames → AreGenuine i (offered ++ others) more frames
all_genuine_more i most more offered others frames l h = each_more (IsGenuine i offered most) (IsGenuine i (offered ++ others) more) (λ f s. genuine_more i most more offered others f l s) frames h

-- numbered signals are said where they stand at their numbers
pub numbered_genuine : (i n most : ℕ) (before signals : List Signal) → n ≡ length before + 1 → AreGenuine i (before ++ signals) most (numbered i n signals)
numbered_genuine i n most before [] e = tt
numbered_genuine i n most before (signal ∷ rest) e =
    let longer = length-append before (signal ∷ []) in
    let P : List Signal → Type 0 = λ x. AreGenuine i x most (numbered i (n + 1) rest) in (
      (λ same. (omega arith, get_seam before signal rest (n - 1) (omega arith))),
      subst P (append_assoc before (signal ∷ []) rest) (numbered_genuine i (n + 1) most (before ++ signal ∷ []) rest (omega arith)),
    )

number_old : (i k n count : ℕ) → n ≤ count → (not (nat_eq k i) || nat_le n count) ≡ true
number_old i k n count l = grind (arith, nat_tests)

pub numbered_old : (i n count : ℕ) (signals : List Signal) → n + length signals ≤ count + 1 → AreOld i count (numbered i n signals)
numbered_old i n count [] l = tt
numbered_old i n count (signal ∷ rest) l = (number_old i i n count (omega arith), numbered_old i (n + 1) count rest (omega arith))

-- a direction with more frames: some that bring these signals
pub way_offers : (i most more : ℕ) (frames : List Frame) (signals : List Signal) → most ≤ more → AreGenuine i (offered_in i frames) most frames → AreGenuine i (offered_in i frames ++ signals) more (frames ++ numbered i (length (offered_in i frames) + 1) signals)
way_offers i most more frames signals l h =
    each_append (IsGenuine i (offered_in i frames ++ signals) more) frames (numbered i (length (offered_in i frames) + 1) signals)
    (all_genuine_more i most more (offered_in i frames) signals frames l h) (numbered_genuine i (length (offered_in i frames) + 1) more (offered_in i frames) signals refl)

pub offers_more : (i : ℕ) (frames : List Frame) (signals : List Signal) → offered_in i (frames ++ numbered i (length (offered_in i frames) + 1) signals) ≡ offered_in i frames ++ signals
offers_more i frames signals =
    offered-append i [] frames (numbered i (length (offered_in i frames) + 1) signals) ∙
    offered_numbered i (length (offered_in i frames) + 1) (offered_in i frames) signals refl

-- or frames that bring none
pub offers_same : (i : ℕ) (frames more : List Frame) → AreOld i (length (offered_in i frames)) more → offered_in i (frames ++ more) ≡ offered_in i frames
offers_same i frames more h = offered-append i [] frames more ∙ offered_old i (offered_in i frames) more h

pub way_repeats : (i most more : ℕ) (frames others : List Frame) → most ≤ more → AreGenuine i (offered_in i frames) most frames → AreGenuine i (offered_in i frames) more others → AreGenuine i (offered_in i frames) more (frames ++ others)
way_repeats i most more frames others l h k =
    let P : List Signal → Type 0 = λ x. AreGenuine i x more frames in
    each_append (IsGenuine i (offered_in i frames) more) frames others
    (subst P (append-nil (offered_in i frames)) (all_genuine_more i most more (offered_in i frames) [] frames l h)) k

-- what is sent again is old, and was said
length_of_take : {X : Type 0} (k : ℕ) (xs : List X) → k ≤ length xs → length (take k xs) ≡ k
length_of_take zero xs l = refl
length_of_take (suc k) [] l = absurd (omega arith)
length_of_take (suc k) (x ∷ xs) l = ap suc (length_of_take k xs (omega arith))

pub resent_genuine : (i k most : ℕ) (offered : List Signal) → k ≤ length offered → AreGenuine i offered most (numbered i (k + 1) (drop k offered))
resent_genuine i k most offered l =
    let P : List Signal → Type 0 = λ x. AreGenuine i x most (numbered i (k + 1) (drop k offered)) in
    let size = length_of_take k offered l in
    subst P (take-append-drop k offered) (numbered_genuine i (k + 1) most (take k offered) (drop k offered) (omega arith))

pub resent_old : (i k : ℕ) (offered : List Signal) → k ≤ length offered → AreOld i (length offered) (numbered i (k + 1) (drop k offered))
resent_old i k offered l = let size = length_of_rest k offered l in numbered_old i (k + 1) (length offered) (drop k offered) (omega arith)

-- the same of all frames by their places
pub way_with_more : (i most more : ℕ) (frames : List Frame) (signals : List Signal) → most ≤ more → IsGenuineDirection i most frames → IsGenuineDirection i more (frames ++ numbered i (length (offered_in i frames) + 1) signals)
way_with_more i most more frames signals l w =
    let sent = numbered i (length (offered_in i frames) + 1) signals in
    let P : List Signal → Type 0 = λ x. All (IsGenuine i x more) (frames ++ sent) in
    subst P (sym (offers_more i frames signals))
    (from_each (IsGenuine i (offered_in i frames ++ signals) more) (frames ++ sent) (way_offers i most more frames signals l (each (IsGenuine i (offered_in i frames) most) frames w)))

pub way_with_old : (i most more : ℕ) (frames others : List Frame) → most ≤ more → IsGenuineDirection i most frames → All (λ f. IsTrue (is_old i (length (offered_in i frames)) f)) others → All (IsGenuine i (offered_in i frames) more) others → IsGenuineDirection i more (frames ++ others)
way_with_old i most more frames others l w old genuine =
    let P : List Signal → Type 0 = λ x. All (IsGenuine i x more) (frames ++ others) in
    subst P (sym (offers_same i frames others (each (λ f. IsTrue (is_old i (length (offered_in i frames)) f)) others old)))
    (from_each (IsGenuine i (offered_in i frames) more) (frames ++ others)
    (way_repeats i most more frames others l (each (IsGenuine i (offered_in i frames) most) frames w) (each (IsGenuine i (offered_in i frames) more) others genuine)))
