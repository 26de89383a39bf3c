-- Acks that a later one covers.
use Rattle.std.proofs.Common.{◌≡◌, refl, ℕ, zero, suc, ◌+◌, ◌<◌, Bool, true, false, ◌&&◌, ◌||◌, if◌then◌else◌, nat_eq, List, [], ◌∷◌, length, drop, drop-cons, get_or, Option, None, Some, sym, ap, subst, ◌∙◌, arith}
use Rattle.std.specs.List.{list_any}
use Rattle.std.proofs.lemmas.Bool.Decides.{nat_tests}
use Rattle.signal.specs.declared.frame.Frame.{Frame}
use Rattle.signal.specs.declared.frame.Frame.TheVariants.{Hello, Data, Ack, Refuse}
use Rattle.node.specs.declared.outgoing.Outgoing.{Outgoing}
use Rattle.wires_workers.specs.LoneAcks.{is_ack}
use Rattle.wires_workers.specs.Waiting.{covers}
use Rattle.wires_workers.specs.ByPeer.{is_for, frames_to}
use Rattle.wires_workers.specs.LeavingOut.{IsHandedOn, none, handed_on, left_out, or_else, last_ack, is_below, says_less, without_below}

-- ---- two frames

-- what is below an Ack is covered by it
below_is_covered : (f g : Frame) → is_below f g ≡ true → covers g f ≡ true
below_is_covered (Ack i n) (Ack j m) below = grind (arith, nat_tests)
below_is_covered (Ack i n) (Hello h) below = cc
below_is_covered (Ack i n) (Data j m s) below = cc
below_is_covered (Ack i n) (Refuse j r) below = cc
below_is_covered (Hello h) g below = cc
below_is_covered (Data i n s) g below = cc
below_is_covered (Refuse i r) g below = cc

-- no frame is below itself
not_below_itself : (f : Frame) → is_below f f ≡ false
not_below_itself (Ack i n) = grind (arith, nat_tests)
not_below_itself (Hello h) = refl
not_below_itself (Data i n s) = refl
not_below_itself (Refuse i r) = refl

-- what is no Ack is below none
no_ack_is_below : (f g : Frame) → is_ack f ≡ false → is_below f g ≡ false
no_ack_is_below (Ack i n) g isnt = cc
no_ack_is_below (Hello h) g isnt = refl
no_ack_is_below (Data i n s) g isnt = refl
no_ack_is_below (Refuse i r) g isnt = refl

and_no : (a b : Bool) → b ≡ false → (a && b) ≡ false
and_no true b isnt = isnt
and_no false b isnt = refl

both : (a b : Bool) → (a && b) ≡ true → (a ≡ true) × (b ≡ true)
both true true is = (refl, refl)
both true false is = cc
both false b is = cc

-- the same of two frames with their peers
less_than_itself : (o : Outgoing) → says_less o o ≡ false
less_than_itself o = and_no (nat_eq o.peer o.peer) (is_below o.frame o.frame) (not_below_itself o.frame)

no_ack_says_less : (o last : Outgoing) → is_ack o.frame ≡ false → says_less o last ≡ false
no_ack_says_less o last isnt = and_no (nat_eq o.peer last.peer) (is_below o.frame last.frame) (no_ack_is_below o.frame last.frame isnt)

-- ---- the last Ack

some_of : {X : Type 0} (x y : X) → Some x ≡ Some y → x ≡ y
some_of x y is = cc

chosen : (b : Bool) (o last : Outgoing) → (if b then Some o else None) ≡ Some last → (b ≡ true) × (o ≡ last)
chosen true o last is = (refl, some_of o last is)
chosen false o last is = cc

none_chosen : (b : Bool) (o : Outgoing) → (if b then Some o else None) ≡ None → b ≡ false
none_chosen true o is = cc
none_chosen false o is = refl

neither : (first other : Option Outgoing) → or_else first other ≡ None → (first ≡ None) × (other ≡ None)
neither None other is = (refl, is)
neither (Some o) other is = cc

-- without an Ack none is left out
none_left_out : (last : Outgoing) (frames : List Outgoing) → last_ack frames ≡ None → without_below last frames ≡ frames
none_left_out last [] isnt = refl
none_left_out last (o ∷ frames) absent =
    let apart = neither (last_ack frames) (if is_ack o.frame then Some o else None) absent in
    let stays : says_less o last ≡ false = no_ack_says_less o last (none_chosen (is_ack o.frame) o apart.1) in
    rw stays (ap (λ rest. o ∷ rest) (none_left_out last frames apart.0))

any_more : (a b : Bool) → b ≡ true → (a || b) ≡ true
any_more true b is = refl
any_more false b is = is

any_first : (a b : Bool) → a ≡ true → (a || b) ≡ true
any_first true b is = refl
any_first false b is = cc

-- with one frame more in front, that is left out or not, and is for the peer or not, there is still one that passes
still_any : (peer : ℕ) (test : Outgoing → Bool) (last o : Outgoing) (rest : List Outgoing) (less here : Bool) → says_less o last ≡ less → is_for peer o ≡ here →
    list_any test (frames_to peer (without_below last rest)) ≡ true → list_any test (frames_to peer (without_below last (o ∷ rest))) ≡ true
still_any peer test last o rest true here less is any = rw less any
still_any peer test last o rest false true less is any = rw (less, is) (any_more (test o) (list_any test (frames_to peer (without_below last rest))) any)
still_any peer test last o rest false false less is any = rw (less, is) any

-- the last Ack is among those for its peer that are left
among_by : (peer : ℕ) (test : Outgoing → Bool) (last o : Outgoing) (rest : List Outgoing) (later : Option Outgoing) → last_ack rest ≡ later →
    or_else later (if is_ack o.frame then Some o else None) ≡ Some last → is_for peer last ≡ true → test last ≡ true →
    (last_ack rest ≡ Some last → list_any test (frames_to peer (without_below last rest)) ≡ true) → list_any test (frames_to peer (without_below last (o ∷ rest))) ≡ true
among_by peer test last o rest (Some y) behind one is passes again =
    still_any peer test last o rest (says_less o last) (is_for peer o) refl refl (again (behind ∙ one))
among_by peer test last o rest None behind one is passes again =
    let same : o ≡ last = (chosen (is_ack o.frame) o last one).1 in
    let stays : says_less o last ≡ false = ap (λ x. says_less x last) same ∙ less_than_itself last in
    let here : is_for peer o ≡ true = ap (is_for peer) same ∙ is in
    rw (stays, here) (any_first (test o) (list_any test (frames_to peer (without_below last rest))) (ap test same ∙ passes))

is_among : (peer : ℕ) (test : Outgoing → Bool) (last : Outgoing) (frames : List Outgoing) → is_for peer last ≡ true → test last ≡ true → last_ack frames ≡ Some last →
    list_any test (frames_to peer (without_below last frames)) ≡ true
is_among peer test last [] is passes found = cc
is_among peer test last (o ∷ rest) is passes found =
    among_by peer test last o rest (last_ack rest) refl found is passes (λ there. is_among peer test last rest is passes there)

-- ---- what is handed on

-- all
pub all_handed_on : (frames : List Outgoing) → IsHandedOn frames frames
all_handed_on [] = none
all_handed_on (o ∷ frames) = handed_on o (all_handed_on frames)

-- the same for each peer, where those for one peer stay in their order
pub sorted_is_handed_on : (frames left sorted : List Outgoing) → ((peer : ℕ) → IsHandedOn (frames_to peer frames) (frames_to peer left)) → ((peer : ℕ) → frames_to peer sorted ≡ frames_to peer left) →
    (peer : ℕ) → IsHandedOn (frames_to peer frames) (frames_to peer sorted)
sorted_is_handed_on frames left sorted handed same peer = subst (λ xs. IsHandedOn (frames_to peer frames) xs) (sym (same peer)) (handed peer)

-- one more in front that is handed on, for the peer or not
in_front : (peer : ℕ) (o : Outgoing) (frames handed : List Outgoing) (here : Bool) → is_for peer o ≡ here →
    IsHandedOn (frames_to peer frames) (frames_to peer handed) → IsHandedOn (frames_to peer (o ∷ frames)) (frames_to peer (o ∷ handed))
in_front peer o frames handed true is so = rw is (handed_on o so)
in_front peer o frames handed false is so = rw is so

-- one more in front
one_more : (peer : ℕ) (last o : Outgoing) (rest : List Outgoing) (less here : Bool) → says_less o last ≡ less → is_for peer o ≡ here → last_ack rest ≡ Some last →
    IsHandedOn (frames_to peer rest) (frames_to peer (without_below last rest)) → IsHandedOn (frames_to peer (o ∷ rest)) (frames_to peer (without_below last (o ∷ rest)))
one_more peer last o rest false here less is found so = rw less (in_front peer o rest (without_below last rest) here is so)
one_more peer last o rest true false less is found so = rw (less, is) so
one_more peer last o rest true true less is found so =
    let parts = both (nat_eq o.peer last.peer) (is_below o.frame last.frame) less in
    let there : is_for peer last ≡ true = grind (arith, nat_tests, parts.0, is) in
    let covered = is_among peer (λ other. covers other.frame o.frame) last rest there (below_is_covered o.frame last.frame parts.1) found in
    rw (less, is) (left_out o so covered)

-- where the Acks are left out that say less than the last one, each peer is handed on what a later Ack doesn't cover
handed_by : (peer : ℕ) (last o : Outgoing) (rest : List Outgoing) (later : Option Outgoing) → last_ack rest ≡ later → or_else later (if is_ack o.frame then Some o else None) ≡ Some last →
    (last_ack rest ≡ Some last → IsHandedOn (frames_to peer rest) (frames_to peer (without_below last rest))) →
    IsHandedOn (frames_to peer (o ∷ rest)) (frames_to peer (without_below last (o ∷ rest)))
handed_by peer last o rest (Some y) behind one again =
    let there : last_ack rest ≡ Some last = behind ∙ one in
    one_more peer last o rest (says_less o last) (is_for peer o) refl refl there (again there)
handed_by peer last o rest None behind one again =
    let same : o ≡ last = (chosen (is_ack o.frame) o last one).1 in
    let stays : says_less o last ≡ false = ap (λ x. says_less x last) same ∙ less_than_itself last in
    let all : without_below last rest ≡ rest = none_left_out last rest behind in
    rw (stays, all) (all_handed_on (frames_to peer (o ∷ rest)))

pub handed_on_to : (peer : ℕ) (last : Outgoing) (frames : List Outgoing) → last_ack frames ≡ Some last →
    IsHandedOn (frames_to peer frames) (frames_to peer (without_below last frames))
handed_on_to peer last [] found = none
handed_on_to peer last (o ∷ rest) found = handed_by peer last o rest (last_ack rest) refl found (λ there. handed_on_to peer last rest there)

-- ---- looking for it from the end

-- the one at a place, and those behind it
drop_at : (frames : List Outgoing) (place : ℕ) (o : Outgoing) → place < length frames → o ≡ get_or frames place o → drop place frames ≡ o ∷ drop (place + 1) frames
drop_at frames place o there is = rw (suc_is place) (drop-cons frames place o there ∙ ap (λ (x : Outgoing). x ∷ drop (suc place) frames) (sym is))
  where
    suc_is : (n : ℕ) → n + 1 ≡ suc n
    suc_is n = omega arith

-- those from the first place on are all
pub from_start : (frames : List Outgoing) (place : ℕ) → place ≡ 0 → last_ack (drop place frames) ≡ None → last_ack frames ≡ None
from_start frames place first absent = subst (λ k. last_ack (drop k frames) ≡ None) first absent

-- no Ack from a place on
pub no_ack_before : (frames : List Outgoing) (place : ℕ) (o : Outgoing) → place < length frames → o ≡ get_or frames place o → is_ack o.frame ≡ false → last_ack (drop (place + 1) frames) ≡ None → last_ack (drop place frames) ≡ None
no_ack_before frames place o there is isnt behind =
    let cut : drop place frames ≡ o ∷ drop (place + 1) frames = drop_at frames place o there is in
    rw (cut, behind, isnt) refl

-- the last Ack behind some frames is the last of all
behind_all : (frames : List Outgoing) (k : ℕ) (o : Outgoing) → last_ack (drop k frames) ≡ Some o → last_ack frames ≡ Some o
behind_all frames zero o found = found
behind_all [] (suc k) o found = cc
behind_all (x ∷ frames) (suc k) o found = rw (behind_all frames k o found) refl

-- the one at a place, behind which there is none
pub ack_at : (frames : List Outgoing) (place : ℕ) (o : Outgoing) → place < length frames → o ≡ get_or frames place o → is_ack o.frame ≡ true → last_ack (drop (place + 1) frames) ≡ None → last_ack frames ≡ Some o
ack_at frames place o there is an_ack behind =
    let cut : drop place frames ≡ o ∷ drop (place + 1) frames = drop_at frames place o there is in
    let here : last_ack (drop place frames) ≡ Some o = rw (cut, behind, an_ack) refl in
    behind_all frames place o here
