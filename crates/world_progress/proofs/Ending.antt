-- Where no move does anything any more every federate is stuck, and each run leads there.
use Rattle.std.proofs.Common.{◌≡◌, ℕ, zero, suc, ◌+◌, ◌<◌, ◌≤◌, ◌⊎◌, inl, inr, Bool, true, false, List, [], ◌∷◌, ◌++◌, length, length-append, append_assoc, refl, sym, ap, subst, ◌∙◌, arith, Option, None, Some, ℤ}
use Rattle.std.specs.Prelude.{nat_eq, not, ◌&&◌, ◌||◌, if◌then◌else◌, slice_get}
use Rattle.std.proofs.lemmas.Bool.{cases_lt}
use Rattle.tag.specs.LogicalTime.{LogicalTime, forever, is_at_most, is_same, is_past}
use Rattle.network.specs.Connection.{Connection}
use Rattle.network.specs.Network.{Network}
use Rattle.network.specs.Lawful.{IsLawful}
use Rattle.network.specs.Tables.{Table, IsAtMostEveryPath}
use Rattle.signal.specs.declared.signal.Signal.{Signal}
use Rattle.signal.specs.declared.signal.Signal.TheVariants.{Net, Ltc, Tag, Msg}
use Rattle.protocol.specs.declared.refusal.Refusal.{Refusal}
use Rattle.protocol.specs.declared.refusal.Refusal.TheVariants.{Late, OldGrant, WrongSignal, NotYours, BelowGrant, NotRising, AfterStop}
use Rattle.protocol.specs.Outcome.{Outcome, Refused, Nothing, Done, made_or, with_made, IfDone}
use Rattle.protocol.specs.Federate.{Federate, Stepped, accept_message, federate_accepts, federate_announces, federate_advances}
use Rattle.protocol.specs.FederateRecord.{FederateRecord}
use Rattle.protocol.specs.Grant.{Rule, IsSafeRule}
use Rattle.protocol.specs.Coordinator.{Coordinated, route, coordinator_takes, with_grants, coordinator_accepts}
use Rattle.protocol.specs.Machine.{Member, Move, ToCoordinator, ToFederate, Announce, Advance, Lose, with_member, federate_records_of, coordinated, coordinator_takes_from, stepped, federate_takes_from, outcome_of, after_moves}
use Rattle.protocol_laws.specs.Runs.{IsStuck}
use Rattle.protocol_laws.proofs.Backing.{at_update}
use Rattle.protocol_laws.proofs.Safety.{none_refused}
use Rattle.world_progress.specs.Fuel.{fuel_of}
use Rattle.world_progress.specs.Worth.{left_of}
use Rattle.world_progress.specs.Runs.{IsSparing, IsOfMember, AreOfMembers, takes, is_done, outcome_after, NothingDoes, EndsStuck}
use Rattle.world_progress.proofs.Sums.{where_so}
use Rattle.world_progress.proofs.Moves.{move_costs}
use Rattle.world_progress.proofs.Runs.{made_costs, spent}

-- nobody is lost by these moves
abbrev KeepsAll : (ℕ → Member) → Outcome (ℕ → Member) → Type 0
KeepsAll members o = IfDone o (λ after. (j : ℕ) → (after j).lost ≡ (members j).lost)

kept_here : (members : ℕ → Member) (i : ℕ) (m : Member) → m.lost ≡ (members i).lost → (j : ℕ) → (with_member members i m j).lost ≡ (members j).lost
kept_here members i m same j =
    let P : Member → Type 0 = λ x. x.lost ≡ (members j).lost in
    at_update P m (members j) j i (λ q. same ∙ ap (λ (x : ℕ). (members x).lost) (sym q)) refl

step_keeps : (members : ℕ → Member) (i : ℕ) (rest : List Signal) (o : Outcome Stepped) (b : Bool) → KeepsAll members (if b then Nothing else with_made (with_member members i) (with_made (stepped (members i) rest) o))
step_keeps members i rest o true = tt
step_keeps members i rest (Refused refusal) false = tt
step_keeps members i rest Nothing false = tt
step_keeps members i rest (Done made) false = kept_here members i (stepped (members i) rest made) refl

take_keeps : (n : Network) (members : ℕ → Member) (i : ℕ) (down : List Signal) (b : Bool) → KeepsAll members (if b then Nothing else with_made (with_member members i) (federate_takes_from n i (members i) down))
take_keeps n members i [] true = tt
take_keeps n members i [] false = tt
take_keeps n members i (signal ∷ rest) b = step_keeps members i rest (federate_accepts n i (members i).federate signal) b

made_keeps : (members : ℕ → Member) (i : ℕ) (rest : List Signal) (o : Outcome Coordinated) → KeepsAll members (with_made (λ made. λ j. coordinated made j (with_member members i (record (members i) { up = rest }) j)) o)
made_keeps members i rest (Refused refusal) = tt
made_keeps members i rest Nothing = tt
made_keeps members i rest (Done made) = kept_here members i (record (members i) { up = rest }) refl

coordinator_keeps : (n : Network) (rule : Rule) (members : ℕ → Member) (i : ℕ) (up : List Signal) → KeepsAll members (coordinator_takes_from n rule members i up)
coordinator_keeps n rule members i [] = tt
coordinator_keeps n rule members i (signal ∷ rest) = made_keeps members i rest (coordinator_accepts n rule (federate_records_of members) i signal)

move_keeps : (n : Network) (rule : Rule) (members : ℕ → Member) (move : Move) → IsOfMember n move → KeepsAll members (outcome_of n rule members move)
move_keeps n rule members (ToCoordinator i) there = coordinator_keeps n rule members i (members i).up
move_keeps n rule members (ToFederate i) there = take_keeps n members i (members i).down (members i).lost
move_keeps n rule members (Announce i) there = step_keeps members i (members i).down (federate_announces (members i).federate) (members i).lost
move_keeps n rule members (Advance i) there = step_keeps members i (members i).down (federate_advances n i (members i).federate) (members i).lost
move_keeps n rule members (Lose i) there = absurd there

still_kept : (members : ℕ → Member) (o : Outcome (ℕ → Member)) → KeepsAll members o → ((j : ℕ) → (members j).lost ≡ false) → (j : ℕ) → (made_or members o j).lost ≡ false
still_kept members (Refused refusal) h k j = k j
still_kept members Nothing h k j = k j
still_kept members (Done after) h k j = h j ∙ k j

pub nobody_lost : (n : Network) (rules : ℕ → Rule) (moves : List Move) → AreOfMembers n moves → (j : ℕ) → (after_moves n rules moves j).lost ≡ false
nobody_lost n rules [] there j = refl
nobody_lost n rules (move ∷ earlier) there j =
    still_kept (after_moves n rules earlier) (outcome_after n rules earlier move) (move_keeps n (rules (length earlier)) (after_moves n rules earlier) move there.0) (nobody_lost n rules earlier there.1) j

-- a signal is taken or refused
abbrev IsAnswer : {A : Type 0} → Outcome A → Type 0
IsAnswer (Refused refusal) = Unit {0}
IsAnswer Nothing = ⊥
IsAnswer (Done made) = Unit {0}

answer_if : {A : Type 0} (b : Bool) (refusal : Refusal) (o : Outcome A) → IsAnswer o → IsAnswer (if not b then Refused refusal else o)
answer_if true refusal o h = h
answer_if false refusal o h = tt

answer_made : {A B : Type 0} (f : A → B) (o : Outcome A) → IsAnswer o → IsAnswer (with_made f o)
answer_made f (Refused refusal) h = tt
answer_made f Nothing h = h
answer_made f (Done made) h = tt

done_if : {A : Type 0} (o : Outcome A) → IsAnswer o → ((refusal : Refusal) → o ≡ Refused refusal → ⊥) → is_done o ≡ true
done_if (Refused refusal) h f = absurd (f refusal refl)
done_if Nothing h f = absurd h
done_if (Done made) h f = refl

route_answers : (n : Network) (federate_records : ℕ → FederateRecord) (i : ℕ) (signal : Signal) (o : Option Connection) (tag : LogicalTime) → IsAnswer (route n federate_records i signal o tag)
route_answers n federate_records i signal None tag = tt
route_answers n federate_records i signal (Some c) tag =
    answer_if (nat_eq c.source i) NotYours _ (answer_if (is_at_most tag n.stop) AfterStop _ (answer_if (is_past (federate_records c.target).granted tag) BelowGrant _ tt))

coordinator_answers : (n : Network) (federate_records : ℕ → FederateRecord) (i : ℕ) (signal : Signal) → IsAnswer (coordinator_takes n federate_records i signal)
coordinator_answers n federate_records i (Net tag) = answer_if (is_at_most tag n.stop || is_same tag forever) AfterStop _ (answer_if (is_past (federate_records i).completed tag) NotRising _ tt)
coordinator_answers n federate_records i (Ltc tag) = answer_if (is_at_most tag n.stop) AfterStop _ (answer_if (is_past (federate_records i).completed tag) NotRising _ tt)
coordinator_answers n federate_records i (Tag tag) = tt
coordinator_answers n federate_records i (Msg number tag value) = route_answers n federate_records i (Msg number tag value) (slice_get n.connections number) tag

message_answers : (n : Network) (j : ℕ) (f : Federate) (o : Option Connection) (tag : LogicalTime) (value : ℤ) → IsAnswer (accept_message n j f o tag value)
message_answers n j f None tag value = tt
message_answers n j f (Some c) tag value = answer_if (nat_eq c.target j && is_at_most tag n.stop) WrongSignal _ (answer_if (is_past f.completed tag && is_past f.granted tag) Late _ tt)

federate_answers : (n : Network) (j : ℕ) (f : Federate) (signal : Signal) → IsAnswer (federate_accepts n j f signal)
federate_answers n j f (Net tag) = tt
federate_answers n j f (Ltc tag) = tt
federate_answers n j f (Tag tag) = answer_if (is_at_most tag n.stop) WrongSignal _ (answer_if (is_past f.granted tag) OldGrant _ tt)
federate_answers n j f (Msg number tag value) = message_answers n j f (slice_get n.connections number) tag value

-- where a move doesn't do anything, there is nothing for it to do
up_is_empty : (n : Network) (rule : Rule) (members : ℕ → Member) (i : ℕ) (up : List Signal) → ((refusal : Refusal) → coordinator_takes_from n rule members i up ≡ Refused refusal → ⊥) → is_done (coordinator_takes_from n rule members i up) ≡ false → up ≡ []
up_is_empty n rule members i [] f e = refl
up_is_empty n rule members i (signal ∷ rest) f e =
    let made : IsAnswer (coordinator_takes_from n rule members i (signal ∷ rest)) =
    answer_made (λ made. λ j. coordinated made j (with_member members i (record (members i) { up = rest }) j)) (coordinator_accepts n rule (federate_records_of members) i signal)
    (answer_made (with_grants n rule) (coordinator_takes n (federate_records_of members) i signal) (coordinator_answers n (federate_records_of members) i signal)) in
    let done : is_done (coordinator_takes_from n rule members i (signal ∷ rest)) ≡ true = done_if (coordinator_takes_from n rule members i (signal ∷ rest)) made f in
    cc

down_is_empty : (n : Network) (members : ℕ → Member) (i : ℕ) (down : List Signal) (b : Bool) → b ≡ false → ((refusal : Refusal) → (if b then Nothing else with_made (with_member members i) (federate_takes_from n i (members i) down)) ≡ Refused refusal → ⊥)
    → is_done (if b then Nothing else with_made (with_member members i) (federate_takes_from n i (members i) down)) ≡ false → down ≡ []
down_is_empty n members i down true kept f e = cc
down_is_empty n members i [] false kept f e = refl
down_is_empty n members i (signal ∷ rest) false kept f e =
    let made = answer_made (with_member members i) (federate_takes_from n i (members i) (signal ∷ rest))
    (answer_made (stepped (members i) rest) (federate_accepts n i (members i).federate signal) (federate_answers n i (members i).federate signal)) in
    let done = done_if (with_made (with_member members i) (federate_takes_from n i (members i) (signal ∷ rest))) made f in
    cc

nothing_to_do : (members : ℕ → Member) (i : ℕ) (rest : List Signal) (o : Outcome Stepped) (b : Bool) → b ≡ false → ((refusal : Refusal) → (if b then Nothing else with_made (with_member members i) (with_made (stepped (members i) rest) o)) ≡ Refused refusal → ⊥)
    → is_done (if b then Nothing else with_made (with_member members i) (with_made (stepped (members i) rest) o)) ≡ false → o ≡ Nothing
nothing_to_do members i rest o true kept f e = cc
nothing_to_do members i rest (Refused refusal) false kept f e = absurd (f refusal refl)
nothing_to_do members i rest Nothing false kept f e = refl
nothing_to_do members i rest (Done made) false kept f e = cc

-- so all are stuck
pub stuck_where_quiet : (n : Network) (table : Table) (rules : ℕ → Rule) → IsLawful n → IsAtMostEveryPath n table → ((k : ℕ) → IsSafeRule n table (rules k)) → (moves : List Move) → AreOfMembers n moves → NothingDoes n rules moves → (j : ℕ) → j < n.reactors → IsStuck n j (after_moves n rules moves j)
stuck_where_quiet n table rules lawful facts safe moves there quiet j l =
    let M = after_moves n rules moves in
    let kept = nobody_lost n rules moves there j in
    record {
      up = up_is_empty n (rules (length moves)) M j (M j).up (λ refusal e. none_refused n table rules moves (ToCoordinator j) refusal lawful facts safe e) (quiet (ToCoordinator j) l);
      down = down_is_empty n M j (M j).down (M j).lost kept (λ refusal e. none_refused n table rules moves (ToFederate j) refusal lawful facts safe e) (quiet (ToFederate j) l);
      announce = nothing_to_do M j (M j).down (federate_announces (M j).federate) (M j).lost kept (λ refusal e. none_refused n table rules moves (Announce j) refusal lawful facts safe e) (quiet (Announce j) l);
      advance = nothing_to_do M j (M j).down (federate_advances n j (M j).federate) (M j).lost kept (λ refusal e. none_refused n table rules moves (Advance j) refusal lawful facts safe e) (quiet (Advance j) l);
    }

-- a number below a count that passes a test, or none
record Found (count : ℕ) (test : ℕ → Bool) : Type 0 where
  at : ℕ
  below : at < count
  passes : test at ≡ true

abbrev NoneFound : ℕ → (ℕ → Bool) → Type 0
NoneFound count test = (j : ℕ) → j < count → test j ≡ false

found_more : (count : ℕ) (test : ℕ → Bool) → NoneFound count test ⊎ Found count test → (b : Bool) → test count ≡ b → NoneFound (suc count) test ⊎ Found (suc count) test
found_more count test h true e = inr (record { at = count; below = omega arith; passes = e })
found_more count test (inr f) false e = inr (record { at = f.at; below = omega (arith, f.below); passes = f.passes })
found_more count test (inl none) false e = inl (λ j l. elim (cases_lt j count) [
  | inl less ↦ none j less
  | inr not_less ↦ (let same : count ≡ j = omega arith in let P : ℕ → Type 0 = λ x. test x ≡ false in subst P same e)
])

find : (count : ℕ) (test : ℕ → Bool) → NoneFound count test ⊎ Found count test
find zero test = inl (λ j l. absurd (omega arith))
find (suc count) test = found_more count test (find count test) (test count) refl

-- a move that does something, or none
record GoesOn (n : Network) (rules : ℕ → Rule) (moves : List Move) : Type 0 where
  move : Move
  there : IsOfMember n move
  done : is_done (outcome_after n rules moves move) ≡ true

all_quiet : (n : Network) (rules : ℕ → Rule) (moves : List Move) → NoneFound n.reactors (λ i. is_done (outcome_after n rules moves (ToCoordinator i))) → NoneFound n.reactors (λ i. is_done (outcome_after n rules moves (ToFederate i)))
    → NoneFound n.reactors (λ i. is_done (outcome_after n rules moves (Announce i))) → NoneFound n.reactors (λ i. is_done (outcome_after n rules moves (Advance i))) → (move : Move) → IsOfMember n move → is_done (outcome_after n rules moves move) ≡ false
all_quiet n rules moves a b c d (ToCoordinator i) there = a i there
all_quiet n rules moves a b c d (ToFederate i) there = b i there
all_quiet n rules moves a b c d (Announce i) there = c i there
all_quiet n rules moves a b c d (Advance i) there = d i there
all_quiet n rules moves a b c d (Lose i) there = absurd there

goes_on : (n : Network) (rules : ℕ → Rule) (moves : List Move) → NothingDoes n rules moves ⊎ GoesOn n rules moves
goes_on n rules moves = elim (find n.reactors (λ i. is_done (outcome_after n rules moves (ToCoordinator i)))) [
  | inr f ↦ inr (record { move = ToCoordinator f.at; there = f.below; done = f.passes })
  | inl a ↦ elim (find n.reactors (λ i. is_done (outcome_after n rules moves (ToFederate i)))) [
    | inr f ↦ inr (record { move = ToFederate f.at; there = f.below; done = f.passes })
    | inl b ↦ elim (find n.reactors (λ i. is_done (outcome_after n rules moves (Announce i)))) [
      | inr f ↦ inr (record { move = Announce f.at; there = f.below; done = f.passes })
      | inl c ↦ elim (find n.reactors (λ i. is_done (outcome_after n rules moves (Advance i)))) [
        | inr f ↦ inr (record { move = Advance f.at; there = f.below; done = f.passes })
        | inl d ↦ inl (all_quiet n rules moves a b c d)
      ]
    ]
  ]
]

-- one more move before the others
one_more : (n : Network) (rules : ℕ → Rule) (moves : List Move) (move : Move) (most : ℕ) → EndsStuck n rules (move ∷ moves) most → EndsStuck n rules moves (suc most)
one_more n rules moves move most later =
    let same : (later.more ++ move ∷ []) ++ moves ≡ later.more ++ move ∷ moves = append_assoc later.more (move ∷ []) moves in
    let P : List Move → Type 0 = λ x. AreOfMembers n x in
    let Q : List Move → Type 0 = λ x. (j : ℕ) → j < n.reactors → IsStuck n j (after_moves n rules x j) in
    let size = length-append later.more (move ∷ []) in
    let few = later.few in
    record { more = later.more ++ move ∷ []; there = subst P (sym same) later.there; few = omega arith; stuck = subst Q (sym same) later.stuck }

falls : (left next taken : ℕ) (done : Bool) → where_so done 1 + (where_so done taken + next) ≤ left → done ≡ true → next < left
falls left next taken true h e = omega arith
falls left next taken false h e = cc

left_falls : (n : Network) (table : Table) (rules : ℕ → Rule) → IsLawful n → IsAtMostEveryPath n table → ((k : ℕ) → IsSafeRule n table (rules k)) → ((k : ℕ) → IsSparing (rules k)) → (moves : List Move) (g : GoesOn n rules moves) → left_of n (after_moves n rules (g.move ∷ moves)) < left_of n (after_moves n rules moves)
left_falls n table rules lawful facts safe sparing moves g =
    let M = after_moves n rules moves in
    let o = outcome_after n rules moves g.move in
    let cost = move_costs n table rules lawful facts safe sparing moves g.move g.there in
    falls (left_of n M) (left_of n (made_or M o)) (takes g.move) (is_done o) (made_costs n (takes g.move) M o cost) g.done

ends_here : (n : Network) (table : Table) (rules : ℕ → Rule) → IsLawful n → IsAtMostEveryPath n table → ((k : ℕ) → IsSafeRule n table (rules k)) → (most : ℕ) (moves : List Move) → AreOfMembers n moves → NothingDoes n rules moves → EndsStuck n rules moves most
ends_here n table rules lawful facts safe most moves there quiet = record { more = []; there = there; few = omega arith; stuck = stuck_where_quiet n table rules lawful facts safe moves there quiet }

ends : (n : Network) (table : Table) (rules : ℕ → Rule) → IsLawful n → IsAtMostEveryPath n table → ((k : ℕ) → IsSafeRule n table (rules k)) → ((k : ℕ) → IsSparing (rules k)) → (most : ℕ) (moves : List Move) → AreOfMembers n moves → left_of n (after_moves n rules moves) ≤ most → EndsStuck n rules moves most
ends n table rules lawful facts safe sparing zero moves there few = elim (goes_on n rules moves) [
  | inl quiet ↦ ends_here n table rules lawful facts safe zero moves there quiet
  | inr g ↦ (let less = left_falls n table rules lawful facts safe sparing moves g in absurd (omega arith))
]
ends n table rules lawful facts safe sparing (suc most) moves there few = elim (goes_on n rules moves) [
  | inl quiet ↦ ends_here n table rules lawful facts safe (suc most) moves there quiet
  | inr g ↦
      (let less = left_falls n table rules lawful facts safe sparing moves g in
      one_more n rules moves g.move most (ends n table rules lawful facts safe sparing most (g.move ∷ moves) (g.there, there) (omega arith)))
]

pub runs_end : (n : Network) (table : Table) (rules : ℕ → Rule) → IsLawful n → IsAtMostEveryPath n table → ((k : ℕ) → IsSafeRule n table (rules k)) → ((k : ℕ) → IsSparing (rules k)) → (moves : List Move) → AreOfMembers n moves → EndsStuck n rules moves (fuel_of n)
runs_end n table rules lawful facts safe sparing moves there =
    let all = spent n table rules lawful facts safe sparing moves there in
    ends n table rules lawful facts safe sparing (fuel_of n) moves there (omega arith)
