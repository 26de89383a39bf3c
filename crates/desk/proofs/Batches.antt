-- Events that are handled one after the other.
use Rattle.std.proofs.Common.{arith, ◌≡◌, ◌∙◌, sym, ap, refl, subst, ℕ, ◌+◌, ◌-◌, ◌<◌, ◌≤◌, zero, suc, length-append, Bool, true, false, nat_le, ◌||◌, inl, inr, List, [], ◌∷◌, ◌++◌, length, take, drop, get_or, Result, Ok, Err, OnOk, OnErr}
use Rattle.std.proofs.Math.Seq.{take-add, take-append_seam, drop-append_seam}
use Rattle.std.proofs.lemmas.List.{take_more, take_all, take-append-le}
use Rattle.std.proofs.lemmas.Bool.Decides.{nat_tests}
use Rattle.node.specs.declared.event.Event.{Event}
use Rattle.node_journal.specs.declared.slip.Slip.{Slip}
use Rattle.node_journal.specs.Slips.{slips_from}
use Rattle.node_journal.specs.Turns.{turn_event, turn_events}
use Rattle.node_journal.proofs.BlockEvents.{turns_length}
use Rattle.node.specs.declared.reply.Reply.{Reply}
use Rattle.node.specs.Core.{Core}
use Rattle.node.specs.Step.{Station, Stepped, answer_in, step_of, initial_of}
use Rattle.std.specs.declared.alloc.AllocError.{AllocError}
use Rattle.desk.specs.declared.batch_reply.BatchReply.{BatchReply}
use Rattle.desk.specs.Replay.{after_all, replay}
use Rattle.desk.specs.Replies.{AreAdded, IsAdded, one_more, answers_of, frames_of, is_done, shows_other_history}
use Rattle.desk.proofs.Replays.{after_push}

-- one event of a list more
next_of : (events : List Event) (k : ℕ) (event : Event) → k < length events → event ≡ get_or events k event → take (k + 1) events ≡ take k events ++ event ∷ []
next_of events k event within is = take_more events k event within ∙ ap (λ (x : Event). take k events ++ x ∷ []) (sym is)

answers_push : {View Row : Type 0} (core : Core View Row) (is_coordinator : Bool) (s : Station View) (events : List Event) (event : Event) →
    answers_of core is_coordinator s (events ++ event ∷ []) ≡ answers_of core is_coordinator s events ++ (step_of core is_coordinator (after_all core is_coordinator s events) event).answer ∷ []
answers_push core is_coordinator s [] event = refl
answers_push core is_coordinator s (first ∷ events) event =
    ap (λ rest. (step_of core is_coordinator s first).answer ∷ rest) (answers_push core is_coordinator (step_of core is_coordinator s first).station events event)

after_append : {View Row : Type 0} (core : Core View Row) (is_coordinator : Bool) (s : Station View) (xs ys : List Event) →
    after_all core is_coordinator s (xs ++ ys) ≡ after_all core is_coordinator (after_all core is_coordinator s xs) ys
after_append core is_coordinator s [] ys = refl
after_append core is_coordinator s (x ∷ xs) ys = after_append core is_coordinator (step_of core is_coordinator s x).station xs ys

module _ {View Row : Type 0} (core : Core View Row) (is_coordinator : Bool) (s now after : Station View) (events : List Event) (place : ℕ) (event : Event) (reply : Reply) (within : place < length events) (there : event ≡ get_or events place event) (before : now ≡ after_all core is_coordinator s (take place events)) (step : record { station = after; answer = answer_in reply } ≡ step_of core is_coordinator now event) where
  -- the station after one step more
  pub one_step : after ≡ after_all core is_coordinator s (take (place + 1) events)
  one_step =
      ap (λ (d : Stepped View). d.station) step ∙ ap (λ t. (step_of core is_coordinator t event).station) before
      ∙ sym (after_push core is_coordinator s (take place events) event) ∙ ap (after_all core is_coordinator s) (sym (next_of events place event within there))

  -- and what is said with its answer
  pub one_answer : (first between last : BatchReply) → AreAdded first (answers_of core is_coordinator s (take place events)) between → IsAdded (answer_in reply) between last →
      AreAdded first (answers_of core is_coordinator s (take (place + 1) events)) last
  one_answer first between last added one =
      let answer : answer_in reply ≡ (step_of core is_coordinator (after_all core is_coordinator s (take place events)) event).answer =
      ap (λ (d : Stepped View). d.answer) step ∙ ap (λ t. (step_of core is_coordinator t event).answer) before in
      let more : answers_of core is_coordinator s (take (place + 1) events) ≡ answers_of core is_coordinator s (take place events) ++ answer_in reply ∷ [] =
      ap (answers_of core is_coordinator s) (next_of events place event within there) ∙ answers_push core is_coordinator s (take place events) event
      ∙ ap (λ a. answers_of core is_coordinator s (take place events) ++ a ∷ []) (sym answer) in
      subst (λ answers. AreAdded first answers last) (sym more) (one_more added one)

-- what was said grew by an answer, or its frames found no memory
pub is_added : (reply : Reply) (before after : BatchReply) (result : Result (Unit {0}) AllocError) → after.has_done ≡ (before.has_done || is_done (answer_in reply)) →
    after.shows_other_history ≡ (before.shows_other_history || shows_other_history (answer_in reply)) →
    OnOk result (after.frames.items ≡ before.frames.items ++ frames_of (answer_in reply)) → OnErr result (after.frames.items ≡ before.frames.items) → IsAdded (answer_in reply) before after
is_added reply before after (Ok _) done history frames unchanged = record { done = done; history = history; frames = inl frames }
is_added reply before after (Err _) done history frames unchanged = record { done = done; history = history; frames = inr unchanged }

-- all events
pub all_first : (events : List Event) (place : ℕ) → length events ≤ place → take place events ≡ take (length events) events
all_first events place done = take_all place events done ∙ sym (take_all (length events) events (omega arith))

-- a station through all steps is made from the same
initial_stays : {View Row : Type 0} (core : Core View Row) (is_coordinator : Bool) → ((s : Station View) (event : Event) → initial_of core (step_of core is_coordinator s event).station ≡ initial_of core s) →
    (s : Station View) (events : List Event) → initial_of core (after_all core is_coordinator s events) ≡ initial_of core s
initial_stays core is_coordinator stays s [] = refl
initial_stays core is_coordinator stays s (event ∷ events) = initial_stays core is_coordinator stays (step_of core is_coordinator s event).station events ∙ stays s event

pub initial_after : {View Row : Type 0} (core : Core View Row) (is_coordinator : Bool) → ((s : Station View) (event : Event) → initial_of core (step_of core is_coordinator s event).station ≡ initial_of core s) →
    (s after : Station View) (events : List Event) → after ≡ after_all core is_coordinator s events → initial_of core after ≡ initial_of core s
initial_after core is_coordinator stays s after events is = ap (initial_of core) is ∙ initial_stays core is_coordinator stays s events

-- a station that made the steps of events is what the journal with them gives
pub replays_all : {View Row : Type 0} (core : Core View Row) (is_coordinator : Bool) → ((s : Station View) (event : Event) → initial_of core (step_of core is_coordinator s event).station ≡ initial_of core s) →
    (s after : Station View) (journal later events : List Event) → s ≡ replay core is_coordinator s journal → after ≡ after_all core is_coordinator s events → later ≡ journal ++ events →
    after ≡ replay core is_coordinator after later
replays_all core is_coordinator stays s after journal later events is made more =
    made ∙ ap (λ t. after_all core is_coordinator t events) is ∙ sym (after_append core is_coordinator (initial_of core s) journal events)
    ∙ ap (λ o. after_all core is_coordinator o (journal ++ events)) (sym (initial_after core is_coordinator stays s after events made)) ∙ ap (after_all core is_coordinator (initial_of core after)) (sym more)

-- of what was added the last ones are taken off
pub kept_some : {X : Type 0} (xs ys whole : List X) (made left : ℕ) → whole ≡ xs ++ ys → made ≤ length ys → left ≡ length ys - made →
    (left ≤ length whole) × (take (length whole - left) whole ≡ xs ++ take made ys)
kept_some xs ys whole made left is few less =
    let long : length whole ≡ length xs + length ys = ap length is ∙ length-append xs ys in
    let kept : length whole - left ≡ length xs + made = omega arith in (
      omega arith,
      ap (λ n. take n whole) kept ∙ ap (take (length xs + made)) is ∙ take-add (length xs) made (xs ++ ys)
          ∙ ap (λ l. l ++ take made (drop (length xs) (xs ++ ys))) (take-append_seam xs ys) ∙ ap (λ l. xs ++ take made l) (drop-append_seam xs ys),
    )

slips_taken : (place made : ℕ) (events : List Event) → take made (slips_from place events) ≡ slips_from place (take made events)
slips_taken place zero events = refl
slips_taken place (suc made) [] = refl
slips_taken place (suc made) (event ∷ events) = ap (λ rest. record { place = place; event = event } ∷ rest) (slips_taken (suc place) made events)

slips_long : (place : ℕ) (events : List Event) → length (slips_from place events) ≡ length events
slips_long place [] = refl
slips_long place (event ∷ events) = ap suc (slips_long (suc place) events)

-- the same of slips of events that follow one another
pub kept_slips : (old whole : List Slip) (place : ℕ) (events : List Event) (made left : ℕ) → whole ≡ old ++ slips_from place events → made ≤ length events →
    left ≡ length events - made → (left ≤ length whole) × (take (length whole - left) whole ≡ old ++ slips_from place (take made events))
kept_slips old whole place events made left is few less =
    let long = slips_long place events in
    let kept = kept_some old (slips_from place events) whole made left is (omega arith) (omega arith) in
    (kept.0, kept.1 ∙ ap (λ l. old ++ l) (slips_taken place made events))

-- ---- turns

-- the first ones of turns are turns
taken_by : (count made : ℕ) (b : Bool) → nat_le made count ≡ b → made ≤ suc count → (made ≤ count → take made (turn_events count) ≡ turn_events made) →
    take made (turn_events (suc count)) ≡ turn_events made
taken_by count made true less few again =
    let within : made ≤ count = grind (arith, nat_tests) in
    let long = turns_length count in
    take-append-le made (turn_events count) (turn_event count ∷ []) (omega (arith, within, long)) ∙ again within
taken_by count made false more few again =
    let all : made ≡ suc count = grind (arith, nat_tests) in
    let long = turns_length (suc count) in
    take_all made (turn_events (suc count)) (omega (arith, all, long)) ∙ ap turn_events (sym all)

turns_taken : (count made : ℕ) → made ≤ count → take made (turn_events count) ≡ turn_events made
turns_taken zero made few =
    let none : made ≡ 0 = omega arith in
    ap (λ n. take n []) none ∙ ap turn_events (sym none)
turns_taken (suc count) made few = taken_by count made (nat_le made count) refl few (λ within. turns_taken count made within)

-- of turns that were added the last events are taken off
pub kept_turns : (xs whole : List Event) (count made left : ℕ) → whole ≡ xs ++ turn_events count → made ≤ count → left ≡ count - made →
    (left ≤ length whole) × (take (length whole - left) whole ≡ xs ++ turn_events made)
kept_turns xs whole count made left is few less =
    let long = turns_length count in
    let kept = kept_some xs (turn_events count) whole made left is (omega (arith, long)) (omega (arith, long)) in
    (kept.0, kept.1 ∙ ap (λ l. xs ++ l) (turns_taken count made few))

pub kept_turn_slips : (old whole : List Slip) (place count made left : ℕ) → whole ≡ old ++ slips_from place (turn_events count) → made ≤ count → left ≡ count - made →
    (left ≤ length whole) × (take (length whole - left) whole ≡ old ++ slips_from place (turn_events made))
kept_turn_slips old whole place count made left is few less =
    let long = turns_length count in
    let kept = kept_slips old whole place (turn_events count) made left is (omega (arith, long)) (omega (arith, long)) in
    (kept.0, kept.1 ∙ ap (λ l. old ++ slips_from place l) (turns_taken count made few))

module _ {View Row : Type 0} (core : Core View Row) (is_coordinator : Bool) (s now after : Station View) (number next : ℕ) (event : Event) (reply : Reply) (is : next ≡ number + 1) (there : event ≡ turn_event number) (before : now ≡ after_all core is_coordinator s (turn_events number)) (step : record { station = after; answer = answer_in reply } ≡ step_of core is_coordinator now event) where
  more : turn_events next ≡ turn_events number ++ event ∷ []
  more =
      let one : next ≡ suc number = omega arith in
      ap turn_events one ∙ ap (λ e. turn_events number ++ e ∷ []) (sym there)

  -- the station after one event of turns more
  pub one_turn_step : after ≡ after_all core is_coordinator s (turn_events next)
  one_turn_step =
      ap (λ (d : Stepped View). d.station) step ∙ ap (λ t. (step_of core is_coordinator t event).station) before
      ∙ sym (after_push core is_coordinator s (turn_events number) event) ∙ ap (after_all core is_coordinator s) (sym more)

  -- and what is said with its answer
  pub one_turn_answer : (first between last : BatchReply) → AreAdded first (answers_of core is_coordinator s (turn_events number)) between → IsAdded (answer_in reply) between last →
      AreAdded first (answers_of core is_coordinator s (turn_events next)) last
  one_turn_answer first between last added one =
      let answer : answer_in reply ≡ (step_of core is_coordinator (after_all core is_coordinator s (turn_events number)) event).answer =
      ap (λ (d : Stepped View). d.answer) step ∙ ap (λ t. (step_of core is_coordinator t event).answer) before in
      let longer : answers_of core is_coordinator s (turn_events next) ≡ answers_of core is_coordinator s (turn_events number) ++ answer_in reply ∷ [] =
      ap (answers_of core is_coordinator s) more ∙ answers_push core is_coordinator s (turn_events number) event
      ∙ ap (λ a. answers_of core is_coordinator s (turn_events number) ++ a ∷ []) (sym answer) in
      subst (λ answers. AreAdded first answers last) (sym longer) (one_more added one)
