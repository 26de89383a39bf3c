-- What a journal gives, with one event more.
use Rattle.std.proofs.Common.{◌≡◌, ◌∙◌, sym, ap, Bool, List, [], ◌∷◌, ◌++◌, Result, Ok, Err, IfOk, OnOk, OnErr, refl}
use Rattle.node.specs.declared.event.Event.{Event}
use Rattle.node.specs.Core.{Core}
use Rattle.node.specs.declared.reply.Reply.{Reply}
use Rattle.node.specs.Step.{Station, Stepped, answer_in, step_of, initial_of}
use Rattle.desk.specs.declared.memory.Memory.{Memory}
use Rattle.desk.specs.Replay.{after_all, replay}

pub after_push : {View Row : Type 0} (core : Core View Row) (is_coordinator : Bool) (s : Station View) (events : List Event) (event : Event) →
    after_all core is_coordinator s (events ++ event ∷ []) ≡ (step_of core is_coordinator (after_all core is_coordinator s events) event).station
after_push core is_coordinator s [] event = refl
after_push core is_coordinator s (first ∷ events) event = after_push core is_coordinator (step_of core is_coordinator s first).station events event

replay_push : {View Row : Type 0} (core : Core View Row) (is_coordinator : Bool) (s after : Station View) (events : List Event) (event : Event) →
    s ≡ replay core is_coordinator s events → after ≡ (step_of core is_coordinator s event).station → initial_of core after ≡ initial_of core s →
    after ≡ replay core is_coordinator after (events ++ event ∷ [])
replay_push core is_coordinator s after events event is step initial =
    step ∙ ap (λ t. (step_of core is_coordinator t event).station) is ∙ sym (after_push core is_coordinator (initial_of core s) events event)
    ∙ ap (λ o. after_all core is_coordinator o (events ++ event ∷ [])) (sym initial)

-- a station that made the step of an event, or none, is what the journal with that event, or without it, gives
pub replays : {View Row : Type 0} (core : Core View Row) (is_coordinator : Bool) (s after : Station View) (events later : List Event) (event : Event) (result : Result Reply Memory) →
    s ≡ replay core is_coordinator s events → initial_of core (step_of core is_coordinator s event).station ≡ initial_of core s →
    IfOk result (λ reply. record { station = after; answer = answer_in reply } ≡ step_of core is_coordinator s event) → OnOk result (later ≡ events ++ event ∷ []) →
    OnErr result (after ≡ s) → OnErr result (later ≡ events) → after ≡ replay core is_coordinator after later
replays {View} core is_coordinator s after events later event (Ok reply) is initial step journal same same_journal =
    let there : after ≡ (step_of core is_coordinator s event).station = ap (λ (d : Stepped View). d.station) step in
    rw journal (replay_push core is_coordinator s after events event is there (ap (initial_of core) there ∙ initial))
replays core is_coordinator s after events later event (Err memory) is initial step journal same same_journal = rw (same, same_journal) is
