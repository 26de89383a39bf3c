-- One step more at the end of a list of steps.
use Rattle.std.proofs.Common.{◌≡◌, ◌∙◌, ℕ, false, List, [], ◌∷◌, ◌++◌, None, IsSome, refl, sym, ap, append_assoc, append-nil, arith}
use Rattle.std.specs.List.{list_any}
use Rattle.node.specs.declared.event.Event.{Event}
use Rattle.node.specs.declared.node_id.NodeId.{NodeId}
use Rattle.world_stations.specs.declared.step.Step.{Step}
use Rattle.world_stations.specs.declared.step.Step.TheVariants.{Deliver, Resend, Reconnect, Announce, Advance, Forget}
use Rattle.world_stations.specs.Kept.{is_forget}
use Rattle.recorder_search.specs.Motion.{Motion, after_all, IsEvent}
use Rattle.recorder_search.specs.Journals.{event_at, events_at, AreEvents}

pub after_push : {State : Type 0} (motion : Motion State) (state : State) (steps : List Step) (step : Step) →
    after_all motion state (steps ++ step ∷ []) ≡ motion.after (after_all motion state steps) step
after_push motion state [] step = refl
after_push motion state (s ∷ steps) step = after_push motion (motion.after state s) steps step

pub events_push : {State : Type 0} (motion : Motion State) (node : NodeId) (state : State) (steps : List Step) (step : Step) →
    events_at motion node state (steps ++ step ∷ [])
    ≡ events_at motion node state steps ++ event_at node (motion.occurrence (after_all motion state steps) step)
events_push motion node state [] step = append-nil (event_at node (motion.occurrence state step))
events_push motion node state (s ∷ steps) step =
    ap (λ r. event_at node (motion.occurrence state s) ++ r) (events_push motion node (motion.after state s) steps step)
    ∙ sym (append_assoc (event_at node (motion.occurrence state s)) (events_at motion node (motion.after state s) steps)
    (event_at node (motion.occurrence (after_all motion (motion.after state s) steps) step)))

pub each_push : {State : Type 0} (motion : Motion State) (state : State) (steps : List Step) (step : Step) →
    AreEvents motion state steps → IsSome (motion.occurrence (after_all motion state steps) step) → AreEvents motion state (steps ++ step ∷ [])
each_push motion state [] step each is = (is, tt)
each_push motion state (s ∷ steps) step each is = (each.0, each_push motion (motion.after state s) steps step each.1 is)

-- a step that is an event isn't to forget
pub no_forget : {State : Type 0} (motion : Motion State) (forgetting : (state : State) (federate : ℕ) → motion.occurrence state (Forget federate) ≡ None)
    (state : State) (step : Step) (node : NodeId) (event : Event) → IsEvent motion state step node event → is_forget step ≡ false
no_forget motion forgetting state (Deliver dir k) node event is = refl
no_forget motion forgetting state (Resend dir) node event is = refl
no_forget motion forgetting state (Reconnect dir) node event is = refl
no_forget motion forgetting state (Announce j) node event is = refl
no_forget motion forgetting state (Advance j) node event is = refl
no_forget motion forgetting state (Forget j) node event is = grind (arith, forgetting state j, is)

pub none_forgets_push : (steps : List Step) (step : Step) → list_any is_forget steps ≡ false → is_forget step ≡ false → list_any is_forget (steps ++ step ∷ []) ≡ false
none_forgets_push [] step none is = grind arith
none_forgets_push (s ∷ steps) step none is = grind (arith, none_forgets_push steps step)
