-- The events that a runner hands in.
use Rattle.std.specs.Prelude.{◌≡◌, ◌≤◌, ℕ, List, [], ◌∷◌, ◌++◌}
use Rattle.node.specs.declared.event.Event.{Event}
use Rattle.node.specs.declared.event.Event.TheVariants.{Hello, Resend}
use Rattle.wires_workers.specs.declared.retry_state.Next.{Next}
use Rattle.wires_workers.specs.declared.retry_state.Next.TheVariants.{Turn, Wait, Repeat, End}
use Rattle.wires_workers.specs.declared.turns.TheConstants.{TURNS_AT_ONCE}
use Rattle.wires_workers.specs.HandedIn.{events_of_turns}

-- where this comes next: whole turns; nothing; or a greeting and then a resending, both for the node's one peer
abbrev pub AreOf : Next → List Event → Type 0
AreOf Turn events = (made : ℕ) × (made ≤ TURNS_AT_ONCE) × (events ≡ events_of_turns made)
AreOf Wait events = events ≡ []
AreOf Repeat events = events ≡ Hello 0 ∷ Resend 0 ∷ []
AreOf End events = events ≡ []

-- all events of a runner: those of what came next, one after the other
pub data AreOfRunner : List Event → Type 0 where
  begun : AreOfRunner []
  went_on : {events : List Event} (next : Next) (more : List Event) → AreOfRunner events → AreOf next more →
      AreOfRunner (events ++ more)
