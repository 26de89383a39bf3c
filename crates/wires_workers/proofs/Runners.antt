-- The events of a runner.
use Rattle.std.proofs.Common.{ℕ, ◌≤◌, List, [], ◌∷◌, ◌++◌, refl}
use Rattle.node.specs.declared.event.Event.{Event}
use Rattle.node.specs.declared.event.Event.TheVariants.{Hello, Resend}
use Rattle.node_journal.specs.declared.slip.Slip.{Slip}
use Rattle.wires_workers.specs.declared.retry_state.Next.{Next}
use Rattle.wires_workers.specs.declared.retry_state.Next.TheVariants.{Turn, Wait, Repeat, End}
use Rattle.wires_workers.specs.declared.turns.TheConstants.{TURNS_AT_ONCE}
use Rattle.wires_workers.specs.HandedIn.{AreHandedIn, none, events_of_turns}
use Rattle.wires_workers.specs.Runner.{AreOf, AreOfRunner, begun, went_on}
use Rattle.wires_workers.proofs.SeveralEvents.{handed_in_then}

-- what a runner hands in where it makes turns, waits, greets and sends again, or ends
pub of_turns : (old new : List Slip) (made : ℕ) → made ≤ TURNS_AT_ONCE → AreHandedIn old (events_of_turns made) new →
    (events : List Event) × AreOf Turn events × AreHandedIn old events new
of_turns old new made most handed = (events_of_turns made, (made, most, refl), handed)

pub of_wait : (old : List Slip) → (events : List Event) × AreOf Wait events × AreHandedIn old events old
of_wait old = ([], refl, none)

pub of_repeat : (old new : List Slip) → AreHandedIn old (Hello 0 ∷ Resend 0 ∷ []) new → (events : List Event) × AreOf Repeat events × AreHandedIn old events new
of_repeat old new handed = (Hello 0 ∷ Resend 0 ∷ [], refl, handed)

pub of_end : (old : List Slip) → (events : List Event) × AreOf End events × AreHandedIn old events old
of_end old = ([], refl, none)

-- nothing so far
pub not_begun : (events : List Event) × AreOfRunner events × AreHandedIn [] events []
not_begun = ([], begun, none)

-- what it hands in where this comes next, behind all before
pub goes_on : (share new : List Slip) (next : Next) → (events : List Event) × AreOfRunner events × AreHandedIn [] events share →
    (events : List Event) × AreOf next events × AreHandedIn share events new → (events : List Event) × AreOfRunner events × AreHandedIn [] events new
goes_on share new next before more =
    (before.0 ++ more.0, went_on next more.0 before.1 more.1, handed_in_then [] share before.0 before.2 more.2)
