-- What the programs of a federation schedule.
use Rattle.std.proofs.Common.{ℕ, ◌<◌, ◌≤◌, ℤ, Bool, true, false, List, [], ◌∷◌, All, fold, Option, if◌then◌else◌}
use Rattle.std.proofs.lemmas.List.Elements.{All-nil, All-head, All-tail, All-push}
use Rattle.tag.specs.Total.{IsAfterDelay}
use Rattle.network.specs.Network.{Scheduling, Effect}
use Rattle.plan_slots.specs.Numbering.{first_action, first_physical}
use Rattle.reactor_program.specs.declared.program.Statement.{Statement}
use Rattle.reactor_program.specs.declared.program.Statement.TheVariants.{Assign, Output, Schedule}
use Rattle.reactor_program.specs.declared.program.Line.{Line}
use Rattle.reactor_program.specs.declared.program.Reaction.{Reaction}
use Rattle.reactor_program.specs.Behaviour.{Behaviour, HasStatement, HasLine, HasReaction, IsWellFormed}
use Rattle.reactor.specs.Effect.{operand_value, after_statement, is_done, after_line, is_triggered, after_reaction, effect_before, effect_of}

-- at an action's slot, after a time below 2^62
pub record IsAction (b : Behaviour) (s : Scheduling) : Type 0 where
  pub action : first_action b.slots ≤ s.slot
  pub no_physical : s.slot < first_physical b.slots
  pub delay : IsAfterDelay s.delay

abbrev SchedulesActions : Behaviour → Effect → Type 0
SchedulesActions b e = All (IsAction b) e.schedulings

after_each : {A : Type 0} (P : A → Type 0) (b : Behaviour) (f : Effect → A → Effect)
    → ((e : Effect) (x : A) → P x → SchedulesActions b e → SchedulesActions b (f e x))
    → (xs : List A) (e : Effect) → All P xs → SchedulesActions b e → SchedulesActions b (fold f e xs)
after_each P b f keeps [] e each so_far = so_far
after_each P b f keeps (x ∷ xs) e each so_far =
    after_each P b f keeps xs (f e x) (All-tail P x xs each) (keeps e x (All-head P x xs each) so_far)

statement_keeps : (b : Behaviour) (present : ℕ → Option ℤ) (e : Effect) (s : Statement) → HasStatement b s
    → SchedulesActions b e → SchedulesActions b (after_statement present e s)
statement_keeps b present e (Assign k x) has so_far = so_far
statement_keeps b present e (Output port a) has so_far = so_far
statement_keeps b present e (Schedule slot delay a) has so_far =
    All-push (IsAction b) e.schedulings (record { slot = slot; delay = delay; value = operand_value e.states present a }) so_far
    (record { action = has.0; no_physical = has.1; delay = has.2 })

line_keeps : (b : Behaviour) (present : ℕ → Option ℤ) (e : Effect) (line : Line) → HasLine b line
    → SchedulesActions b e → SchedulesActions b (after_line present e line)
line_keeps b present e line has so_far = chosen (is_done present e line.condition)
  where
    chosen : (t : Bool) → SchedulesActions b (if t then after_statement present e line.statement else e)
    chosen true = statement_keeps b present e line.statement has.1 so_far
    chosen false = so_far

reaction_keeps : (b : Behaviour) (present : ℕ → Option ℤ) (e : Effect) (r : Reaction) → HasReaction b r
    → SchedulesActions b e → SchedulesActions b (after_reaction present e r)
reaction_keeps b present e r has so_far = chosen (is_triggered present r)
  where
    chosen : (t : Bool) → SchedulesActions b (if t then fold (after_line present) e r.body else e)
    chosen true = after_each (HasLine b) b (after_line present) (line_keeps b present) r.body e has.1 so_far
    chosen false = so_far

pub schedules_actions : (b : Behaviour) (states : List ℤ) (present : ℕ → Option ℤ) → IsWellFormed b
    → All (IsAction b) (effect_of b states present).schedulings
schedules_actions b states present formed =
    after_each (HasReaction b) b (after_reaction present) (reaction_keeps b present) b.reactions (effect_before states) formed.reactions
    (All-nil (IsAction b))
