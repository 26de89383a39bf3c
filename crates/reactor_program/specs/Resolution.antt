-- What the names of a written line stand for: states, ports and slots by number.
use Rattle.std.specs.Prelude.{ℕ, pos, ◌+◌, not, ◌&&◌, if◌then◌else◌, List, ◌∷◌, ◌++◌, map, Option, None, Some, codes}
use Rattle.std.specs.Option.{option_map, option_and_then}
use Rattle.std.specs.Str.{bytes_eq}
use Rattle.tag.specs.LogicalTime.{delay_of}
use Rattle.plan_slots.specs.declared.slots.Slots.{Slots}
use Rattle.plan_names.specs.Naming.{place_of}
use Rattle.plan_slots.specs.Numbering.{timer_names, first_action, is_bare}
use Rattle.reactor_program.specs.declared.program.Operand.{Operand}
use Rattle.reactor_program.specs.declared.program.Operand.TheVariants.{Number, State, Value, Presence}
use Rattle.reactor_program.specs.declared.program.Expression.{Expression}
use Rattle.reactor_program.specs.declared.program.Expression.TheVariants.{Single, Binary}
use Rattle.reactor_program.specs.declared.program.Statement.{Statement}
use Rattle.reactor_program.specs.declared.program.Statement.TheVariants.{Assign, Output, Schedule}
use Rattle.reactor_program.specs.declared.program.Line.{Line}
use Rattle.reactor_program.specs.declared.program.State as StateOf
use Rattle.reactor_program.specs.Grammar.{WrittenOperand, WrittenNumber, StateNamed, ValueAt, PresenceAt}
use Rattle.reactor_program.specs.Grammar.{WrittenExpression, Alone, Combined, WrittenStatement, AssignTo, OutputTo}
use Rattle.reactor_program.specs.Grammar.{ScheduleAfter, WrittenLine}

-- the names of all slots, in their order
abbrev pub slot_names : Slots → List (List ℕ)
slot_names s = codes "startup" ∷ (s.inputs ++ timer_names s.timers ++ s.actions ++ s.physical)

-- the slot that a trigger names
abbrev pub trigger_slot : Slots → List ℕ → Option ℕ
trigger_slot s x = place_of (slot_names s) x

-- the slot that an operand names: `startup` only where the reactor has one
abbrev pub operand_slot : Slots → List ℕ → Option ℕ
operand_slot s x = if not s.startup && bytes_eq x (codes "startup") then None else trigger_slot s x

-- the names of states, in their order
abbrev pub state_names : List StateOf.State → List (List ℕ)
state_names states = map (λ s. s.name) states

-- the value at a slot; startup and timers have none, which reads as 0
abbrev pub value_at_slot : Slots → ℕ → Operand
value_at_slot s slot = if is_bare s slot then Number (pos 0) else Value slot

-- a written operand by numbers, where its name is there
abbrev pub operand_of : Slots → List StateOf.State → WrittenOperand → Option Operand
operand_of s states (WrittenNumber n) = Some (Number n)
operand_of s states (StateNamed x) = option_map State (place_of (state_names states) x)
operand_of s states (ValueAt x) = option_map (value_at_slot s) (operand_slot s x)
operand_of s states (PresenceAt x) = option_map Presence (operand_slot s x)

-- a written expression by numbers, where its names are there
abbrev pub expression_of : Slots → List StateOf.State → WrittenExpression → Option Expression
expression_of s states (Alone a) = option_map Single (operand_of s states a)
expression_of s states (Combined a operator b) =
    option_and_then (λ left. option_map (λ right. Binary left operator right) (operand_of s states b))
    (operand_of s states a)

-- a written statement by numbers, where its names are there
abbrev pub statement_of : Slots → List StateOf.State → WrittenStatement → Option Statement
statement_of s states (AssignTo x expression) =
    option_and_then (λ k. option_map (λ e. Assign k e) (expression_of s states expression))
    (place_of (state_names states) x)
statement_of s states (OutputTo p a) =
    option_and_then (λ port. option_map (λ value. Output port value) (operand_of s states a)) (place_of s.outputs p)
statement_of s states (ScheduleAfter c time a) =
    option_and_then
    (λ place. option_map (λ value. Schedule (first_action s + place) (delay_of time) value) (operand_of s states a))
    (place_of s.actions c)

-- a written condition by numbers, if there is one, where its name is there
abbrev pub condition_of : Slots → List StateOf.State → Option WrittenOperand → Option (Option Operand)
condition_of s states None = Some None
condition_of s states (Some a) = option_map Some (operand_of s states a)

-- a written line by numbers, where all its names are there
abbrev pub line_of : Slots → List StateOf.State → WrittenLine → Option Line
line_of s states line =
    option_and_then
    (λ condition. option_map (λ statement. record { condition = condition; statement = statement })
    (statement_of s states line.statement))
    (condition_of s states line.condition)
