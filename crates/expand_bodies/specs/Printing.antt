-- How body lines are printed.
use Rattle.std.specs.Prelude.{ℕ, ◌-◌, ◌^◌, List, [], ◌++◌, length, codes, Option, None, Some, if◌then◌else◌}
use Rattle.std.specs.Prelude.{nat_lt, slice_get, unwrap_or}
use Rattle.std.specs.Fmt.{signed_decimal}
use Rattle.tag.specs.LogicalTime.{LogicalTime}
use Rattle.tag.specs.Printed.{printed_time}
use Rattle.reactor_program.specs.declared.program.Operand.{Operand}
use Rattle.reactor_program.specs.declared.program.Operand.TheVariants.{Number, State, Value, Presence}
use Rattle.reactor_program.specs.declared.program.Expression.{Expression}
use Rattle.reactor_program.specs.declared.program.Expression.TheVariants.{Single, Binary}
use Rattle.reactor_program.specs.declared.program.Statement.{Statement}
use Rattle.reactor_program.specs.declared.program.Statement.TheVariants.{Assign, Output, Schedule}
use Rattle.reactor_program.specs.declared.program.Line.{Line}
use Rattle.reactor_program.specs.Grammar.{operator_token}
use Rattle.expand_bodies.specs.declared.names.BodyNames.{BodyNames}

-- nothing where there is no such name
abbrev pub name_at : List (List ℕ) → ℕ → List ℕ
name_at names place = unwrap_or (slice_get names place) []

-- the federate's own states come first, then scratch states
abbrev pub state_name : BodyNames → List (List ℕ) → ℕ → List ℕ
state_name names scratch state =
    if nat_lt state (length names.states) then name_at names.states state
    else name_at scratch (state - length names.states)

abbrev pub printed_operand : BodyNames → List (List ℕ) → Operand → List ℕ
printed_operand names scratch (Number n) = signed_decimal n
printed_operand names scratch (State k) = state_name names scratch k
printed_operand names scratch (Value slot) = codes "in." ++ name_at names.readable slot
printed_operand names scratch (Presence slot) = codes "has." ++ name_at names.readable slot

abbrev pub printed_expression : BodyNames → List (List ℕ) → Expression → List ℕ
printed_expression names scratch (Single a) = printed_operand names scratch a
printed_expression names scratch (Binary a operator b) =
    printed_operand names scratch a
    ++ (codes " " ++ (operator_token operator ++ (codes " " ++ printed_operand names scratch b)))

-- a time, and a space behind it; FOREVER, which no line has, is none
abbrev pub printed_delay : LogicalTime → List ℕ
printed_delay delay = if nat_lt delay.time (2 ^ 62) then printed_time delay.time ++ codes " " else []

abbrev pub printed_statement : BodyNames → List (List ℕ) → Statement → List ℕ
printed_statement names scratch (Assign state x) =
    state_name names scratch state ++ (codes " = " ++ printed_expression names scratch x)
printed_statement names scratch (Output port a) =
    codes "out." ++ (name_at names.outputs port ++ (codes " = " ++ printed_operand names scratch a))
printed_statement names scratch (Schedule slot delay a) =
    codes "schedule "
    ++ (name_at names.readable slot ++ (codes " " ++ (printed_delay delay ++ printed_operand names scratch a)))

abbrev pub printed_condition : BodyNames → List (List ℕ) → Option Operand → List ℕ
printed_condition names scratch None = []
printed_condition names scratch (Some a) = codes "when " ++ (printed_operand names scratch a ++ codes " : ")

abbrev pub printed_line : BodyNames → List (List ℕ) → Line → List ℕ
printed_line names scratch line =
    printed_condition names scratch line.condition ++ printed_statement names scratch line.statement
