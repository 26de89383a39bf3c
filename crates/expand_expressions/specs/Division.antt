-- The lines of a quotient or a remainder, bit by bit.
use Rattle.std.specs.Prelude.{ℕ, zero, suc, ◌+◌, ◌*◌, ◌^◌, ℤ, pos, neg_ℤ, ◌+ℤ◌, Bool, ◌&&◌, if◌then◌else◌}
use Rattle.std.specs.Prelude.{nat_le, nat_lt, int_lt, List, [], ◌∷◌, ◌++◌, None, Some, unsigned_abs}
use Rattle.std.specs.Ordering.{int_eq}
use Rattle.reactor_program.specs.declared.program.Operand.TheVariants.{Number, State}
use Rattle.reactor_program.specs.declared.program.Operator.TheVariants.{Plus, Minus, Times, Minimum, Less}
use Rattle.reactor_program.specs.declared.program.Expression.{Expression}
use Rattle.reactor_program.specs.declared.program.Expression.TheVariants.{Single, Binary}
use Rattle.reactor_program.specs.declared.program.Statement.TheVariants.{Assign}
use Rattle.reactor_program.specs.declared.program.Line.{Line}

-- a state gets a value
abbrev pub assigned : ℕ → Expression → Line
assigned state value = record { condition = None; statement = Assign state value }

-- a state gets a value where another state isn't 0
abbrev pub assigned_where : ℕ → ℕ → Expression → Line
assigned_where condition state value = record { condition = Some (State condition); statement = Assign state value }

-- its scratch states: what is divided, what is left of it, whether the next multiple is in it, and the quotient
abbrev pub rest_state : ℕ → ℕ
rest_state free = free + 1

abbrev pub more_state : ℕ → ℕ
more_state free = free + 2

abbrev pub quotient_state : ℕ → ℕ
quotient_state free = free + 3

-- all of the number is left, made negative; nothing is in the quotient
abbrev pub begun : ℕ → Bool → List Line
begun free is_quotient =
    assigned (rest_state free) (Binary (Number (pos 0)) Minus (State free))
    ∷ assigned (rest_state free) (Binary (State (rest_state free)) Minimum (State free))
    ∷ (if is_quotient then assigned (quotient_state free) (Single (Number (pos 0))) ∷ [] else [])

-- one multiple, which is below 0, is taken off where it is there
abbrev pub taken_off : ℕ → Bool → ℤ → ℤ → List Line
taken_off free is_quotient part weight =
    assigned (more_state free) (Binary (State (rest_state free)) Less (Number (part +ℤ pos 1)))
    ∷ assigned_where (more_state free) (rest_state free) (Binary (State (rest_state free)) Minus (Number part))
    ∷ (if is_quotient
    then assigned_where (more_state free) (quotient_state free)
    (Binary (State (quotient_state free)) Minus (Number weight)) ∷ []
    else [])

-- the multiple by this power of two, if it has 64 bits
abbrev pub bit_taken_off : ℕ → Bool → ℕ → ℕ → List Line
bit_taken_off free is_quotient size bit =
    if nat_le (size * 2 ^ bit) (2 ^ 63)
    then taken_off free is_quotient (neg_ℤ (pos (size * 2 ^ bit))) (pos (2 ^ bit))
    else []

-- the multiples by all powers of two below this one, from the highest on
unfoldable pub all_taken_off : ℕ → Bool → ℕ → ℕ → List Line
all_taken_off free is_quotient size zero = []
all_taken_off free is_quotient size (suc bit) =
    bit_taken_off free is_quotient size bit ++ all_taken_off free is_quotient size bit

-- the state in which it ends
abbrev pub answer_state : ℕ → Bool → ℕ
answer_state free is_quotient = if is_quotient then quotient_state free else rest_state free

-- the sign is set right: it is turned where the number is above 0, or below 0 for the quotient by a divisor below 0
abbrev pub turned : ℕ → Bool → Bool → List Line
turned free is_quotient is_lower =
    assigned (more_state free)
    (if is_quotient && is_lower
    then Binary (State free) Less (Number (pos 0))
    else Binary (Number (pos 0)) Less (State free))
    ∷ assigned_where (more_state free) (answer_state free is_quotient)
    (Binary (Number (pos 0)) Minus (State (answer_state free is_quotient)))
    ∷ []

-- by what a number is multiplied that is divided by -1, 0 or 1
abbrev pub factor : ℤ → Bool → ℤ
factor divisor is_quotient =
    if is_quotient then divisor else (if int_eq divisor (pos 0) then pos 1 else pos 0)

-- all lines of a division but the last operator, once the number is in its state
abbrev pub divided_lines : ℕ → Bool → ℤ → List Line
divided_lines free is_quotient divisor =
    if nat_lt (unsigned_abs divisor) 2 then []
    else begun free is_quotient
    ++ (all_taken_off free is_quotient (unsigned_abs divisor) 63 ++ turned free is_quotient (int_lt divisor (pos 0)))

-- the last operator
abbrev pub divided_last : ℕ → Bool → ℤ → Expression
divided_last free is_quotient divisor =
    if nat_lt (unsigned_abs divisor) 2 then Binary (State free) Times (Number (factor divisor is_quotient))
    else Binary (State (answer_state free is_quotient)) Plus (Number (pos 0))
