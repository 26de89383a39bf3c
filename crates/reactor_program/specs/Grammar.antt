-- How body lines are written: their syntax with names where a program has numbers, and the tokens that spell it.
use Rattle.std.specs.Prelude.{◌≡◌, ℕ, ℤ, ◌<◌, ◌^◌, ◌⊎◌, Bool, ◌||◌, List, [], ◌∷◌, ◌++◌, Option, None, Some, IsTrue}
use Rattle.std.specs.Prelude.{codes}
use Rattle.std.specs.Str.{bytes_eq}
use Rattle.tag_text.specs.Duration.{Spells}
use Rattle.reactor_program.specs.declared.program.Operator.{Operator}
use Rattle.reactor_program.specs.declared.program.Operator.TheVariants.{Plus, Minus, Times, Minimum, Maximum, Less}
use Rattle.reactor_program.specs.declared.program.Operator.TheVariants.{Equal}
use Rattle.reactor_program.specs.Tokens.{IsWholeNumber, number_in}
use Rattle.plan_names.specs.Spelling.{is_name}

-- an operand: a number, a state, or what is at a slot or whether something is, by name
pub data WrittenOperand : Type 0 where
  WrittenNumber : ℤ → WrittenOperand
  StateNamed : List ℕ → WrittenOperand
  ValueAt : List ℕ → WrittenOperand
  PresenceAt : List ℕ → WrittenOperand

-- an operand alone, or an operator between two
pub data WrittenExpression : Type 0 where
  Alone : WrittenOperand → WrittenExpression
  Combined : WrittenOperand → Operator → WrittenOperand → WrittenExpression

-- a state gets a value, an output gets one, or an action is scheduled after this many nanoseconds
pub data WrittenStatement : Type 0 where
  AssignTo : List ℕ → WrittenExpression → WrittenStatement
  OutputTo : List ℕ → WrittenOperand → WrittenStatement
  ScheduleAfter : List ℕ → ℕ → WrittenOperand → WrittenStatement

-- a statement, and the condition before it if there is one
pub record WrittenLine : Type 0 where
  pub condition : Option WrittenOperand
  pub statement : WrittenStatement

-- what may stand after `in.` and `has.`: a name, or `startup`
abbrev pub is_slot_name : List ℕ → Bool
is_slot_name x = is_name x || bytes_eq x (codes "startup")

-- `5`, `n`, `in.x`, `has.x`
abbrev pub SpellsOperand : WrittenOperand → List ℕ → Type 0
SpellsOperand (WrittenNumber n) token = IsWholeNumber token × (n ≡ number_in token)
SpellsOperand (StateNamed x) token = IsTrue (is_name x) × (token ≡ x)
SpellsOperand (ValueAt x) token = IsTrue (is_slot_name x) × (token ≡ codes "in." ++ x)
SpellsOperand (PresenceAt x) token = IsTrue (is_slot_name x) × (token ≡ codes "has." ++ x)

-- how an operator is written
abbrev pub operator_token : Operator → List ℕ
operator_token Plus = codes "+"
operator_token Minus = codes "-"
operator_token Times = codes "*"
operator_token Minimum = codes "min"
operator_token Maximum = codes "max"
operator_token Less = codes "<"
operator_token Equal = codes "=="

-- `A`, or `A OP B`
abbrev pub SpellsExpression : WrittenExpression → List (List ℕ) → Type 0
SpellsExpression (Alone a) tokens = (token : List ℕ) × (tokens ≡ token ∷ []) × SpellsOperand a token
SpellsExpression (Combined a operator b) tokens =
    (left right : List ℕ) × (tokens ≡ left ∷ operator_token operator ∷ right ∷ []) × SpellsOperand a left
    × SpellsOperand b right

-- a duration, in one token or in two
abbrev pub SpellsDuration : ℕ → List (List ℕ) → Type 0
SpellsDuration time tokens =
    ((text : List ℕ) × (tokens ≡ text ∷ []) × Spells text time)
    ⊎ ((number unit : List ℕ) × (tokens ≡ number ∷ unit ∷ []) × Spells (number ++ codes " " ++ unit) time)

-- `X = A`, `X = A OP B`, `out.P = A`, `schedule C D A`
abbrev pub SpellsStatement : WrittenStatement → List (List ℕ) → Type 0
SpellsStatement (AssignTo x expression) tokens =
    (rest : List (List ℕ)) × (tokens ≡ x ∷ codes "=" ∷ rest) × IsTrue (is_name x) × SpellsExpression expression rest
SpellsStatement (OutputTo p a) tokens =
    (token : List ℕ) × (tokens ≡ (codes "out." ++ p) ∷ codes "=" ∷ token ∷ []) × IsTrue (is_name p)
    × SpellsOperand a token
SpellsStatement (ScheduleAfter c time a) tokens =
    (duration : List (List ℕ)) × (token : List ℕ) × (tokens ≡ codes "schedule" ∷ c ∷ (duration ++ token ∷ []))
    × IsTrue (is_name c) × SpellsDuration time duration × (time < 2 ^ 62) × SpellsOperand a token

-- a statement alone, or `when A : S`
abbrev pub SpellsGuarded : Option WrittenOperand → WrittenStatement → List (List ℕ) → Type 0
SpellsGuarded None statement tokens = SpellsStatement statement tokens
SpellsGuarded (Some a) statement tokens =
    (token : List ℕ) × (rest : List (List ℕ)) × (tokens ≡ codes "when" ∷ token ∷ codes ":" ∷ rest)
    × SpellsOperand a token × SpellsStatement statement rest

-- a line: its statement, after its condition if it has one
abbrev pub SpellsLine : WrittenLine → List (List ℕ) → Type 0
SpellsLine line tokens = SpellsGuarded line.condition line.statement tokens
