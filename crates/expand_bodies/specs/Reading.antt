-- Which body lines spell.
use Rattle.std.specs.Prelude.{◌≡◌, ℕ, ◌+◌, ◌<◌, ◌^◌, ◌⊎◌, not, List, [], ◌∷◌, ◌++◌, length, map, Option, None}
use Rattle.std.specs.Prelude.{Some, codes, IsTrue, Box}
use Rattle.std.specs.List.{list_all}
use Rattle.std.specs.Borrow.{Bor}
use Rattle.std.specs.declared.alloc.Global.{Global}
use Rattle.tag.specs.LogicalTime.{delay_of}
use Rattle.tag_text.specs.Duration.{Spells}
use Rattle.plan_names.specs.Naming.{place_of}
use Rattle.plan_names.specs.Spelling.{is_name}
use Rattle.reactor_program.specs.declared.program.Operand.{Operand}
use Rattle.reactor_program.specs.declared.program.Operand.TheVariants.{Number, State, Value, Presence}
use Rattle.reactor_program.specs.Tokens.{is_space}
use Rattle.expand_expressions.specs.declared.formula.Formula.{Formula}
use Rattle.expand_expressions.specs.declared.formula.Formula.TheVariants.{Leaf, Combined'}
use Rattle.expand_expressions.specs.declared.known.NamedOperand.{NamedOperand}
use Rattle.expand_expressions.specs.Words.{IsBehindSpaces}
use Rattle.expand_expressions.specs.Reading.{operand_named, IsCallText, Reads}
use Rattle.expand_bodies.specs.declared.block.Target.{Target}
use Rattle.expand_bodies.specs.declared.block.Target.TheVariants.{ToState, ToOutput, ToAction}
use Rattle.expand_bodies.specs.declared.block.Block.{Block}
use Rattle.expand_bodies.specs.declared.block.Block.TheVariants.{End, Do', When', Let', If', IfElse'}
use Rattle.expand_bodies.specs.declared.form.Deed.{Deed}
use Rattle.expand_bodies.specs.declared.form.Deed.TheVariants.{Assign, Output, Schedule}
use Rattle.expand_bodies.specs.declared.names.BodyNames.{BodyNames}
use Rattle.expand_bodies.specs.declared.names.Constant.{Constant}
use Rattle.expand_bodies.specs.declared.reading.Ending.{Ending}
use Rattle.expand_bodies.specs.declared.reading.Ending.TheVariants as ending
use Rattle.expand_bodies.specs.Forms.{IsWordBefore, IsLetLine, IsAlone, IsWhenLine, IsStatement}

-- how many lines what ends a block has
abbrev pub lines_of : Ending → ℕ
lines_of ending.Last = 0
lines_of _ = 1

-- states by name, from this number on
abbrev pub states_named : ℕ → List (List ℕ) → List NamedOperand
states_named number [] = []
states_named number (name ∷ names) =
    record { name = name; operand = State number } ∷ states_named (number + 1) names

abbrev pub constant_named : Constant → NamedOperand
constant_named c = record { name = c.name; operand = Number c.value }

-- the names that stand by themselves
abbrev pub operands_of : BodyNames → List NamedOperand
operands_of names = states_named 0 names.states ++ map constant_named names.constants.items

-- a part without spaces, with any in front of it, and what follows
abbrev pub IsPartBefore : List ℕ → List ℕ → List ℕ → Type 0
IsPartBefore text part rest = IsBehindSpaces text (part ++ rest) × IsTrue (list_all (λ c. not (is_space c)) part)

-- `A min B` or `A max B`, of which A and B are written without spaces
abbrev pub ReadsBetween : List NamedOperand → List (List ℕ) → List ℕ → Formula → Type 0
ReadsBetween operands readable text (Combined' p x combination q y) =
    (left word rest right : List ℕ) × IsPartBefore text left rest × IsPartBefore rest word right
    × IsCallText combination word × Reads operands readable left x × Reads operands readable right y
ReadsBetween operands readable text formula = ⊥

-- a value, or a condition
abbrev pub ReadsValue : List NamedOperand → List (List ℕ) → List ℕ → Formula → Type 0
ReadsValue operands readable text formula =
    Reads operands readable text formula ⊎ ReadsBetween operands readable text formula

-- a duration of this many nanoseconds, and a value behind it
abbrev pub IsTimed : List ℕ → ℕ → List ℕ → Type 0
IsTimed text time value =
    (front behind : List ℕ) × (text ≡ front ++ value) × IsBehindSpaces front behind × Spells behind time
    × (time < 2 ^ 62)

-- where a statement's value goes, and the value
abbrev pub IsDeed : BodyNames → List NamedOperand → Deed → Target → Formula → Type 0
IsDeed names operands (Assign state value) (ToState k) formula =
    (place_of names.states state.now ≡ Some k) × ReadsValue operands names.readable value.now formula
IsDeed names operands (Output port value) (ToOutput k) formula =
    (place_of names.outputs port.now ≡ Some k) × ReadsValue operands names.readable value.now formula
IsDeed names operands (Schedule action rest) (ToAction slot delay) formula =
    (place time : ℕ) × (value : List ℕ) × (place_of names.actions action.now ≡ Some place)
    × (place_of names.readable action.now ≡ Some slot) × IsTimed rest.now time value × (delay ≡ delay_of time)
    × ReadsValue operands names.readable value formula
IsDeed names operands deed target formula = ⊥

-- an operand that has one value in all of a turn
abbrev pub unchanging_operand : Operand → Option Operand
unchanging_operand (Number n) = Some (Number n)
unchanging_operand (State k) = None
unchanging_operand (Value slot) = Some (Value slot)
unchanging_operand (Presence slot) = Some (Presence slot)

abbrev pub unchanging : Formula → Option Operand
unchanging (Leaf a) = unchanging_operand a
unchanging formula = None

-- a name that nothing has yet
abbrev pub IsNew : List NamedOperand → List ℕ → Type 0
IsNew operands name = IsTrue (is_name name) × (operand_named operands name ≡ None)

-- what a block begins with, and the rest
abbrev pub IsDo : Block → Target → Formula → Block → Type 0
IsDo (Do' place target' x p rest') target formula rest = (target' ≡ target) × (x ≡ formula) × (rest' ≡ rest)
IsDo block target formula rest = ⊥

abbrev pub IsWhen : Block → Formula → Target → Formula → Block → Type 0
IsWhen (When' place c target' x p rest') condition target formula rest =
    (c ≡ condition) × (target' ≡ target) × (x ≡ formula) × (rest' ≡ rest)
IsWhen block condition target formula rest = ⊥

abbrev pub IsLet : Block → Formula → Block → Type 0
IsLet (Let' place x p rest') formula rest = (x ≡ formula) × (rest' ≡ rest)
IsLet block formula rest = ⊥

abbrev pub IsIf : Block → Formula → Block → Option Block → Block → Type 0
IsIf (If' place c p first' q rest') condition first None rest = (c ≡ condition) × (first' ≡ first) × (rest' ≡ rest)
IsIf (IfElse' place c p first' q second' r rest') condition first (Some second) rest =
    (c ≡ condition) × (first' ≡ first) × (second' ≡ second) × (rest' ≡ rest)
IsIf block condition first second rest = ⊥

-- the other branch, if there is any
abbrev pub unboxed : Option (Box Block Global) → Option Block
unboxed None = None
unboxed (Some block) = Some block.value

mutual
  -- Lines from the front, where these names stand by themselves and states from this one on are free: a block, what
  -- ends it, and the lines behind that.
  pub data ReadsBlock (names : BodyNames) : List NamedOperand → ℕ → List (List ℕ) → Block → Ending → List (List ℕ)
      → Type 0 where
    body_ends : {operands : List NamedOperand} {free : ℕ} → ReadsBlock names operands free [] End ending.Last []
    elif_next : {operands : List NamedOperand} {free : ℕ} {line : List ℕ} {new : List (List ℕ)}
        (condition : Bor (List ℕ)) → IsWordBefore line (codes "elif") condition.now
        → ReadsBlock names operands free (line ∷ new) End (ending.Elif condition) new
    else_next : {operands : List NamedOperand} {free : ℕ} {line : List ℕ} {new : List (List ℕ)}
        → IsAlone line (codes "else") → ReadsBlock names operands free (line ∷ new) End ending.Else new
    end_next : {operands : List NamedOperand} {free : ℕ} {line : List ℕ} {new : List (List ℕ)}
        → IsAlone line (codes "end") → ReadsBlock names operands free (line ∷ new) End ending.End new
    statement : {operands : List NamedOperand} {free : ℕ} {line : List ℕ} {lines new : List (List ℕ)}
        {rest : Block} {ends : Ending} (deed : Deed) (target : Target) (formula : Formula) (block : Block)
        → IsStatement line deed → IsDeed names operands deed target formula
        → ReadsBlock names operands free lines rest ends new → IsDo block target formula rest
        → ReadsBlock names operands free (line ∷ lines) block ends new
    guarded : {operands : List NamedOperand} {free : ℕ} {line : List ℕ} {lines new : List (List ℕ)}
        {rest : Block} {ends : Ending} (condition : List ℕ) (deed : Deed) (asked : Formula) (target : Target)
        (formula : Formula) (block : Block) → IsWhenLine line condition deed
        → ReadsValue operands names.readable condition asked → IsDeed names operands deed target formula
        → ReadsBlock names operands free lines rest ends new → IsWhen block asked target formula rest
        → ReadsBlock names operands free (line ∷ lines) block ends new
    -- a name for what can't change is that
    known_let : {operands : List NamedOperand} {free : ℕ} {line : List ℕ} {lines new : List (List ℕ)}
        {block : Block} {ends : Ending} (name value : List ℕ) (formula : Formula) (operand : Operand)
        → IsLetLine line name value → IsNew operands name
        → ReadsValue operands names.readable value formula → unchanging formula ≡ Some operand
        → ReadsBlock names (operands ++ record { name = name; operand = operand } ∷ []) free lines block ends new
        → ReadsBlock names operands free (line ∷ lines) block ends new
    -- and else the first free state
    state_let : {operands : List NamedOperand} {free : ℕ} {line : List ℕ} {lines new : List (List ℕ)}
        {rest : Block} {ends : Ending} (name value : List ℕ) (formula : Formula) (block : Block)
        → IsLetLine line name value → IsNew operands name
        → ReadsValue operands names.readable value formula → unchanging formula ≡ None
        → ReadsBlock names (operands ++ record { name = name; operand = State free } ∷ []) (free + 1) lines rest
        ends new → IsLet block formula rest → ReadsBlock names operands free (line ∷ lines) block ends new
    branching : {operands : List NamedOperand} {free : ℕ} {line : List ℕ} {lines mid new : List (List ℕ)}
        {rest first : Block} {second : Option Block} {ends : Ending} (condition : List ℕ) (asked : Formula)
        (block : Block) → IsWordBefore line (codes "if") condition
        → ReadsValue operands names.readable condition asked
        → ReadsBranches names operands free lines first second mid → ReadsBlock names operands free mid rest ends new
        → IsIf block asked first second rest → ReadsBlock names operands free (line ∷ lines) block ends new

  -- What stands behind an `if` or an `elif`: the branch, the other one if there is any, and the lines behind their
  -- `end`. The first free state is theirs.
  pub data ReadsBranches (names : BodyNames) : List NamedOperand → ℕ → List (List ℕ) → Block → Option Block
      → List (List ℕ) → Type 0 where
    one_branch : {operands : List NamedOperand} {free : ℕ} {lines new : List (List ℕ)} {first : Block}
        → ReadsBlock names operands (free + 1) lines first ending.End new
        → ReadsBranches names operands free lines first None new
    two_branches : {operands : List NamedOperand} {free : ℕ} {lines mid new : List (List ℕ)} {first second : Block}
        → ReadsBlock names operands (free + 1) lines first ending.Else mid
        → ReadsBlock names operands (free + 1) mid second ending.End new
        → ReadsBranches names operands free lines first (Some second) new
    -- `elif` is an `if` within `else`
    more_branches : {operands : List NamedOperand} {free : ℕ} {lines mid new : List (List ℕ)}
        {first inner_first : Block} {inner_second : Option Block} (condition : Bor (List ℕ)) (asked : Formula)
        (second : Block)
        → ReadsBlock names operands (free + 1) lines first (ending.Elif condition) mid
        → ReadsValue operands names.readable condition.now asked
        → ReadsBranches names operands (free + 1) mid inner_first inner_second new
        → IsIf second asked inner_first inner_second End
        → ReadsBranches names operands free lines first (Some second) new

-- the lines of a body are this block
abbrev pub ReadsBody : BodyNames → List (List ℕ) → Block → Type 0
ReadsBody names lines block = ReadsBlock names (operands_of names) (length names.states) lines block ending.Last []
