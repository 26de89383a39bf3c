-- What lines are read as sets the federate's own states alone, and reads no free state.
use Rattle.std.proofs.Common.{◌≡◌, ℕ, ◌+◌, ◌<◌, ◌≤◌, inl, inr, List, [], ◌∷◌, ◌++◌, length, All, map, Option, None, Some, sym, subst, arith, w64, FitsSigned}
use Rattle.std.proofs.lemmas.List.Elements.{All-nil, All-cons, All-append, All-head, All-tail}
use Rattle.std.proofs.lemmas.Option.{slice_get_within}
use Rattle.plan_names.proofs.Places.{slice_get-place_of}
use Rattle.reactor_program.specs.declared.program.Operand.{Operand}
use Rattle.reactor_program.specs.declared.program.Operand.TheVariants.{Number, State, Value, Presence}
use Rattle.expand_expressions.specs.declared.formula.Formula.{Formula}
use Rattle.expand_expressions.specs.declared.formula.Formula.TheVariants.{Leaf, Negative', Not', Combined', Quotient', Remainder'}
use Rattle.expand_expressions.specs.declared.known.NamedOperand.{NamedOperand}
use Rattle.expand_expressions.specs.Meaning.{IsReadable, IsOperandReadable, IsOperandBelow}
use Rattle.expand_expressions.specs.Reading.{AreReadable}
use Rattle.expand_expressions.proofs.Readable.{read_readable}
use Rattle.expand_bodies.specs.declared.block.Block.{Block}
use Rattle.expand_bodies.specs.declared.block.Block.TheVariants.{End, Do', When', Let', If', IfElse'}
use Rattle.expand_bodies.specs.declared.block.Target.{Target}
use Rattle.expand_bodies.specs.declared.block.Target.TheVariants.{ToState, ToOutput, ToAction}
use Rattle.expand_bodies.specs.declared.form.Deed.{Deed}
use Rattle.expand_bodies.specs.declared.form.Deed.TheVariants.{Assign, Output, Schedule}
use Rattle.expand_bodies.specs.declared.names.BodyNames.{BodyNames}
use Rattle.expand_bodies.specs.declared.names.Constant.{Constant}
use Rattle.expand_bodies.specs.declared.reading.Ending.{Ending}
use Rattle.expand_bodies.specs.Body.{IsOwn, IsProper}
use Rattle.expand_bodies.specs.Reading.{states_named, constant_named, operands_of, ReadsBetween, ReadsValue, IsDeed, unchanging_operand, unchanging, IsDo, IsWhen, IsLet, IsIf, ReadsBlock, ReadsBranches, ReadsBody, body_ends, elif_next, else_next, end_next, statement, guarded, known_let, state_let, branching, one_branch, two_branches, more_branches}

some_is : {X : Type 0} (x y : X) → Some x ≡ Some y → x ≡ y
some_is x y is = cc

-- one more state isn't free
operand_below : (free : ℕ) (a : Operand) → IsOperandBelow free a → IsOperandBelow (free + 1) a
operand_below free (Number n) h = tt
operand_below free (State k) h = omega (arith, h)
operand_below free (Value slot) h = tt
operand_below free (Presence slot) h = tt

next_readable : (free : ℕ) (operands : List NamedOperand) → AreReadable free operands → AreReadable (free + 1) operands
next_readable free [] all = All-nil (λ k. IsOperandReadable (free + 1) k.operand)
next_readable free (known ∷ rest) all =
    let here = All-head (λ k. IsOperandReadable free k.operand) known rest all in
    All-cons (λ k. IsOperandReadable (free + 1) k.operand) known rest (operand_below free known.operand here.0, here.1)
    (next_readable free rest (All-tail (λ k. IsOperandReadable free k.operand) known rest all))

one_readable : (free : ℕ) (operands : List NamedOperand) (name : List ℕ) (a : Operand) → AreReadable free operands → IsOperandReadable free a → AreReadable free (operands ++ record { name = name; operand = a } ∷ [])
one_readable free operands name a all here =
    let last : NamedOperand = record { name = name; operand = a } in
    All-append (λ k. IsOperandReadable free k.operand) operands (last ∷ []) all
    (All-cons (λ k. IsOperandReadable free k.operand) last [] here (All-nil (λ k. IsOperandReadable free k.operand)))

-- the federate's own states, and constants
states_readable : (own number : ℕ) (names : List (List ℕ)) → number + length names ≤ own → AreReadable own (states_named number names)
states_readable own number [] within = All-nil (λ k. IsOperandReadable own k.operand)
states_readable own number (name ∷ names) within =
    let below : number < own = omega (arith, within) in
    let behind : number + 1 + length names ≤ own = omega (arith, within) in
    All-cons (λ k. IsOperandReadable own k.operand) (record { name = name; operand = State number }) (states_named (number + 1) names) (below, tt)
    (states_readable own (number + 1) names behind)

constants_readable : (own : ℕ) (constants : List Constant) → All (λ c. FitsSigned w64 c.value) constants → AreReadable own (map constant_named constants)
constants_readable own [] all = All-nil (λ k. IsOperandReadable own k.operand)
constants_readable own (constant ∷ rest) all =
    All-cons (λ k. IsOperandReadable own k.operand) (constant_named constant) (map constant_named rest)
    (tt, All-head (λ c. FitsSigned w64 c.value) constant rest all) (constants_readable own rest (All-tail (λ c. FitsSigned w64 c.value) constant rest all))

operands_readable : (names : BodyNames) → All (λ c. FitsSigned w64 c.value) names.constants.items → AreReadable (length names.states) (operands_of names)
operands_readable names fit =
    let own = length names.states in
    let within : 0 + length names.states ≤ own = omega arith in
    All-append (λ k. IsOperandReadable own k.operand) (states_named 0 names.states) (map constant_named names.constants.items)
    (states_readable own 0 names.states within) (constants_readable own names.constants.items fit)

-- values
between_readable : (free : ℕ) (operands : List NamedOperand) (readable : List (List ℕ)) (text : List ℕ) (formula : Formula) → AreReadable free operands → ReadsBetween operands readable text formula → IsReadable free formula
between_readable free operands readable text (Combined' p x c q y) all h =
    let left = read_readable operands readable h.0 x free h.7 all in
    let right = read_readable operands readable h.3 y free h.8 all in
    ((left.0, right.0), (left.1, right.1))
between_readable free operands readable text (Leaf a) all h = elim h [ ]
between_readable free operands readable text (Negative' p x) all h = elim h [ ]
between_readable free operands readable text (Not' p x) all h = elim h [ ]
between_readable free operands readable text (Quotient' p x d) all h = elim h [ ]
between_readable free operands readable text (Remainder' p x d) all h = elim h [ ]

value_readable : (free : ℕ) (operands : List NamedOperand) (readable : List (List ℕ)) (text : List ℕ) (formula : Formula) → AreReadable free operands → ReadsValue operands readable text formula → IsReadable free formula
value_readable free operands readable text formula all (inl h) = read_readable operands readable text formula free h all
value_readable free operands readable text formula all (inr h) = between_readable free operands readable text formula all h

unchanging_step : (free : ℕ) (operand a : Operand) → unchanging_operand operand ≡ Some a → IsOperandReadable free operand → IsOperandReadable free a
unchanging_step free (Number n) a is h = subst (λ a. IsOperandReadable free a) (some_is (Number n) a is) h
unchanging_step free (State k) a is h = absurd cc
unchanging_step free (Value slot) a is h = subst (λ a. IsOperandReadable free a) (some_is (Value slot) a is) h
unchanging_step free (Presence slot) a is h = subst (λ a. IsOperandReadable free a) (some_is (Presence slot) a is) h

unchanging_readable : (free : ℕ) (formula : Formula) (a : Operand) → unchanging formula ≡ Some a → IsReadable free formula → IsOperandReadable free a
unchanging_readable free (Leaf operand) a is h = unchanging_step free operand a is h
unchanging_readable free (Negative' p x) a is h = absurd cc
unchanging_readable free (Not' p x) a is h = absurd cc
unchanging_readable free (Combined' p x c q y) a is h = absurd cc
unchanging_readable free (Quotient' p x d) a is h = absurd cc
unchanging_readable free (Remainder' p x d) a is h = absurd cc

-- statements
deed_good : (names : BodyNames) (free : ℕ) (operands : List NamedOperand) (deed : Deed) (target : Target) (formula : Formula) → AreReadable free operands → IsDeed names operands deed target formula →
    IsOwn (length names.states) target × IsReadable free formula
deed_good names free operands (Assign state value) (ToState k) formula all h =
    (slice_get_within names.states k state.now (slice_get-place_of names.states state.now k h.0), value_readable free operands names.readable value.now formula all h.1)
deed_good names free operands (Output port value) (ToOutput k) formula all h = (tt, value_readable free operands names.readable value.now formula all h.1)
deed_good names free operands (Schedule action rest) (ToAction slot delay) formula all h = (tt, value_readable free operands names.readable h.2 formula all h.7)
deed_good names free operands (Assign state value) (ToOutput k) formula all h = elim h [ ]
deed_good names free operands (Assign state value) (ToAction slot delay) formula all h = elim h [ ]
deed_good names free operands (Output port value) (ToState k) formula all h = elim h [ ]
deed_good names free operands (Output port value) (ToAction slot delay) formula all h = elim h [ ]
deed_good names free operands (Schedule action rest) (ToState k) formula all h = elim h [ ]
deed_good names free operands (Schedule action rest) (ToOutput k) formula all h = elim h [ ]

-- what a block begins with
do_proper : (own free : ℕ) (block : Block) (target : Target) (formula : Formula) (rest : Block) → IsDo block target formula rest → IsOwn own target → IsReadable free formula → IsProper own free rest → IsProper own free block
do_proper own free (Do' place t x p r) target formula rest is a b c =
    (subst (λ t. IsOwn own t) (sym is.0) a, subst (λ x. IsReadable free x) (sym is.1) b, subst (λ r. IsProper own free r) (sym is.2) c)
do_proper own free End target formula rest is a b c = elim is [ ]
do_proper own free (When' place d t x p r) target formula rest is a b c = elim is [ ]
do_proper own free (Let' place x p r) target formula rest is a b c = elim is [ ]
do_proper own free (If' place d p y q r) target formula rest is a b c = elim is [ ]
do_proper own free (IfElse' place d p y q n s r) target formula rest is a b c = elim is [ ]

when_proper : (own free : ℕ) (block : Block) (condition : Formula) (target : Target) (formula : Formula) (rest : Block) → IsWhen block condition target formula rest → IsReadable free condition → IsOwn own target → IsReadable free formula →
    IsProper own free rest → IsProper own free block
when_proper own free (When' place d t x p r) condition target formula rest is asked a b c =
    (subst (λ x. IsReadable free x) (sym is.0) asked, subst (λ t. IsOwn own t) (sym is.1) a, subst (λ x. IsReadable free x) (sym is.2) b, subst (λ r. IsProper own free r) (sym is.3) c)
when_proper own free (Do' place t x p r) condition target formula rest is asked a b c = elim is [ ]
when_proper own free End condition target formula rest is asked a b c = elim is [ ]
when_proper own free (Let' place x p r) condition target formula rest is asked a b c = elim is [ ]
when_proper own free (If' place d p y q r) condition target formula rest is asked a b c = elim is [ ]
when_proper own free (IfElse' place d p y q n s r) condition target formula rest is asked a b c = elim is [ ]

let_proper : (own free : ℕ) (block : Block) (formula : Formula) (rest : Block) → IsLet block formula rest → IsReadable free formula → IsProper own (free + 1) rest → IsProper own free block
let_proper own free (Let' place x p r) formula rest is b c = (subst (λ x. IsReadable free x) (sym is.0) b, subst (λ r. IsProper own (free + 1) r) (sym is.1) c)
let_proper own free (Do' place t x p r) formula rest is b c = elim is [ ]
let_proper own free (When' place d t x p r) formula rest is b c = elim is [ ]
let_proper own free End formula rest is b c = elim is [ ]
let_proper own free (If' place d p y q r) formula rest is b c = elim is [ ]
let_proper own free (IfElse' place d p y q n s r) formula rest is b c = elim is [ ]

-- both branches, where there are two
abbrev AreProper : ℕ → ℕ → Block → Option Block → Type 0
AreProper own free first None = IsProper own free first
AreProper own free first (Some second) = IsProper own free first × IsProper own free second

if_proper : (own free : ℕ) (block : Block) (condition : Formula) (first : Block) (second : Option Block) (rest : Block) → IsIf block condition first second rest → IsReadable free condition → AreProper own (free + 1) first second → IsProper own free rest →
    IsProper own free block
if_proper own free (If' place d p y q r) condition first None rest is asked a c =
    (subst (λ x. IsReadable free x) (sym is.0) asked, subst (λ y. IsProper own (free + 1) y) (sym is.1) a, subst (λ r. IsProper own free r) (sym is.2) c)
if_proper own free (IfElse' place d p y q n s r) condition first (Some second) rest is asked a c =
    (subst (λ x. IsReadable free x) (sym is.0) asked, subst (λ y. IsProper own (free + 1) y) (sym is.1) a.0, subst (λ n. IsProper own (free + 1) n) (sym is.2) a.1, subst (λ r. IsProper own free r) (sym is.3) c)
if_proper own free (If' place d p y q r) condition first (Some second) rest is asked a c = elim is [ ]
if_proper own free (IfElse' place d p y q n s r) condition first None rest is asked a c = elim is [ ]
if_proper own free (Do' place t x p r) condition first second rest is asked a c = elim is [ ]
if_proper own free (When' place d t x p r) condition first second rest is asked a c = elim is [ ]
if_proper own free (Let' place x p r) condition first second rest is asked a c = elim is [ ]
if_proper own free End condition first second rest is asked a c = elim is [ ]

mutual
  block_proper : (names : BodyNames) {operands : List NamedOperand} {free : ℕ} {lines : List (List ℕ)} {block : Block} {ends : Ending} {new : List (List ℕ)} → ReadsBlock names operands free lines block ends new → AreReadable free operands →
      IsProper (length names.states) free block
  block_proper names body_ends all = tt
  block_proper names (elif_next condition is) all = tt
  block_proper names (else_next is) all = tt
  block_proper names (end_next is) all = tt
  block_proper names {operands} {free} (statement {rest = rest} deed target formula block line is h begins) all =
      let good = deed_good names free operands deed target formula all is in
      do_proper (length names.states) free block target formula rest begins good.0 good.1 (block_proper names h all)
  block_proper names {operands} {free} (guarded {rest = rest} condition deed asked target formula block line reads is h begins) all =
      let good = deed_good names free operands deed target formula all is in
      when_proper (length names.states) free block asked target formula rest begins (value_readable free operands names.readable condition asked all reads) good.0 good.1 (block_proper names h all)
  block_proper names {operands} {free} (known_let name value formula operand line new reads is h) all =
      block_proper names h (one_readable free operands name operand all (unchanging_readable free formula operand is (value_readable free operands names.readable value formula all reads)))
  block_proper names {operands} {free} (state_let {rest = rest} name value formula block line new reads is h begins) all =
      let below : free < free + 1 = omega arith in
      let_proper (length names.states) free block formula rest begins (value_readable free operands names.readable value formula all reads)
      (block_proper names h (one_readable (free + 1) operands name (State free) (next_readable free operands all) (below, tt)))
  block_proper names {operands} {free} (branching {rest = rest} {first = first} {second = second} condition asked block line reads h g begins) all =
      if_proper (length names.states) free block asked first second rest begins (value_readable free operands names.readable condition asked all reads) (branches_proper names h all) (block_proper names g all)

  branches_proper : (names : BodyNames) {operands : List NamedOperand} {free : ℕ} {lines : List (List ℕ)} {first : Block} {second : Option Block} {new : List (List ℕ)} → ReadsBranches names operands free lines first second new → AreReadable free operands →
      AreProper (length names.states) (free + 1) first second
  branches_proper names {operands} {free} (one_branch h) all = block_proper names h (next_readable free operands all)
  branches_proper names {operands} {free} (two_branches h g) all = (block_proper names h (next_readable free operands all), block_proper names g (next_readable free operands all))
  branches_proper names {operands} {free} (more_branches {inner_first = inner_first} {inner_second = inner_second} condition asked second h reads g begins) all =
      let next = next_readable free operands all in
      (block_proper names h next, if_proper (length names.states) (free + 1) second asked inner_first inner_second End begins (value_readable (free + 1) operands names.readable condition.now asked next reads) (branches_proper names g next) tt)

pub read_proper : (names : BodyNames) (lines : List (List ℕ)) (block : Block) → ReadsBody names lines block → All (λ c. FitsSigned w64 c.value) names.constants.items → IsProper (length names.states) (length names.states) block
read_proper names lines block h fit = block_proper names h (operands_readable names fit)
