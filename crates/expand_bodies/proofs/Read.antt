-- What was read from lines, put together.
use Rattle.std.proofs.Common.{◌≡◌, inr, ℕ, ◌+◌, List, [], ◌∷◌, ◌++◌, length, take, Option, None, Some, Result, Ok, Err, IfOk, refl, sym, ap, ◌∙◌, subst}
use Rattle.std.proofs.Math.Seq.{take-append_seam}
use Rattle.std.specs.Borrow.{Bor}
use Rattle.std.specs.Prelude.{codes}
use Rattle.reactor_program.specs.declared.program.Operand.{Operand}
use Rattle.reactor_program.specs.declared.program.Operand.TheVariants.{State}
use Rattle.expand_expressions.specs.declared.formula.Formula.{Formula}
use Rattle.expand_expressions.specs.declared.known.NamedOperand.{NamedOperand}
use Rattle.expand_bodies.specs.declared.fault.BodyFault.{BodyFault}
use Rattle.expand_bodies.specs.declared.fault.BodyFaultKind.{BodyFaultKind}
use Rattle.expand_bodies.specs.declared.block.Block.{Block}
use Rattle.expand_bodies.specs.declared.block.Block.TheVariants.{End}
use Rattle.expand_bodies.specs.declared.block.Target.{Target}
use Rattle.expand_bodies.specs.declared.form.Deed.{Deed}
use Rattle.expand_bodies.specs.declared.names.BodyNames.{BodyNames}
use Rattle.expand_bodies.specs.declared.reading.Part.{Part}
use Rattle.expand_bodies.specs.declared.reading.Ending.{Ending}
use Rattle.expand_bodies.specs.declared.reading.Ending.TheVariants as ending
use Rattle.reactor_program.specs.declared.program.Line.{Line}
use Rattle.expand_bodies.specs.Lines.{block_lines}
use Rattle.expand_bodies.specs.Expanded.{ArePrinted, IsExpanded}
use Rattle.expand_bodies.specs.Forms.{IsWordBefore, IsLetLine, IsAlone, IsWhenLine, IsStatement}
use Rattle.expand_bodies.specs.Reading.{operands_of, ReadsValue, IsDeed, IsNew, unchanging, IsDo, IsWhen, IsLet, IsIf, ReadsBlock, ReadsBranches, ReadsBody, body_ends, elif_next, else_next, end_next, statement, guarded, known_let, state_let, branching, one_branch, two_branches, more_branches}

-- with the same names
pub block_moved : (names names' : BodyNames) (operands operands' : List NamedOperand) (free : ℕ) (lines : List (List ℕ)) (block : Block) (ends : Ending) (new : List (List ℕ)) → names' ≡ names → operands' ≡ operands →
    ReadsBlock names' operands' free lines block ends new → ReadsBlock names operands free lines block ends new
block_moved names names' operands operands' free lines block ends new is same h =
    subst (λ operands. ReadsBlock names operands free lines block ends new) same (subst (λ names. ReadsBlock names operands' free lines block ends new) is h)

pub branches_moved : (names names' : BodyNames) (operands operands' : List NamedOperand) (free : ℕ) (lines : List (List ℕ)) (first : Block) (second : Option Block) (new : List (List ℕ)) → names' ≡ names → operands' ≡ operands →
    ReadsBranches names' operands' free lines first second new → ReadsBranches names operands free lines first second new
branches_moved names names' operands operands' free lines first second new is same h =
    subst (λ operands. ReadsBranches names operands free lines first second new) same (subst (λ names. ReadsBranches names operands' free lines first second new) is h)

value_moved : (names names' : BodyNames) (operands operands' : List NamedOperand) (text : List ℕ) (formula : Formula) → names' ≡ names → operands' ≡ operands → ReadsValue operands' names'.readable text formula →
    ReadsValue operands names.readable text formula
value_moved names names' operands operands' text formula is same h =
    subst (λ operands. ReadsValue operands names.readable text formula) same (subst (λ names. ReadsValue operands' names.readable text formula) is h)

deed_moved : (names names' : BodyNames) (operands operands' : List NamedOperand) (deed : Deed) (target : Target) (formula : Formula) → names' ≡ names → operands' ≡ operands → IsDeed names' operands' deed target formula →
    IsDeed names operands deed target formula
deed_moved names names' operands operands' deed target formula is same h =
    subst (λ operands. IsDeed names operands deed target formula) same (subst (λ names. IsDeed names operands' deed target formula) is h)

new_moved : (operands operands' : List NamedOperand) (name : List ℕ) → operands' ≡ operands → IsNew operands' name → IsNew operands name
new_moved operands operands' name same h = subst (λ operands. IsNew operands name) same h

-- from the line that was taken on
from_line : (names : BodyNames) (operands : List NamedOperand) (free : ℕ) (old : List (List ℕ)) (line : List ℕ) (lines : List (List ℕ)) (block : Block) (ends : Ending) (new : List (List ℕ)) → old ≡ line ∷ lines →
    ReadsBlock names operands free (line ∷ lines) block ends new → ReadsBlock names operands free old block ends new
from_line names operands free old line lines block ends new is h = subst (λ old. ReadsBlock names operands free old block ends new) (sym is) h

pub ended_read : (names : BodyNames) (operands : List NamedOperand) (free : ℕ) (old new : List (List ℕ)) → (old ≡ []) × (new ≡ []) → ReadsBlock names operands free old End ending.Last new
ended_read names operands free old new is =
    subst (λ old. ReadsBlock names operands free old End ending.Last new) (sym is.0) (subst (λ new. ReadsBlock names operands free [] End ending.Last new) (sym is.1) body_ends)

-- a block that ends here
here : (names : BodyNames) (operands : List NamedOperand) (free : ℕ) (old new : List (List ℕ)) (line : List ℕ) (block : Block) (ends shown : Ending) → old ≡ line ∷ new → (block ≡ End) × (ends ≡ shown) →
    ReadsBlock names operands free (line ∷ new) End shown new → ReadsBlock names operands free old block ends new
here names operands free old new line block ends shown is made h =
    from_line names operands free old line new block ends new is
    (subst (λ block. ReadsBlock names operands free (line ∷ new) block ends new) (sym made.0) (subst (λ ends. ReadsBlock names operands free (line ∷ new) End ends new) (sym made.1) h))

pub elif_read : (names : BodyNames) (operands : List NamedOperand) (free : ℕ) (old new : List (List ℕ)) (line text : List ℕ) (block : Block) (ends : Ending) (condition : Bor (List ℕ)) → old ≡ line ∷ new → text ≡ line →
    IsWordBefore text (codes "elif") condition.now → (block ≡ End) × (ends ≡ ending.Elif condition) → ReadsBlock names operands free old block ends new
elif_read names operands free old new line text block ends condition is same h made =
    here names operands free old new line block ends (ending.Elif condition) is made (elif_next condition (subst (λ text. IsWordBefore text (codes "elif") condition.now) same h))

pub else_read : (names : BodyNames) (operands : List NamedOperand) (free : ℕ) (old new : List (List ℕ)) (line text : List ℕ) (block : Block) (ends : Ending) → old ≡ line ∷ new → text ≡ line →
    IsAlone text (codes "else") → (block ≡ End) × (ends ≡ ending.Else) → ReadsBlock names operands free old block ends new
else_read names operands free old new line text block ends is same h made =
    here names operands free old new line block ends ending.Else is made (else_next (subst (λ text. IsAlone text (codes "else")) same h))

pub end_read : (names : BodyNames) (operands : List NamedOperand) (free : ℕ) (old new : List (List ℕ)) (line text : List ℕ) (block : Block) (ends : Ending) → old ≡ line ∷ new → text ≡ line →
    IsAlone text (codes "end") → (block ≡ End) × (ends ≡ ending.End) → ReadsBlock names operands free old block ends new
end_read names operands free old new line text block ends is same h made =
    here names operands free old new line block ends ending.End is made (end_next (subst (λ text. IsAlone text (codes "end")) same h))

pub statement_read : (names names' : BodyNames) (operands operands' : List NamedOperand) (free : ℕ) (old lines new : List (List ℕ)) (line text : List ℕ) (deed : Deed) (target : Target) (formula : Formula) (rest block : Block) (ends : Ending) →
    names' ≡ names → operands' ≡ operands → old ≡ line ∷ lines → text ≡ line → IsStatement text deed → IsDeed names' operands' deed target formula → ReadsBlock names' operands' free lines rest ends new → IsDo block target formula rest →
    ReadsBlock names operands free old block ends new
statement_read names names' operands operands' free old lines new line text deed target formula rest block ends n o is same h d r begins =
    from_line names operands free old line lines block ends new is
    (statement deed target formula block (subst (λ text. IsStatement text deed) same h) (deed_moved names names' operands operands' deed target formula n o d)
    (block_moved names names' operands operands' free lines rest ends new n o r) begins)

pub guarded_read : (names names' : BodyNames) (operands operands' : List NamedOperand) (free : ℕ) (old lines new : List (List ℕ)) (line text condition : List ℕ) (deed : Deed) (asked : Formula) (target : Target) (formula : Formula) (rest block : Block)
    (ends : Ending) → names' ≡ names → operands' ≡ operands → old ≡ line ∷ lines → text ≡ line → IsWhenLine text condition deed → ReadsValue operands' names'.readable condition asked → IsDeed names' operands' deed target formula →
    ReadsBlock names' operands' free lines rest ends new → IsWhen block asked target formula rest → ReadsBlock names operands free old block ends new
guarded_read names names' operands operands' free old lines new line text condition deed asked target formula rest block ends n o is same h v d r begins =
    from_line names operands free old line lines block ends new is
    (guarded condition deed asked target formula block (subst (λ text. IsWhenLine text condition deed) same h) (value_moved names names' operands operands' condition asked n o v)
    (deed_moved names names' operands operands' deed target formula n o d) (block_moved names names' operands operands' free lines rest ends new n o r) begins)

pub let_read : (names names' : BodyNames) (operands operands' : List NamedOperand) (free : ℕ) (old lines new : List (List ℕ)) (line text name value : List ℕ) (block : Block) (ends : Ending) → names' ≡ names → operands' ≡ operands → old ≡ line ∷ lines →
    text ≡ line → IsLetLine text name value → ((line : List ℕ) → IsLetLine line name value → ReadsBlock names' operands' free (line ∷ lines) block ends new) → ReadsBlock names operands free old block ends new
let_read names names' operands operands' free old lines new line text name value block ends n o is same h all =
    from_line names operands free old line lines block ends new is
    (block_moved names names' operands operands' free (line ∷ lines) block ends new n o (all line (subst (λ text. IsLetLine text name value) same h)))

pub branching_read : (names names' names'' : BodyNames) (operands operands' operands'' : List NamedOperand) (free : ℕ) (old lines mid new : List (List ℕ)) (line text condition : List ℕ) (asked asked' : Formula) (first : Block) (second : Option Block)
    (block : Block) (ends : Ending) → names' ≡ names → operands' ≡ operands → names'' ≡ names' → operands'' ≡ operands' → old ≡ line ∷ lines → text ≡ line → IsWordBefore text (codes "if") condition → ReadsValue operands' names'.readable condition asked →
    (asked' ≡ asked) × ReadsBranches names' operands' free lines first second mid → ((rest : Block) × ReadsBlock names'' operands'' free mid rest ends new × IsIf block asked' first second rest) → ReadsBlock names operands free old block ends new
branching_read names names' names'' operands operands' operands'' free old lines mid new line text condition asked asked' first second block ends n o n2 o2 is same h v b r =
    from_line names operands free old line lines block ends new is
    (branching condition asked block (subst (λ text. IsWordBefore text (codes "if") condition) same h) (value_moved names names' operands operands' condition asked n o v)
    (branches_moved names names' operands operands' free lines first second mid n o b.1) (block_moved names names'' operands operands'' free mid r.0 ends new (n2 ∙ n) (o2 ∙ o) r.1)
    (subst (λ asked. IsIf block asked first second r.0) b.0 r.2))

-- `let`
pub known_let_read : (names names' : BodyNames) (operands operands' : List NamedOperand) (free : ℕ) (lines lines' new : List (List ℕ)) (name value text : List ℕ) (formula : Formula) (operand : Operand) (block : Block) (ends : Ending) → names' ≡ names →
    lines' ≡ lines → operands' ≡ operands ++ record { name = text; operand = operand } ∷ [] → (text ≡ name) × IsNew operands name → ReadsValue operands names.readable value formula → unchanging formula ≡ Some operand →
    ReadsBlock names' operands' free lines' block ends new → (line : List ℕ) → IsLetLine line name value → ReadsBlock names operands free (line ∷ lines) block ends new
known_let_read names names' operands operands' free lines lines' new name value text formula operand block ends n l o fresh v u h = λ line is.
    let named : operands' ≡ operands ++ record { name = name; operand = operand } ∷ [] = o ∙ ap (λ x. operands ++ record { name = x; operand = operand } ∷ []) fresh.0 in
    let there = subst (λ lines. ReadsBlock names' operands' free lines block ends new) l h in
    known_let name value formula operand is fresh.1 v u (block_moved names names' (operands ++ record { name = name; operand = operand } ∷ []) operands' free lines block ends new n named there)

pub state_let_read : (names names' : BodyNames) (operands operands' : List NamedOperand) (free next : ℕ) (lines lines' new new' : List (List ℕ)) (name value text : List ℕ) (formula : Formula) (rest block : Block) (ends : Ending) → new' ≡ new → names' ≡ names →
    lines' ≡ lines → operands' ≡ operands ++ record { name = text; operand = State free } ∷ [] → next ≡ free + 1 → (text ≡ name) × IsNew operands name → ReadsValue operands names.readable value formula → unchanging formula ≡ None →
    ReadsBlock names' operands' next lines' rest ends new → IsLet block formula rest → (line : List ℕ) → IsLetLine line name value → ReadsBlock names operands free (line ∷ lines) block ends new'
state_let_read names names' operands operands' free next lines lines' new new' name value text formula rest block ends e n l o f fresh v u h begins = λ line is.
    let named : operands' ≡ operands ++ record { name = name; operand = State free } ∷ [] = o ∙ ap (λ x. operands ++ record { name = x; operand = State free } ∷ []) fresh.0 in
    let there = subst (λ lines. ReadsBlock names' operands' next lines rest ends new) l h in
    let behind = subst (λ next. ReadsBlock names' operands' next lines rest ends new) f there in
    subst (λ new. ReadsBlock names operands free (line ∷ lines) block ends new) (sym e)
    (state_let name value formula block is fresh.1 v u (block_moved names names' (operands ++ record { name = name; operand = State free } ∷ []) operands' (free + 1) lines rest ends new n named behind) begins)

-- branches
shown_end : (names : BodyNames) (operands : List NamedOperand) (free next : ℕ) (lines new : List (List ℕ)) (block : Block) (ends shown : Ending) → next ≡ free + 1 → ends ≡ shown → ReadsBlock names operands next lines block ends new →
    ReadsBlock names operands (free + 1) lines block shown new
shown_end names operands free next lines new block ends shown f is h =
    subst (λ ends. ReadsBlock names operands (free + 1) lines block ends new) is (subst (λ next. ReadsBlock names operands next lines block ends new) f h)

pub one_branch_read : (names : BodyNames) (operands : List NamedOperand) (free next : ℕ) (lines new : List (List ℕ)) (first : Block) (ends : Ending) → next ≡ free + 1 → ends ≡ ending.End → ReadsBlock names operands next lines first ends new →
    ReadsBranches names operands free lines first None new
one_branch_read names operands free next lines new first ends f is h = one_branch (shown_end names operands free next lines new first ends ending.End f is h)

pub two_branches_read : (names names' : BodyNames) (operands operands' : List NamedOperand) (free next : ℕ) (lines mid new : List (List ℕ)) (first second : Block) (ends : Ending) → names' ≡ names → operands' ≡ operands → next ≡ free + 1 → ends ≡ ending.Else →
    ReadsBlock names operands next lines first ends mid → ReadsBlock names' operands' next mid second ending.End new → ReadsBranches names operands free lines first (Some second) new
two_branches_read names names' operands operands' free next lines mid new first second ends n o f is h g =
    two_branches (shown_end names operands free next lines mid first ends ending.Else f is h)
    (shown_end names operands free next mid new second ending.End ending.End f refl (block_moved names names' operands operands' next mid second ending.End new n o g))

pub more_branches_read : (names names' : BodyNames) (operands operands' : List NamedOperand) (free next : ℕ) (lines mid new : List (List ℕ)) (first : Block) (ends : Ending) (condition : Bor (List ℕ)) (asked asked' : Formula) (inner_first : Block)
    (inner_second : Option Block) (second : Block) → names' ≡ names → operands' ≡ operands → next ≡ free + 1 → ends ≡ ending.Elif condition → ReadsBlock names operands next lines first ends mid →
    ReadsValue operands' names'.readable condition.now asked → (asked' ≡ asked) × ReadsBranches names' operands' next mid inner_first inner_second new → IsIf second asked' inner_first inner_second End → ReadsBranches names operands free lines first (Some second) new
more_branches_read names names' operands operands' free next lines mid new first ends condition asked asked' inner_first inner_second second n o f is h v b begins =
    more_branches condition asked second (shown_end names operands free next lines mid first ends (ending.Elif condition) f is h) (value_moved names names' operands operands' condition.now asked n o v)
    (subst (λ next. ReadsBranches names operands next mid inner_first inner_second new) f (branches_moved names names' operands operands' next mid inner_first inner_second new n o b.1))
    (subst (λ asked. IsIf second asked inner_first inner_second End) b.0 begins)

pub if_named : (block block' : Block) (condition : Formula) (first : Block) (second : Option Block) (rest rest' : Block) → block' ≡ block → rest ≡ rest' → IsIf block condition first second rest → IsIf block' condition first second rest'
if_named block block' condition first second rest rest' b r h =
    subst (λ block. IsIf block condition first second rest') (sym b) (subst (λ rest. IsIf block condition first second rest) r h)

-- the names that were there before are there again
pub names_again : (old pushed later new : List NamedOperand) (x : NamedOperand) (n : ℕ) → n ≡ length old → pushed ≡ old ++ x ∷ [] → later ≡ pushed → new ≡ take n later → new ≡ old
names_again old pushed later new x n count push same forget =
    forget ∙ ap (λ n. take n later) count ∙ ap (λ xs. take (length old) xs) (same ∙ push) ∙ take-append_seam old (x ∷ [])

pub expanded_is : (names : BodyNames) (lines texts : List (List ℕ)) (block : Block) (added : List Line) → ReadsBody names lines block → added ≡ block_lines (length names.states) None block → ArePrinted names added texts → IsExpanded names lines texts
expanded_is names lines texts block added h is printed = inr (block, h, subst (λ added. ArePrinted names added texts) is printed)

-- answers that were good
pub value_good : (operands : List NamedOperand) (readable : List (List ℕ)) (text : List ℕ) (answer : Result Formula BodyFaultKind) (formula : Formula) → answer ≡ Ok formula → IfOk answer (λ value. ReadsValue operands readable text value) →
    ReadsValue operands readable text formula
value_good operands readable text answer formula is h = subst (λ answer. IfOk answer (λ value. ReadsValue operands readable text value)) is h

pub deed_good : (names : BodyNames) (operands : List NamedOperand) (deed : Deed) (answer : Result (Target × Formula) BodyFaultKind) (target : Target) (formula : Formula) → answer ≡ Ok (target, formula) →
    IfOk answer (λ parts. IsDeed names operands deed parts.0 parts.1) → IsDeed names operands deed target formula
deed_good names operands deed answer target formula is h = subst (λ answer. IfOk answer (λ parts. IsDeed names operands deed parts.0 parts.1)) is h

pub name_good : (operands : List NamedOperand) (name text : List ℕ) (answer : Result (List ℕ) BodyFaultKind) → answer ≡ Ok text → IfOk answer (λ text. (text ≡ name) × IsNew operands name) → (text ≡ name) × IsNew operands name
name_good operands name text answer is h = subst (λ answer. IfOk answer (λ text. (text ≡ name) × IsNew operands name)) is h

-- what is answered of a part that was read by another call
pub part_read : (names : BodyNames) (operands : List NamedOperand) (free : ℕ) (old new : List (List ℕ)) (P : Block → Ending → Type 0) (result : Result Part BodyFault) → IfOk result (λ part. P part.block part.ending) →
    ((block : Block) (ends : Ending) → P block ends → ReadsBlock names operands free old block ends new) → IfOk result (λ part. ReadsBlock names operands free old part.block part.ending new)
part_read names operands free old new P (Ok part) h all = all part.block part.ending h
part_read names operands free old new P (Err fault) h all = tt

-- with the lines that are left then
pub new_moved_to : (names : BodyNames) (operands : List NamedOperand) (free : ℕ) (lines new new' : List (List ℕ)) (block : Block) (ends : Ending) → new' ≡ new → ReadsBlock names operands free lines block ends new → ReadsBlock names operands free lines block ends new'
new_moved_to names operands free lines new new' block ends is h = subst (λ new. ReadsBlock names operands free lines block ends new) (sym is) h

-- where the body ends, no line is left
last_ends : (names : BodyNames) {operands : List NamedOperand} {free : ℕ} {lines : List (List ℕ)} {block : Block} {ends : Ending} {new : List (List ℕ)} → ReadsBlock names operands free lines block ends new → ends ≡ ending.Last → new ≡ []
last_ends names body_ends is = refl
last_ends names (elif_next condition line) is = absurd cc
last_ends names (else_next line) is = absurd cc
last_ends names (end_next line) is = absurd cc
last_ends names (statement deed target formula block line reads h begins) is = last_ends names h is
last_ends names (guarded condition deed asked target formula block line value reads h begins) is = last_ends names h is
last_ends names (known_let name value formula operand line fresh reads known h) is = last_ends names h is
last_ends names (state_let name value formula block line fresh reads known h begins) is = last_ends names h is
last_ends names (branching condition asked block line value branches h begins) is = last_ends names h is

pub body_read : (names : BodyNames) (operands : List NamedOperand) (free : ℕ) (lines new : List (List ℕ)) (block : Block) (ends : Ending) → ends ≡ ending.Last → ReadsBlock names operands free lines block ends new →
    operands ≡ operands_of names → free ≡ length names.states → ReadsBody names lines block
body_read names operands free lines new block ends is h o f =
    subst (λ new. ReadsBlock names (operands_of names) (length names.states) lines block ending.Last new) (last_ends names h is)
    (subst (λ ends. ReadsBlock names (operands_of names) (length names.states) lines block ends new) is
    (subst (λ free. ReadsBlock names (operands_of names) free lines block ends new) f (subst (λ operands. ReadsBlock names operands free lines block ends new) o h)))

-- a part by the names of what it is made of
pub as_named : (names : BodyNames) (operands : List NamedOperand) (free : ℕ) (lines new : List (List ℕ)) (block block' : Block) (ends ends' : Ending) → ReadsBlock names operands free lines block ends new → block' ≡ block → ends' ≡ ends →
    ReadsBlock names operands free lines block' ends' new
as_named names operands free lines new block block' ends ends' h b e =
    subst (λ ends. ReadsBlock names operands free lines block' ends new) (sym e) (subst (λ block. ReadsBlock names operands free lines block ends new) (sym b) h)

pub body_named : (names : BodyNames) (lines : List (List ℕ)) (block block' : Block) → ReadsBody names lines block → block' ≡ block → ReadsBody names lines block'
body_named names lines block block' h is = subst (λ block. ReadsBody names lines block) (sym is) h
