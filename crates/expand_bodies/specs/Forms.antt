-- Which form a line has.
use Rattle.std.specs.Prelude.{◌≡◌, ℕ, ◌⊎◌, not, List, [], ◌++◌, codes, IsTrue}
use Rattle.std.specs.List.{list_all}
use Rattle.reactor_program.specs.Tokens.{is_colon}
use Rattle.expand_expressions.specs.Words.{IsBehindSpaces, IsWordInFront}
use Rattle.expand_bodies.specs.declared.form.Keyword.{Keyword}
use Rattle.expand_bodies.specs.declared.form.Keyword.TheVariants as keyword
use Rattle.expand_bodies.specs.declared.form.Form.{Form}
use Rattle.expand_bodies.specs.declared.form.Form.TheVariants.{Let, If, Elif, Else, End, When, Plain}
use Rattle.expand_bodies.specs.declared.form.Deed.{Deed}
use Rattle.expand_bodies.specs.declared.form.Deed.TheVariants.{Assign, Output, Schedule}

-- how a word that a line begins with is written
abbrev pub keyword_text : Keyword → List ℕ
keyword_text keyword.Let = codes "let"
keyword_text keyword.If = codes "if"
keyword_text keyword.Elif = codes "elif"
keyword_text keyword.Else = codes "else"
keyword_text keyword.End = codes "end"
keyword_text keyword.When = codes "when"
keyword_text keyword.Schedule = codes "schedule"

-- a word, with any spaces in front of it, and what follows; the word goes on as far as it can
abbrev pub IsWordBefore : List ℕ → List ℕ → List ℕ → Type 0
IsWordBefore text word rest = (behind : List ℕ) × IsBehindSpaces text behind × IsWordInFront behind word rest

-- `NAME = VALUE`
abbrev pub IsAssignment : List ℕ → List ℕ → List ℕ → Type 0
IsAssignment text target value =
    (rest : List ℕ) × IsWordBefore text target rest × IsBehindSpaces rest (codes "=" ++ value)

-- an output or a state gets a value
abbrev pub IsAssigned : List ℕ → List ℕ → Deed → Type 0
IsAssigned target value (Assign state value') = (state.now ≡ target) × (value'.now ≡ value)
IsAssigned target value (Output port value') = (target ≡ codes "out." ++ port.now) × (value'.now ≡ value)
IsAssigned target value (Schedule action rest) = ⊥

-- `schedule ACTION ..`
abbrev pub IsScheduled : List ℕ → Deed → Type 0
IsScheduled text (Schedule action rest) = IsWordBefore text action.now rest.now
IsScheduled text deed = ⊥

-- a statement, whose expression isn't read yet
abbrev pub IsStatement : List ℕ → Deed → Type 0
IsStatement text deed =
    ((target value : List ℕ) × IsAssignment text target value × IsAssigned target value deed)
    ⊎ ((rest : List ℕ) × IsWordBefore text (codes "schedule") rest × IsScheduled rest deed)

-- `let NAME = VALUE`, and what stands behind `let`
abbrev pub IsLetLine : List ℕ → List ℕ → List ℕ → Type 0
IsLetLine text name value = (rest : List ℕ) × IsWordBefore text (codes "let") rest × IsAssignment rest name value

abbrev pub IsBinding : List ℕ → Form → Type 0
IsBinding text (Let name value) = IsAssignment text name.now value.now
IsBinding text form = ⊥

-- a word alone
abbrev pub IsAlone : List ℕ → List ℕ → Type 0
IsAlone text word = (rest : List ℕ) × IsWordBefore text word rest × IsBehindSpaces rest []

-- a condition, which ends at the first `:`, and a statement
abbrev pub IsGuarded : List ℕ → List ℕ → Deed → Type 0
IsGuarded text condition deed =
    (statement : List ℕ) × (text ≡ condition ++ (codes ":" ++ statement))
    × IsTrue (list_all (λ c. not (is_colon c)) condition) × IsStatement statement deed

-- `when CONDITION : STATEMENT`
abbrev pub IsWhenLine : List ℕ → List ℕ → Deed → Type 0
IsWhenLine text condition deed = (rest : List ℕ) × IsWordBefore text (codes "when") rest × IsGuarded rest condition deed

-- a line, whose expressions aren't read yet
abbrev pub IsForm : List ℕ → Form → Type 0
IsForm text (Let name value) = IsLetLine text name.now value.now
IsForm text (If condition) = IsWordBefore text (codes "if") condition.now
IsForm text (Elif condition) = IsWordBefore text (codes "elif") condition.now
IsForm text Else = IsAlone text (codes "else")
IsForm text End = IsAlone text (codes "end")
IsForm text (When condition deed) = IsWhenLine text condition.now deed
IsForm text (Plain deed) = IsStatement text deed
