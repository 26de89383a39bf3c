-- What stands in front of a text, up to a space or a `:`, and which word.
use Rattle.std.proofs.Common.{◌≡◌, ◌≤◌, ◌<◌, ◌^◌, inl, inr, ℕ, not, List, [], ◌∷◌, ◌++◌, length, get_or, ◌-◌, take, drop, replicate, codes, IsTrue, Option, None, Some, IfSome, Result, Ok, Err, IfOk, sym, ap, ◌∙◌, subst, arith}
use Rattle.std.proofs.Math.Seq.{take-length}
use Rattle.std.specs.List.{prefix_len, list_all}
use Rattle.std.proofs.lemmas.List.{take-append-drop}
use Rattle.tag_text.specs.Duration.{Spells}
use Rattle.tag_text.proofs.Parts.{passing_front}
use Rattle.reactor_program.specs.Tokens.{is_space, is_colon}
use Rattle.expand_expressions.specs.declared.formula.Combination.{Combination}
use Rattle.expand_expressions.specs.declared.formula.Formula.{Formula}
use Rattle.expand_expressions.specs.declared.known.NamedOperand.{NamedOperand}
use Rattle.expand_expressions.specs.Words.{IsBehindSpaces}
use Rattle.expand_expressions.specs.Reading.{IsCallText, Reads}
use Rattle.expand_bodies.specs.declared.fault.BodyFaultKind.{BodyFaultKind}
use Rattle.expand_bodies.specs.declared.form.Keyword.{Keyword}
use Rattle.expand_bodies.specs.declared.form.Form.{Form}
use Rattle.expand_bodies.specs.declared.form.Form.TheVariants.{Let, If, Elif, Else, End, When, Plain}
use Rattle.expand_bodies.specs.declared.form.Deed.{Deed}
use Rattle.expand_bodies.specs.Forms.{keyword_text, IsWordBefore, IsAssignment, IsAssigned, IsScheduled, IsStatement, IsBinding, IsForm, IsAlone, IsGuarded, IsWhenLine}
use Rattle.expand_bodies.specs.Reading.{IsPartBefore}

pub part_before : (text behind : List ℕ) → IsBehindSpaces text behind →
    IsPartBefore text (take (prefix_len (λ c. not (is_space c)) behind) behind) (drop (prefix_len (λ c. not (is_space c)) behind) behind)
part_before text behind is =
    let n = prefix_len (λ c. not (is_space c)) behind in
    ((is.0, is.1 ∙ ap (λ rest. replicate is.0 32 ++ rest) (sym (take-append-drop n behind))), passing_front (λ c. not (is_space c)) behind)

pub condition_before : (text statement : List ℕ) (n : ℕ) → n ≡ prefix_len (λ c. not (is_colon c)) text → drop n text ≡ 58 ∷ statement →
    (text ≡ take n text ++ (codes ":" ++ statement)) × IsTrue (list_all (λ c. not (is_colon c)) (take n text))
condition_before text statement n is behind =
    (sym (take-append-drop n text) ∙ ap (λ rest. take n text ++ rest) behind, rw is (passing_front (λ c. not (is_colon c)) text))

pub split_whole : (text : List ℕ) (n : ℕ) → text ≡ take n text ++ drop n text
split_whole text n = sym (take-append-drop n text)

-- a word that was found out
pub word_is : (text word shown rest : List ℕ) → word ≡ shown → IsWordBefore text word rest → IsWordBefore text shown rest
word_is text word shown rest is h = subst (λ word. IsWordBefore text word rest) is h

pub let_is : (text word rest : List ℕ) (form : Form) → word ≡ codes "let" → IsWordBefore text word rest → IsBinding rest form → IsForm text form
let_is text word rest (Let name value) is h bound = (rest, word_is text word (codes "let") rest is h, bound)
let_is text word rest (If condition) is h bound = elim bound [ ]
let_is text word rest (Elif condition) is h bound = elim bound [ ]
let_is text word rest Else is h bound = elim bound [ ]
let_is text word rest End is h bound = elim bound [ ]
let_is text word rest (When condition deed) is h bound = elim bound [ ]
let_is text word rest (Plain deed) is h bound = elim bound [ ]

pub let_form : (text word rest : List ℕ) (result : Result Form BodyFaultKind) → word ≡ codes "let" → IsWordBefore text word rest → IfOk result (IsBinding rest) → IfOk result (λ form. IsForm text form)
let_form text word rest (Ok form) is h bound = let_is text word rest form is h bound
let_form text word rest (Err fault) is h bound = tt

pub alone_is : (text word shown rest : List ℕ) → word ≡ shown → IsWordBefore text word rest → IsBehindSpaces rest [] → IsAlone text shown
alone_is text word shown rest is h blank = (rest, word_is text word shown rest is h, blank)

-- `else` and `end`
pub else_form : (text word rest : List ℕ) (result : Result Form BodyFaultKind) → word ≡ codes "else" → IsWordBefore text word rest → IfOk result (λ form. (form ≡ Else) × IsBehindSpaces rest []) → IfOk result (λ form. IsForm text form)
else_form text word rest (Ok form) is h alone = subst (λ form. IsForm text form) (sym alone.0) (alone_is text word (codes "else") rest is h alone.1)
else_form text word rest (Err fault) is h alone = tt

pub end_form : (text word rest : List ℕ) (result : Result Form BodyFaultKind) → word ≡ codes "end" → IsWordBefore text word rest → IfOk result (λ form. (form ≡ End) × IsBehindSpaces rest []) → IfOk result (λ form. IsForm text form)
end_form text word rest (Ok form) is h alone = subst (λ form. IsForm text form) (sym alone.0) (alone_is text word (codes "end") rest is h alone.1)
end_form text word rest (Err fault) is h alone = tt

pub assigned_is : (text target value : List ℕ) (deed : Deed) → IsAssignment text target value → IsAssigned target value deed → IsStatement text deed
assigned_is text target value deed h is = inl (target, value, h, is)

pub scheduled_is : (text word rest : List ℕ) (deed : Deed) → word ≡ codes "schedule" → IsWordBefore text word rest → IsScheduled rest deed → IsStatement text deed
scheduled_is text word rest deed is h scheduled = inr (rest, word_is text word (codes "schedule") rest is h, scheduled)

pub when_is : (text word rest condition : List ℕ) (deed : Deed) → word ≡ codes "when" → IsWordBefore text word rest → IsGuarded rest condition deed → IsWhenLine text condition deed
when_is text word rest condition deed is h guarded = (rest, word_is text word (codes "when") rest is h, guarded)

-- a word that may be one that a line begins with
pub keyword_shown : (o : Option Keyword) (keyword : Keyword) (word : List ℕ) → o ≡ Some keyword → IfSome o (λ keyword. word ≡ keyword_text keyword) → word ≡ keyword_text keyword
keyword_shown o keyword word is h = subst (λ o. IfSome o (λ keyword. word ≡ keyword_text keyword)) is h

tail_whole : (rest : List ℕ) → 1 ≤ length rest → take (length rest - 1) (drop 1 rest) ≡ drop 1 rest
tail_whole [] some = absurd (omega arith)
tail_whole (x ∷ xs) some = let same : length (x ∷ xs) - 1 ≡ length xs = omega arith in rw same (take-length xs)

colon_first : (rest : List ℕ) → 1 ≤ length rest → get_or rest 0 0 ≡ 58 → rest ≡ 58 ∷ drop 1 rest
colon_first [] some h = absurd (omega arith)
colon_first (x ∷ xs) some h = ap (λ y. y ∷ xs) h

-- a statement behind a `:`
pub guarded_is : (text front rest : List ℕ) (n : ℕ) (deed : Deed) → n ≡ prefix_len (λ c. not (is_colon c)) text → front ≡ take n text → rest ≡ drop n text → 1 ≤ length rest → get_or rest 0 0 ≡ 58 →
    IsStatement (take (length rest - 1) (drop 1 rest)) deed → IsGuarded text front deed
guarded_is text front rest n deed is front_is rest_is some colon h =
    let parts = condition_before text (drop 1 rest) n is (sym rest_is ∙ colon_first rest some colon) in
    (drop 1 rest, subst (λ front. text ≡ front ++ (codes ":" ++ drop 1 rest)) (sym front_is) parts.0, subst (λ front. IsTrue (list_all (λ c. not (is_colon c)) front)) (sym front_is) parts.1, subst (λ text. IsStatement text deed) (tail_whole rest some) h)

-- a duration that was read
pub duration_read : (text behind : List ℕ) (n : ℕ) (o : Option ℕ) → IsBehindSpaces text behind → Spells behind n → n < 2 ^ 62 → IfSome o (λ t. t ≡ n) →
    IfSome o (λ time. (behind : List ℕ) × IsBehindSpaces text behind × Spells behind time × (time < 2 ^ 62))
duration_read text behind n (Some time) h spelled below is = (behind, h, subst (λ n. Spells behind n) (sym is) spelled, subst (λ n. n < 2 ^ 62) (sym is) below)
duration_read text behind n None h spelled below is = tt

-- two values with a word between them
pub between_read : (operands : List NamedOperand) (readable : List (List ℕ)) (text left rest word right : List ℕ) (combination : Combination) (x x' y y' : Formula) → IsPartBefore text left rest → IsPartBefore rest word right → IsCallText combination word →
    x' ≡ x → Reads operands readable left x → y' ≡ y → Reads operands readable right y →
    (left word rest right : List ℕ) × IsPartBefore text left rest × IsPartBefore rest word right × IsCallText combination word × Reads operands readable left x' × Reads operands readable right y'
between_read operands readable text left rest word right combination x x' y y' h g called x_is hx y_is hy =
    (left, word, rest, right, h, g, called, subst (λ x. Reads operands readable left x) (sym x_is) hx, subst (λ y. Reads operands readable right y) (sym y_is) hy)
