-- How the lines of a file are found, one after the other.
use Rattle.std.proofs.Common.{◌≡◌, ℕ, ◌+◌, ◌-◌, ◌<◌, Bool, true, false, cond, if◌then◌else◌, List, [], ◌∷◌, ◌++◌, length, map, take, drop, refl, sym, ap, ◌∙◌, arith, one-add}
use Rattle.std.specs.List.{prefix_len, onto_first}
use Rattle.std.proofs.lemmas.List.{take_all, length-drop}
use Rattle.files_script.specs.declared.script.ScheduleLine.{ScheduleLine}
use Rattle.files_script.specs.Scripts.{is_within_line, lines_of, is_idle, asking}

last_line : (byte : ℕ) (b : Bool) → (if b then byte ∷ [] else []) ∷ [] ≡ take (cond b (1 + 0) 0) (byte ∷ []) ∷ lines_of (drop 1 (drop (cond b (1 + 0) 0) (byte ∷ [])))
last_line byte true = refl
last_line byte false = refl

first_line : (byte : ℕ) (bytes : List ℕ) (k : ℕ) (b : Bool) → lines_of bytes ≡ take k bytes ∷ lines_of (drop 1 (drop k bytes))
    → (if b then onto_first byte (lines_of bytes) else [] ∷ lines_of bytes)
    ≡ take (cond b (1 + k) 0) (byte ∷ bytes) ∷ lines_of (drop 1 (drop (cond b (1 + k) 0) (byte ∷ bytes)))
first_line byte bytes k true h = rw one-add (ap (onto_first byte) h)
first_line byte bytes k false h = refl

-- the lines are the first one, and those after its line feed
pub one_line : (lines : List ℕ) → 0 < length lines
    → lines_of lines ≡ take (prefix_len is_within_line lines) lines ∷ lines_of (drop 1 (drop (prefix_len is_within_line lines) lines))
one_line [] some = absurd (omega arith)
one_line (byte ∷ []) some = last_line byte (is_within_line byte)
one_line (byte ∷ next ∷ rest) some = first_line byte (next ∷ rest) (prefix_len is_within_line (next ∷ rest)) (is_within_line byte) (one_line (next ∷ rest) (omega arith))

-- where nothing follows the first line, it is all
pub only_line : (lines line rest : List ℕ) → 0 < length lines → line ≡ take (prefix_len is_within_line lines) lines
    → rest ≡ drop (prefix_len is_within_line lines) lines → length rest < 1 → lines_of lines ≡ line ∷ lines_of rest
only_line lines line [] some front e none = one_line lines some ∙ ap (λ r. take (prefix_len is_within_line lines) lines ∷ lines_of (drop 1 r)) (sym e) ∙ ap (λ l. l ∷ []) (sym front)
only_line lines line (byte ∷ rest) some front e none = absurd (omega arith)

-- else what follows are the lines after the line feed
pub more_lines : (lines line rest : List ℕ) → 0 < length lines → line ≡ take (prefix_len is_within_line lines) lines
    → rest ≡ drop (prefix_len is_within_line lines) lines → lines_of lines ≡ line ∷ lines_of (take (length rest - 1) (drop 1 rest))
more_lines lines line rest some front e =
    let all : take (length rest - 1) (drop 1 rest) ≡ drop 1 rest = take_all (length rest - 1) (drop 1 rest) (let l = length-drop 1 rest in omega arith) in
    rw all
    (one_line lines some ∙ ap (λ r. take (prefix_len is_within_line lines) lines ∷ lines_of (drop 1 r)) (sym e) ∙ ap (λ l. l ∷ lines_of (drop 1 rest)) (sym front))

-- one line more
pub counted : (lines after : List ℕ) (line : List ℕ) → lines_of lines ≡ line ∷ lines_of after → length (lines_of lines) ≡ length (lines_of after) + 1
counted lines after line e = let n = ap length e in omega arith

pub more_counted : (lines line rest : List ℕ) → 0 < length lines → line ≡ take (prefix_len is_within_line lines) lines
    → rest ≡ drop (prefix_len is_within_line lines) lines → length (lines_of lines) ≡ length (lines_of (take (length rest - 1) (drop 1 rest))) + 1
more_counted lines line rest some front e = counted lines (take (length rest - 1) (drop 1 rest)) line (more_lines lines line rest some front e)

numbers_push : (lines : List ScheduleLine) (line : ScheduleLine) (more : List ℕ) → map (λ l. l.number) (lines ++ line ∷ []) ++ more ≡ map (λ l. l.number) lines ++ line.number ∷ more
numbers_push [] line more = refl
numbers_push (first ∷ lines) line more = ap (λ numbers. first.number ∷ numbers) (numbers_push lines line more)

-- after a line that does nothing the same lines ask
pub asked_nothing : (lines : List ScheduleLine) (n : ℕ) (rest after : List (List ℕ)) (line all : List ℕ) → rest ≡ line ∷ after → is_idle line ≡ true
    → map (λ l. l.number) lines ++ asking n rest ≡ all → map (λ l. l.number) lines ++ asking (n + 1) after ≡ all
asked_nothing lines n rest after line all e idle h =
    let step : asking n (line ∷ after) ≡ asking (n + 1) after = rw idle refl in
    ap (λ numbers. map (λ l. l.number) lines ++ numbers) (sym (ap (asking n) e ∙ step)) ∙ h

-- a line that asks is the next one
pub asked_something : (lines : List ScheduleLine) (n : ℕ) (rest after : List (List ℕ)) (line all : List ℕ) (made : ScheduleLine) → rest ≡ line ∷ after → is_idle line ≡ false
    → made.number ≡ n → map (λ l. l.number) lines ++ asking n rest ≡ all → map (λ l. l.number) (lines ++ made ∷ []) ++ asking (n + 1) after ≡ all
asked_something lines n rest after line all made e busy number h =
    let step : asking n (line ∷ after) ≡ n ∷ asking (n + 1) after = rw busy refl in
    numbers_push lines made (asking (n + 1) after) ∙ ap (λ k. map (λ l. l.number) lines ++ k ∷ asking (n + 1) after) number
    ∙ ap (λ numbers. map (λ l. l.number) lines ++ numbers) (sym (ap (asking n) e ∙ step)) ∙ h
