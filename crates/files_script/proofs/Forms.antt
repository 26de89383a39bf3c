-- How the words of a line are found, and lines of too many.
use Rattle.std.proofs.Common.{◌≡◌, ℕ, suc, ◌+◌, ◌-◌, ◌<◌, ◌&&◌, Bool, true, false, not, cond, List, [], ◌∷◌, length, take, drop, Option, None, refl, sym, ap, ◌∙◌, arith, one-add}
use Rattle.std.specs.Char.{is_ascii_digit}
use Rattle.std.specs.List.{prefix_len, list_all, onto_first}
use Rattle.std.specs.Str.{all_ascii_digits}
use Rattle.std.proofs.lemmas.List.{take_all}
use Rattle.plan.specs.declared.draft.Draft.{Draft}
use Rattle.files_script.specs.Words.{is_space, is_within_word, words_of, command_of}

-- the words behind the first one's space, if there is one
abbrev further : List ℕ → List (List ℕ)
further [] = []
further (space ∷ rest) = words_of rest

one_byte : (byte : ℕ) (bytes : List ℕ) (k : ℕ) (b : Bool) → words_of bytes ≡ take k bytes ∷ further (drop k bytes)
    → cond b ([] ∷ words_of bytes) (onto_first byte (words_of bytes))
    ≡ take (cond (not b) (1 + k) 0) (byte ∷ bytes) ∷ further (drop (cond (not b) (1 + k) 0) (byte ∷ bytes))
one_byte byte bytes k true h = refl
one_byte byte bytes k false h = rw one-add (ap (onto_first byte) h)

-- the words are the first one, and those behind its space
one_word : (text : List ℕ) → words_of text ≡ take (prefix_len is_within_word text) text ∷ further (drop (prefix_len is_within_word text) text)
one_word [] = refl
one_word (byte ∷ bytes) = one_byte byte bytes (prefix_len is_within_word bytes) (is_space byte) (one_word bytes)

-- where nothing follows the first word, it is all
pub only_word : (text word rest : List ℕ) → word ≡ take (prefix_len is_within_word text) text
    → rest ≡ drop (prefix_len is_within_word text) text → length rest < 1 → words_of text ≡ word ∷ []
only_word text word [] front e none = one_word text ∙ ap (λ r. take (prefix_len is_within_word text) text ∷ further r) (sym e) ∙ ap (λ w. w ∷ []) (sym front)
only_word text word (byte ∷ rest) front e none = absurd (omega arith)

-- else what follows are the words behind the space
pub more_words : (text word rest : List ℕ) → word ≡ take (prefix_len is_within_word text) text
    → rest ≡ drop (prefix_len is_within_word text) text → 0 < length rest → words_of text ≡ word ∷ words_of (take (length rest - 1) (drop 1 rest))
more_words text word [] front e some = absurd (omega arith)
more_words text word (space ∷ rest) front e some =
    let all : take (length (space ∷ rest) - 1) rest ≡ rest = take_all (length (space ∷ rest) - 1) rest (omega arith) in
    rw all
    (one_word text ∙ ap (λ r. take (prefix_len is_within_word text) text ∷ further r) (sym e) ∙ ap (λ w. w ∷ words_of rest) (sym front))

-- five words or more
pub five_words : (line first second third fourth a b c d : List ℕ) → words_of line ≡ a ∷ words_of first → words_of first ≡ b ∷ words_of second
    → words_of second ≡ c ∷ words_of third → words_of third ≡ d ∷ words_of fourth → 4 < length (words_of line)
five_words line first second third fourth a b c d e f g h =
    let one : length (words_of line) ≡ suc (length (words_of first)) = ap length e in
    let two : length (words_of first) ≡ suc (length (words_of second)) = ap length f in
    let three : length (words_of second) ≡ suc (length (words_of third)) = ap length g in
    let four : length (words_of third) ≡ suc (length (words_of fourth)) = ap length h in
    let some : length (words_of fourth) ≡ suc (length (further (drop (prefix_len is_within_word fourth) fourth))) = ap length (one_word fourth) in
    omega arith

-- more than four words have no form
pub too_many : (d : Draft) (words : List (List ℕ)) → 4 < length words → command_of d words ≡ None
too_many d [] many = absurd (omega arith)
too_many d (one ∷ []) many = absurd (omega arith)
too_many d (one ∷ two ∷ []) many = absurd (omega arith)
too_many d (one ∷ two ∷ three ∷ []) many = absurd (omega arith)
too_many d (one ∷ two ∷ three ∷ four ∷ []) many = absurd (omega arith)
too_many d (one ∷ two ∷ three ∷ four ∷ five ∷ rest) many = refl

-- two ways to say that all are digits
pub digits_listed : (word : List ℕ) → list_all is_ascii_digit word ≡ all_ascii_digits word
digits_listed [] = refl
digits_listed (byte ∷ rest) = ap (λ r. is_ascii_digit byte && r) (digits_listed rest)
