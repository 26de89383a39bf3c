-- How a line is split into tokens, token by token.
use Rattle.std.proofs.Common.{◌≡◌, ℕ, ◌+◌, ◌<◌, ◌≤◌, ◌≢◌, Bool, true, false, cond, not, ◌&&◌, List, [], ◌∷◌, ◌++◌, length, get_or, take, drop, filter, refl, sym, ap, ◌∙◌, subst, arith, one-add}
use Rattle.std.specs.List.{prefix_len, list_all, slice_split, onto_first}
use Rattle.std.proofs.lemmas.List.{take-append-drop}
use Rattle.std.proofs.lemmas.Bool.{and_parts}
use Rattle.std.proofs.lemmas.Bool.Decides.{nat_tests}
use Rattle.tag_text.proofs.Parts.{passing_front}
use Rattle.reactor_program.specs.Tokens.{is_space, is_colon, is_word_character, spaced, is_some_text, tokens_of}

pub is_space_is : (c : ℕ) → is_space c ≡ true → c ≡ 32
is_space_is c h = grind (arith, nat_tests)

pub space_skipped : (c : ℕ) (cs : List ℕ) → c ≡ 32 → tokens_of (c ∷ cs) ≡ tokens_of cs
space_skipped c cs e = let P : ℕ → Type 0 = λ x. tokens_of (x ∷ cs) ≡ tokens_of cs in subst P (sym e) refl

pub colon_first : (cs : List ℕ) → tokens_of (58 ∷ cs) ≡ (58 ∷ []) ∷ tokens_of cs
colon_first cs = refl

after_space : (c : ℕ) (cs : List ℕ) (b : Bool) → is_space c ≡ b → tokens_of cs ≡ tokens_of (drop (prefix_len is_space cs) cs) → tokens_of (c ∷ cs) ≡ tokens_of (drop (cond b (1 + prefix_len is_space cs) 0) (c ∷ cs))
after_space c cs true e h = rw one-add (space_skipped c cs (is_space_is c e) ∙ h)
after_space c cs false e h = refl

-- spaces in front make no token
pub after_spaces : (text : List ℕ) → tokens_of text ≡ tokens_of (drop (prefix_len is_space text) text)
after_spaces [] = refl
after_spaces (c ∷ cs) = after_space c cs (is_space c) refl (after_spaces cs)

-- what follows the longest front that passes begins with none that does
stops_step : (p : ℕ → Bool) (x : ℕ) (xs : List ℕ) (b : Bool) → p x ≡ b → (y : ℕ) (ys : List ℕ) → (drop (prefix_len p xs) xs ≡ y ∷ ys → p y ≡ false) → drop (cond b (1 + prefix_len p xs) 0) (x ∷ xs) ≡ y ∷ ys → p y ≡ false
stops_step p x xs true e y ys h d = h (rw one-add at d)
stops_step p x xs false e y ys h d = let same : x ≡ y = cc in cc

pub stops : (p : ℕ → Bool) (xs : List ℕ) (y : ℕ) (ys : List ℕ) → drop (prefix_len p xs) xs ≡ y ∷ ys → p y ≡ false
stops p [] y ys d = cc
stops p (x ∷ xs) y ys d = stops_step p x xs (p x) refl y ys (stops p xs y ys) d

not_true : (a : Bool) → not a ≡ true → a ≡ false
not_true true h = cc
not_true false h = refl

-- the first part of what begins with no word character is empty
abbrev IsCutHere : List ℕ → List (List ℕ) → Type 0
IsCutHere rest tail = slice_split is_space (spaced rest) ≡ [] ∷ tail

word_step : (x : ℕ) (text w : List ℕ) (tail : List (List ℕ)) → is_word_character x ≡ true → slice_split is_space (spaced text) ≡ w ∷ tail → slice_split is_space (spaced (x ∷ text)) ≡ (x ∷ w) ∷ tail
word_step x text w tail h e =
    let both = and_parts (not (is_space x)) (not (is_colon x)) h in
    let space : is_space x ≡ false = not_true (is_space x) both.0 in
    let colon : is_colon x ≡ false = not_true (is_colon x) both.1 in
    rw (colon, space) (ap (λ parts. onto_first x parts) e)

word_split : (w rest : List ℕ) (tail : List (List ℕ)) → list_all is_word_character w ≡ true → IsCutHere rest tail → slice_split is_space (spaced (w ++ rest)) ≡ w ∷ tail
word_split [] rest tail a e = e
word_split (x ∷ w) rest tail a e =
    let both = and_parts (is_word_character x) (list_all is_word_character w) a in
    word_step x (w ++ rest) w tail both.0 (word_split w rest tail both.1 e)

-- where the text is empty, or begins with a space or a `:`
cut_space : (c : ℕ) (cs : List ℕ) → c ≡ 32 → IsCutHere (c ∷ cs) (slice_split is_space (spaced cs))
cut_space c cs e = let P : ℕ → Type 0 = λ x. IsCutHere (x ∷ cs) (slice_split is_space (spaced cs)) in subst P (sym e) refl

cut_colon : (c : ℕ) (cs : List ℕ) → c ≡ 58 → IsCutHere (c ∷ cs) ((58 ∷ []) ∷ slice_split is_space (spaced cs))
cut_colon c cs e = let P : ℕ → Type 0 = λ x. IsCutHere (x ∷ cs) ((58 ∷ []) ∷ slice_split is_space (spaced cs)) in subst P (sym e) refl

cut_by : (c : ℕ) (cs : List ℕ) (s k : Bool) → is_space c ≡ s → is_colon c ≡ k → (not s && not k) ≡ false → (tail : List (List ℕ)) × IsCutHere (c ∷ cs) tail
cut_by c cs true k e f h = (_, cut_space c cs (is_space_is c e))
cut_by c cs false true e f h = (_, cut_colon c cs (grind (arith, nat_tests)))
cut_by c cs false false e f h = cc

cut_here : (rest : List ℕ) → ((y : ℕ) (ys : List ℕ) → rest ≡ y ∷ ys → is_word_character y ≡ false) → (tail : List (List ℕ)) × IsCutHere rest tail
cut_here [] h = ([], refl)
cut_here (c ∷ cs) h = cut_by c cs (is_space c) (is_colon c) refl refl (h c cs refl)

-- a word in front is the first token
pub word_token : (w rest : List ℕ) → 0 < length w → list_all is_word_character w ≡ true → ((y : ℕ) (ys : List ℕ) → rest ≡ y ∷ ys → is_word_character y ≡ false) → tokens_of (w ++ rest) ≡ w ∷ tokens_of rest
word_token [] rest some a h = absurd (omega arith)
word_token (x ∷ w) rest some a h =
    let cut = cut_here rest h in
    let split = word_split (x ∷ w) rest cut.0 a cut.1 in
    ap (λ parts. filter is_some_text parts) split ∙ ap (λ tokens. (x ∷ w) ∷ tokens) (sym (ap (λ parts. filter is_some_text parts) cut.1))

abbrev pub word_length : List ℕ → ℕ
word_length text = prefix_len is_word_character text

front_by : (x : ℕ) (xs : List ℕ) (b : Bool) → 0 < cond b (1 + word_length xs) 0 → 0 < length (take (cond b (1 + word_length xs) 0) (x ∷ xs))
front_by x xs true h = rw one-add (omega arith)
front_by x xs false h = absurd (omega arith)

pub front_some : (xs : List ℕ) → 0 < word_length xs → 0 < length (take (word_length xs) xs)
front_some [] h = absurd (omega arith)
front_some (x ∷ xs) h = front_by x xs (is_word_character x) h

pub word_first : (text : List ℕ) → 0 < word_length text → tokens_of text ≡ take (word_length text) text ∷ tokens_of (drop (word_length text) text)
word_first text some =
    let whole : take (word_length text) text ++ drop (word_length text) text ≡ text = take-append-drop (word_length text) text in
    ap tokens_of (sym whole) ∙ word_token (take (word_length text) text) (drop (word_length text) text) (front_some text some) (passing_front is_word_character text) (stops is_word_character text)

pub empty_rest : (text rest : List ℕ) → rest ≡ drop (prefix_len is_space text) text → length rest < 1 → tokens_of text ≡ []
empty_rest text [] e h = after_spaces text ∙ ap tokens_of (sym e)
empty_rest text (x ∷ xs) e h = absurd (omega arith)

pub colon_rest : (text rest : List ℕ) → rest ≡ drop (prefix_len is_space text) text → 1 ≤ length rest → get_or rest 0 0 ≡ 58 → tokens_of text ≡ take 1 rest ∷ tokens_of (drop 1 rest)
colon_rest text [] e some h = absurd (omega arith)
colon_rest text (x ∷ xs) e some h =
    let P : ℕ → Type 0 = λ y. tokens_of (y ∷ xs) ≡ (y ∷ []) ∷ tokens_of xs in
    after_spaces text ∙ ap tokens_of (sym e) ∙ subst P (sym h) (colon_first xs)

word_here : (text : List ℕ) (x : ℕ) (xs : List ℕ) → x ∷ xs ≡ drop (prefix_len is_space text) text → x ≢ 58 → 0 < word_length (x ∷ xs)
word_here text x xs e h =
    let no_space : is_space x ≡ false = stops is_space text x xs (sym e) in
    let no_colon : is_colon x ≡ false = grind (arith, nat_tests) in
    let word : is_word_character x ≡ true = rw (no_space, no_colon) refl in
    rw word (omega arith)

pub word_some : (text rest : List ℕ) → rest ≡ drop (prefix_len is_space text) text → 1 ≤ length rest → get_or rest 0 0 ≢ 58 → 0 < word_length rest
word_some text [] e some h = absurd (omega arith)
word_some text (x ∷ xs) e some h = word_here text x xs e h

pub word_rest : (text rest : List ℕ) → rest ≡ drop (prefix_len is_space text) text → 1 ≤ length rest → get_or rest 0 0 ≢ 58 → tokens_of text ≡ take (word_length rest) rest ∷ tokens_of (drop (word_length rest) rest)
word_rest text rest e some h = after_spaces text ∙ ap tokens_of (sym e) ∙ word_first rest (word_some text rest e some h)
