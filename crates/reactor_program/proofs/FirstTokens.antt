-- Where a text's first token stands, and its first two.
use Rattle.std.proofs.Common.{◌≡◌, ◌≢◌, ℕ, zero, suc, ◌+◌, ◌-◌, ◌<◌, ◌≤◌, inl, inr, Bool, true, false, cond, List, [], ◌∷◌, ◌++◌, length, length-append, get_or, take, drop, replicate, codes, refl, sym, ap, ◌∙◌, subst, arith, one-add}
use Rattle.std.specs.List.{prefix_len, list_all}
use Rattle.std.proofs.lemmas.List.{take-append-drop, append_assoc, append-nil}
use Rattle.std.proofs.Math.Seq.{take-append_seam, drop-append_seam}
use Rattle.tag_text.proofs.Parts.{passing_front, spaces_front}
use Rattle.reactor_program.specs.Tokens.{is_space, is_word_character, tokens_of}
use Rattle.reactor_program.specs.Reading.{begins_with_word, IsTokenBefore, IsFirstToken, AreFirstTokens}
use Rattle.reactor_program.proofs.Splitting.{stops, space_skipped, colon_first, word_token, word_length, word_some, front_some}

-- spaces in front
pub tokens_after_spaces : (n : ℕ) (text : List ℕ) → tokens_of (replicate n 32 ++ text) ≡ tokens_of text
tokens_after_spaces zero text = refl
tokens_after_spaces (suc n) text = space_skipped 32 (replicate n 32 ++ text) refl ∙ tokens_after_spaces n text

-- one token
parts_at : (text rest : List ℕ) (n : ℕ) → rest ≡ drop (prefix_len is_space text) text → text ≡ replicate (prefix_len is_space text) 32 ++ (take n rest ++ drop n rest)
parts_at text rest n e =
    let front : take (prefix_len is_space text) text ++ drop (prefix_len is_space text) text ≡ text = take-append-drop (prefix_len is_space text) text in
    let whole : take n rest ++ drop n rest ≡ drop (prefix_len is_space text) text = take-append-drop n rest ∙ e in
    sym (ap (λ x. replicate (prefix_len is_space text) 32 ++ x) whole ∙ ap (λ x. x ++ drop (prefix_len is_space text) text) (sym (spaces_front text)) ∙ front)

pub colon_token : (text rest : List ℕ) → rest ≡ drop (prefix_len is_space text) text → 1 ≤ length rest → get_or rest 0 0 ≡ 58 → IsFirstToken text (take 1 rest) (drop 1 rest)
colon_token text rest e some h = record {
  spaces = prefix_len is_space text;
  text_is = parts_at text rest 1 e;
  token_is = inl (first rest some h);
}
  where
    first : (rest : List ℕ) → 1 ≤ length rest → get_or rest 0 0 ≡ 58 → take 1 rest ≡ codes ":"
    first [] some h = absurd (omega arith)
    first (x ∷ xs) some h = ap (λ y. y ∷ []) h

no_word : (xs : List ℕ) → ((y : ℕ) (ys : List ℕ) → xs ≡ y ∷ ys → is_word_character y ≡ false) → begins_with_word xs ≡ false
no_word [] h = refl
no_word (x ∷ xs) h = h x xs refl

pub word_token_at : (text rest : List ℕ) → rest ≡ drop (prefix_len is_space text) text → 1 ≤ length rest → get_or rest 0 0 ≢ 58 → IsFirstToken text (take (word_length rest) rest) (drop (word_length rest) rest)
word_token_at text rest e some h = record {
  spaces = prefix_len is_space text;
  text_is = parts_at text rest (word_length rest) e;
  token_is = inr (front_some rest (word_some text rest e some h), passing_front is_word_character rest, no_word (drop (word_length rest) rest) (stops is_word_character rest));
}

-- a token is the first of what it stands in front of
pub first_by_itself : (token rest : List ℕ) → IsTokenBefore rest token → tokens_of (token ++ rest) ≡ token ∷ tokens_of rest
first_by_itself token rest (inl e) =
    let P : List ℕ → Type 0 = λ t. tokens_of (t ++ rest) ≡ t ∷ tokens_of rest in
    subst P (sym e) (colon_first rest)
first_by_itself token rest (inr h) = word_token token rest h.0 h.1 (begins rest h.2)
  where
    begins : (xs : List ℕ) → begins_with_word xs ≡ false → (y : ℕ) (ys : List ℕ) → xs ≡ y ∷ ys → is_word_character y ≡ false
    begins [] h y ys e = cc
    begins (x ∷ xs) h y ys e = let f : x ≡ y = cc in ap is_word_character (sym f) ∙ h

moved : (token rest other : List ℕ) → begins_with_word other ≡ begins_with_word rest → IsTokenBefore rest token → IsTokenBefore other token
moved token rest other e (inl h) = inl h
moved token rest other e (inr h) = inr (h.0, h.1, e ∙ h.2)

ended : (token rest other : List ℕ) → begins_with_word other ≡ false → IsTokenBefore rest token → IsTokenBefore other token
ended token rest other e (inl h) = inl h
ended token rest other e (inr h) = inr (h.0, h.1, e)

token_some : (token rest : List ℕ) → IsTokenBefore rest token → 0 < length token
token_some token rest (inl e) = omega (arith, ap length e)
token_some token rest (inr h) = h.0

alone : (token rest : List ℕ) → IsTokenBefore rest token → tokens_of token ≡ token ∷ []
alone token rest h = ap tokens_of (sym (append-nil token)) ∙ first_by_itself token [] (ended token rest [] refl h)

pub single_token : (word : List ℕ) → 0 < length word → list_all is_word_character word ≡ true → tokens_of word ≡ word ∷ []
single_token word some h = alone word [] (inr (some, h, refl))

-- two tokens
begins_same : (n : ℕ) (second rest : List ℕ) → 0 < length second → begins_with_word (replicate n 32 ++ second) ≡ begins_with_word (replicate n 32 ++ (second ++ rest))
begins_same zero [] rest h = absurd (omega arith)
begins_same zero (x ∷ xs) rest h = refl
begins_same (suc n) second rest h = refl

both_tokens : (first second after rest : List ℕ) (n : ℕ) → after ≡ replicate n 32 ++ (second ++ rest) → IsTokenBefore after first → IsTokenBefore rest second
    → tokens_of (first ++ (replicate n 32 ++ second)) ≡ first ∷ second ∷ []
both_tokens first second after rest n e f s =
    let same : begins_with_word (replicate n 32 ++ second) ≡ begins_with_word after = begins_same n second rest (token_some second rest s) ∙ ap begins_with_word (sym e) in
    first_by_itself first (replicate n 32 ++ second) (moved first after (replicate n 32 ++ second) same f)
    ∙ ap (λ ts. first ∷ ts) (tokens_after_spaces n second ∙ alone second rest s)

with_one_space : (first second after rest : List ℕ) → IsTokenBefore after first → IsTokenBefore rest second → tokens_of (first ++ codes " " ++ second) ≡ first ∷ second ∷ []
with_one_space first second after rest f s =
    ap tokens_of (append_assoc first (codes " ") second)
    ∙ first_by_itself first (32 ∷ second) (ended first after (32 ∷ second) refl f)
    ∙ ap (λ ts. first ∷ ts) (tokens_after_spaces 1 second ∙ alone second rest s)

-- no spaces are in front of what follows the spaces
none_left : (text rest more : List ℕ) (n : ℕ) → rest ≡ drop (prefix_len is_space text) text → rest ≡ replicate n 32 ++ more → rest ≡ more
none_left text rest more zero e f = f
none_left text rest more (suc n) e f =
    let no : is_space 32 ≡ false = stops is_space text 32 (replicate n 32 ++ more) (sym e ∙ f) in cc

pub two_first : (text here after rest first second front back : List ℕ) → here ≡ drop (prefix_len is_space text) text → tokens_of text ≡ first ∷ second ∷ tokens_of rest
    → IsFirstToken here first after → IsFirstToken after second rest
    → front ≡ take (length here - length rest) here → back ≡ drop (length here - length rest) here → AreFirstTokens text front back
two_first text here after rest first second front back e t f s g h =
    let both : List ℕ = first ++ (replicate s.spaces 32 ++ second) in
    let here_is : here ≡ first ++ after = none_left text here (first ++ after) f.spaces e f.text_is in
    let whole : here ≡ both ++ rest =
    here_is ∙ ap (λ x. first ++ x) (s.text_is ∙ sym (append_assoc (replicate s.spaces 32) second rest)) ∙ sym (append_assoc first (replicate s.spaces 32 ++ second) rest) in
    let long : length here - length rest ≡ length both = omega (arith, ap length whole, length-append both rest) in
    let front_is : front ≡ both = g ∙ ap (λ k. take k here) long ∙ ap (take (length both)) whole ∙ take-append_seam both rest in
    let back_is : back ≡ rest = h ∙ ap (λ k. drop k here) long ∙ ap (drop (length both)) whole ∙ drop-append_seam both rest in
    record {
      first = first;
      second = second;
      spaces = s.spaces;
      tokens = t ∙ ap (λ x. first ∷ second ∷ tokens_of x) (sym back_is);
      both_are = front_is;
      both_tokens = ap tokens_of front_is ∙ both_tokens first second after rest s.spaces s.text_is f.token_is s.token_is;
      with_one_space = with_one_space first second after rest f.token_is s.token_is;
    }

pub not_longer : (text token rest : List ℕ) → IsFirstToken text token rest → length rest ≤ length text
not_longer text token rest h =
    omega (arith, ap length h.text_is, length-append (replicate h.spaces 32) (token ++ rest), length-append token rest)
