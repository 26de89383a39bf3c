-- Words and spaces that stand in front.
use Rattle.std.proofs.Common.{◌≡◌, ℕ, false, List, [], ◌∷◌, ◌++◌, take, drop, replicate, refl, sym, ap, ◌∙◌}
use Rattle.std.specs.List.{prefix_len}
use Rattle.std.proofs.lemmas.List.{take-append-drop}
use Rattle.tag_text.proofs.Parts.{passing_front, spaces_front}
use Rattle.reactor_program.specs.Tokens.{is_space}
use Rattle.reactor_program.proofs.Splitting.{stops}
use Rattle.expand_expressions.specs.Words.{is_word_character, begins_word, IsWordInFront, IsBehindSpaces}

pub behind_spaces : (text : List ℕ) → IsBehindSpaces text (drop (prefix_len is_space text) text)
behind_spaces text =
    let n = prefix_len is_space text in
    (n, sym (take-append-drop n text) ∙ ap (λ front. front ++ drop n text) (spaces_front text))

no_word : (xs : List ℕ) → ((y : ℕ) (ys : List ℕ) → xs ≡ y ∷ ys → is_word_character y ≡ false) → begins_word xs ≡ false
no_word [] h = refl
no_word (x ∷ xs) h = h x xs refl

pub word_in_front : (text : List ℕ) → IsWordInFront text (take (prefix_len is_word_character text) text) (drop (prefix_len is_word_character text) text)
word_in_front text =
    let n = prefix_len is_word_character text in
    (sym (take-append-drop n text), passing_front is_word_character text, no_word (drop n text) (stops is_word_character text))
