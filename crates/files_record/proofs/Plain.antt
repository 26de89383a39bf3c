-- Texts without a space or a line feed: names and numbers.
use Rattle.std.proofs.Common.{◌≡◌, ◌≢◌, ◌==◌, ℕ, true, false, not, List, [], ◌∷◌, IsTrue, refl, ap, subst, arith}
use Rattle.std.specs.Prelude.{All}
use Rattle.std.specs.List.{list_all}
use Rattle.std.specs.Str.Parse.{AllDigits}
use Rattle.std.proofs.lemmas.Bool.{and_parts, eqb-true, false≢true, false_from_ne_true}
use Rattle.std.proofs.lemmas.Str.Parse.{digit_from_value}
use Rattle.std.proofs.lemmas.List.Elements.{All-cons, All-nil}
use Rattle.plan_names.specs.Spelling.{is_name, is_name_start, is_name_character}
use Rattle.files_script.specs.Words.{is_space}
use Rattle.files_script.specs.Scripts.{is_within_line}

-- a text that is within one word of one line
pub record IsPlain (text : List ℕ) : Type 0 where
  pub one_line : list_all is_within_line text ≡ true
  pub one_word : All (λ byte. is_space byte ≡ false) text

pub plain_nil : IsPlain []
plain_nil = record { one_line = refl; one_word = All-nil (λ byte. is_space byte ≡ false) }

pub plain_cons : (byte : ℕ) (text : List ℕ) → is_within_line byte ≡ true → is_space byte ≡ false → IsPlain text → IsPlain (byte ∷ text)
plain_cons byte text within part plain = record {
  one_line = rw (within, plain.one_line) refl;
  one_word = All-cons (λ b. is_space b ≡ false) byte text part plain.one_word;
}

-- a byte that isn't a space, and one that isn't a line feed
other_than_space : (byte : ℕ) → byte ≢ 32 → is_space byte ≡ false
other_than_space byte other = false_from_ne_true (is_space byte) (λ e. other (eqb-true byte 32 e))

other_than_line_feed : (byte : ℕ) → byte ≢ 10 → is_within_line byte ≡ true
other_than_line_feed byte other = ap not (false_from_ne_true (byte == 10) (λ e. other (eqb-true byte 10 e)))

-- neither goes on a name
no_space : (byte : ℕ) → is_name_character byte ≡ true → byte ≢ 32
no_space byte is e = let no : false ≡ true = subst (λ x. is_name_character x ≡ true) e is in false≢true no

no_line_feed : (byte : ℕ) → is_name_character byte ≡ true → byte ≢ 10
no_line_feed byte is e = let no : false ≡ true = subst (λ x. is_name_character x ≡ true) e is in false≢true no

characters_plain : (text : List ℕ) → list_all is_name_character text ≡ true → IsPlain text
characters_plain [] is = plain_nil
characters_plain (byte ∷ text) is =
    let parts = and_parts (is_name_character byte) (list_all is_name_character text) is in
    plain_cons byte text (other_than_line_feed byte (no_line_feed byte parts.0)) (other_than_space byte (no_space byte parts.0)) (characters_plain text parts.1)

start_is_character : (byte : ℕ) → is_name_start byte ≡ true → is_name_character byte ≡ true
start_is_character byte is = rw is refl

all_characters : (first : ℕ) (rest : List ℕ) → IsTrue (is_name (first ∷ rest)) → list_all is_name_character (first ∷ rest) ≡ true
all_characters first rest is = grind (arith, start_is_character)

-- a name is within one word of one line
pub name_plain : (name : List ℕ) → IsTrue (is_name name) → IsPlain name
name_plain [] is = plain_nil
name_plain (first ∷ rest) is = characters_plain (first ∷ rest) (all_characters first rest is)

-- so are digits
pub digits_plain : (text : List ℕ) → AllDigits 10 text → IsPlain text
digits_plain [] digits = plain_nil
digits_plain (byte ∷ text) digits =
    let least = (digit_from_value byte digits.0).0 in
    plain_cons byte text (other_than_line_feed byte (λ e. omega arith)) (other_than_space byte (λ e. omega arith)) (digits_plain text digits.1)
