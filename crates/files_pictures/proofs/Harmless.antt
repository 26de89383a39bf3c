-- Escaped texts have none of the bytes by which tags begin and end, letter by letter.
use Rattle.std.proofs.Common.{◌≡◌, ℕ, ◌+◌, ◌/◌, ◌%◌, ◌≤◌, ◌||◌, ◌&&◌, ◌==◌, Bool, true, false, not, List, [], ◌∷◌, ◌++◌, refl, ap, ◌∙◌, sym, arith, codes}
use lib.Dec.{ltb}
use lib.Utf8.{encode}
use Rattle.std.specs.List.{list_all, flat_map}
use Rattle.std.proofs.lemmas.Bool.{cond_both}
use Rattle.std.proofs.lemmas.Bool.Decides.{nat_tests}
use Rattle.std.proofs.lemmas.List.Folds.{list_all-append}
use Rattle.files_pictures.specs.Escaped.{is_harmless, is_forbidden, plain_letter, escaped_letter}

abbrev Harmless : List ℕ → Type 0
Harmless bytes = list_all is_harmless bytes ≡ true

both : (x y : Bool) → x ≡ true → y ≡ true → (x && y) ≡ true
both true y is and = and
both false y is and = is

none_of : (a b c d : Bool) → a ≡ false → b ≡ false → c ≡ false → d ≡ false → not (a || (b || (c || d))) ≡ true
none_of false false false false p q r s = refl
none_of true b c d p q r s = sym p
none_of false true c d p q r s = sym q
none_of false false true d p q r s = sym r
none_of false false false true p q r s = sym s

cons : (byte : ℕ) (rest : List ℕ) → is_harmless byte ≡ true → Harmless rest → Harmless (byte ∷ rest)
cons byte rest is others = both (is_harmless byte) (list_all is_harmless rest) is others

high : (byte : ℕ) → 128 ≤ byte → is_harmless byte ≡ true
high byte far = grind (arith, nat_tests)

-- a letter that is none of these
encode_harmless : (c : ℕ) → is_harmless c ≡ true → Harmless (encode c)
unfolding encode
encode_harmless c is =
    let last : is_harmless (128 + c % 64) ≡ true = high (128 + c % 64) (omega arith) in
    let middle : is_harmless (128 + c / 64 % 64) ≡ true = high (128 + c / 64 % 64) (omega arith) in
    let first : is_harmless (128 + c / 4096 % 64) ≡ true = high (128 + c / 4096 % 64) (omega arith) in
    let one : List ℕ = (128 + c % 64) ∷ [] in
    let two : List ℕ = (128 + c / 64 % 64) ∷ one in
    let three : List ℕ = (128 + c / 4096 % 64) ∷ two in
    let one_is : Harmless one = cons (128 + c % 64) [] last refl in
    let two_is : Harmless two = cons (128 + c / 64 % 64) one middle one_is in
    let three_is : Harmless three = cons (128 + c / 4096 % 64) two first two_is in
    cond_both (ltb c 128) _ _ Harmless (λ low. cons c [] is refl) (λ low.
    cond_both (ltb c 2048) _ _ Harmless (λ few. cons (192 + c / 64) one (high (192 + c / 64) (omega arith)) one_is) (λ few.
    cond_both (ltb c 65536) _ _ Harmless (λ more. cons (224 + c / 4096) two (high (224 + c / 4096) (omega arith)) two_is)
    (λ more. cons (240 + c / 262144) three (high (240 + c / 262144) (omega arith)) three_is)))

plain_harmless : (letter : ℕ) → is_harmless letter ≡ true → Harmless (plain_letter letter)
unfolding plain_letter
plain_harmless letter is = cond_both (is_forbidden letter) _ _ Harmless (λ forbidden. refl) (λ forbidden. encode_harmless letter is)

letter_harmless : (letter : ℕ) → Harmless (escaped_letter letter)
unfolding escaped_letter
letter_harmless letter =
    cond_both (letter == 38) _ _ Harmless (λ e. refl) (λ ampersand.
    cond_both (letter == 60) _ _ Harmless (λ e. refl) (λ less.
    cond_both (letter == 62) _ _ Harmless (λ e. refl) (λ greater.
    cond_both (letter == 34) _ _ Harmless (λ e. refl) (λ double.
    cond_both (letter == 39) _ _ Harmless (λ e. refl) (λ single.
    plain_harmless letter (none_of (letter == 60) (letter == 62) (letter == 34) (letter == 39) less greater double single))))))

pub letters_harmless : (letters : List ℕ) → Harmless (flat_map escaped_letter letters)
letters_harmless [] = refl
letters_harmless (letter ∷ rest) =
    list_all-append is_harmless (escaped_letter letter) (flat_map escaped_letter rest)
    ∙ both (list_all is_harmless (escaped_letter letter)) (list_all is_harmless (flat_map escaped_letter rest)) (letter_harmless letter) (letters_harmless rest)
