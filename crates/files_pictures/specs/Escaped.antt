-- Texts as character data of an XML file: no letter of them is read as part of the file's form.
use Rattle.std.specs.Prelude.{ℕ, Bool, not, ◌||◌, ◌==◌, nat_lt, if◌then◌else◌, List, codes, encode_utf8}
use Rattle.std.specs.List.{flat_map}
use Rattle.std.specs.Str.{chars}

-- a control character, or one of the two that no XML file may have
abbrev pub is_forbidden : ℕ → Bool
is_forbidden letter = nat_lt letter 32 || (letter == 65534 || letter == 65535)

-- a letter that has no meaning of its own there; a forbidden one is a space
unfoldable pub plain_letter : ℕ → List ℕ
plain_letter letter = if is_forbidden letter then codes " " else encode_utf8 letter

-- a letter; of `&`, `<`, `>` and both quotes, its name
unfoldable pub escaped_letter : ℕ → List ℕ
escaped_letter letter =
    if letter == 38 then codes "&amp;" else (
    if letter == 60 then codes "&lt;" else (
    if letter == 62 then codes "&gt;" else (
    if letter == 34 then codes "&quot;" else (
    if letter == 39 then codes "&apos;" else plain_letter letter))))

-- a text, letter by letter
unfoldable pub escaped : List ℕ → List ℕ
escaped text = flat_map escaped_letter (chars text)

-- a byte by which no tag begins or ends, nor what stands in one between quotes
abbrev pub is_harmless : ℕ → Bool
is_harmless byte = not (byte == 60 || (byte == 62 || (byte == 34 || byte == 39)))
