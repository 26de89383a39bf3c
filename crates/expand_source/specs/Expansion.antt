-- The federation file that the parts of a source become.
use Rattle.std.specs.Prelude.{◌≡◌, ℕ, zero, suc, ◌+ℤ◌, ℤ, pos, ◌⊎◌, Bool, true, false, not, ◌&&◌, ◌||◌, IsTrue, List, [], ◌∷◌, ◌++◌, length, Option, None, Some}
use Rattle.std.specs.Prelude.{◌==◌}
use Rattle.std.specs.List.{AllZip, list_all}
use Rattle.std.specs.Fmt.{signed_decimal}
use Rattle.reactor_program.specs.declared.program.Operand.TheVariants.{Number}
use Rattle.expand_expressions.specs.declared.formula.Formula.{Formula}
use Rattle.expand_expressions.specs.declared.known.NamedOperand.{NamedOperand}
use Rattle.expand_expressions.specs.Meaning.{value_of}
use Rattle.expand_expressions.specs.Reading.{Reads}
use Rattle.expand_source.specs.declared.part.Part.{Part}
use Rattle.expand_source.specs.declared.part.Range.{Range}
use Rattle.expand_source.specs.declared.part.Setting.{Setting}
use Rattle.expand_source.specs.declared.token.Token.{Token}
use Rattle.expand_source.specs.declared.token.TokenKind.{TokenKind}
use Rattle.expand_source.specs.declared.token.TokenKind.TheVariants.{Quoted, Comment, LineEnd, Open, Close, Plain}

-- an expression over these names, which has this value in every state
abbrev pub HasValue : List NamedOperand → List ℕ → ℤ → Type 0
HasValue names text n =
    (formula : Formula) × Reads names [] text formula
    × ((states : List ℤ) (present : ℕ → Option ℤ) → value_of states present formula ≡ n)

-- a character that is no brace
abbrev pub is_plain : ℕ → Bool
is_plain c = not ((c == 123) || (c == 125))

-- a text without braces
abbrev pub IsPlain : List ℕ → Type 0
IsPlain text = IsTrue (list_all is_plain text)

-- the digits of an expression's value
abbrev pub IsNumber : List NamedOperand → List ℕ → List ℕ → Type 0
IsNumber names expression digits = (n : ℤ) × HasValue names expression n × (digits ≡ signed_decimal n)

-- a text with its braces filled: what stands before the first of them, the digits of its value, and what follows,
-- filled too
pub data IsFilled (names : List NamedOperand) : List ℕ → List ℕ → Type 0 where
  as_it_is : (text : List ℕ) → IsPlain text → IsFilled names text text
  in_braces : (front expression rest digits filled : List ℕ) → IsPlain front → IsPlain expression → IsNumber names expression digits
      → IsFilled names rest filled → IsFilled names (front ++ (123 ∷ (expression ++ (125 ∷ rest)))) (front ++ (digits ++ filled))

-- what stands before the first braces of a text, within them, and behind them
abbrev pub IsNextHole : List ℕ → List ℕ → List ℕ → List ℕ → Type 0
IsNextHole text front expression rest =
    (text ≡ front ++ (123 ∷ (expression ++ (125 ∷ rest)))) × IsPlain front × IsPlain expression

-- nothing but a quote stands on either side of the braces
abbrev pub is_alone : List ℕ → List ℕ → Bool
is_alone front rest = (length front == 1) && (length rest == 1)

-- a text in quotes with its braces filled: where nothing else stands in them it is the number, without quotes
abbrev pub IsQuotedFilled : List NamedOperand → List ℕ → List ℕ → Type 0
IsQuotedFilled names quoted text =
    (IsPlain quoted × (text ≡ quoted))
    ⊎ ((front expression rest : List ℕ) × IsNextHole quoted front expression rest
    × (((is_alone front rest ≡ true) × IsNumber names expression text)
    ⊎ ((is_alone front rest ≡ false) × IsFilled names quoted text)))

-- what becomes of a token: what isn't in quotes stays as it is
abbrev pub IsTokenFilled : List NamedOperand → TokenKind → List ℕ → List ℕ → Type 0
IsTokenFilled names Quoted token text = IsQuotedFilled names token text
IsTokenFilled names Comment token text = text ≡ token
IsTokenFilled names LineEnd token text = text ≡ token
IsTokenFilled names Open token text = text ≡ token
IsTokenFilled names Close token text = text ≡ token
IsTokenFilled names Plain token text = text ≡ token

-- what becomes of tokens, one behind the other
abbrev pub AreFilled : List NamedOperand → List Token → List ℕ → Type 0
AreFilled names [] text = text ≡ []
AreFilled names (token ∷ tokens) text =
    (first rest : List ℕ) × (text ≡ first ++ rest) × IsTokenFilled names token.kind token.text.now first
    × AreFilled names tokens rest

-- a name for a number
abbrev pub named_number : List ℕ → ℤ → NamedOperand
named_number name n = record { name = name; operand = Number n }

-- the name of a copy's number, where a part has more than one
abbrev pub number_of_copy : Option Range → ℕ → List NamedOperand
number_of_copy None k = []
number_of_copy (Some range) k = named_number range.name (range.first +ℤ pos k) ∷ []

-- what a copy sets, each of them an expression over these names
abbrev pub AreSet : List NamedOperand → List Setting → List NamedOperand → Type 0
AreSet names = AllZip (λ setting set. (n : ℤ) × HasValue names setting.expression n × (set ≡ named_number setting.name n))

-- What names stand for in a part's k-th copy, counted from 0: its number, then what it sets, then what its class has by
-- default, then parameters of the source. What it sets is worked out over its number and the source's parameters.
abbrev pub AreNames : Part → ℕ → List NamedOperand → Type 0
AreNames part k names =
    (set : List NamedOperand) × AreSet (number_of_copy part.range k ++ part.parameters.now) part.settings.items set
    × (names ≡ number_of_copy part.range k ++ (set ++ (part.defaults.items ++ part.parameters.now)))

-- a part's k-th copy
abbrev pub IsCopy : Part → ℕ → List ℕ → Type 0
IsCopy part k text = (names : List NamedOperand) × AreNames part k names × AreFilled names part.template.items text

-- the first copies of a part, one behind the other
abbrev pub AreCopies : Part → ℕ → List ℕ → Type 0
AreCopies part zero text = text ≡ []
AreCopies part (suc k) text = (front copy : List ℕ) × (text ≡ front ++ copy) × AreCopies part k front × IsCopy part k copy

-- how many copies a part has
abbrev pub copy_count : Option Range → ℕ
copy_count None = 1
copy_count (Some range) = range.count

-- the federation file: all copies of the first part, then those of the next, and so on
abbrev pub IsExpansion : List Part → List ℕ → Type 0
IsExpansion [] text = text ≡ []
IsExpansion (part ∷ parts) text =
    (first rest : List ℕ) × (text ≡ first ++ rest) × AreCopies part (copy_count part.range) first × IsExpansion parts rest
