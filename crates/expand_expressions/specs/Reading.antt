-- Which formula a text spells: its tokens, and what names in it stand for.
use Rattle.std.specs.Prelude.{◌≡◌, ℕ, ◌<◌, false, ◌⊎◌, List, [], ◌∷◌, ◌++◌, length, codes, IsTrue}
use Rattle.std.specs.Prelude.{Option, Some, All}
use Rattle.std.specs.Option.{option_map}
use Rattle.std.specs.List.{find, list_all}
use Rattle.std.specs.Char.{is_ascii_digit}
use Rattle.std.specs.Str.{bytes_eq}
use Rattle.std.specs.Str.Parse.{digits_value}
use Rattle.plan_names.specs.Naming.{place_of}
use Rattle.reactor_program.specs.declared.program.Operand.{Operand}
use Rattle.reactor_program.specs.declared.program.Operand.TheVariants.{Value, Presence}
use Rattle.expand_expressions.specs.declared.formula.Combination.{Combination}
use Rattle.expand_expressions.specs.declared.formula.Combination.TheVariants.{Least, Greatest}
use Rattle.expand_expressions.specs.declared.formula.Formula.{Formula}
use Rattle.expand_expressions.specs.declared.known.NamedOperand.{NamedOperand}
use Rattle.expand_expressions.specs.declared.token.Sign.{Sign}
use Rattle.expand_expressions.specs.declared.token.Sign.TheVariants.{Or, And, Less, AtMost, Greater, AtLeast, Equal}
use Rattle.expand_expressions.specs.declared.token.Sign.TheVariants.{Different, Plus, Minus, Times, Slash, Percent}
use Rattle.expand_expressions.specs.declared.token.Token.{Token}
use Rattle.expand_expressions.specs.declared.token.Token.TheVariants.{Digits, Name, Operator, Not, Call, Open, Close}
use Rattle.expand_expressions.specs.declared.token.Token.TheVariants.{Comma}
use Rattle.expand_expressions.specs.Words.{begins_word, IsBehindSpaces}
use Rattle.expand_expressions.specs.Meaning.{IsOperandReadable}
use Rattle.expand_expressions.specs.Grammar.{Spells}

-- what a name by itself stands for: of two that are the same the first counts
abbrev pub operand_named : List NamedOperand → List ℕ → Option Operand
operand_named operands name = option_map (λ known. known.operand) (find (λ known. bytes_eq known.name name) operands)

-- `in.NAME`, the value at a slot, or `has.NAME`, whether something is there
abbrev pub IsAtSlot : List (List ℕ) → List ℕ → Operand → Type 0
IsAtSlot readable word (Value slot) =
    (name : List ℕ) × (word ≡ codes "in." ++ name) × (place_of readable name ≡ Some slot)
IsAtSlot readable word (Presence slot) =
    (name : List ℕ) × (word ≡ codes "has." ++ name) × (place_of readable name ≡ Some slot)
IsAtSlot readable word operand = ⊥

-- what a word stands for
abbrev pub StandsFor : List NamedOperand → List (List ℕ) → List ℕ → Operand → Type 0
StandsFor operands readable word operand =
    IsAtSlot readable word operand ⊎ (operand_named operands word ≡ Some operand)

abbrev pub sign_text : Sign → List ℕ
sign_text Or = codes "or"
sign_text And = codes "and"
sign_text Less = codes "<"
sign_text AtMost = codes "<="
sign_text Greater = codes ">"
sign_text AtLeast = codes ">="
sign_text Equal = codes "=="
sign_text Different = codes "!="
sign_text Plus = codes "+"
sign_text Minus = codes "-"
sign_text Times = codes "*"
sign_text Slash = codes "/"
sign_text Percent = codes "%"

-- a sign, which no word is
abbrev pub IsSign : Token → List ℕ → Type 0
IsSign (Operator sign) text = (text ≡ sign_text sign) × (begins_word text ≡ false)
IsSign Open text = text ≡ codes "("
IsSign Close text = text ≡ codes ")"
IsSign Comma text = text ≡ codes ","
IsSign token text = ⊥

-- a text is a sign and what follows it
abbrev pub BeginsWithSign : List ℕ → Token → List ℕ → Type 0
BeginsWithSign text token rest = (sign : List ℕ) × (text ≡ sign ++ rest) × IsSign token sign

-- the two calls
abbrev pub IsCallText : Combination → List ℕ → Type 0
IsCallText Least word = word ≡ codes "min"
IsCallText Greatest word = word ≡ codes "max"
IsCallText combination word = ⊥

-- how a token is written
abbrev pub IsTokenText : List NamedOperand → List (List ℕ) → Token → List ℕ → Type 0
IsTokenText operands readable (Digits n) word =
    (0 < length word) × IsTrue (list_all is_ascii_digit word) × (n ≡ digits_value 10 word)
IsTokenText operands readable (Name operand) word = StandsFor operands readable word operand
IsTokenText operands readable (Operator sign) word = word ≡ sign_text sign
IsTokenText operands readable Not word = word ≡ codes "not"
IsTokenText operands readable (Call combination) word = IsCallText combination word
IsTokenText operands readable Open word = word ≡ codes "("
IsTokenText operands readable Close word = word ≡ codes ")"
IsTokenText operands readable Comma word = word ≡ codes ","

-- no token stands across this place: a word goes on as far as it can
abbrev pub IsBetween : List ℕ → List ℕ → Type 0
IsBetween word rest = (begins_word word ≡ false) ⊎ (begins_word rest ≡ false)

-- a text is a token and what follows it
abbrev pub BeginsWith : List NamedOperand → List (List ℕ) → List ℕ → Token → List ℕ → Type 0
BeginsWith operands readable text token rest =
    (word : List ℕ) × (text ≡ word ++ rest) × IsBetween word rest × IsTokenText operands readable token word

-- the tokens of a text, one behind the other, with any spaces around them
abbrev pub HasTokens : List NamedOperand → List (List ℕ) → List ℕ → List Token → Type 0
HasTokens operands readable text [] = IsBehindSpaces text []
HasTokens operands readable text (token ∷ tokens) =
    (behind rest : List ℕ) × IsBehindSpaces text behind × BeginsWith operands readable behind token rest
    × HasTokens operands readable rest tokens

-- a text spells a formula
abbrev pub Reads : List NamedOperand → List (List ℕ) → List ℕ → Formula → Type 0
Reads operands readable text formula =
    (tokens : List Token) × HasTokens operands readable text tokens × Spells 1 tokens formula []

-- no name stands for a free state, and numbers that have names have 64 bits
abbrev pub AreReadable : ℕ → List NamedOperand → Type 0
AreReadable free operands = All (λ known. IsOperandReadable free known.operand) operands
