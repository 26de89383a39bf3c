-- What reading a text as something with names answers.
use Rattle.std.specs.Prelude.{◌≡◌, ℕ, ◌<◌, ◌^◌, ◌⊎◌, List, [], ◌∷◌, ◌++◌, length, replicate, Bool, false, IsTrue, codes}
use Rattle.std.specs.Prelude.{if◌then◌else◌, Option, None, Some, Result, Ok, Err}
use Rattle.std.specs.Option.{ok_or}
use Rattle.std.specs.List.{list_all}
use Rattle.plan_slots.specs.declared.slots.Slots.{Slots}
use Rattle.reactor_program.specs.Tokens.{is_word_character, tokens_of}
use Rattle.reactor_program.specs.Grammar.{is_slot_name, SpellsDuration}
use Rattle.reactor_program.specs.Resolution.{operand_slot}
use Rattle.reactor_program.specs.declared.fault.LineFault.{LineFault}
use Rattle.reactor_program.specs.declared.fault.LineFault.TheVariants.{NoForm, UnknownName}
use Rattle.reactor_program.specs.declared.program_fault.ProgramFault.{ProgramFault}
use Rattle.reactor_program.specs.declared.program_fault.ProgramFault.TheVariants.{BadLine, UnknownOperand}

-- Ok where something is written there whose names are there, with what it is by numbers
abbrev pub IsReading : {W A : Type 0} → (W → Type 0) → (W → Option A) → Result A LineFault → Type 0
IsReading {W} written meaning (Ok x) = (w : W) × written w × (meaning w ≡ Some x)
IsReading {W} written meaning (Err NoForm) = (w : W) → written w → ⊥
IsReading {W} written meaning (Err UnknownName) = (w : W) × written w × (meaning w ≡ None)

abbrev pub begins_with_word : List ℕ → Bool
begins_with_word [] = false
begins_with_word (c ∷ rest) = is_word_character c

-- a token in front of a text: a `:`, or a word that ends there
abbrev pub IsTokenBefore : List ℕ → List ℕ → Type 0
IsTokenBefore rest token =
    (token ≡ codes ":") ⊎ ((0 < length token) × IsTrue (list_all is_word_character token)
    × (begins_with_word rest ≡ false))

-- a text is some spaces, its first token, and what follows it
pub record IsFirstToken (text token rest : List ℕ) : Type 0 where
  pub spaces : ℕ
  pub text_is : text ≡ replicate spaces 32 ++ (token ++ rest)
  pub token_is : IsTokenBefore rest token

-- the first two tokens of a text as they stand there, with what spaces are between them, and what follows them
pub record AreFirstTokens (text both rest : List ℕ) : Type 0 where
  pub first : List ℕ
  pub second : List ℕ
  pub spaces : ℕ
  pub tokens : tokens_of text ≡ first ∷ second ∷ tokens_of rest
  pub both_are : both ≡ first ++ (replicate spaces 32 ++ second)
  -- by themselves they are the same two tokens, with these spaces between them or with one
  pub both_tokens : tokens_of both ≡ first ∷ second ∷ []
  pub with_one_space : tokens_of (first ++ codes " " ++ second) ≡ first ∷ second ∷ []

-- the text is a duration of this time, and then this one token
abbrev pub IsTimed : List ℕ → ℕ → List ℕ → Type 0
IsTimed text time token =
    (duration : List (List ℕ)) × (tokens_of text ≡ duration ++ token ∷ []) × SpellsDuration time duration
    × (time < 2 ^ 62)

-- a program's fault, by that of a line
abbrev pub told_at : ℕ → ℕ → LineFault → ProgramFault
told_at reaction line NoForm = BadLine reaction line
told_at reaction line UnknownName = UnknownOperand reaction line

-- a name with the number that it stands for, if any
abbrev pub name_read : Bool → Option ℕ → Result ℕ LineFault
name_read well_formed number = if well_formed then ok_or number UnknownName else Err NoForm

abbrev pub slot_read : Slots → List ℕ → Result ℕ LineFault
slot_read s x = name_read (is_slot_name x) (operand_slot s x)

-- what is made of an answer
abbrev pub made_of : {A B : Type 0} → (A → B) → Result A LineFault → Result B LineFault
made_of f (Ok a) = Ok (f a)
made_of f (Err fault) = Err fault

-- what is made of two answers: no form where either has none
abbrev pub made_of_both : {A B C : Type 0} → (A → B → C) → Result A LineFault → Result B LineFault → Result C LineFault
made_of_both f (Ok a) (Ok b) = Ok (f a b)
made_of_both f (Ok a) (Err fault) = Err fault
made_of_both f (Err NoForm) b = Err NoForm
made_of_both f (Err UnknownName) (Ok b) = Err UnknownName
made_of_both f (Err UnknownName) (Err fault) = Err fault

abbrev pub pair_of : {A B : Type 0} → A → B → A × B
pair_of a b = (a, b)
