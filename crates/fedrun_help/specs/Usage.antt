-- The usage of a command: its name, and what is given to it.
use Rattle.std.specs.Prelude.{ℕ, List, [], ◌∷◌, ◌++◌, codes, flat_map, Option, None, Some, if◌then◌else◌}
use Rattle.std.specs.Borrow.{Bor}
use Rattle.fedrun_words.specs.declared.commands.ArgumentWords.{ArgumentWords}
use Rattle.fedrun_words.specs.declared.commands.CommandWords.{CommandWords}
use Rattle.fedrun_words.specs.declared.commands.OptionWords.{OptionWords}

-- an argument, with two dots where there may be more of it
abbrev pub argument_text : ArgumentWords → List ℕ
argument_text a = if a.is_repeated then a.name.now ++ codes ".." else a.name.now

-- an argument behind others
abbrev pub spaced_argument : ArgumentWords → List ℕ
spaced_argument a = codes " " ++ argument_text a

-- an argument behind others that may follow, in brackets where it may be left out by itself
abbrev pub further_argument : ArgumentWords → List ℕ
further_argument a = if a.is_separate then codes " [" ++ (argument_text a ++ codes "]") else spaced_argument a

-- the arguments that may stand after the others: none of them, or all but those that may be left out by themselves
abbrev pub may_follow_text : List ArgumentWords → List ℕ
may_follow_text [] = []
may_follow_text (first ∷ rest) =
    codes " [" ++ (argument_text first ++ (flat_map further_argument rest ++ codes "]"))

-- an option of this name, with what its value is called
abbrev pub named_option : List ℕ → Option (Bor (List ℕ)) → List ℕ
named_option name None = codes "--" ++ name
named_option name (Some value) = codes "--" ++ (name ++ (codes " " ++ value.now))

-- an option
abbrev pub option_text : OptionWords → List ℕ
option_text o = named_option o.name.now o.value

-- an option behind others, in brackets where it may be left out
abbrev pub option_usage : OptionWords → List ℕ
option_usage o = if o.is_needed then codes " " ++ option_text o else codes " [" ++ (option_text o ++ codes "]")

-- the usage of a command
abbrev pub usage_text : CommandWords → List ℕ
usage_text c =
    codes "fedrun " ++ (c.name.now ++ (flat_map spaced_argument c.arguments.now
    ++ (may_follow_text c.may_follow.now ++ flat_map option_usage c.options.now)))
