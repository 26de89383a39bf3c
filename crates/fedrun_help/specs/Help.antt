-- Help, as it is printed for those who read it.
use Rattle.std.specs.Prelude.{ℕ, List, ◌++◌, codes, flat_map}
use Rattle.std.specs.Borrow.{Bor}
use Rattle.fedrun_words.specs.declared.commands.ArgumentWords.{ArgumentWords}
use Rattle.fedrun_words.specs.declared.commands.CommandTables.{CommandTables}
use Rattle.fedrun_words.specs.declared.commands.CommandWords.{CommandWords}
use Rattle.fedrun_words.specs.declared.commands.OptionWords.{OptionWords}
use Rattle.fedrun_help.specs.Tables.{of_each}
use Rattle.fedrun_help.specs.Usage.{argument_text, option_text, usage_text}
use Rattle.fedrun_help.specs.declared.help.TheConstants.{BEFORE, AFTER}

-- something, and below it what it is
abbrev pub entry_text : List ℕ → List ℕ → List ℕ
entry_text name about = codes "  " ++ (name ++ (codes "\n      " ++ (about ++ codes "\n")))

-- a command's usage, and what it does
abbrev pub summary_text : CommandWords → List ℕ
summary_text c = entry_text (usage_text c) c.about.now

-- a further line on what it does
abbrev pub line_text : Bor (List ℕ) → List ℕ
line_text line = codes "      " ++ (line.now ++ codes "\n")

-- an argument, and what it is
abbrev pub argument_lines : ArgumentWords → List ℕ
argument_lines a = entry_text (argument_text a) a.about.now

-- an option, and what it does
abbrev pub option_lines : OptionWords → List ℕ
option_lines o = entry_text (option_text o) o.about.now

-- the usage of commands, and what each does
abbrev pub help_of_all : CommandTables → List ℕ
help_of_all tables = BEFORE.now ++ (of_each summary_text tables ++ AFTER.now)

-- the usage of a command, what it does, and what is given to it
abbrev pub help_of_one : CommandWords → List ℕ
help_of_one c =
    summary_text c ++ (flat_map line_text c.more.now ++ (flat_map argument_lines c.arguments.now
    ++ (flat_map argument_lines c.may_follow.now ++ flat_map option_lines c.options.now)))
