-- The manual page, as `man` reads it.
use Rattle.std.specs.Prelude.{ℕ, List, ◌++◌, codes, flat_map}
use Rattle.std.specs.Borrow.{Bor}
use Rattle.fedrun_words.specs.declared.commands.ArgumentWords.{ArgumentWords}
use Rattle.fedrun_words.specs.declared.commands.CommandTables.{CommandTables}
use Rattle.fedrun_words.specs.declared.commands.CommandWords.{CommandWords}
use Rattle.fedrun_words.specs.declared.commands.OptionWords.{OptionWords}
use Rattle.fedrun_help.specs.Tables.{of_each}
use Rattle.fedrun_help.specs.Usage.{argument_text, option_text, usage_text}
use Rattle.fedrun_help.specs.declared.manual.TheConstants.{BEFORE, AFTER}

-- something, and what it is
abbrev pub entry_part : List ℕ → List ℕ → List ℕ
entry_part name about = codes ".TP\n" ++ (name ++ (codes "\n" ++ (about ++ codes "\n")))

-- an argument, an option
abbrev pub argument_part : ArgumentWords → List ℕ
argument_part a = entry_part (argument_text a) a.about.now

abbrev pub option_part : OptionWords → List ℕ
option_part o = entry_part (option_text o) o.about.now

-- a further line on what a command does, by itself
abbrev pub line_part : Bor (List ℕ) → List ℕ
line_part line = codes ".br\n" ++ (line.now ++ codes "\n")

-- a command: its usage, what it does, and what is given to it
unfoldable pub command_part : CommandWords → List ℕ
command_part c =
    codes ".TP\n.B " ++ (usage_text c ++ (codes "\n" ++ (c.about.now ++ (codes "\n"
    ++ (flat_map line_part c.more.now ++ (codes ".RS\n" ++ (flat_map argument_part c.arguments.now
    ++ (flat_map argument_part c.may_follow.now ++ (flat_map option_part c.options.now ++ codes ".RE\n")))))))))

-- the manual page
abbrev pub manual_text : CommandTables → List ℕ
manual_text tables = BEFORE.now ++ (of_each command_part tables ++ AFTER.now)
