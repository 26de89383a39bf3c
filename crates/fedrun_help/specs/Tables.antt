-- What is said of each command, from the first table on.
use Rattle.std.specs.Prelude.{ℕ, List, ◌++◌, flat_map}
use Rattle.fedrun_words.specs.declared.commands.CommandTables.{CommandTables}
use Rattle.fedrun_words.specs.declared.commands.CommandWords.{CommandWords}

abbrev pub of_each : (CommandWords → List ℕ) → CommandTables → List ℕ
of_each said tables = flat_map said tables.of_federations.now ++ flat_map said tables.others.now
