-- Completions: for each shell a script, by which it knows the commands and their options.
use Rattle.std.specs.Prelude.{ℕ, Bool, List, [], ◌++◌, codes, flat_map, Option, None, Some, if◌then◌else◌}
use Rattle.std.specs.Borrow.{Bor}
use Rattle.fedrun_words.specs.declared.commands.CommandTables.{CommandTables}
use Rattle.fedrun_words.specs.declared.commands.CommandWords.{CommandWords}
use Rattle.fedrun_words.specs.declared.commands.OptionWords.{OptionWords}
use Rattle.fedrun_help.specs.Tables.{of_each}
use Rattle.fedrun_help.specs.declared.completions.TheConstants.{BEFORE_BASH_NAMES, BEFORE_BASH_COMMANDS}
use Rattle.fedrun_help.specs.declared.completions.TheConstants.{AFTER_BASH_COMMANDS}
use Rattle.fedrun_help.specs.declared.completions.TheConstants.{BEFORE_ZSH_NAMES, BEFORE_ZSH_COMMANDS}
use Rattle.fedrun_help.specs.declared.completions.TheConstants.{AFTER_ZSH_COMMANDS}
use Rattle.fedrun_help.specs.declared.completions.TheConstants.{BEFORE_FISH_NAMES, AFTER_FISH_NAMES}

-- a command's name behind others
abbrev pub spaced_name : CommandWords → List ℕ
spaced_name c = codes " " ++ c.name.now

-- for bash: an option behind others, and the options of a command
abbrev pub bash_option : OptionWords → List ℕ
bash_option o = codes " --" ++ o.name.now

unfoldable pub bash_command : CommandWords → List ℕ
bash_command c =
    codes "      " ++ (c.name.now ++ (codes ") words='--help" ++ (flat_map bash_option c.options.now ++ codes "' ;;\n")))

-- the script for bash
abbrev pub bash_text : CommandTables → List ℕ
bash_text tables =
    BEFORE_BASH_NAMES.now ++ (flat_map spaced_name tables.of_federations.now
    ++ (flat_map spaced_name tables.others.now ++ (BEFORE_BASH_COMMANDS.now
    ++ (flat_map bash_command tables.of_federations.now ++ (flat_map bash_command tables.others.now
    ++ AFTER_BASH_COMMANDS.now)))))

-- for zsh: a command with what it does
abbrev pub zsh_name : CommandWords → List ℕ
zsh_name c = codes "    \"" ++ (c.name.now ++ (codes ":" ++ (c.about.now ++ codes "\"\n")))

-- what an option's value is: a file's name, or any word
abbrev pub zsh_value : Option (Bor (List ℕ)) → Bool → List ℕ
zsh_value None is_file = []
zsh_value (Some value) is_file = if is_file then codes ":file:_files" else codes ": : "

-- an option, and the options of a command
abbrev pub zsh_option : OptionWords → List ℕ
zsh_option o =
    codes " \"--" ++ (o.name.now ++ (codes "[" ++ (o.about.now ++ (codes "]"
    ++ (zsh_value o.value o.is_file ++ codes "\"")))))

unfoldable pub zsh_command : CommandWords → List ℕ
zsh_command c =
    codes "    " ++ (c.name.now ++ (codes ") _arguments '--help[what is given to it]'"
    ++ (flat_map zsh_option c.options.now ++ codes " '*:file:_files' ;;\n")))

-- the script for zsh
abbrev pub zsh_text : CommandTables → List ℕ
zsh_text tables =
    BEFORE_ZSH_NAMES.now ++ (flat_map zsh_name tables.of_federations.now
    ++ (flat_map zsh_name tables.others.now ++ (BEFORE_ZSH_COMMANDS.now
    ++ (flat_map zsh_command tables.of_federations.now ++ (flat_map zsh_command tables.others.now
    ++ AFTER_ZSH_COMMANDS.now)))))

-- for fish: what an option's value is, and an option of the command of this name
abbrev pub fish_value : Option (Bor (List ℕ)) → Bool → List ℕ
fish_value None is_file = []
fish_value (Some value) is_file = if is_file then codes " -r -F" else codes " -x"

unfoldable pub fish_option : List ℕ → OptionWords → List ℕ
fish_option command o =
    codes "complete -c fedrun -n '__fish_seen_subcommand_from " ++ (command ++ (codes "' -l " ++ (o.name.now
    ++ (fish_value o.value o.is_file ++ (codes " -d \"" ++ (o.about.now ++ codes "\"\n"))))))

-- a command with what it does and with its options
unfoldable pub fish_command : CommandWords → List ℕ
fish_command c =
    codes "complete -c fedrun -n __fish_use_subcommand -f -a " ++ (c.name.now ++ (codes " -d \"" ++ (c.about.now
    ++ (codes "\"\n" ++ flat_map (fish_option c.name.now) c.options.now))))

-- the script for fish
abbrev pub fish_text : CommandTables → List ℕ
fish_text tables =
    BEFORE_FISH_NAMES.now ++ (of_each spaced_name tables ++ (AFTER_FISH_NAMES.now ++ of_each fish_command tables))
