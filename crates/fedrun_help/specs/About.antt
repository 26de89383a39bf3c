-- What the program says of its own commands.
use Rattle.std.specs.Prelude.{ℕ, List, ◌++◌, codes}
use Rattle.fedrun_words.specs.declared.commands.CommandTables.{CommandTables}
use Rattle.fedrun_words.specs.declared.request.AboutRequest.{AboutRequest}
use Rattle.fedrun_words.specs.declared.request.AboutTopic.{AboutTopic}
use Rattle.fedrun_words.specs.declared.request.AboutTopic.TheVariants.{Commands, Command, Completions, Manual}
use Rattle.fedrun_words.specs.declared.request.Shell.{Shell}
use Rattle.fedrun_words.specs.declared.request.Shell.TheVariants.{Bash, Zsh, Fish}
use Rattle.fedrun_help.specs.Completions.{bash_text, zsh_text, fish_text}
use Rattle.fedrun_help.specs.Help.{help_of_all, help_of_one}
use Rattle.fedrun_help.specs.Manual.{manual_text}

-- the script for a shell, of these commands
abbrev pub script_text : CommandTables → Shell → List ℕ
script_text commands Bash = bash_text commands
script_text commands Zsh = zsh_text commands
script_text commands Fish = fish_text commands

-- what is printed of these commands, or of the one that is asked for
abbrev pub topic_text : CommandTables → AboutTopic → List ℕ
topic_text commands Commands = help_of_all commands
topic_text commands (Command command) = help_of_one command.now
topic_text commands (Completions shell) = script_text commands shell
topic_text commands Manual = manual_text commands

-- what is printed where this is asked for
unfoldable pub about_text : AboutRequest → List ℕ
about_text asked = topic_text asked.commands asked.topic

-- of which commit it is, and whether it is proved
abbrev pub version_text : List ℕ → List ℕ → List ℕ
version_text commit proof = commit ++ (proof ++ codes "\n")
