-- Words that are no command.
use Rattle.std.specs.Prelude.{ℕ, List, codes}

-- the exit status that goes with them
abbrev pub usage_status : ℕ
usage_status = 2

-- what is printed of them
abbrev pub usage_text : List ℕ
usage_text = codes "usage"
