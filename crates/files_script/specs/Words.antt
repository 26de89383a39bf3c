-- What the words of a line mean: words are parted by one space, and a name is a federate's.
use Rattle.std.specs.Prelude.{ℕ, ◌^◌, Bool, not, ◌&&◌, nat_eq, nat_lt, if◌then◌else◌, List, [], ◌∷◌, Option, None, Some}
use Rattle.std.specs.Prelude.{codes}
use Rattle.std.specs.Option.{option_and_then}
use Rattle.std.specs.List.{slice_split}
use Rattle.std.specs.Str.{bytes_eq, all_ascii_digits}
use Rattle.std.specs.Str.Parse.{digits_value}
use Rattle.plan.specs.declared.draft.Draft.{Draft}
use Rattle.plan.specs.Federation.{federate_number}
use Rattle.world_stations.specs.declared.dir.Dir.{Dir}
use Rattle.world_stations.specs.declared.dir.Dir.TheVariants.{Up, Down}
use Rattle.world_stations.specs.declared.step.Step.TheVariants.{Deliver, Resend, Reconnect, Announce, Advance, Forget}
use Rattle.files_script.specs.declared.command.Command.{Command}
use Rattle.files_script.specs.declared.command.Command.TheVariants.{Make, Skip, Round}

-- a space
abbrev pub is_space : ℕ → Bool
is_space byte = nat_eq byte 32

-- a byte that parts no words
abbrev pub is_within_word : ℕ → Bool
is_within_word byte = not (is_space byte)

-- the words of a line: what stands before, between and after its spaces, which may be nothing
abbrev pub words_of : List ℕ → List (List ℕ)
words_of line = slice_split is_space line

-- a frame's number: ASCII digits, for a number from 1 to 4294967295
abbrev pub frame_number : List ℕ → Option ℕ
frame_number word =
    if all_ascii_digits word && nat_lt 0 (digits_value 10 word) && nat_lt (digits_value 10 word) (2 ^ 32)
    then Some (digits_value 10 word)
    else None

-- the direction of a federate's link that a word says
abbrev pub direction : List ℕ → ℕ → Option Dir
direction way j =
    if bytes_eq way (codes "up") then Some (Up j)
    else if bytes_eq way (codes "down") then Some (Down j)
    else None

-- the direction that a word and a name say
abbrev pub direction_named : Draft → List ℕ → List ℕ → Option Dir
direction_named d way name = option_and_then (direction way) (federate_number d.federates name)

-- a line of one word
abbrev pub alone : List ℕ → Option Command
alone form = if bytes_eq form (codes "round") then Some Round else None

-- a line of a word and a federate
abbrev pub of_federate : List ℕ → ℕ → Option Command
of_federate form j =
    if bytes_eq form (codes "announce") then Some (Make (Announce j))
    else if bytes_eq form (codes "advance") then Some (Make (Advance j))
    else if bytes_eq form (codes "forget") then Some (Make (Forget j))
    else None

-- a line of a word and a direction
abbrev pub of_direction : List ℕ → Dir → Option Command
of_direction form dir =
    if bytes_eq form (codes "resend") then Some (Make (Resend dir))
    else if bytes_eq form (codes "reconnect") then Some (Make (Reconnect dir))
    else if bytes_eq form (codes "skip") then Some (Skip dir)
    else None

-- a line of a word, a direction and a frame's number
abbrev pub of_frame : List ℕ → Dir → ℕ → Option Command
of_frame form dir k = if bytes_eq form (codes "deliver") then Some (Make (Deliver dir k)) else None

-- what these words ask for, if they have a form that there is and name a federate
abbrev pub command_of : Draft → List (List ℕ) → Option Command
command_of d [] = None
command_of d (form ∷ []) = alone form
command_of d (form ∷ name ∷ []) = option_and_then (of_federate form) (federate_number d.federates name)
command_of d (form ∷ way ∷ name ∷ []) = option_and_then (of_direction form) (direction_named d way name)
command_of d (form ∷ way ∷ name ∷ number ∷ []) =
    option_and_then (λ dir. option_and_then (of_frame form dir) (frame_number number)) (direction_named d way name)
command_of d (form ∷ way ∷ name ∷ number ∷ more ∷ rest) = None
