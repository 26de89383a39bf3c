-- A schedule: its commands and their lines, and what is wrong with a file.
use Rattle.std.specs.Prelude.{◌≡◌, ℕ, ◌+◌, ◌<◌, ◌≤◌, ◌^◌, Bool, true, not, ◌||◌, ◌==◌, if◌then◌else◌, List, [], ◌∷◌}
use Rattle.std.specs.Prelude.{◌++◌, length, map, All, AllPairs, Option, None, Some, is_some}
use Rattle.std.specs.List.{onto_first}
use Rattle.plan.specs.declared.draft.Draft.{Draft}
use Rattle.plan.specs.Federation.{federate_count}
use Rattle.world_stations.specs.declared.dir.Dir.{Dir}
use Rattle.world_stations.specs.declared.step.Step.{Step}
use Rattle.world_stations.specs.declared.step.Step.TheVariants.{Deliver, Resend, Reconnect, Announce, Advance, Forget}
use Rattle.world_stations.specs.World.{federate_of}
use Rattle.files_script.specs.Words.{words_of, command_of}
use Rattle.files_script.specs.declared.command.Command.{Command}
use Rattle.files_script.specs.declared.command.Command.TheVariants.{Make, Skip, Round}
use Rattle.files_script.specs.declared.script.ScheduleLine.{ScheduleLine}
use Rattle.files_script.specs.declared.script.TheConstants.{MOST_BYTES}
use Rattle.files_script.specs.declared.fault.ScriptFault.{ScriptFault}
use Rattle.files_script.specs.declared.fault.ScriptFault.TheVariants as fault

-- a byte that ends no line: any but a line feed
abbrev pub is_within_line : ℕ → Bool
is_within_line byte = not (byte == 10)

-- the lines of a file: each ends with a line feed, which isn't part of it and which the last one may lack
abbrev pub lines_of : List ℕ → List (List ℕ)
lines_of [] = []
lines_of (byte ∷ []) = (if is_within_line byte then byte ∷ [] else []) ∷ []
lines_of (byte ∷ next ∷ rest) =
    if is_within_line byte then onto_first byte (lines_of (next ∷ rest)) else [] ∷ lines_of (next ∷ rest)

-- how many lines a file has
abbrev pub line_count : List ℕ → ℕ
line_count file = length (lines_of file)

-- a line that does nothing: it is empty, or begins with # (35)
abbrev pub is_idle : List ℕ → Bool
is_idle [] = true
is_idle (byte ∷ rest) = byte == 35

-- the numbers of those lines that ask for something, the first line having this number
abbrev pub asking : ℕ → List (List ℕ) → List ℕ
asking number [] = []
asking number (line ∷ rest) = if is_idle line then asking (number + 1) rest else number ∷ asking (number + 1) rest

-- the command of a line of this number, listed with it: nothing where the line has no form
abbrev pub listed : ℕ → Option Command → List ScheduleLine
listed number None = []
listed number (Some command) = record { number = number; command = command } ∷ []

-- the commands that lines spell, in order, the first line having this number; a line that does nothing spells none
abbrev pub spelled : Draft → ℕ → List (List ℕ) → List ScheduleLine
spelled d number [] = []
spelled d number (line ∷ rest) =
    if is_idle line then spelled d (number + 1) rest else listed number (command_of d (words_of line))
    ++ spelled d (number + 1) rest

-- the number of the first line that does something, but has no form that there is or names no federate
abbrev pub first_bad : Draft → ℕ → List (List ℕ) → Option ℕ
first_bad d number [] = None
first_bad d number (line ∷ rest) =
    if is_idle line || is_some (command_of d (words_of line)) then first_bad d (number + 1) rest else Some number

-- a direction of a federate that is there
abbrev pub IsDirOf : Draft → Dir → Type 0
IsDirOf d dir = federate_of dir < federate_count d

-- a step of federates that are there; a frame is named by a number from 1 to 4294967295
abbrev pub IsStepOf : Draft → Step → Type 0
IsStepOf d (Deliver dir k) = IsDirOf d dir × (0 < k) × (k < 2 ^ 32)
IsStepOf d (Resend dir) = IsDirOf d dir
IsStepOf d (Reconnect dir) = IsDirOf d dir
IsStepOf d (Announce j) = j < federate_count d
IsStepOf d (Advance j) = j < federate_count d
IsStepOf d (Forget j) = j < federate_count d

-- a command about federates that are there
abbrev pub IsCommandOf : Draft → Command → Type 0
IsCommandOf d (Make step) = IsStepOf d step
IsCommandOf d (Skip dir) = IsDirOf d dir
IsCommandOf d Round = Unit {0}

-- a schedule: its commands with the numbers of their lines, and the number of its last line
pub record Script : Type 0 where
  pub lines : List ScheduleLine
  pub last_line : ℕ

-- commands of a file of this many lines: their numbers are those of lines, and rise
pub record AreLinesOf (d : Draft) (last : ℕ) (lines : List ScheduleLine) : Type 0 where
  pub commands : All (λ line. IsCommandOf d line.command) lines
  pub numbered : All (λ line. (0 < line.number) × (line.number ≤ last)) lines
  pub in_order : AllPairs (λ line later. line.number < later.number) lines

-- a schedule that was read from a file: no line is bad, and its commands are those that the lines spell. So they are
-- about federates that are there, and have the numbers of all lines that ask for something
pub record IsScriptOf (d : Draft) (file : List ℕ) (s : Script) : Type 0 where
  pub good : first_bad d 1 (lines_of file) ≡ None
  pub spells : s.lines ≡ spelled d 1 (lines_of file)
  pub lines : AreLinesOf d s.last_line s.lines
  pub every : map (λ line. line.number) s.lines ≡ asking 1 (lines_of file)
  pub last : s.last_line ≡ line_count file

-- what is answered of a file; a line that is answered is the first bad one, and one of its lines
abbrev pub IsFaultOf : Draft → List ℕ → ScriptFault → Type 0
IsFaultOf d file fault.OverLimit = MOST_BYTES < length file
IsFaultOf d file (fault.ScheduleLine number) =
    (first_bad d 1 (lines_of file) ≡ Some number) × (0 < number) × (number ≤ line_count file)
IsFaultOf d file fault.Memory = length file ≤ MOST_BYTES
