-- The schedule that a file is. What a file holds is said where its bytes are known.
use Rattle.std.specs.Prelude.{ℕ, List, Option}
use Rattle.plan.specs.declared.draft.Draft.{Draft}
use Rattle.fedrun_files.specs.Contents.{AreBytesOf}
use Rattle.files_script.specs.Scripts.{Script, IsScriptOf}

-- the lines of the file spell this schedule of the federation
pub record IsSchedule (known : Option (List ℕ)) (d : Draft) (script : Script) : Type 0 where
  pub bytes : List ℕ
  pub bytes_are : AreBytesOf known bytes
  pub says : IsScriptOf d bytes script

-- of the schedule that the file's lines spell, this holds
pub record HoldsOfSchedule (known : Option (List ℕ)) (d : Draft) (P : Script → Type 0) : Type 0 where
  pub script : Script
  pub script_is : IsSchedule known d script
  pub holds : P script
