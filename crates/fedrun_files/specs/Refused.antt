-- Which fault stands where a file isn't taken, and what was answered about the files up to it.
use Rattle.std.specs.Prelude.{◌≡◌, ℕ, ◌<◌, false, List, [], ◌∷◌, ◌++◌, length, Option, IfSome, codes, if◌then◌else◌}
use Rattle.std.specs.Borrow.{Bor}
use Rattle.std.specs.Str.{bytes_eq}
use Rattle.plan.specs.declared.draft.Draft.{Draft}
use Rattle.reactor_program.specs.Behaviour.{Behaviour}
use Rattle.loadfed.specs.declared.fault.LoadFault.{LoadFault}
use Rattle.loadfed.specs.declared.fault.LoadFault.TheVariants.{OverLimit, Memory}
use Rattle.loadfed.specs.declared.federation.TheConstants.{MOST_BYTES as MOST_FEDERATION_BYTES}
use Rattle.loadfed.specs.declared.recorded.TheConstants.{MOST_INPUT_BYTES}
use Rattle.loadfed.specs.Loaded.{HasLoadFault}
use Rattle.loadfed.specs.InputShape.{HasInputFileFault}
use Rattle.fedrun_words.specs.declared.fault.Fault.{Fault}
use Rattle.fedrun_words.specs.declared.fault.Fault.TheVariants.{CannotRead, Load}
use Rattle.fedrun_files.specs.declared.named.FileFault.{FileFault}
use Rattle.fedrun_files.specs.declared.named.FileFault.TheVariants as file_fault
use Rattle.fedrun_files.specs.Answers.{Answer, given, refused}
use Rattle.fedrun_files.specs.Contents.{Contents}
use Rattle.fedrun_files.specs.Loaded.{input_file, IsFederation}

-- the fault of a file whose bytes can't be had
abbrev pub fault_of_file : {M : Type 0} → Bor (List ℕ) → FileFault → Fault M
fault_of_file name file_fault.Unreadable = CannotRead name
fault_of_file name file_fault.OverLimit = Load OverLimit
fault_of_file name file_fault.Memory = Load Memory

-- what is answered where an input file is read; `-` asks for none
abbrev pub asked_inputs : List ℕ → List Answer
asked_inputs name = if bytes_eq name (codes "-") then [] else given name ∷ []

-- what is answered where a federation file is read, and then an input file
abbrev pub asked_sources : List ℕ → List ℕ → List Answer
asked_sources federation inputs = given federation ∷ asked_inputs inputs

-- a file's bytes can't be had: the fault is of the one thing that was answered; over the limit only of a file that is
pub record IsUnread {M : Type 0} (most : ℕ) (name : Bor (List ℕ)) (known : Option (List ℕ))
    (answered : List Answer → Type 0) (fault : Fault M) : Type 0 where
  pub why : FileFault
  pub fault_is : fault ≡ fault_of_file name why
  pub answer : answered (refused name.now why ∷ [])
  pub over : why ≡ file_fault.OverLimit → IfSome known (λ bytes. most < length bytes)

-- the bytes that were given aren't loaded, and this stands against them
pub record IsUnloaded {M : Type 0} (Has : List ℕ → LoadFault → Type 0) (known : Option (List ℕ))
    (fault : Fault M) : Type 0 where
  pub why : LoadFault
  pub fault_is : fault ≡ Load why
  pub stands : IfSome known (λ bytes. Has bytes why)

-- why the federation file isn't taken; no other was asked for
pub data IsFederationFault {M : Type 0} (name : Bor (List ℕ)) (contents : Contents) (answered : List Answer → Type 0)
    (fault : Fault M) : Type 0 where
  federation_unread : IsUnread MOST_FEDERATION_BYTES name (contents name.now) answered fault
      → IsFederationFault name contents answered fault
  federation_unloaded : answered (given name.now ∷ []) → IsUnloaded HasLoadFault (contents name.now) fault
      → IsFederationFault name contents answered fault

-- why the input file isn't taken, for this federation
pub data IsInputFault {M : Type 0} (d : Draft) (name : Bor (List ℕ)) (contents : Contents)
    (answered : List Answer → Type 0) (fault : Fault M) : Type 0 where
  input_unread : bytes_eq name.now (codes "-") ≡ false
      → IsUnread MOST_INPUT_BYTES name (contents name.now) answered fault
      → IsInputFault d name contents answered fault
  input_unloaded : answered (asked_inputs name.now)
      → IsUnloaded (HasInputFileFault d) (input_file contents name.now) fault
      → IsInputFault d name contents answered fault

-- why the two files aren't taken: the federation file's fault is answered before the input file is asked for
pub data IsSourcesFault {M : Type 0} (federation inputs : Bor (List ℕ)) (contents : Contents)
    (answered : List Answer → Type 0) (fault : Fault M) : Type 0 where
  federation_fault : IsFederationFault federation contents answered fault
      → IsSourcesFault federation inputs contents answered fault
  input_fault : (d : Draft) (programs : List Behaviour) → IsFederation (contents federation.now) d programs
      → IsInputFault d inputs contents (λ later. answered (given federation.now ∷ later)) fault
      → IsSourcesFault federation inputs contents answered fault
