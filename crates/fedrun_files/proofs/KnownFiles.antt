-- What holds of the bytes that were read holds of the file, where its bytes are known.
use Rattle.std.proofs.Common.{◌≡◌, ℕ, List, Option, None, Some, IfSome, refl, subst}
use Rattle.loadfed.specs.declared.fault.LoadFault.{LoadFault}
use Rattle.fedrun_words.specs.declared.fault.Fault.TheVariants.{Load}
use Rattle.fedrun_files.specs.Contents.{AreBytesOf}
use Rattle.fedrun_files.specs.Refused.{IsUnloaded}

-- what holds of the bytes that were read holds of the file
pub holds_of_file : (P : List ℕ → Type 0) (known : Option (List ℕ)) (bytes : List ℕ) → AreBytesOf known bytes → P bytes → IfSome known P
holds_of_file P None bytes same holds = tt
holds_of_file P (Some there) bytes same holds = subst P same holds

-- a fault of loading that stands in the bytes read
pub unloaded_file : {M : Type 0} (Has : List ℕ → LoadFault → Type 0) (known : Option (List ℕ)) (bytes read : List ℕ) (why : LoadFault)
    → AreBytesOf known bytes → read ≡ bytes → Has read why → IsUnloaded {M = M} Has known (Load why)
unloaded_file Has known bytes read why are same stands = record {
  why = why;
  fault_is = refl;
  stands = holds_of_file (λ b. Has b why) known bytes are (subst (λ b. Has b why) same stands);
}
