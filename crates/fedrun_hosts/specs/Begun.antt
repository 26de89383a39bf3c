-- What a node begins with beside its federation and its inputs: by what it greets others, and why it has no key. What a
-- file holds is said where its bytes are known.
use Rattle.std.specs.Prelude.{◌≡◌, ℕ, ◌<◌, List, [], ◌∷◌, length, Option, None, Some, IfSome}
use Rattle.std.specs.Borrow.{Bor}
use Rattle.std.specs.Net.Socket.{socket_ip}
use Rattle.wires_greeting.specs.declared.key.TheConstants.{MOST_SECRET}
use Rattle.wires_greeting.specs.declared.key.SecretFault.{SecretFault}
use Rattle.wires_greeting.specs.declared.key.SecretFault.TheVariants.{TooLong, Missing}
use Rattle.wires_greeting.specs.Files.{files_digest}
use Rattle.wires_greeting.specs.Hmac.{key_block}
use Rattle.wires_greeting.specs.Secret.{secret_fault, IsLoopback}
use Rattle.wires_hosts.specs.declared.host_address.HostAddress.{HostAddress}
use Rattle.wires_hosts.specs.declared.host_address.HostAddress.TheVariants.{At, Named}
use Rattle.fedrun_words.specs.declared.fault.Fault.{Fault}
use Rattle.fedrun_words.specs.declared.fault.Fault.TheVariants.{More}
use Rattle.fedrun_files.specs.declared.named.FileFault.TheVariants.{Unreadable, Memory}
use Rattle.fedrun_files.specs.Answers.{Answer, refused}
use Rattle.fedrun_files.specs.Contents.{Contents, AreBytesOf}
use Rattle.fedrun_files.specs.Refused.{fault_of_file}
use Rattle.fedrun_hosts.specs.declared.fault.HostFault.{HostFault}
use Rattle.fedrun_hosts.specs.declared.fault.HostFault.TheVariants.{Secret}

-- the digest of a federation file and an input file together, by which nodes know that they have the same
pub record IsDigestOfBoth (federation inputs : Option (List ℕ)) (digest : List ℕ) : Type 0 where
  pub federation_bytes : List ℕ
  pub federation_are : AreBytesOf federation federation_bytes
  pub input_bytes : List ℕ
  pub inputs_are : AreBytesOf inputs input_bytes
  pub digest_is : digest ≡ files_digest federation_bytes input_bytes

-- the key of all of a file's bytes, which are a secret
pub record IsKeyOfFile (known : Option (List ℕ)) (key : List ℕ) : Type 0 where
  pub bytes : List ℕ
  pub bytes_are : AreBytesOf known bytes
  pub is_secret : secret_fault bytes ≡ None
  pub key_is : key ≡ key_block bytes

-- an address of loopback; a host's name is none
abbrev pub IsOfThisMachine : HostAddress → Type 0
IsOfThisMachine (At address) = IsLoopback (socket_ip address)
IsOfThisMachine (Named host port) = ⊥

-- the key of a node with this address: that of its secret file, or where it is given none, the empty one, for an address
-- of loopback
abbrev pub IsKeyOf : Contents → HostAddress → Option (Bor (List ℕ)) → List ℕ → Type 0
IsKeyOf contents address (Some name) = IsKeyOfFile (contents name.now)
IsKeyOf contents address None = λ key. IsOfThisMachine address × (key ≡ key_block [])

-- why there is no key of a secret file: it can't be read, it has too many bytes, or its bytes are no secret
pub data IsSecretFault (name : Bor (List ℕ)) (known : Option (List ℕ)) (answered : List Answer → Type 0)
    (fault : Fault HostFault) : Type 0 where
  secret_unread : answered (refused name.now Unreadable ∷ []) → fault ≡ fault_of_file name Unreadable
      → IsSecretFault name known answered fault
  secret_without_memory : answered (refused name.now Memory ∷ []) → fault ≡ fault_of_file name Memory
      → IsSecretFault name known answered fault
  secret_over_limit : IfSome known (λ bytes. MOST_SECRET < length bytes) → fault ≡ More (Secret TooLong)
      → IsSecretFault name known answered fault
  secret_unfit : (bytes : List ℕ) → AreBytesOf known bytes → (why : SecretFault) → secret_fault bytes ≡ Some why
      → fault ≡ More (Secret why) → IsSecretFault name known answered fault

-- why a node with this address has no key: there is none of its secret file, or it is given none, and the address isn't
-- one of loopback
abbrev pub IsKeyFault : Contents → (List Answer → Type 0) → HostAddress → Option (Bor (List ℕ)) → Fault HostFault → Type 0
IsKeyFault contents answered address (Some name) = IsSecretFault name (contents name.now) answered
IsKeyFault contents answered address None = λ fault. (¬ IsOfThisMachine address) × (fault ≡ More (Secret Missing))
