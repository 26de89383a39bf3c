-- TAGs to a list of federates, and the records after they went out.
use Rattle.std.specs.Prelude.{ℕ, List, [], ◌∷◌, ◌++◌, slice_set, Some}
use Rattle.signal.specs.declared.signal.Signal.{Signal}
use Rattle.signal.specs.declared.signal.Signal.TheVariants.{Net, Ltc, Tag, Msg}
use Rattle.protocol.specs.declared.post.Post.{Post}
use Rattle.protocol.specs.FederateRecord.{FederateRecord}
use Rattle.protocol.specs.FederateRecords.{federate_record_at}
use Rattle.protocol.specs.Grant.{Rule, grant_widest}
use Rattle.protocol.specs.Coordinator.{grants_over}
use Rattle.grants.specs.Wiring.{Wiring, network_by, least_by}
use Rattle.grants.specs.Records.{Records}

-- each eligible federate is granted as much as is safe
abbrev pub rule_by : Wiring → Rule
rule_by w = grant_widest (network_by w) (least_by w)

-- the TAGs that a table has for these federates
abbrev pub grants_in : Records → List ℕ → List Post
grants_in r federates =
    grants_over (network_by r.wiring) (rule_by r.wiring) (federate_record_at r.federate_records) federates

-- a TAG is what the federate is granted then; other signals grant nothing
abbrev pub granted_with : List FederateRecord → ℕ → Signal → List FederateRecord
granted_with federate_records j (Net tag) = federate_records
granted_with federate_records j (Ltc tag) = federate_records
granted_with federate_records j (Tag tag) =
    slice_set federate_records j (record (federate_record_at federate_records j) { granted = Some tag })
granted_with federate_records j (Msg connection tag value) = federate_records

-- the records after these posts
abbrev pub all_granted : List FederateRecord → List Post → List FederateRecord
all_granted federate_records [] = federate_records
all_granted federate_records (post ∷ rest) = all_granted (granted_with federate_records post.peer post.signal) rest
