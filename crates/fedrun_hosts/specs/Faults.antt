-- Why a node on a machine of its own doesn't end well: the exit status that goes with each fault, and how it is
-- printed.
use Rattle.std.specs.Prelude.{ℕ, Bool, if◌then◌else◌, List, ◌++◌, codes, Option, None, Some}
use Rattle.std.specs.Borrow.{Bor}
use Rattle.desk.specs.Fault.{memory_text}
use Rattle.wires_greeting.specs.declared.key.SecretFault.{SecretFault}
use Rattle.wires_greeting.specs.declared.key.SecretFault.TheVariants.{TooShort, TooLong, Missing}
use Rattle.wires_hosts.specs.declared.dial_fault.DialFault.{DialFault}
use Rattle.wires_hosts.specs.declared.dial_fault.DialFault.TheVariants as dial
use Rattle.files_reports.specs.Faults.{write_text}
use Rattle.files_saving.specs.Fault.{text_of}
use Rattle.files_keeping.specs.Fault as keeping
use Rattle.files_saving.specs.Saved.{temporary_name}
use Rattle.files_logs.specs.declared.log_fault.LogFault.TheVariants as logs
use Rattle.fedrun_logs.specs.declared.not_kept.NotKept.{NotKept}
use Rattle.fedrun_logs.specs.declared.not_kept.NotKept.TheVariants as kept
use Rattle.fedrun_hosts.specs.declared.fault.HostFault.{HostFault}
use Rattle.fedrun_hosts.specs.declared.unfinished.Unfinished.{Unfinished}
use Rattle.fedrun_hosts.specs.declared.unfinished.Unfinished.TheVariants.{OutOfPatience, Stopped}
use Rattle.fedrun_hosts.specs.declared.fault.HostFault.TheVariants.{Secret, NoSuchFederate, ReportExists, PartExists}
use Rattle.fedrun_hosts.specs.declared.fault.HostFault.TheVariants.{CannotListen, Refused, NotProved, NotFinished}
use Rattle.fedrun_hosts.specs.declared.fault.HostFault.TheVariants.{OtherHistory, OtherLog, Damaged, Unkept}
use Rattle.fedrun_hosts.specs.declared.fault.HostFault.TheVariants.{Unwritten, Unsaved, Memory}

-- the exit status where there is no key: 2 where words lack a secret
abbrev pub secret_status : SecretFault → ℕ
secret_status TooShort = 1
secret_status TooLong = 1
secret_status Missing = 2

-- the exit status of a fault: 1 for what was given and isn't taken, by the node or by the coordinator, 3 for what
-- stopped it after that
abbrev pub host_status : HostFault → ℕ
host_status (Secret fault) = secret_status fault
host_status (NoSuchFederate name) = 1
host_status (ReportExists name) = 1
host_status (PartExists name) = 1
host_status (OtherLog name) = 1
host_status (Damaged name) = 1
host_status (Unkept name fault) = 3
host_status (CannotListen why) = 3
host_status (Refused fault) = 1
host_status NotProved = 1
host_status OtherHistory = 1
host_status (NotFinished why) = 3
host_status (Unwritten fault) = 3
host_status (Unsaved name fault) = 3
host_status (Memory memory) = 3

abbrev pub secret_text : SecretFault → List ℕ
secret_text TooShort = codes "112 SecretTooShort"
secret_text TooLong = codes "113 SecretTooLong"
secret_text Missing = codes "114 NoSecret"

-- what the coordinator answered, by its name
abbrev pub refusal_name : DialFault → List ℕ
refusal_name (dial.NotConnected why) = codes "Refused"
refusal_name dial.NoRandom = codes "Refused"
refusal_name dial.NoAnswer = codes "Refused"
refusal_name dial.NotProved = codes "Refused"
refusal_name dial.OtherFiles = codes "OtherFiles"
refusal_name dial.NoSuchFederate = codes "NoSuchFederate"
refusal_name dial.Finished = codes "Refused"
refusal_name dial.NotAllowed = codes "NotAllowed"

-- why a federate ended that wasn't refused, whose last attempt to connect came to this: it gave up, or else stopped
abbrev pub unfinished_by : Bool → Option DialFault → Unfinished
unfinished_by gave_up last = if gave_up then OutOfPatience last else Stopped last

-- why a federate's run isn't finished, as its last attempt to connect was answered; none where that told it that the
-- run is finished
abbrev pub fault_of_attempt : Bool → Option DialFault → Option HostFault
fault_of_attempt gave_up None = Some (NotFinished (unfinished_by gave_up None))
fault_of_attempt gave_up (Some (dial.NotConnected why)) =
    Some (NotFinished (unfinished_by gave_up (Some (dial.NotConnected why))))
fault_of_attempt gave_up (Some dial.NoRandom) = Some (NotFinished (unfinished_by gave_up (Some dial.NoRandom)))
fault_of_attempt gave_up (Some dial.NoAnswer) = Some (NotFinished (unfinished_by gave_up (Some dial.NoAnswer)))
fault_of_attempt gave_up (Some dial.NotProved) = Some NotProved
fault_of_attempt gave_up (Some dial.OtherFiles) = Some (Refused dial.OtherFiles)
fault_of_attempt gave_up (Some dial.NoSuchFederate) = Some (Refused dial.NoSuchFederate)
fault_of_attempt gave_up (Some dial.Finished) = None
fault_of_attempt gave_up (Some dial.NotAllowed) = Some (Refused dial.NotAllowed)

-- the same, where it is known besides whether the coordinator spoke of another history
abbrev pub fault_by : Bool → Bool → Option DialFault → Option HostFault
fault_by shows_other_history gave_up last =
    if shows_other_history then Some OtherHistory else fault_of_attempt gave_up last

-- why a node's log isn't opened or takes nothing more, of the report of this name
abbrev pub fault_of_log : Bor (List ℕ) → NotKept → HostFault
fault_of_log name (kept.Disk why) = Unkept name why
fault_of_log name (kept.Log logs.OtherFiles) = OtherLog name
fault_of_log name (kept.Log logs.OtherNode) = OtherLog name
fault_of_log name (kept.Log logs.OtherLog) = OtherLog name
fault_of_log name (kept.Log logs.NoLog) = PartExists name
fault_of_log name (kept.Log logs.Damaged) = Damaged name
fault_of_log name (kept.Log (logs.Content why)) = Damaged name
fault_of_log name (kept.Log logs.CutShort) = Damaged name
fault_of_log name (kept.Log logs.Memory) = Memory (record {})
fault_of_log name kept.TooLong = Memory (record {})
fault_of_log name kept.Memory = Memory (record {})

-- how a fault is printed; what a library answered is printed as the library has it
abbrev pub printed_host_fault : HostFault → List ℕ
printed_host_fault (Secret fault) = secret_text fault
printed_host_fault (NoSuchFederate name) = codes "115 NoSuchFederate " ++ name.now
printed_host_fault (ReportExists name) = codes "116 ReportExists " ++ name.now
printed_host_fault (PartExists name) = codes "116 ReportExists " ++ temporary_name name.now
printed_host_fault (OtherLog name) = codes "121 OtherLog " ++ temporary_name name.now
printed_host_fault (Damaged name) = codes "122 Damaged " ++ temporary_name name.now
printed_host_fault (Unkept name fault) =
    codes "120 Unsaved " ++ temporary_name name.now ++ codes ": " ++ keeping.text_of fault
printed_host_fault (CannotListen why) = codes "117 CannotListen"
printed_host_fault (Refused fault) = codes "118 " ++ refusal_name fault
printed_host_fault NotProved = codes "119 NotProved"
printed_host_fault OtherHistory = codes "123 OtherHistory"
printed_host_fault (NotFinished why) = codes "not finished"
printed_host_fault (Unwritten fault) = write_text fault
printed_host_fault (Unsaved name fault) = codes "120 Unsaved " ++ name.now ++ codes ": " ++ text_of fault
printed_host_fault (Memory memory) = memory_text
