-- How many attempts to connect come to the same, and how many connections in a row stand for a moment.
use Rattle.std.specs.Prelude.{ℕ, ◌+◌, ◌-◌, ◌^◌, min, nat_lt, nat_le, if◌then◌else◌, Bool, true}
use Rattle.wires_hosts.specs.declared.attempts.FaultCounts.{FaultCounts}
use Rattle.wires_hosts.specs.declared.dial_fault.DialFault.{DialFault}
use Rattle.wires_hosts.specs.declared.dial_fault.DialFault.TheVariants as of_fault
use Rattle.wires_hosts.specs.declared.times.TheConstants.{QUICK_MS}
use Rattle.wires_hosts.specs.declared.unreached.Unreached.TheVariants as why

-- with one more, as far as a number of 64 bits goes
abbrev pub with_one : ℕ → ℕ
with_one count = min (2 ^ 64 - 1) (count + 1)

-- no attempt came to nothing
abbrev pub no_faults : FaultCounts
no_faults = record {
  no_address = 0;
  refused = 0;
  time_over = 0;
  no_way = 0;
  unconnected = 0;
  no_random = 0;
  no_answer = 0;
  not_proved = 0;
  other_files = 0;
  no_such_federate = 0;
  finished = 0;
  not_allowed = 0;
}

-- how many attempts came to nothing for this
abbrev pub count_of : DialFault → FaultCounts → ℕ
count_of (of_fault.NotConnected why.NoAddress) counts = counts.no_address
count_of (of_fault.NotConnected why.Refused) counts = counts.refused
count_of (of_fault.NotConnected why.TimeOver) counts = counts.time_over
count_of (of_fault.NotConnected why.NoWay) counts = counts.no_way
count_of (of_fault.NotConnected why.Other) counts = counts.unconnected
count_of of_fault.NoRandom counts = counts.no_random
count_of of_fault.NoAnswer counts = counts.no_answer
count_of of_fault.NotProved counts = counts.not_proved
count_of of_fault.OtherFiles counts = counts.other_files
count_of of_fault.NoSuchFederate counts = counts.no_such_federate
count_of of_fault.Finished counts = counts.finished
count_of of_fault.NotAllowed counts = counts.not_allowed

-- with one more that did
abbrev pub with_fault : DialFault → FaultCounts → FaultCounts
with_fault (of_fault.NotConnected why.NoAddress) counts = record counts { no_address = with_one counts.no_address }
with_fault (of_fault.NotConnected why.Refused) counts = record counts { refused = with_one counts.refused }
with_fault (of_fault.NotConnected why.TimeOver) counts = record counts { time_over = with_one counts.time_over }
with_fault (of_fault.NotConnected why.NoWay) counts = record counts { no_way = with_one counts.no_way }
with_fault (of_fault.NotConnected why.Other) counts = record counts { unconnected = with_one counts.unconnected }
with_fault of_fault.NoRandom counts = record counts { no_random = with_one counts.no_random }
with_fault of_fault.NoAnswer counts = record counts { no_answer = with_one counts.no_answer }
with_fault of_fault.NotProved counts = record counts { not_proved = with_one counts.not_proved }
with_fault of_fault.OtherFiles counts = record counts { other_files = with_one counts.other_files }
with_fault of_fault.NoSuchFederate counts = record counts { no_such_federate = with_one counts.no_such_federate }
with_fault of_fault.Finished counts = record counts { finished = with_one counts.finished }
with_fault of_fault.NotAllowed counts = record counts { not_allowed = with_one counts.not_allowed }

-- how many connections in a row stood for a moment alone, where the last stood for so many ms, and so many did before
-- it: one that stood longer begins a row
abbrev pub quick_after : (stood_ms count : ℕ) → ℕ
quick_after stood_ms count = if nat_lt stood_ms QUICK_MS then with_one count else 1

-- whether two processes of one federate may run, where a connection takes another one's place: they come from two
-- machines, or it is at least the fourth of a row
abbrev pub may_be_two : (is_same_machine : Bool) (times : ℕ) → Bool
may_be_two is_same_machine times = if is_same_machine then nat_le 4 times else true
