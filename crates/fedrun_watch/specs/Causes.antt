-- Why a connection isn't let in, why none is made, and why a node gives up.
use Rattle.std.specs.Prelude.{ℕ, List, codes}
use Rattle.wires_hosts.specs.declared.dial_fault.DialFault.{DialFault}
use Rattle.wires_hosts.specs.declared.dial_fault.DialFault.TheVariants as dial
use Rattle.wires_hosts.specs.declared.unreached.Unreached.{Unreached}
use Rattle.wires_hosts.specs.declared.unreached.Unreached.TheVariants as causes
use Rattle.wires_hosts.specs.declared.happening.NotLetIn.{NotLetIn}
use Rattle.wires_hosts.specs.declared.happening.NotLetIn.TheVariants as reasons
use Rattle.wires_hosts.specs.declared.happening.GivenUp.{GivenUp}
use Rattle.wires_hosts.specs.declared.happening.GivenUp.TheVariants.{Silence, Unkept}

-- why a connection that came to the coordinator isn't let in
abbrev pub not_let_in_text : NotLetIn → List ℕ
not_let_in_text reasons.NoGreeting = codes "no greeting came"
not_let_in_text reasons.OtherProtocol = codes "what came is no greeting of this protocol and version"
not_let_in_text reasons.OtherFiles = codes "it has another federation file or another input file"
not_let_in_text reasons.NoSuchFederate = codes "there is no federate of its number"
not_let_in_text reasons.NotAllowed = codes "its federate may take part no more"
not_let_in_text reasons.NoProof = codes "no proof of the secret came: the secrets differ, or it was ended before"
not_let_in_text reasons.NotProved = codes "it has another secret"
not_let_in_text reasons.NoHello = codes "its first frame didn't come, or is no Hello of it"

-- why there is no connection to an address
abbrev pub unreached_text : Unreached → List ℕ
unreached_text causes.NoAddress = codes "no address is found by this name"
unreached_text causes.Refused = codes "nobody listens there"
unreached_text causes.TimeOver = codes "nothing answers there"
unreached_text causes.NoWay = codes "no way leads there"
unreached_text causes.Other = codes "the system makes no connection"

-- why an attempt to connect came to nothing
abbrev pub failed_text : DialFault → List ℕ
failed_text (dial.NotConnected why) = unreached_text why
failed_text dial.NoRandom = codes "the system gives no random bytes"
failed_text dial.NoAnswer = codes "whoever is there said nothing, or not all of it"
failed_text dial.NotProved = codes "whoever is there has another secret, or is no coordinator"
failed_text dial.OtherFiles = codes "the coordinator has another federation file or another input file"
failed_text dial.NoSuchFederate = codes "the coordinator has no federate of this number"
failed_text dial.Finished = codes "the run is finished"
failed_text dial.NotAllowed = codes "the coordinator lets this federate take part no more"

-- why a node gives up
abbrev pub given_up_text : GivenUp → List ℕ
given_up_text Silence = codes "nobody who proved the secret was heard for its patience"
given_up_text Unkept = codes "its log takes nothing more"
