-- Whose a connection is, by its first frame.
use Rattle.std.specs.Prelude.{ℕ, nat_lt, if◌then◌else◌, Option, Some, None}
use Rattle.signal.specs.declared.frame.Frame.{Frame}
use Rattle.signal.specs.declared.frame.Frame.TheVariants.{Hello, Data, Ack, Refuse}

-- a Hello's federate, where it is one of this many federates
abbrev pub greeter_of : Frame → (federates : ℕ) → Option ℕ
greeter_of (Hello hello) federates = if nat_lt hello.federate federates then Some hello.federate else None
greeter_of (Data incarnation number signal) federates = None
greeter_of (Ack incarnation taken) federates = None
greeter_of (Refuse incarnation refusal) federates = None
