-- The coordinator's answers, and the bytes that say them.
use Rattle.std.specs.Prelude.{ℕ, ◌==◌, Bool, true, false, if◌then◌else◌, Option, Some, None}
use Rattle.wires_greeting.specs.declared.answer.Answer.{Answer}
use Rattle.wires_greeting.specs.declared.answer.Answer.TheVariants.{GoOn, OtherFiles, NoSuchFederate, Finished}
use Rattle.wires_greeting.specs.declared.answer.Answer.TheVariants.{NotAllowed}

-- the byte that says an answer
abbrev pub byte_of : Answer → ℕ
byte_of GoOn = 1
byte_of OtherFiles = 2
byte_of NoSuchFederate = 3
byte_of Finished = 4
byte_of NotAllowed = 5

-- the answer that a byte says
abbrev pub answer_of : ℕ → Option Answer
answer_of byte =
    if byte == 1 then Some GoOn
    else if byte == 2 then Some OtherFiles
    else if byte == 3 then Some NoSuchFederate
    else if byte == 4 then Some Finished
    else if byte == 5 then Some NotAllowed
    else None

-- whether an answer is to go on
abbrev pub is_go_on : Answer → Bool
is_go_on GoOn = true
is_go_on OtherFiles = false
is_go_on NoSuchFederate = false
is_go_on Finished = false
is_go_on NotAllowed = false

-- whether an answer says that the run is finished
abbrev pub is_finished : Answer → Bool
is_finished GoOn = false
is_finished OtherFiles = false
is_finished NoSuchFederate = false
is_finished Finished = true
is_finished NotAllowed = false

-- whether the federate's proof is to come behind an answer: where frames begin, and where the run is finished, so that
-- it is told
abbrev pub wants_proof : Answer → Bool
wants_proof GoOn = true
wants_proof OtherFiles = false
wants_proof NoSuchFederate = false
wants_proof Finished = true
wants_proof NotAllowed = false
