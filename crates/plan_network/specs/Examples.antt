-- Small federations with their programs, inputs and rows, on which the definitions are computed.
use Rattle.std.specs.Prelude.{ℕ, ◌*◌, ℤ, pos, negsuc, true, false, List, [], ◌∷◌, Option, None, Some, codes}
use Rattle.tag.specs.LogicalTime.{LogicalTime, delay_of}
use Rattle.network.specs.Event.{Entry}
use Rattle.network.specs.Undivided.{Row}
use Rattle.plan_slots.specs.declared.slots.Slots.{Slots}
use Rattle.plan_slots.specs.declared.slots.Timer.{Timer}
use Rattle.plan.specs.declared.draft.ConnectionDraft.{ConnectionDraft}
use Rattle.plan.specs.declared.draft.Draft.{Draft}
use Rattle.plan.specs.declared.input.Input.{Input}
use Rattle.reactor_program.specs.declared.program.Operand.TheVariants.{Number, State, Value}
use Rattle.reactor_program.specs.declared.program.Operator.TheVariants.{Plus}
use Rattle.reactor_program.specs.declared.program.Expression.TheVariants.{Single, Binary}
use Rattle.reactor_program.specs.declared.program.Statement.{Statement}
use Rattle.reactor_program.specs.declared.program.Statement.TheVariants.{Assign, Output, Schedule}
use Rattle.reactor_program.specs.declared.program.Line.{Line}
use Rattle.reactor_program.specs.declared.program.Reaction.{Reaction}
use Rattle.reactor_program.specs.declared.program.State as StateOf
use Rattle.reactor_program.specs.Behaviour.{Behaviour}

-- this many milliseconds
abbrev pub ms : ℕ → ℕ
ms count = count * 1000000

-- the start of a millisecond
abbrev pub at_ms : ℕ → LogicalTime
at_ms count = record { time = ms count; microstep = 0 }

-- the microstep after it
abbrev pub after_ms : ℕ → LogicalTime
after_ms count = record { time = ms count; microstep = 1 }

-- an entry alone
abbrev pub one_entry : ℕ → ℤ → List Entry
one_entry place value = record { place = place; value = value } ∷ []

abbrev pub row_of : ℕ → LogicalTime → List Entry → List Entry → Row
row_of federate tag inputs outputs = record { reactor = federate; tag = tag; inputs = inputs; outputs = outputs }

-- a body line without a condition
abbrev pub plain : Statement → Line
plain statement = record { condition = None; statement = statement }

-- a reaction to one slot
abbrev pub reaction_to : ℕ → List Line → Reaction
reaction_to slot body = record { triggers = slot ∷ []; body = body }

-- a state that is 0 at first
abbrev pub state_named : List ℕ → StateOf.State
state_named name = record { name = name; value = pos 0 }

abbrev pub timer_of : List ℕ → ℕ → ℕ → Timer
timer_of name offset period = record { name = name; offset = offset; period = period }

abbrev pub connection_from : List ℕ → List ℕ → List ℕ → List ℕ → Option ℕ → ConnectionDraft
connection_from source port target slot after =
    record {
      from = record { federate = source; port = port };
      to = record { federate = target; port = slot };
      after = after;
    }

-- A counter: a source counts on each firing of its timer, and a sink adds up what comes.

abbrev pub counter_source : Slots
counter_source =
    record {
      startup = false;
      inputs = [];
      outputs = codes "y" ∷ [];
      timers = timer_of (codes "t") 0 (ms 10) ∷ [];
      actions = [];
      physical = [];
    }

abbrev pub counter_sink : Slots
counter_sink =
    record {
      startup = false;
      inputs = codes "x" ∷ [];
      outputs = codes "total"
          ∷ [];
      timers = [];
      actions = [];
      physical = [];
    }

-- with this delay of its connection
abbrev pub counter : Option ℕ → Draft
counter after =
    record {
      stop = ms 20;
      federates =
          record { name = codes "src"; slots = counter_source }
          ∷ record { name = codes "snk"; slots = counter_sink } ∷ [];
      connections = connection_from (codes "src") (codes "y") (codes "snk") (codes "x") after ∷ [];
    }

abbrev pub counter_programs : List Behaviour
counter_programs =
    record {
      slots = counter_source;
      states = state_named (codes "n") ∷ [];
      reactions =
          reaction_to 1 (plain (Assign 0 (Binary (State 0) Plus (Number (pos 1))))
          ∷ plain (Output 0 (State 0)) ∷ []) ∷ [];
    } ∷
    record {
      slots = counter_sink;
      states = state_named (codes "s") ∷ [];
      reactions =
          reaction_to 1 (plain (Assign 0 (Binary (State 0) Plus (Value 1))) ∷ plain (Output 0 (State 0)) ∷ []) ∷ [];
    } ∷ []

abbrev pub counter_rows : List Row
counter_rows =
    row_of 0 (at_ms 0) (one_entry 1 (pos 0)) (one_entry 0 (pos 1)) ∷
    row_of 1 (at_ms 0) (one_entry 1 (pos 1)) (one_entry 0 (pos 1)) ∷
    row_of 0 (at_ms 10) (one_entry 1 (pos 0)) (one_entry 0 (pos 2)) ∷
    row_of 1 (at_ms 10) (one_entry 1 (pos 2)) (one_entry 0 (pos 3)) ∷
    row_of 0 (at_ms 20) (one_entry 1 (pos 0)) (one_entry 0 (pos 3)) ∷
    row_of 1 (at_ms 20) (one_entry 1 (pos 3)) (one_entry 0 (pos 6)) ∷ []

-- each message a microstep later, and the last one after stop
abbrev pub late_counter_rows : List Row
late_counter_rows =
    row_of 0 (at_ms 0) (one_entry 1 (pos 0)) (one_entry 0 (pos 1)) ∷
    row_of 1 (after_ms 0) (one_entry 1 (pos 1)) (one_entry 0 (pos 1)) ∷
    row_of 0 (at_ms 10) (one_entry 1 (pos 0)) (one_entry 0 (pos 2)) ∷
    row_of 1 (after_ms 10) (one_entry 1 (pos 2)) (one_entry 0 (pos 3)) ∷
    row_of 0 (at_ms 20) (one_entry 1 (pos 0)) (one_entry 0 (pos 3)) ∷ []

-- Two messages that meet: a source sends at startup and a microstep later, both to arrive at 10 ms.

abbrev pub meeting_source : Slots
meeting_source =
    record {
      startup = true;
      inputs = [];
      outputs = codes "y" ∷ [];
      timers = [];
      actions = codes "a"
          ∷ [];
      physical = [];
    }

abbrev pub meeting_sink : Slots
meeting_sink =
    record {
      startup = false;
      inputs = codes "x" ∷ [];
      outputs = codes "v"
          ∷ [];
      timers = [];
      actions = [];
      physical = [];
    }

abbrev pub meeting : Draft
meeting =
    record {
      stop = ms 20;
      federates =
          record { name = codes "src"; slots = meeting_source }
          ∷ record { name = codes "snk"; slots = meeting_sink } ∷ [];
      connections = connection_from (codes "src") (codes "y") (codes "snk") (codes "x") (Some (ms 10)) ∷ [];
    }

abbrev pub meeting_programs : List Behaviour
meeting_programs =
    record {
      slots = meeting_source;
      states = [];
      reactions =
          reaction_to 0 (plain (Output 0 (Number (pos 1))) ∷ plain (Schedule 1 (delay_of 0) (Number (pos 2))) ∷ []) ∷
          reaction_to 1 (plain (Output 0 (Value 1)) ∷ []) ∷ [];
    } ∷
    record { slots = meeting_sink; states = []; reactions = reaction_to 1 (plain (Output 0 (Value 1)) ∷ []) ∷ [] } ∷ []

abbrev pub meeting_rows : List Row
meeting_rows =
    row_of 0 (at_ms 0) (one_entry 0 (pos 0)) (one_entry 0 (pos 1)) ∷
    row_of 0 (after_ms 0) (one_entry 1 (pos 2)) (one_entry 0 (pos 2)) ∷
    row_of 1 (at_ms 10) (one_entry 1 (pos 2)) (one_entry 0 (pos 2)) ∷ []

-- A loop: a federate whose output comes back to it.

abbrev pub loop_slots : Slots
loop_slots =
    record {
      startup = true;
      inputs = codes "x" ∷ [];
      outputs = codes "y"
          ∷ [];
      timers = [];
      actions = [];
      physical = [];
    }

abbrev pub loop : Draft
loop =
    record {
      stop = ms 12;
      federates = record { name = codes "loop"; slots = loop_slots } ∷ [];
      connections = connection_from (codes "loop") (codes "y") (codes "loop") (codes "x") (Some (ms 5)) ∷ [];
    }

abbrev pub loop_programs : List Behaviour
loop_programs =
    record {
      slots = loop_slots;
      states = state_named (codes "n") ∷ [];
      reactions =
          reaction_to 0 (plain (Assign 0 (Single (Number (pos 1)))) ∷ plain (Output 0 (State 0)) ∷ []) ∷
          reaction_to 1 (plain (Assign 0 (Binary (Value 1) Plus (Number (pos 1))))
          ∷ plain (Output 0 (State 0)) ∷ []) ∷ [];
    } ∷ []

abbrev pub loop_rows : List Row
loop_rows =
    row_of 0 (at_ms 0) (one_entry 0 (pos 0)) (one_entry 0 (pos 1)) ∷
    row_of 0 (at_ms 5) (one_entry 1 (pos 1)) (one_entry 0 (pos 2)) ∷
    row_of 0 (at_ms 10) (one_entry 1 (pos 2)) (one_entry 0 (pos 3)) ∷ []

-- A chain with a recorded input: the middle one hands on, 5 ms later, what comes from the first, and at once what comes
-- from outside.

abbrev pub chain_first : Slots
chain_first =
    record {
      startup = false;
      inputs = [];
      outputs = codes "y" ∷ [];
      timers = timer_of (codes "t") (ms 10) 0 ∷ [];
      actions = [];
      physical = [];
    }

abbrev pub chain_middle : Slots
chain_middle =
    record {
      startup = false;
      inputs = codes "x" ∷ [];
      outputs = codes "z" ∷ [];
      timers = [];
      actions = codes "act" ∷ [];
      physical = codes "p" ∷ [];
    }

abbrev pub chain_last : Slots
chain_last =
    record {
      startup = false;
      inputs = codes "w" ∷ [];
      outputs = codes "o" ∷ [];
      timers = timer_of (codes "t") (ms 50) 0 ∷ [];
      actions = [];
      physical = [];
    }

abbrev pub chain : Draft
chain =
    record {
      stop = ms 100;
      federates =
          record { name = codes "a"; slots = chain_first } ∷ record { name = codes "b"; slots = chain_middle } ∷
          record { name = codes "c"; slots = chain_last } ∷ [];
      connections =
          connection_from (codes "a") (codes "y") (codes "b") (codes "x") None ∷
          connection_from (codes "b") (codes "z") (codes "c") (codes "w") None ∷ [];
    }

abbrev pub chain_programs : List Behaviour
chain_programs =
    record {
      slots = chain_first;
      states = [];
      reactions = reaction_to 1
          (plain (Output 0 (Number (pos 1))) ∷ []) ∷ [];
    } ∷
    record {
      slots = chain_middle;
      states = [];
      reactions =
          reaction_to 1 (plain (Schedule 2 (delay_of (ms 5)) (Number (pos 7))) ∷ []) ∷
          reaction_to 2 (plain (Output 0 (Value 2)) ∷ []) ∷ reaction_to 3 (plain (Output 0 (Value 3)) ∷ []) ∷ [];
    } ∷
    record {
      slots = chain_last;
      states = [];
      reactions =
          reaction_to 1 (plain (Output 0 (Value 1)) ∷ [])
          ∷ reaction_to 2 (plain (Output 0 (Number (negsuc 0))) ∷ []) ∷ [];
    } ∷ []

abbrev pub chain_inputs : List Input
chain_inputs = record { federate = codes "b"; action = codes "p"; tag = at_ms 100; value = pos 9 } ∷ []

abbrev pub chain_rows : List Row
chain_rows =
    row_of 0 (at_ms 10) (one_entry 1 (pos 0)) (one_entry 0 (pos 1)) ∷
    row_of 1 (at_ms 10) (one_entry 1 (pos 1)) [] ∷
    row_of 1 (at_ms 15) (one_entry 2 (pos 7)) (one_entry 0 (pos 7)) ∷
    row_of 2 (at_ms 15) (one_entry 1 (pos 7)) (one_entry 0 (pos 7)) ∷
    row_of 2 (at_ms 50) (one_entry 2 (pos 0)) (one_entry 0 (negsuc 0)) ∷
    row_of 1 (at_ms 100) (one_entry 3 (pos 9)) (one_entry 0 (pos 9)) ∷
    row_of 2 (at_ms 100) (one_entry 1 (pos 9)) (one_entry 0 (pos 9)) ∷ []
