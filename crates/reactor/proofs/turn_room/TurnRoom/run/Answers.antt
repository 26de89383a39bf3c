use Rattle.std.proofs.Common.{◌≡◌, ◌+◌, ◌∙◌, length, take, ap, sym, ℤ, List, Option, None}
use Rattle.std.proofs.lemmas.List.{length-replicate}
use Rattle.network.specs.Event.{Entry, listed, value_at}
use Rattle.network.specs.Network.{Scheduling}
use Rattle.reactor.specs.Entries.{value_in}
use Rattle.reactor.specs.Running.{registers_of, turn_made}
use Rattle.reactor.specs.Turn.{Turn}
use Rattle.reactor.proofs.Registers.{operands_length}
use Rattle.reactor.proofs.Initial.{behind, states_in, all_registers}
use Rattle.reactor.proofs.turn_room.TurnRoom.run.Goals as goal

abbrev ListedAs : List Entry → List (Option ℤ) → Type 0
ListedAs entries values = entries ≡ listed (length values) (value_in values)

abbrev shown : List ℤ → List Entry → List Scheduling → Turn
shown states outputs schedulings = record { states = states; outputs = outputs; schedulings = schedulings }

pub reactions-requires : goal.reactions-requires
reactions-requires c =
    let begun = c.in_ok-begin.ensures in
    let states = c.args.states in
    let slots = c.args.slots in
    let given = c.args.registers.now in
    let literals = behind states slots given in
    let registers : length c.begin.new.self.registers.items ≡ length given =
    operands_length (length (take states given)) slots (value_at c.args.inputs.now) literals c.begin.new.self.registers.items begun.holds
    ∙ ap (λ n. n + slots + slots + length literals) (states_in states slots given c.requires.begins) ∙ all_registers states slots given c.requires.begins in
    let outputs : length c.begin.new.self.outputs.items ≡ c.args.ports = ap length begun.outputs ∙ length-replicate c.args.ports None in
    rw (registers, outputs) c.requires.within

pub returns-clause-turn : goal.returns-clause-turn
returns-clause-turn c =
    let states = c.args.states in
    let done = c.reactions.new.self in
    let count : length (take states c.args.registers.now) ≡ states = states_in states c.args.slots c.args.registers.now c.requires.begins in
    let turn : ListedAs c.list_into.new.entries.items done.outputs.items = c.in_ok-list_into.ensures ∙ ap (λ values. listed (length values) (value_in values)) c.as_slice.ensures.value in
    record {
      before = registers_of c.begin.new.self;
      begun = c.in_ok-begin.ensures;
      made = ap (λ entries. shown (take states done.registers.items) entries done.schedulings.items) turn
          ∙ ap (λ n. turn_made n (registers_of done)) (sym count) ∙ ap (turn_made (length (take states c.args.registers.now))) c.in_ok-reactions.ensures.made;
    }
