use Rattle.wires_workers.specs.AreRead.{AreRead}
use Rattle.wires_workers.proofs.reader.collect.Given as goal

-- the events so far are of the frames that came
abbrev pub invariant-loop : goal.invariant-loop
invariant-loop l = AreRead l.peer l.fn.frames l.events.items l.frames
