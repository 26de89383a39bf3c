use Rattle.std.proofs.Common.{take}
use Rattle.whole.specs.Initial.{AreOpenWith}
use Rattle.whole.proofs.initial.put_inputs.Given as goal

abbrev pub invariant-loop-input : goal.invariant-loop-input
invariant-loop-input l = AreOpenWith l.plan (take l.input-index l.inputs) l.agendas
