use Rattle.std.proofs.Common.{◌≡◌, vec_len}
use Rattle.fedrun_run.specs.Desks.{unused_federates}
use Rattle.fedrun_run.proofs.desks.federate_desks.Given as goal

-- the desks of the federates so far
abbrev pub invariant-loop-number : goal.invariant-loop-number
invariant-loop-number l = record {
  made : vec_len l.desks ≡ l.number;
  initial : l.desks.items ≡ unused_federates l.plan l.programs l.inputs l.number;
}
