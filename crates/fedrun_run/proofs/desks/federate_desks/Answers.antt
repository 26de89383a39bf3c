use Rattle.std.proofs.Common.{rules}
use Rattle.fedrun_run.proofs.Unused.{desks_more}
use Rattle.fedrun_run.proofs.desks.federate_desks.Goals as goal

pub loop-number-preserved : goal.loop-number-preserved
loop-number-preserved c = record {
  made = search rules;
  initial = desks_more c.args.plan.now c.args.programs.now c.args.inputs.now c.loop-number.desks.items c.push.new.self.items c.in_ok-federate_desk.field-0 c.loop-number.number
      c.in_ok-push.ensures.items c.in_ok-federate_desk.ensures c.loop-number.invariant.initial;
}
