use Rattle.std.proofs.Common.{◌∙◌, ap, sym, arith, drop}
use Rattle.world_stations.proofs.Made.{one_more, no_more}
use Rattle.world_stations.proofs.made_steps.MadeSteps.after.Goals as goal
use Rattle.world_stations.proofs.made_steps.MadeSteps.after.Goals.{in-Some+in_ok-push, in_default}

pub loop-place-preserved : goal.loop-place-preserved
loop-place-preserved c =
    let all = c.args.self.now.steps in
    let at = c.loop-place in
    record {
      ahead = omega (arith, at.invariant.ahead);
      steps = elim c.match-get.branch [
        | in-Some+in_ok-push w ↦
            let more = one_more all c.args.before at.place w.in-Some.step at.invariant.ahead (sym c.get.ensures ∙ w.in-Some.is) in
            cc (w.steps-is, w.in_ok-push.ensures.items, at.invariant.steps, more)
        | in_default w ↦
            let same = ap (drop c.args.before) (no_more all at.place (sym c.get.ensures ∙ w.in_default.is)) in
            cc (w.steps-is, at.invariant.steps, same)
      ];
    }
