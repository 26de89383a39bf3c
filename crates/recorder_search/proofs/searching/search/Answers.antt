use Rattle.std.proofs.Common.{refl, map, length}
use Rattle.std.proofs.lemmas.Result.{IfOk-weaker}
use Rattle.recorder_search.proofs.Findings.{nothing_read}
use Rattle.recorder_search.proofs.searching.search.Goals as goal

pub returns : goal.returns
returns g c =
    IfOk-weaker c.finish.result _ _
    (λ found says. says c.args.step_maker.now
    (nothing_read g.M.StepMaker.motion c.args.step_maker.now (map (λ j. j.now) c.args.journals.now) (length c.args.journals.now) _ refl c.in_ok-reading.ensures))
    c.finish.ensures
