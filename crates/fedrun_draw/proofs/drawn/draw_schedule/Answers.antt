use Rattle.fedrun_draw.proofs.Drawing.{is_short}
use Rattle.fedrun_draw.proofs.drawn.draw_schedule.Goals as goal

pub returns-clause-short : goal.returns-clause-short
returns-clause-short g c =
    is_short c.args.plan.now c.args.programs.now c.args.inputs.now c.args.script.now c.args.closing c.args.excerpt _ c.write_all.result c.in_ok-history.ensures.short
