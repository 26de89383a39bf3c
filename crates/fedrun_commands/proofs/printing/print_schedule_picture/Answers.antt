use Rattle.std.proofs.Common.{◌≡◌, refl, ap, rules}
use Rattle.fedrun_commands.specs.Played.{undrawn}
use Rattle.fedrun_commands.proofs.printing.print_schedule_picture.Goals as goal

pub returns-in-Err : goal.returns-in-Err
returns-in-Err g c =
    let kept : c.draw_schedule.new.out ≡ c.args.out.now = search rules in
    record {
      ok = tt;
      stands = undrawn c.in-Err.fault refl c.in-Err.ensures.stands (ap (λ out. g.O.Write.contents out) kept);
      untouched = λ late. kept;
    }
