use Rattle.std.proofs.lemmas.Result.{on_ok_weaker}
use Rattle.std.proofs.KnownBytes.{Appends-trans}
use Rattle.fedrun_replay.specs.Replayed.{verdict, histories}
use Rattle.fedrun_replay.proofs.ending.write_closed.Goals as goal

pub returns : goal.returns
returns g c =
    on_ok_weaker c.write_histories.result (λ printed. record {
      is_stuck = c.stuck.result;
      tells = c.stuck.ensures;
      printed = Appends-trans (g.W.Write.contents c.args.out.now) (g.W.Write.contents c.write_verdict.new.out) (g.W.Write.contents c.write_histories.new.out)
          (verdict c.args.most c.stuck.result) (histories c.args.world.now) c.in_ok-write_verdict.ensures printed;
    }) c.write_histories.ensures
