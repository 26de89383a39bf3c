use Rattle.std.proofs.lemmas.Result.{on_ok_weaker}
use Rattle.std.specs.Io.KnownBytes.{Appends}
use Rattle.std.proofs.KnownBytes.{Appends-trans}
use Rattle.fedrun_trace.specs.Turns.{object_text, set_member, outputs_member}
use Rattle.fedrun_trace.proofs.turns.write_outputs_member.Goals as goal

pub returns : goal.returns
unfolding outputs_member
returns g c =
    let before = g.W.Write.contents c.args.out.now in
    let mid = g.W.Write.contents c.write_all.new.self in
    let after = g.W.Write.contents c.write_outputs.new.out in
    on_ok_weaker c.write_outputs.result
    (λ (more : Appends mid after (object_text (set_member c.args.slots.now) c.args.entries.now)).
    Appends-trans before mid after _ _ c.in_ok-write_all.ensures.bytes more)
    c.write_outputs.ensures
