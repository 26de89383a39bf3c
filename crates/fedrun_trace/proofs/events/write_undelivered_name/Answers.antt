use Rattle.std.proofs.Common.{ℕ, List, ◌++◌, OnOk, codes, subst}
use Rattle.std.specs.Io.KnownBytes.{Appends}
use Rattle.fedrun_trace.specs.Events.{undelivered_name}
use Rattle.fedrun_trace.proofs.events.write_undelivered_name.Goals as goal

pub returns : goal.returns
unfolding undelivered_name
returns g c =
    let before = g.W.Write.contents c.args.out.now in
    let after = g.W.Write.contents c.write.new.self in
    subst (λ (name : List ℕ). OnOk c.write.result (Appends before after (name ++ codes " never delivered"))) c.frame_name-name.ensures
    c.write.ensures.bytes
