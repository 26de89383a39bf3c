use Rattle.std.proofs.Common.{OnOk, subst}
use Rattle.std.specs.Io.KnownBytes.{Appends}
use Rattle.files_text.proofs.Lines.{turn_parts}
use Rattle.files_text.proofs.rows.write_turn.Goals as goal

pub returns : goal.returns
returns g c =
    subst (λ t. OnOk c.write_parts.result (Appends (g.W.Write.contents c.args.out.now) (g.W.Write.contents c.write_parts.new.out) t)) (turn_parts c.args.federate.now c.args.row.now) c.write_parts.ensures
