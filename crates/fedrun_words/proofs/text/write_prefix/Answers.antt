use Rattle.std.proofs.Common.{rules, ◌≡◌, ◌≤◌, ◌+◌, ◌-◌, Option, List, length, take, drop, sym, subst, arith}
use Rattle.std.specs.Io.KnownBytes.{Appends}
use Rattle.std.proofs.KnownBytes.{Appends-kept}
use Rattle.fedrun_words.proofs.Cut.{written_more}
use Rattle.fedrun_words.proofs.text.write_prefix.Goals as goal
use Rattle.fedrun_words.proofs.text.write_prefix.Goals.{in-Ok, in-Err}

pub loop-preserved : goal.loop-preserved
loop-preserved g c =
    let old = g.E.Write.contents c.args.err.now in
    let mid = g.E.Write.contents c.loop.err in
    let new = g.E.Write.contents c.write.new.self in
    let bytes = c.args.bytes.now in
    record {
      few = search rules;
      begun = elim c.match-write.branch [
        | in-Ok w ↦ subst (λ done. Appends old new (take done bytes)) (sym w.done-is) (written_more old mid new bytes c.loop.done _ c.loop.invariant.begun w.in-Ok.ensures.bytes)
        | in-Err w ↦ subst (λ done. Appends old new (take done bytes)) (sym w.done-is) (Appends-kept old mid new _ c.loop.invariant.begun w.in-Err.ensures.bytes)
      ];
    }
