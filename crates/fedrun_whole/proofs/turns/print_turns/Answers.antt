use Rattle.std.proofs.Common.{rules, inl, refl}
use Rattle.fedrun_whole.specs.PrintedTurns.{PrintsFirstRows}
use Rattle.fedrun_whole.proofs.Batches.{first_rows_kept}
use Rattle.fedrun_whole.proofs.turns.print_turns.Goals as goal

pub returns-in-Err-clause-stands : goal.returns-in-Err-clause-stands
returns-in-Err-clause-stands g c =
    let before = g.O.Write.contents c.args.out.now in
    let mid = g.O.Write.contents c.print_all.new.out in
    let first : PrintsFirstRows c.args.sources.now.plan c.args.sources.now.programs c.args.sources.now.inputs c.args.turns c.args.format before mid = search rules in
    inl (
      c.in-Err.memory,
      refl,
      first_rows_kept c.args.format c.args.sources.now.plan c.args.sources.now.programs c.args.sources.now.inputs c.args.turns before mid (g.O.Write.contents c.flush.new.self) first
          c.flush.ensures.bytes,
    )
