use Rattle.std.proofs.Common.{sym, subst, arith, ◌≡◌, ◌≤◌, ◌+◌, ◌-◌, min, slice_range}
use Rattle.std.proofs.KnownBytes.{Appends-trans}
use Rattle.std.specs.Io.KnownBytes.{Appends}
use Rattle.files_text.specs.Formats.{formatted_rows}
use Rattle.files_text.proofs.Lines.{some_more}
use Rattle.files_text.proofs.rows.write_rows.Goals as goal

pub loop-first-preserved : goal.loop-first-preserved
loop-first-preserved g c =
    let first = c.loop-first.first in
    let end = first + c.min.result in
    let rows = c.args.rows.now in
    let format = c.args.format in
    let federates = c.args.plan.now.federates in
    let before = g.W.Write.contents c.args.out.now in
    let middle = g.W.Write.contents c.loop-first.out in
    let after = g.W.Write.contents c.write_some.new.out in
    let inv = c.loop-first.invariant in
    let low = inv.1 in
    let few : c.min.result ≡ min 128 (c.len-count.result - first) = c.min.ensures in
    let within : end ≤ c.len-count.result = omega (arith, few, low) in
    let rising : first ≤ end = omega arith in
    let added : Appends middle after (formatted_rows format federates (slice_range rows first end)) =
    subst (λ fs. Appends middle after (formatted_rows format fs (slice_range rows first end))) c.federates.ensures c.in_ok-write_some.ensures in (
      c.len-count.ensures,
      within,
      subst (λ text. Appends before after text) (sym (some_more format federates rows first end rising))
          (Appends-trans before middle after _ _ inv.2 added),
    )
