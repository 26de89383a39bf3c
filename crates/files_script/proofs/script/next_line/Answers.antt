use Rattle.std.proofs.Common.{◌<◌, length, arith}
use Rattle.std.proofs.lemmas.Grind.{common_steps}
use Rattle.files_script.proofs.Lines.{only_line, more_lines, counted, more_counted}
use Rattle.files_script.proofs.script.next_line.Goals as goal

pub returns-in-empty-clause-lines : goal.returns-in-empty-clause-lines
returns-in-empty-clause-lines c =
    let some : 0 < length c.args.lines.now = grind (arith, common_steps) in
    only_line c.args.lines.now c.split_at.result.0.now c.split_at.result.1.now some (cc) (cc) c.in-empty.len_below

pub returns-in-len1-up-clause-lines : goal.returns-in-len1-up-clause-lines
returns-in-len1-up-clause-lines c =
    let some : 0 < length c.args.lines.now = grind (arith, common_steps) in
    more_lines c.args.lines.now c.split_at.result.0.now c.split_at.result.1.now some (cc) (cc)

pub returns-in-empty-clause-count : goal.returns-in-empty-clause-count
returns-in-empty-clause-count c =
    counted c.args.lines.now c.split_at.result.1.now c.split_at.result.0.now (returns-in-empty-clause-lines c)

pub returns-in-len1-up-clause-count : goal.returns-in-len1-up-clause-count
returns-in-len1-up-clause-count c =
    let some : 0 < length c.args.lines.now = grind (arith, common_steps) in
    more_counted c.args.lines.now c.split_at.result.0.now c.split_at.result.1.now some (cc) (cc)
