use Rattle.std.proofs.Common.{◌≡◌, take, map, ap, ◌∙◌, arith}
use Rattle.std.proofs.lemmas.List.{take_all}
use Rattle.expand_bodies.specs.Printing.{printed_line}
use Rattle.expand_bodies.proofs.expanding.printed.Goals as goal

pub returns : goal.returns
returns c =
    let all : take c.loop-line.line-index c.args.lines.now ≡ c.args.lines.now = take_all c.loop-line.line-index c.args.lines.now (omega arith) in
    (c.in_ok-scratch.scratch, c.in_ok-scratch.ensures, c.new.ensures ∙ c.loop-line.invariant ∙ ap (λ lines. map (printed_line c.args.names.now c.in_ok-scratch.scratch) lines) all)
