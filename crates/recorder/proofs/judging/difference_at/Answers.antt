use Rattle.std.proofs.Common.{◌∙◌, sym, ap, arith}
use Rattle.std.specs.Prelude.{option_map}
use Rattle.world.specs.World.{stations_of}
use Rattle.recorder.proofs.Found.{is_found, something_stands}
use Rattle.recorder.proofs.judging.difference_at.Goals as goal

pub returns-in_default : goal.returns-in_default
returns-in_default c =
    let none = is_found c.args.reports.now c.args.federate (sym c.report_of.ensures ∙ ap (option_map (λ r. r.now)) c.in_default.is) in
    let some = c.requires.reported in
    absurd (omega arith)

pub returns-in_default-rows : goal.returns-in_default-rows
returns-in_default-rows c =
    absurd (something_stands (λ s. s.node.federate.rows) (stations_of c.args.world.now).federates c.args.federate c.requires.there
    (sym c.rows.ensures ∙ ap (option_map (λ r. r.now)) c.in_default-rows.is))
