use Rattle.std.proofs.Common.{refl}
use Rattle.fedrun_files.proofs.InTurn.{none_answered}
use Rattle.fedrun_whole.proofs.Further.{of_further_commands}
use Rattle.fedrun_whole.proofs.requests.fulfil.Goals as goal

pub returns-in_default-clause-stands : goal.returns-in_default-clause-stands
returns-in_default-clause-stands g c =
    of_further_commands (g.F.Files.contents c.args.files.now) _ _ _ c.args.request.now _ c.in_default.not-Whole c.in_default.not-Check
    ((_, refl), none_answered (g.F.Files.answers c.args.files.now))
