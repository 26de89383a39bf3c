use Rattle.std.proofs.Common.{IfErr, sym, subst}
use Rattle.std.proofs.lemmas.Result.{IfErr-weaker}
use Rattle.fedrun_words.specs.declared.request.Request.{Request}
use Rattle.fedrun_files.specs.Answers.{Answers}
use Rattle.fedrun_files.proofs.InTurn.{none_answered}
use Rattle.fedrun_commands.specs.Refused.{IsFaultOf}
use Rattle.fedrun_commands.proofs.requests.fulfil.Goals as goal

pub returns-in-Lint-clause-unused : goal.returns-in-Lint-clause-unused
returns-in-Lint-clause-unused g c = IfErr-weaker c.lint.result _ _ (λ fault used two. absurd (used two)) c.lint.ensures.used

pub returns-in-About-clause-stands : goal.returns-in-About-clause-stands
returns-in-About-clause-stands g c =
    let contents = g.F.Files.contents c.args.files.now in
    let answers = g.F.Files.answers c.args.files.now in
    let before = g.O.Write.contents c.args.out.now in
    let after = g.O.Write.contents c.about.new.out in
    subst (λ (request : Request). IfErr c.about.result (IsFaultOf contents (Answers answers answers) before after request)) (sym c.in-About.is)
    (IfErr-weaker c.about.result _ _ (λ fault stands. (none_answered answers, stands)) c.about.ensures.stands)
