use Rattle.std.proofs.Common.{OnOk, rules, subst}
use Rattle.std.proofs.lemmas.Result.{on_ok_weaker}
use Rattle.std.specs.Io.KnownBytes.{Appends}
use Rattle.world.specs.World.{stations_of}
use Rattle.fedrun_frames.specs.Accounts.{account_text}
use Rattle.fedrun_frames.proofs.Telling.{made_is}
use Rattle.fedrun_frames.proofs.showing.show.Goals as goal

pub returns-clause-written : goal.returns-clause-written
returns-clause-written g c =
    let d = c.args.plan.now in
    let w = c.args.world.now in
    let later = c.make.new.world in
    let account = c.in-Ok.account in
    let before = g.W.Write.contents c.args.out.now in
    let after = g.W.Write.contents c.write_account.new.out in
    let written : OnOk c.map_err.result (Appends before after (account_text d (stations_of later) account)) = search rules in
    on_ok_weaker c.map_err.result
    (λ (text : Appends before after (account_text d (stations_of later) account)).
    subst (Appends before after) (made_is d w later c.args.made account c.requires c.in-Ok.ensures.stepped c.in-Ok.ensures.account) text)
    written
