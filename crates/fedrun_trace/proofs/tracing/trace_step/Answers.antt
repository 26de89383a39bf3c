use Rattle.std.proofs.Common.{◌≡◌, ◌∙◌, ap, OnOk, rules, subst}
use Rattle.std.proofs.lemmas.Result.{on_ok_weaker}
use Rattle.std.specs.Io.KnownBytes.{Appends}
use Rattle.world.specs.World.{stations_of}
use Rattle.fedrun_trace.specs.Steps.{found_frame, events_text}
use Rattle.fedrun_trace.proofs.Following.{events_are}
use Rattle.fedrun_trace.proofs.tracing.trace_step.Goals as goal

pub returns-clause-written : goal.returns-clause-written
returns-clause-written g c =
    let d = c.args.plan.now in
    let all = c.args.made.now in
    let n = c.args.number in
    let w = c.args.world.now in
    let later = c.make.new.world in
    let account = c.in-Ok.account in
    let found = c.found_frame-found.result in
    let finds : found ≡ found_frame (stations_of w) c.args.one.step = c.found_frame-found.ensures ∙ ap (found_frame (stations_of w)) c.step.ensures in
    let before = g.W.Write.contents c.args.out.now in
    let after = g.W.Write.contents c.write_events.new.out in
    let written : OnOk c.map_err.result (Appends before after (events_text d all n found (stations_of later) account)) = search rules in
    on_ok_weaker c.map_err.result
    (λ (text : Appends before after (events_text d all n found (stations_of later) account)).
    subst (Appends before after)
    (events_are d all n w later c.args.one found account c.requires c.in-Ok.ensures.stepped finds c.in-Ok.ensures.account) text)
    written
