use Rattle.std.proofs.Common.{◌≡◌, true, rules, OnOk}
use Rattle.node_cores.specs.CoordinatorCore.{coordinator_core}
use Rattle.fedrun_reports.specs.After.{coordinator_after}
use Rattle.std.proofs.lemmas.Result.{on_ok_weaker}
use Rattle.fedrun_hosts.proofs.Named.{not_both}
use Rattle.fedrun_hosts.proofs.coordinate.go_on.Goals as goal
use Rattle.fedrun_hosts.proofs.coordinate.go_on.Goals.{then-is_told, else-is_told+in-Ok}

pub returns-in-Ok-finish : goal.returns-in-Ok-finish
returns-in-Ok-finish g c =
    let file = c.if-is_told.file in
    let as_opened : c.args.opened.is_told ≡ true → file ≡ c.args.opened.file =
    elim c.if-is_told.branch [ then-is_told w ↦ λ told. search rules | else-is_told+in-Ok w ↦ λ told. absurd (not_both told w.if-is_told.false) ] in
    on_ok_weaker c.say_again.result
    (λ finished. record {
      log = c.in-Ok-finish.log;
      ends = record { file = file; as_opened = as_opened; ends = c.in-Ok-finish.ensures.ended; named = c.in-Ok-finish.ensures.named };
      finished = finished;
    })
    c.say_again.ensures

pub returns-in-Ok-2 : goal.returns-in-Ok-2
returns-in-Ok-2 g c =
    let file = c.if-is_told.file in
    let as_opened : c.args.opened.is_told ≡ true → file ≡ c.args.opened.file =
    elim c.if-is_told.branch [ then-is_told w ↦ λ told. search rules | else-is_told+in-Ok w ↦ λ told. absurd (not_both told w.if-is_told.false) ] in
    let says : OnOk c.say_if_finished.result (coordinator_core.finished (coordinator_after c.args.loaded.now.sources.plan c.in-Ok-2.log.journal) ≡ true) = search rules in
    on_ok_weaker c.say_if_finished.result
    (λ finished. record {
      log = c.in-Ok-2.log;
      ends = record { file = file; as_opened = as_opened; ends = c.in-Ok-2.ensures.ended; named = c.in-Ok-2.ensures.named };
      finished = finished;
    })
    says
