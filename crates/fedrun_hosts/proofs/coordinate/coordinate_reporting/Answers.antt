use Rattle.std.proofs.Common.{◌≡◌, ◌∙◌, true, ap, sym, arith, string_bytes}
use Rattle.node_cores.specs.CoordinatorCore.{CoordinatorNode, coordinator_core}
use Rattle.desk.specs.Replay.{Desk}
use Rattle.files_reports.specs.Said.{by_coordinator}
use Rattle.fedrun_files.proofs.Results.{on_ok_always}
use Rattle.fedrun_reports.specs.After.{coordinator_after}
use Rattle.fedrun_hosts.specs.Ended.{SavesFinished}
use Rattle.fedrun_hosts.proofs.Saved.{saved_as}
use Rattle.fedrun_hosts.proofs.coordinate.coordinate_reporting.Goals as goal

pub returns-in-Ok-save_report : goal.returns-in-Ok-save_report
returns-in-Ok-save_report g c =
    let journal = c.into_parts-journal.result.1 in
    let events = c.into_parts-events.result.1 in
    let sources = c.args.loaded.now.sources in
    let digests = c.args.loaded.now.digests in
    let name = c.args.node.now.report.now in
    let before = g.D.Disk.contents c.args.disk.now in
    let final = g.D.Disk.contents c.save_report.new.disk in
    let desk = c.in-Ok-replayed_coordinator.desk in
    let after = c.in-Ok-replayed_coordinator.ensures in
    let says : coordinator_core.finished desk.station.node ≡ true =
    grind (arith, c.station.ensures, c.node.ensures, c.finished-is_finished.ensures, c.if-is_finished.true) in
    let same : journal ≡ events = c.into_parts-journal.ensures.journal ∙ ap (λ (d : Desk CoordinatorNode). d.journal) after in
    let finished : coordinator_core.finished (coordinator_after sources.plan journal) ≡ true =
    ap (λ l. coordinator_core.finished (coordinator_after sources.plan l)) same
    ∙ sym (ap (λ (d : Desk CoordinatorNode). coordinator_core.finished d.station.node) after) ∙ says in
    let saves : SavesFinished sources digests name before final = record {
      journal = journal;
      saved = saved_as digests (by_coordinator journal) (string_bytes c.in-Ok.reserved.temporary) c.as_str-temporary.result.now name before (g.D.Disk.contents c.reserve_report.new.disk) final
          c.as_str-temporary.ensures.value c.in-Ok.ensures.other c.in-Ok.ensures.reserved c.in-Ok-save_report.ensures.saved;
      finished = finished;
    } in
    on_ok_always c.say_finished.result saves
