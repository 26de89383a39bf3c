use Rattle.std.proofs.Common.{refl, subst, string_bytes}
use Rattle.files_reports.specs.Said.{said_in}
use Rattle.fedrun_files.proofs.Results.{on_ok_always}
use Rattle.fedrun_reports.specs.After.{federate_after}
use Rattle.fedrun_hosts.specs.Ended.{IsSavedAs, SavesOwn}
use Rattle.fedrun_hosts.proofs.Saved.{saved_as}
use Rattle.fedrun_hosts.proofs.join.join_reporting.Goals as goal

pub returns-in-None : goal.returns-in-None
returns-in-None g c =
    let joined = c.args.joined.now in
    let digests = joined.loaded.now.digests in
    let name = joined.node.now.report.now in
    let before = g.D.Disk.contents c.args.disk.now in
    let after = g.D.Disk.contents c.save_report.new.disk in
    let events = c.into_parts-events.result.1 in
    let saved : IsSavedAs digests (said_in c.in-Ok-report_of.report) name before after =
    saved_as digests (said_in c.in-Ok-report_of.report) (string_bytes c.in-Ok-reserve_report.reserved.temporary) c.as_str-temporary.result.now name before (g.D.Disk.contents c.reserve_report.new.disk) after
    c.as_str-temporary.ensures.value c.in-Ok-reserve_report.ensures.other c.in-Ok-reserve_report.ensures.reserved c.in-Ok-save_report.ensures.saved in
    let own : SavesOwn joined.loaded.now.sources digests joined.number name before after = record {
      rows = (federate_after joined.loaded.now.sources joined.number events).federate.rows;
      journal = events;
      saved = subst (λ said. IsSavedAs digests said name before after) c.in-Ok-report_of.ensures saved;
      rows_are = refl;
    } in
    on_ok_always c.say_finished.result own
