use Rattle.std.proofs.Common.{◌∙◌, ◌+◌, ap, length}
use Rattle.recorder.proofs.Ahead.{journals_counted}
use Rattle.recorder.proofs.incremental.IncrementalAudit.search_on.Goals as goal

pub search_all-requires : goal.search_all-requires
search_all-requires c = record {
  sized = rw (← c.self.view_is) (ap length c.deref.ensures.value
      ∙ journals_counted (λ j. j.now) c.in_ok-journals.journals.items c.federate_count.result c.args.reports.now c.args.coordinator.now c.in_ok-journals.ensures
      ∙ ap (λ n. n + 1) c.federate_count.ensures);
}
