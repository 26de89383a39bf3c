use Rattle.std.proofs.Common.{ℕ, ◌<◌, Bool, sym, ◌∙◌, arith}
use Rattle.std.specs.Prelude.{◌&&◌}
use Rattle.tag.specs.LogicalTime.{forever, is_same}
use Rattle.protocol.specs.FederateRecords.{federate_record_at}
use Rattle.protocol_laws.proofs.Eligibility.{all_below_from}
use Rattle.coordinator.proofs.Keeping.{below_fails}
use Rattle.coordinator.proofs.state.State.is_finished.Goals as goal

pub returns-then-not-has_finished : goal.returns-then-not-has_finished
returns-then-not-has_finished c =
    let test : ℕ → Bool = λ j. (federate_record_at c.args.self.now.table.federate_records j).announced && is_same (federate_record_at c.args.self.now.table.federate_records j).next forever in
    let within : c.loop-federate.federate < c.args.self.now.table.wiring.federates = omega arith in
    sym (below_fails c.args.self.now.table.wiring.federates c.loop-federate.federate test within (sym c.has_finished.ensures ∙ c.if-not-has_finished.true))

pub returns : goal.returns
returns c =
    let test : ℕ → Bool = λ j. (federate_record_at c.args.self.now.table.federate_records j).announced && is_same (federate_record_at c.args.self.now.table.federate_records j).next forever in
    sym (all_below_from c.args.self.now.table.wiring.federates test
    (λ j l. (let m : j < c.loop-federate.federate = omega arith in c.loop-federate.invariant j m)))
