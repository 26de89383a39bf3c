use Rattle.std.proofs.Common.{◌∙◌, ap, List}
use Rattle.tag.specs.LogicalTime.{LogicalTime}
use Rattle.protocol.specs.FederateRecord.{FederateRecord, with_tag}
use Rattle.grants.proofs.Transit.{inserted}
use Rattle.grants.proofs.federate_record.FederateRecord.add_transit.Goals as goal

abbrev with_transit : FederateRecord → List LogicalTime → FederateRecord
with_transit s transit = record s { transit = transit }

pub returns-clause-ok : goal.returns-clause-ok
returns-clause-ok c =
    let s : FederateRecord = record {
      completed = c.self.inside.completed;
      granted = c.self.inside.granted;
      announced = c.self.inside.announced;
      next = c.self.inside.next;
      transit = c.self.inside.transit.keys;
    } in
    ap (with_transit s) (c.in_ok-insert.ensures.keys ∙ inserted c.self.inside.transit.keys c.args.tag)
    ∙ ap (λ (x : FederateRecord). with_transit x (with_tag c.args.tag x.transit)) c.self.view_is
