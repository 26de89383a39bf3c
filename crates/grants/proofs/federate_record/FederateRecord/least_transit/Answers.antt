use Rattle.std.proofs.Common.{◌∙◌, ap, sym}
use Rattle.protocol.specs.FederateRecord.{FederateRecord, least_with}
use Rattle.grants.specs.Transit.{lesser_with}
use Rattle.grants.proofs.Transit.{least_is}
use Rattle.grants.proofs.federate_record.FederateRecord.least_transit.Goals as goal

pub returns-clause-least : goal.returns-clause-least
returns-clause-least c = λ tag.
    ap (λ (s : FederateRecord). least_with tag s.transit) (sym c.self.view_is) ∙ least_is c.self.inside.transit.keys tag c.first_of.ensures.rises
    ∙ ap (lesser_with tag) (sym c.first_of.ensures.first)
