use Rattle.std.proofs.Common.{◌∙◌, sym}
use Rattle.grants.proofs.Transit.{rises, all_later}
use Rattle.grants.proofs.federate_record.drop_up_to.Goals as goal

pub returns : goal.returns
returns c =
    let keys = c.loop-last.tags.keys in
    sym (all_later keys c.args.last (rises keys c.len-count.ensures.ordered) (sym c.has_up_to.ensures ∙ c.loop-last-test.false)) ∙ c.loop-last.invariant
