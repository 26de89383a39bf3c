use Rattle.expand_federation.proofs.Documents.{scratch_more}
use Rattle.expand_federation.proofs.scratch.+check_scratch.Goals as goal

pub returns-in_ok-check_scratch_state-in-len1-up : goal.returns-in_ok-check_scratch_state-in-len1-up
returns-in_ok-check_scratch_state-in-len1-up t c =
    scratch_more c.check_scratch.result c.args.own.now c.args.states.now c.first-item.result c.in-len1-up.len_at_least c.first-item.is c.in_ok-check_scratch_state-in-len1-up.ensures
    c.check_scratch.ensures
