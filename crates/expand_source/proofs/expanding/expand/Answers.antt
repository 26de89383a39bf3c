use Rattle.expand_source.proofs.expanding.expand.Goals as goal

pub returns : goal.returns
returns c = (c.as_slice-6.result.now, c.in_ok-text.ensures)
