use Rattle.expand_source.proofs.filling.+fill_text.Given as goal

abbrev pub decreases-fill_text : goal.decreases-fill_text
decreases-fill_text l = l.most
