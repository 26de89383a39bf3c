use Rattle.fedrun_logs.proofs.opening.begin_log.Goals as goal

pub returns-clause-whole : goal.returns-clause-whole
returns-clause-whole g c known = rw (c.opened.ensures.device, c.opened.ensures.sum, c.opened.ensures.journal, c.opened.ensures.told, c.opened.ensures.ended) (c.in_ok-log.ensures.whole known)
