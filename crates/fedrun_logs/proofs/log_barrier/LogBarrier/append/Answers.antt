use Rattle.fedrun_logs.proofs.log_barrier.LogBarrier.append.Goals as goal

pub returns : goal.returns
returns g c = (c.copy_events.new.events, c.in_ok-append_all.ensures)
