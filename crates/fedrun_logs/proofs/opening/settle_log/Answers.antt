use Rattle.fedrun_logs.proofs.Settled.{found_is, both, three, went_on, begun, read_begun}
use Rattle.fedrun_logs.proofs.opening.settle_log.Goals as goal

pub returns-in-Ok-clause-begun : goal.returns-in-Ok-clause-begun
returns-in-Ok-clause-begun g c =
    found_is c.go_on.result c.in-Ok.log _ (read_begun c.args.head.now c.args.bytes.now c.in-Ok.log c.in-Ok.ensures.read) c.go_on.ensures.same

pub returns-in-Ok-clause-whole : goal.returns-in-Ok-clause-whole
returns-in-Ok-clause-whole g c =
    both c.go_on.result _ _ _ c.go_on.ensures.same c.go_on.ensures.kept (λ found same kept known. went_on c.args.head.now c.args.bytes.now (g.D.Device.seen c.args.device.now) (g.D.Device.synced c.go_on.new.device)
    c.in-Ok.log found c.in-Ok.ensures.read (c.requires.bytes known) (kept known) same)

pub returns-in-Err-NoLog-clause-whole : goal.returns-in-Err-NoLog-clause-whole
returns-in-Err-NoLog-clause-whole g c =
    three c.begin.result _ _ _ _ c.begin.ensures.log c.begin.ensures.is_head c.begin.ensures.kept
    (λ found is is_head kept known. begun c.args.head.now (g.D.Device.synced c.begin.new.device) found is_head (kept known) is)
