use Rattle.files_keeping.proofs.Moments.{begins, goes_on}
use Rattle.files_keeping.proofs.opening.read_locked.Goals as goal

pub returns-in_err-lock-clause-any_moment : goal.returns-in_err-lock-clause-any_moment
returns-in_err-lock-clause-any_moment g c known =
    let m = g.D.Device.moment in
    let l = g.D.Device.left in
    let old = c.args.device.now in
    let begun = begins m l old (g.D.Device.leaves old) (g.D.Device.leaves old) (λ left since. g.met.D.Device.now_alone old left known since) (λ left now. now) in
    goes_on m l old old c.lock.new.self (g.D.Device.leaves old) _ begun (c.lock.ensures.time known) (c.lock.ensures.leaves known)

pub returns-in_err-read-clause-any_moment : goal.returns-in_err-read-clause-any_moment
returns-in_err-read-clause-any_moment g c known =
    let m = g.D.Device.moment in
    let l = g.D.Device.left in
    let old = c.args.device.now in
    let begun = begins m l old (g.D.Device.leaves old) (g.D.Device.leaves old) (λ left since. g.met.D.Device.now_alone old left known since) (λ left now. now) in
    let locked = goes_on m l old old c.lock.new.self (g.D.Device.leaves old) _ begun (c.lock.ensures.time known) (c.lock.ensures.leaves known) in
    goes_on m l old c.lock.new.self c.read.new.self (g.D.Device.leaves old) _ locked (c.read.ensures.time known) (λ left now. c.lock.ensures.leaves known left (c.read.ensures.leaves known left now))

pub returns-clause-any_moment : goal.returns-clause-any_moment
returns-clause-any_moment g c known =
    let m = g.D.Device.moment in
    let l = g.D.Device.left in
    let old = c.args.device.now in
    let begun = begins m l old (g.D.Device.leaves old) (g.D.Device.leaves old) (λ left since. g.met.D.Device.now_alone old left known since) (λ left now. now) in
    let locked = goes_on m l old old c.lock.new.self (g.D.Device.leaves old) _ begun (c.lock.ensures.time known) (c.lock.ensures.leaves known) in
    goes_on m l old c.lock.new.self c.read.new.self (g.D.Device.leaves old) _ locked (c.read.ensures.time known) (λ left now. c.lock.ensures.leaves known left (c.read.ensures.leaves known left now))
