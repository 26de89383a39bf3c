use Rattle.std.proofs.Common.{◌-◌, ◌≤◌, drop, refl, arith}
use Rattle.signal.specs.Begun.{HasSignals}
use Rattle.signal.proofs.Begun.{next_begins, left, next_frame}
use Rattle.signal.proofs.batch.Begun.give.Goals as goal
use Rattle.signal.proofs.batch.Begun.give.Goals.{After-first_signal-signal}

pub first_signal-signal-requires : goal.first_signal-signal-requires
first_signal-signal-requires c = next_begins c.args.self.now c.args.bytes.now c.requires.there c.requires.signals

others : (c : After-first_signal-signal) → (c.first_signal-signal.result.1 ≤ c.args.self.now.size)
    × HasSignals (record c.args.self.now { count = c.args.self.now.count - 1; size = c.args.self.now.size - c.first_signal-signal.result.1 }) (drop c.first_signal-signal.result.1 c.args.bytes.now)
others c =
    let old = c.args.self.now in
    let size = c.first_signal-signal.result.1 in
    left old (record old { count = old.count - 1; size = old.size - size }) c.args.bytes.now size c.requires.there c.requires.signals c.first_signal-signal.ensures.size refl refl refl

pub overflow_sub-self-2 : goal.overflow_sub-self-2
overflow_sub-self-2 c = (others (goal.at.overflow_sub-self-2 c).After-first_signal-signal).0

pub returns-clause-frame : goal.returns-clause-frame
returns-clause-frame c =
    let old = c.args.self.now in
    let size = c.first_signal-signal.result.1 in
    next_frame old (record old { count = old.count - 1; size = old.size - size }) c.args.bytes.now size (old.last - (old.count - 1)) c.first_signal-signal.result.0 c.requires.there c.requires.signals.has_numbers
    c.first_signal-signal.ensures.signal c.first_signal-signal.ensures.size (let l = c.requires.signals.has_numbers in omega arith) refl (omega arith) refl

pub returns-clause-signals : goal.returns-clause-signals
returns-clause-signals c = (others (goal.at.returns-clause-signals c).After-first_signal-signal).1

pub returns-clause-within : goal.returns-clause-within
returns-clause-within c = (others (goal.at.returns-clause-within c).After-first_signal-signal).0
