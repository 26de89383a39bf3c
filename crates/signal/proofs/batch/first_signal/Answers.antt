use Rattle.std.proofs.Common.{◌≡◌, ◌++◌, drop, sym, ap, ◌∙◌, take-append-drop}
use Rattle.signal.proofs.Signals.{front_is}
use Rattle.signal.proofs.batch.first_signal.Goals as goal

pub returns-clause-signal : goal.returns-clause-signal
returns-clause-signal c =
    let bytes = c.args.bytes.now in
    let parts : bytes ≡ c.split_at.result.0.now ++ drop c.signal_size-size.result bytes =
    sym (take-append-drop c.signal_size-size.result bytes) ∙ ap (λ p. p ++ drop c.signal_size-size.result bytes) (sym c.split_at.ensures.front) in
    front_is bytes c.split_at.result.0.now (drop c.signal_size-size.result bytes) c.in-Ok.signal c.in-Ok.ensures.spelled.0 parts c.in-Ok.ensures.spelled.1
