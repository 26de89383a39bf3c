use Rattle.std.proofs.Common.{◌∙◌, ℕ, List, [], ◌∷◌, ap}
use Rattle.std.proofs.lemmas.List.{take_all}
use Rattle.signal.specs.declared.frame.Frame.{Frame}
use Rattle.wires_traffic.specs.Counter.{highest_after}
use Rattle.wires_traffic.proofs.Numbered.{highest_more}
use Rattle.wires_traffic.proofs.counter.highest_after.Goals as goal

pub loop-frame-preserved : goal.loop-frame-preserved
loop-frame-preserved c =
    c.highest_with-highest.ensures ∙ ap (λ (n : ℕ). highest_after n (c.frame-item.result ∷ [])) c.loop-frame.invariant
    ∙ highest_more c.args.before c.args.frames.now c.loop-frame.frame-index c.frame-item.result c.loop-frame-test.true c.frame-item.is

pub returns : goal.returns
returns c =
    c.loop-frame.invariant ∙ ap (λ (frames : List Frame). highest_after c.args.before frames) (take_all c.loop-frame.frame-index c.args.frames.now c.loop-frame-test.false)
