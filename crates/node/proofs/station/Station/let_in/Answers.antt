use Rattle.std.proofs.Common.{◌≡◌, ℕ, arith, sym, ap, ◌∙◌, Ok}
use Rattle.signal.specs.declared.signal.Signal.{Signal}
use Rattle.signal.specs.declared.frame.Frame.TheVariants as Frames
use Rattle.link.specs.declared.arrival.Arrival.TheVariants as Arrivals
use Rattle.link.specs.Image.{answer_of}
use Rattle.node.proofs.Calls.{noted_ended}
use Rattle.node.proofs.station.Station.let_in.Goals.{in_default-via-in-Data+in_default, in_default-via-in_default}
use Rattle.node.proofs.station.Station.let_in.Goals as goal

pub take-requires-clause-in_turn : goal.take-requires-clause-in_turn
take-requires-clause-in_turn g c e found =
    let frame : c.args.frame.now ≡ Frames.Data c.in-Data-Signal.incarnation c.in-Data-Signal.number c.in-Data-Signal.signal = grind (arith, c.in-Data-Signal.is-0) in
    let arrival : c.args.arrival ≡ Arrivals.Signal = grind (arith, c.in-Data-Signal.is-1) in
    ap (λ f. answer_of e f) (sym frame) ∙ (c.requires.answered e found ∙ ap (λ a. Ok a) arrival)

pub returns-in_default-clause-ended : goal.returns-in_default-clause-ended
returns-in_default-clause-ended g c e found =
    let other : (i n : ℕ) (signal : Signal) → c.args.frame.now ≡ Frames.Data i n signal → c.args.arrival ≡ Arrivals.Signal → ⊥ =
    elim c.in_default.branch [
      | in_default-via-in-Data+in_default w ↦ λ i n signal frame arrival. grind (arith, w.in_default)
      | in_default-via-in_default w ↦ λ i n signal frame arrival. grind (arith, w.in_default)
    ] in
    noted_ended g.N.Node.core c.args.self.now c.self.inside.node c.self.inside.outbox.mail c.note.new.outbox.mail c.args.peer e c.args.frame.now c.args.arrival
    c.note.result c.self.view_is found other c.note.ensures.reply c.note.ensures.received
