use Rattle.std.proofs.Common.{◌+◌, Some, sym, ap, subst, ◌∙◌, arith}
use Rattle.signal.specs.Stream.{Stream, IsStream, GivesFrame, GivesNothing, GivesFault}
use Rattle.signal.specs.Begun.{HasSignals}
use Rattle.signal.specs.Inside.{stream_of}
use Rattle.signal.proofs.Parts.{from}
use Rattle.signal.proofs.Streams.{given_again}
use Rattle.signal.proofs.Readers.{seen_is, goes_on_reader, goes_on_gives, begins_reader, begins_gives, nothing_gives, fault_gives, fault_reader}
use Rattle.signal.proofs.reader.FrameReader.read.Goals as goal

pub returns-in-Some : goal.returns-in-Some
returns-in-Some c =
    given_again c.args.self.now c.in-Some.fault (subst IsStream c.self.view_is c.self.invariant.is_stream) (sym (ap (λ (s : Stream). s.fault) c.self.view_is) ∙ c.in-Some.is)

pub give-frame-requires-clause-signals : goal.give-frame-requires-clause-signals
give-frame-requires-clause-signals c =
    let r = c.self.inside in
    subst (HasSignals r.begun) (sym (seen_is r c.deref.result.now c.deref.ensures.value)) c.self.invariant.has_signals

pub invariant_of-self : goal.invariant_of-self
invariant_of-self c =
    let r = c.self.inside in
    goes_on_reader r (from r.position c.deref.result.now) c.give-frame.result.1 c.give-frame.new.self c.self.invariant (seen_is r c.deref.result.now c.deref.ensures.value)
    c.in_default.is c.give-frame.ensures.within c.give-frame.ensures.signals

pub returns-then-self-gt0 : goal.returns-then-self-gt0
returns-then-self-gt0 c =
    let r = c.self.inside in
    let new = record r { position = r.position + c.give-frame.result.1; begun = c.give-frame.new.self } in
    subst (λ (s : Stream). GivesFrame s c.give-frame.result.0 (stream_of new)) c.self.view_is
    (goes_on_gives r (from r.position c.deref.result.now) c.give-frame.result.1 c.give-frame.new.self c.give-frame.result.0 (seen_is r c.deref.result.now c.deref.ensures.value)
    c.in_default.is c.give-frame.ensures.within c.give-frame.ensures.size c.give-frame.ensures.frame)

pub invariant_of-self-in-Ok-Some : goal.invariant_of-self-in-Ok-Some
invariant_of-self-in-Ok-Some c =
    let r = c.self.inside in
    begins_reader r (from r.position c.deref-2.result.now) c.in-Ok-Some.front c.self.invariant (seen_is r c.deref-2.result.now c.deref-2.ensures.value)
    c.in_default.is (rw c.in-Ok-Some.field-0-is at c.in-Ok-Some.ensures.ok)

pub returns-in-Ok-Some : goal.returns-in-Ok-Some
returns-in-Ok-Some c =
    let r = c.self.inside in
    let front = c.in-Ok-Some.front in
    let new = record r { position = r.position + front.size; begun = front.begun; version = front.version } in
    subst (λ (s : Stream). GivesFrame s front.frame (stream_of new)) c.self.view_is
    (begins_gives r (from r.position c.deref-2.result.now) front c.self.invariant (seen_is r c.deref-2.result.now c.deref-2.ensures.value)
    c.in_default.is (omega (arith, c.if-self-gt0.false)) (rw c.in-Ok-Some.field-0-is at c.in-Ok-Some.ensures.ok))

pub returns-in-Ok-None : goal.returns-in-Ok-None
returns-in-Ok-None c =
    let r = c.self.inside in
    subst (λ (s : Stream). GivesNothing s s) c.self.view_is
    (nothing_gives r (from r.position c.deref-2.result.now) c.self.invariant (seen_is r c.deref-2.result.now c.deref-2.ensures.value)
    c.in_default.is (omega (arith, c.if-self-gt0.false)) (rw c.in-Ok-None.field-0-is at c.in-Ok-None.ensures.ok))

pub invariant_of-self-in-Err : goal.invariant_of-self-in-Err
invariant_of-self-in-Err c =
    let r = c.self.inside in
    fault_reader r (from r.position c.deref-2.result.now) c.in-Err.fault c.self.invariant (seen_is r c.deref-2.result.now c.deref-2.ensures.value)
    (omega (arith, c.if-self-gt0.false)) c.in-Err.ensures.fault

pub returns-in-Err : goal.returns-in-Err
returns-in-Err c =
    let r = c.self.inside in
    subst (λ (s : Stream). GivesFault s c.in-Err.fault (stream_of (record r { fault = Some c.in-Err.fault }))) c.self.view_is
    (fault_gives r (from r.position c.deref-2.result.now) c.in-Err.fault c.self.invariant (seen_is r c.deref-2.result.now c.deref-2.ensures.value)
    c.in_default.is (omega (arith, c.if-self-gt0.false)) c.in-Err.ensures.fault)
