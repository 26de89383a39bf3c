use Rattle.std.proofs.Common.{◌≡◌, ◌∷◌, ◌++◌, [], Ok, subst, sym, ap, ◌∙◌}
use Rattle.signal.specs.Stream.{Gives, GivesFrame}
use Rattle.node.specs.declared.event.Event.TheVariants as Events
use Rattle.wires_workers.specs.AreRead.{AreRead, none, one_more}
use Rattle.wires_workers.proofs.reader.collect.Goals as goal

pub loop-init : goal.loop-init
loop-init c = subst (λ items. AreRead c.args.peer c.args.frames.now items c.args.frames.now) (sym c.requires) none

pub loop-preserved : goal.loop-preserved
loop-preserved c =
    let items : c.push_reserved.new.self.items ≡ c.loop.events.items ++ Events.Frame c.args.peer c.in-Ok-Some.frame ∷ [] =
    c.push_reserved.ensures.items ∙ ap (λ events. events ++ Events.Frame c.args.peer c.in-Ok-Some.frame ∷ []) c.reserve.ensures.items in
    let gives : GivesFrame c.loop.frames c.in-Ok-Some.frame c.next.new.self =
    subst (λ answer. Gives c.loop.frames (Ok answer) c.next.new.self) c.in-Ok-Some.field-0-is c.in-Ok-Some.ensures.gives in
    subst (λ events. AreRead c.args.peer c.args.frames.now events c.next.new.self) (sym items) (one_more c.loop.invariant gives)
