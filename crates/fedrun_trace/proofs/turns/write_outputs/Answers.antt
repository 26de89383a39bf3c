use Rattle.std.proofs.Common.{◌≡◌, ◌∷◌, ◌++◌, codes}
use Rattle.std.proofs.lemmas.List.{take_all}
use Rattle.fedrun_trace.specs.Turns.{set_member, object_text}
use Rattle.fedrun_trace.proofs.Texts.{next_more, in_braces}
use Rattle.fedrun_trace.proofs.turns.write_outputs.Goals as goal

pub loop-entry-preserved : goal.loop-entry-preserved
loop-entry-preserved g c =
    next_more (λ e. codes "," ++ set_member c.args.slots.now e) c.in-Some.rest.now c.loop-entry.entry-index c.entry-item.result
    (g.W.Write.contents c.write_set.new.out) (g.W.Write.contents c.loop-entry.out) (g.W.Write.contents c.write_next_set.new.out)
    c.loop-entry-test.true c.entry-item.is c.loop-entry.invariant c.in_ok-write_next_set.ensures

pub returns : goal.returns
unfolding object_text
returns g c =
    let is : c.args.entries.now ≡ c.in-Some.first.now ∷ c.in-Some.rest.now = c.in-Some.ensures.cases.0 in
    let everything = rw (take_all c.loop-entry.entry-index c.in-Some.rest.now c.loop-entry-test.false) at c.loop-entry.invariant in
    in_braces (set_member c.args.slots.now) c.in-Some.first.now c.in-Some.rest.now c.args.entries.now c.write_all-3.result
    (g.W.Write.contents c.args.out.now) (g.W.Write.contents c.write_all-2.new.self) (g.W.Write.contents c.write_set.new.out)
    (g.W.Write.contents c.loop-entry.out) (g.W.Write.contents c.write_all-3.new.self)
    is c.in_ok-write_all.ensures.bytes c.in_ok-write_set.ensures everything c.write_all-3.ensures.bytes
