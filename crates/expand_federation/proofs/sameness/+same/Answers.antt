use Rattle.std.proofs.Common.{rules, ◌≡◌, arith, string_bytes}
use Rattle.std.proofs.lemmas.Grind.{common_steps}
use Rattle.toml.specs.View.{view}
use Rattle.expand_federation.proofs.Steps.{one_more}
use Rattle.expand_federation.proofs.sameness.+same.Goals as goal

pub are_same_members-loop-key-preserved : goal.are_same_members-loop-key-preserved
are_same_members-loop-key-preserved t c =
    let named : string_bytes c.in-Some.key.now ≡ string_bytes c.in-Some-next.other_key.now = first_of (search rules, grind (arith, common_steps)) in
    let viewed : view c.in-Some.value.now ≡ view c.in-Some-next.other.now = first_of (search rules, grind (arith, common_steps)) in
    one_more c.args.members.now.entries c.args.others.now.entries c.loop-key.invariant.0 c.loop-key.invariant.1 c.loop-key.key-iterator c.loop-key.rest
    c.next.new.self c.next-in-loop-key.new.self c.in-Some.key.now c.in-Some-next.other_key.now c.in-Some.value.now c.in-Some-next.other.now
    c.loop-key.invariant.2 c.loop-key.invariant.3 c.loop-key.invariant.4 c.in-Some.ensures.steps c.in-Some-next.ensures.steps named viewed
