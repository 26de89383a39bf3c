use Rattle.std.proofs.Common.{◌≡◌, ◌∙◌, suc, length, drop, ap, arith, sym, inl, inr}
use Rattle.std.proofs.lemmas.List.{length_push}
use Rattle.std.specs.Vec.Iter.{into_iter_items}
use Rattle.desk.specs.Shares.{Agree}
use Rattle.wires.proofs.Pushed.{first_left, one_pair_more}
use Rattle.wires.proofs.nodes.desks_of.Goals as goal

pub loop-federate-preserved : goal.loop-federate-preserved
loop-federate-preserved g c =
    let at = c.loop-federate in
    let steps = c.in-Some.ensures.steps in
    let desks = at.desks.items in
    let shares = c.args.shares.items in
    let desk = c.in_ok-gather_desk.field-0 in
    let made = c.in_ok-push.ensures.items in
    let counted = ap length made ∙ length_push desks desk in
    let grown : length c.push.new.self.items ≡ suc (length desks) = omega (arith, counted) in
    let begins = sym at.invariant.rest ∙ steps.1.0 in
    let after = into_iter_items c.next.new.self.b in
    let behind = (first_left shares (length desks) c.in-Some.own after begins).1 in
    record {
      federates = omega (arith, counted, at.invariant.federates, steps.0.1);
      shares = omega (arith, counted, at.invariant.shares, steps.1.1);
      rest = sym (ap (λ n. drop n shares) grown ∙ behind);
      agree = one_pair_more (λ d o. Agree d.journal o.items) desks c.push.new.self.items desk shares c.in-Some.own after made
          begins c.in_ok-gather_desk.ensures.shares at.invariant.agree;
    }

pub returns-clause-each : goal.returns-clause-each
returns-clause-each g c = elim c.in-None.ensures.steps [
  | inl first ↦ omega (arith, first.1.0, c.loop-federate.invariant.federates)
  | inr second ↦ omega (arith, second.1.0, c.loop-federate.invariant.federates, c.loop-federate.invariant.shares, c.requires.count)
]

pub returns-clause-shares : goal.returns-clause-shares
returns-clause-shares g c = record { each = returns-clause-each g c ∙ c.requires.count; agree = c.loop-federate.invariant.agree }
