use Rattle.std.proofs.Common.{◌≡◌, ◌↔◌, ◌∙◌, sym, subst, refl, [], take, arith}
use Rattle.std.proofs.lemmas.List.{take_all}
use Rattle.desk.specs.Shares.{Agree}
use Rattle.desk.proofs.Backwards.{used_up}
use Rattle.desk.proofs.matching.agree.Goals as goal

pub loop-end-init : goal.loop-end-init
loop-end-init c =
    let whole : take c.len-end.result c.args.journal.now ≡ c.args.journal.now = take_all c.len-end.result c.args.journal.now (omega (arith, c.len-end.ensures)) in
    record {
      same = subst (λ l. Agree c.args.journal.now c.args.shares.now ↔ Agree l c.args.shares.now) (sym whole) ((λ a. a), (λ a. a));
      within = omega (arith, c.len-end.ensures);
    }

pub loop-end-preserved : goal.loop-end-preserved
loop-end-preserved c =
    let before = c.loop-end.invariant.same in
    let step = c.in-Some.ensures.taken in
    let less = c.in-Some.ensures.less in
    let within = c.loop-end.invariant.within in
    record { same = ((λ a. step.0 (before.0 a)), (λ a. before.1 (step.1 a))); within = omega arith }

pub returns-in-None : goal.returns-in-None
returns-in-None c = ((λ no. cc), (λ agree. absurd (c.take_some.ensures.none c.in-None.is (c.loop-end.invariant.same.0 agree))))

pub returns : goal.returns
returns c =
    let none : c.loop-end.end ≡ 0 = omega (arith, c.loop-end-test.false) in
    let left : take c.loop-end.end c.args.journal.now ≡ [] = rw none refl in
    let both = rw left at c.loop-end.invariant.same in
    let up = used_up c.loop-end.shares in
    (λ is. both.1 (up.0 (sym c.are_used_up.ensures ∙ is)), λ agree. c.are_used_up.ensures ∙ up.1 (both.0 agree))
