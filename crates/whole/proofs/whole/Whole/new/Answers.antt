use Rattle.std.proofs.Common.{◌≡◌, ℕ, ◌∙◌, List, length, map, ap, zero-add}
use Rattle.std.proofs.lemmas.List.{take_all}
use Rattle.whole.proofs.Turns.{opened, opened-programs, kept_initial, slots_of_programs}
use Rattle.reactor_program.specs.Behaviour.{Behaviour}
use Rattle.plan_network.proofs.LawfulNetwork.{gives_lawful}
use Rattle.whole.specs.Invariant.{programs_in}
use Rattle.whole.specs.Progress.{Progress}
use Rattle.whole.proofs.whole.Whole.new.Goals as goal

pub invariant_of-result : goal.invariant_of-result
invariant_of-result c =
    let all : c.loop-program.reactors.items ≡ map opened c.args.programs.now =
    c.loop-program.invariant ∙
    ap (λ ps. map opened ps) (take_all c.loop-program.program-index c.args.programs.now (rw (← c.as_slice-program-items.ensures) c.loop-program-test.false)) in
    kept_initial c.args.plan.now c.args.inputs.now c.args.programs.now c.loop-program.reactors.items c.in_ok-new-2.field-0 c.new-5.result
    (slots_of_programs c.args.plan.now.federates c.args.programs.now c.requires.programs)
    (gives_lawful c.args.plan.now c.args.programs.now c.args.inputs.now c.invariant.ensures c.requires.programs c.requires.inputs) all
    c.in_ok-new-2.ensures.draft c.in_ok-new-2.ensures.pending c.new-5.ensures

pub returns : goal.returns
returns c =
    let all : c.loop-program.reactors.items ≡ map opened c.args.programs.now =
    c.loop-program.invariant ∙
    ap (λ ps. map opened ps) (take_all c.loop-program.program-index c.args.programs.now (rw (← c.as_slice-program-items.ensures) c.loop-program-test.false)) in
    let shown : List Behaviour → ℕ → Progress = λ programs turns. record {
      draft = c.args.plan.now;
      programs = programs;
      inputs = c.args.inputs.now;
      turns = turns;
      discarded = 0;
    } in
    ap (λ k. shown (programs_in c.loop-program.reactors.items) k) (zero-add (length c.new-5.result)) ∙
    ap (λ ps. shown ps (length c.new-5.result)) (opened-programs c.args.programs.now c.loop-program.reactors.items all) ∙
    ap (λ k. shown c.args.programs.now k) (ap length c.new-5.ensures)
