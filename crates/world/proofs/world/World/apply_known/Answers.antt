use Rattle.std.proofs.Common.{◌≡◌, Some, sym, ap, subst, ◌∙◌}
use Rattle.node_cores.specs.FederateCore.{FederateNode}
use Rattle.node_cores.specs.CoordinatorCore.{CoordinatorNode}
use Rattle.world_stations.specs.World.{Applied, occurrence_of}
use Rattle.world_stations.specs.Federation.{Federation, step_in}
use Rattle.world.specs.World.{stations_of}
use Rattle.world.proofs.Headline.{faithful, harmless_next}
use Rattle.world.proofs.After.{made_after}
use Rattle.world.proofs.Seen.{seen}
use Rattle.world.proofs.world.World.apply_known.Goals as goal

pub apply_known-requires : goal.apply_known-requires
apply_known-requires c =
    subst (λ (w : Federation). occurrence_of w c.args.step ≡ Some (record { node = c.args.node; event = c.args.event }))
    (sym (c.deref_mut.ensures.value ∙ (seen c.self.view_is c.self.invariant).stations_are)) c.requires

pub returns-in_err-outcome-clause-faithful : goal.returns-in_err-outcome-clause-faithful
returns-in_err-outcome-clause-faithful c = faithful _ (record { legal = c.self.invariant.legal; programs_fit = c.self.invariant.programs_fit; inputs_fit = c.self.invariant.inputs_fit })

pub invariant_of-self-2 : goal.invariant_of-self-2
invariant_of-self-2 c =
    made_after c.self.inside.plan.now c.self.inside.programs.now c.self.inside.inputs.now c.self.inside.stations.value c.apply_known.new.self c.args.step c.in_ok-outcome.outcome
    c.self.inside.has_forgotten c.somebody_forgot-has_forgotten.result c.self.invariant (c.in_ok-outcome.ensures.done ∙ ap (λ (w : Federation). step_in w c.args.step) c.deref_mut.ensures.value) c.somebody_forgot-has_forgotten.ensures

pub returns-clause-outcome : goal.returns-clause-outcome
returns-clause-outcome c =
    ap (λ (a : Applied CoordinatorNode FederateNode). a.outcome) c.in_ok-outcome.ensures.done ∙
    ap (λ (w : Federation). (step_in w c.args.step).outcome) c.deref_mut.ensures.value ∙
    ap (λ (w : Federation). (step_in w c.args.step).outcome) (seen c.self.view_is c.self.invariant).stations_are

pub returns-clause-harmless : goal.returns-clause-harmless
returns-clause-harmless c =
    let told : c.in_ok-outcome.outcome ≡ (step_in (stations_of c.args.self.now) c.args.step).outcome =
    ap (λ (a : Applied CoordinatorNode FederateNode). a.outcome) c.in_ok-outcome.ensures.done ∙
    ap (λ (w : Federation). (step_in w c.args.step).outcome) c.deref_mut.ensures.value ∙
    ap (λ (w : Federation). (step_in w c.args.step).outcome) (seen c.self.view_is c.self.invariant).stations_are in
    harmless_next c.args.self.now c.args.step c.in_ok-outcome.outcome (seen c.self.view_is c.self.invariant).fit told

pub returns-clause-faithful : goal.returns-clause-faithful
returns-clause-faithful c = faithful _ (record { legal = c.self.invariant.legal; programs_fit = c.self.invariant.programs_fit; inputs_fit = c.self.invariant.inputs_fit })
