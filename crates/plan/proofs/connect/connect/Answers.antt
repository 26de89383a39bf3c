use Rattle.std.proofs.Common.{arith, rules, ◌≡◌, ◌+◌, ◌++◌, ◌∷◌, [], ◌<◌, ◌^◌, ap, sym, refl, length, subst, ◌∙◌, drop, get_or}
use Rattle.std.specs.Prelude.{Option, Some, IsSome, IfSome, All}
use Rattle.std.specs.List.{filter_map}
use Rattle.std.proofs.lemmas.List.{take_all}
use Rattle.std.proofs.lemmas.List.Elements.{All-more}
use Rattle.plan.specs.declared.draft.ConnectionDraft.{ConnectionDraft}
use Rattle.plan.specs.Federation.{Found, connection_of, found_output, found_input}
use Rattle.plan.proofs.Joined.{filter_map_more, there_at_end, connection_of-is}
use Rattle.plan.proofs.connect.connect.Goals as goal

pub loop-declared-preserved : goal.loop-declared-preserved
loop-declared-preserved c =
    let below : c.loop-declared.declared-index < length c.args.draft.now.connections
    = omega (arith, ap length c.as_slice-declared-items.ensures) in
    let here : c.declared-item.result ≡ get_or c.args.draft.now.connections c.loop-declared.declared-index c.declared-item.result
    = c.declared-item.is
    ∙ ap (λ xs. get_or xs c.loop-declared.declared-index c.declared-item.result) c.as_slice-declared-items.ensures in
    let from_is : found_output c.as_slice-federates.result.now c.declared-item.result.from ≡ Some c.in-Some.from = search rules in
    let to_is : found_input c.as_slice-federates.result.now c.declared-item.result.to ≡ Some c.in-Some-found_input.to = search rules in
    let gives : connection_of c.as_slice-federates.result.now c.declared-item.result ≡ Some c.new.result
    = connection_of-is c.as_slice-federates.result.now c.declared-item.result c.in-Some.from c.in-Some-found_input.to c.new.result
    from_is to_is (search rules) in
    let pushed : c.push.new.self.items ≡ c.loop-declared.connections.items ++ c.new.result ∷ [] = search rules in
    record {
      numbered = ap (λ zs. zs ++ filter_map (connection_of c.as_slice-federates.result.now) (drop (c.loop-declared.declared-index + 1) c.args.draft.now.connections)) pushed
          ∙ filter_map_more (connection_of c.as_slice-federates.result.now) c.args.draft.now.connections c.loop-declared.declared-index
          c.declared-item.result c.new.result c.loop-declared.connections.items
          (filter_map (connection_of c.as_slice-federates.result.now) c.args.draft.now.connections)
          below here gives c.loop-declared.invariant.numbered;
      from_outputs = All-more (λ (z : ConnectionDraft). IsSome (found_output c.as_slice-federates.result.now z.from))
          c.args.draft.now.connections c.loop-declared.declared-index c.declared-item.result below c.loop-declared.invariant.from_outputs
          (subst (λ (z : ConnectionDraft). IsSome (found_output c.as_slice-federates.result.now z.from)) here
          (subst (λ (o : Option Found). IsSome o) (sym from_is) refl));
      to_inputs = All-more (λ (z : ConnectionDraft). IsSome (found_input c.as_slice-federates.result.now z.to))
          c.args.draft.now.connections c.loop-declared.declared-index c.declared-item.result below c.loop-declared.invariant.to_inputs
          (subst (λ (z : ConnectionDraft). IsSome (found_input c.as_slice-federates.result.now z.to)) here
          (subst (λ (o : Option Found). IsSome o) (sym to_is) refl));
      delays = All-more (λ (z : ConnectionDraft). IfSome z.after (λ t. t < 2 ^ 62))
          c.args.draft.now.connections c.loop-declared.declared-index c.declared-item.result below c.loop-declared.invariant.delays
          (subst (λ (z : ConnectionDraft). IfSome z.after (λ t. t < 2 ^ 62)) here (search rules));
    }

pub returns-clause-there : goal.returns-clause-there
returns-clause-there c =
    there_at_end c.args.draft.now c.as_slice-federates.result.now c.loop-declared.declared-index c.as_slice-federates.ensures
    (omega (arith, ap length c.as_slice-declared-items.ensures))
    c.loop-declared.invariant.from_outputs c.loop-declared.invariant.to_inputs

pub returns-clause-delays : goal.returns-clause-delays
returns-clause-delays c =
    subst (λ xs. All (λ (z : ConnectionDraft). IfSome z.after (λ t. t < 2 ^ 62)) xs)
    (take_all c.loop-declared.declared-index c.args.draft.now.connections (omega (arith, ap length c.as_slice-declared-items.ensures)))
    c.loop-declared.invariant.delays
