use Rattle.std.proofs.Common.{◌≡◌, ◌<◌, ◌^◌, ◌++◌, drop, take}
use Rattle.std.specs.Prelude.{All, IsSome, IfSome}
use Rattle.std.specs.List.{filter_map}
use Rattle.plan.specs.Federation.{connection_of, found_output, found_input}
use Rattle.plan.proofs.connect.connect.Given as goal

abbrev pub invariant-loop-declared : goal.invariant-loop-declared
invariant-loop-declared l = record {
  numbered : l.connections.items ++ filter_map (connection_of l.federates) (drop l.declared-index l.draft.connections)
      ≡ filter_map (connection_of l.federates) l.draft.connections;
  from_outputs : All (λ c. IsSome (found_output l.federates c.from)) (take l.declared-index l.draft.connections);
  to_inputs : All (λ c. IsSome (found_input l.federates c.to)) (take l.declared-index l.draft.connections);
  delays : All (λ c. IfSome c.after (λ t. t < 2 ^ 62)) (take l.declared-index l.draft.connections);
}
