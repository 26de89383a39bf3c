use denote.Param.Send.{sendable}
use Rattle.tests_runs.proofs.apart.all_ran.Goals as goal

-- what the closure asks of its caller are the bounds of the function around it
pub map_vec-ends-requires-after_bounds : goal.map_vec-ends-requires-after_bounds
map_vec-ends-requires-after_bounds g c κs within i run small is = search sendable depth 20
