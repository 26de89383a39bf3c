use Rattle.protocol_laws.proofs.FixedPoints.{fixed_point_is_least}
use Rattle.protocol_laws.proofs.fixed_points_are_least.Goals as goal

pub returns : goal.returns
returns c = fixed_point_is_least
