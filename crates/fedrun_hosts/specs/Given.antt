-- What a federate's node was given.
use Rattle.std.specs.Prelude.{◌<◌}
use Rattle.plan.specs.External.{AreInputsOf}
use Rattle.plan.specs.Federation.{federate_count}
use Rattle.reactor_programs.specs.Programs.{AreProgramsOf}
use Rattle.fedrun_hosts.specs.declared.join.Joined.{Joined}

-- a federation with its programs and recorded inputs of it, and the number of one of its federates
pub record IsGiven (joined : Joined) : Type 0 where
  pub programs : AreProgramsOf joined.loaded.now.sources.plan joined.loaded.now.sources.programs
  pub inputs : AreInputsOf joined.loaded.now.sources.plan joined.loaded.now.sources.inputs
  pub there : joined.number < federate_count joined.loaded.now.sources.plan
