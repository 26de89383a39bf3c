use Rattle.world_disks.proofs.Worlds.{steps_are_local}
use Rattle.world_disks.proofs.Federation.{federation_is_local}
use Rattle.world_disks.proofs.worlds_are_such_machines.Goals as goal

pub returns-clause-nodes : goal.returns-clause-nodes
returns-clause-nodes c st = steps_are_local c.H.Node.core c.M.Node.core

pub returns-clause-federation : goal.returns-clause-federation
returns-clause-federation c st = federation_is_local
