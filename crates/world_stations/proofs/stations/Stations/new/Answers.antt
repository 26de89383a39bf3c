use Rattle.world_stations.proofs.stations.Stations.new.Goals as goal

pub invariant_of-result : goal.invariant_of-result
invariant_of-result g c = (
  record { is_coordinator = c.requires.coordinator; is_federate = c.requires.federate; one_peer = c.requires.one_peer },
  c.in_ok-directions.ensures.reserved,
)
