use Rattle.world_disks.proofs.Disks.{keeps_a_world, live_is_a_station, makes_own, makes_no_other, keeping_is_unseen}
use Rattle.world_disks.proofs.Disks.{crashes_go_back, crashes_spare_others, stations_are_replays}
use Rattle.world_disks.proofs.crashes_are_no_steps.Goals as goal

pub returns-clause-kept : goal.returns-clause-kept
returns-clause-kept c st = keeps_a_world

pub returns-clause-live : goal.returns-clause-live
returns-clause-live c st = live_is_a_station

pub returns-clause-made : goal.returns-clause-made
returns-clause-made c st = makes_own

pub returns-clause-others : goal.returns-clause-others
returns-clause-others c st = makes_no_other

pub returns-clause-unseen : goal.returns-clause-unseen
returns-clause-unseen c st = keeping_is_unseen

pub returns-clause-back : goal.returns-clause-back
returns-clause-back c st = crashes_go_back

pub returns-clause-spared : goal.returns-clause-spared
returns-clause-spared c st = crashes_spare_others

pub returns-clause-replayed : goal.returns-clause-replayed
returns-clause-replayed c st = stations_are_replays
