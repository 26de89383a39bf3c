-- What came of playing a schedule, once what it wrote is sent on.
use Rattle.std.proofs.Common.{◌≡◌, inl, inr, Result, Ok, Err, OnOk, IfErr, subst}
use Rattle.std.proofs.lemmas.Result.{IfErr-weaker}
use Rattle.world_stations.specs.declared.memory.Memory as steps
use Rattle.fedrun_words.specs.declared.fault.Fault.{Fault}
use Rattle.fedrun_words.specs.declared.fault.Fault.TheVariants.{CannotWrite, More}
use Rattle.fedrun_replay.specs.declared.fault.ReplayFault.{ReplayFault}
use Rattle.fedrun_replay.specs.declared.fault.ReplayFault.TheVariants as broken
use Rattle.fedrun_commands.specs.declared.fault.NodeFault.{NodeFault}
use Rattle.fedrun_commands.specs.declared.fault.NodeFault.TheVariants.{World}
use Rattle.fedrun_commands.specs.Played.{IsBreakingOff}

-- what was printed of a schedule that was played is printed
pub played_and_sent : (result : Result (Unit {0}) (Fault NodeFault)) (played : Result (Unit {0}) ReplayFault) (P Q : Type 0) → (P → Q) →
    OnOk result (played ≡ Ok tt) → OnOk played P → OnOk result Q
played_and_sent (Ok done) played P Q follows same printed = follows (subst (λ (p : Result (Unit {0}) ReplayFault). OnOk p P) same printed)
played_and_sent (Err fault) played P Q follows same printed = tt

-- what holds where it can't be written, and where there was no memory for a step, holds of each fault
pub broken_off_and_sent : (result : Result (Unit {0}) (Fault NodeFault)) (played : Result (Unit {0}) ReplayFault) (P : ReplayFault → Type 0) (Q : Fault NodeFault → Type 0) →
    ((fault : Fault NodeFault) → fault ≡ CannotWrite → Q fault) → ((fault : Fault NodeFault) (memory : steps.Memory) → fault ≡ More (World memory) → P (broken.World memory) → Q fault) →
    IfErr result (IsBreakingOff played) → IfErr played P → IfErr result Q
broken_off_and_sent result played P Q unwritten no_memory is stands = IfErr-weaker result (IsBreakingOff played) Q
    (λ fault why. elim why [
      | inl written ↦ unwritten fault written
      | inr memory ↦ no_memory fault memory.0 memory.2 (subst (λ (p : Result (Unit {0}) ReplayFault). IfErr p P) memory.1 stands)
    ])
    is
