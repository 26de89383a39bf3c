use Rattle.std.proofs.Common.{◌↔◌, ◌≤◌, length, take}
use Rattle.desk.specs.Shares.{Agree}
use Rattle.desk.proofs.matching.agree.Given as goal

-- what is left of the shares is the journal before a place
abbrev pub invariant-loop-end : goal.invariant-loop-end
invariant-loop-end l = record {
  same : Agree l.journal l.initial.shares ↔ Agree (take l.end l.journal) l.shares;
  within : l.end ≤ length l.journal;
}

abbrev pub decreases-loop-end : goal.decreases-loop-end
decreases-loop-end l = l.end
