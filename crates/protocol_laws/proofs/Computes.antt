-- What every run computes: its histories are a consistent trace, and so its rows are the undivided program's.
use Rattle.std.proofs.Common.{◌≡◌, ℕ, ◌+◌, ◌*◌, ◌<◌, ◌≤◌, ◌⊎◌, IsTrue, List, arith}
use Rattle.tag.specs.LogicalTime.{LogicalTime, IsFinite, place, is_reached}
use Rattle.network.specs.Network.{Network}
use Rattle.network.specs.Undivided.{whole, part}
use Rattle.network.specs.Lawful.{IsLawful}
use Rattle.network.specs.Tables.{Table, IsAtMostEveryPath}
use Rattle.network_laws.specs.History.{up_to}
use Rattle.network_laws.specs.Consistent.{IsInTime}
use Rattle.network_laws.proofs.Agree.{agree}
use Rattle.protocol.specs.Grant.{Rule, IsSafeRule}
use Rattle.protocol.specs.Machine.{Move, after_moves}
use Rattle.protocol_laws.specs.Runs.{IsQuiet}
use Rattle.network_laws.specs.Settled.{BeginsWith}
use Rattle.protocol_laws.specs.Rows.{rows_of_run, rows_up_to, HasEveryRow}
use Rattle.protocol_laws.specs.Histories.{histories_of, IsSettled}
use Rattle.protocol_laws.proofs.Safety.{moves_sound}
use Rattle.protocol_laws.proofs.Replay.{moves_replay}
use Rattle.protocol_laws.proofs.Prefixes.{begins_whole}
use Rattle.protocol_laws.proofs.EveryRow.{nothing_pending, every_row, just_these}
use Rattle.protocol_laws.proofs.TwoRuns.{same_rows, runs_begin}
use Rattle.protocol_laws.proofs.Consistency.{histories_are_consistent}

-- rules that grant what is safe alone
abbrev AreSafe : Network → Table → (ℕ → Rule) → Type 0
AreSafe n table rules = (move : ℕ) → IsSafeRule n table (rules move)

pub rows_begin : (n : Network) (table : Table) (rules : ℕ → Rule) → IsLawful n → IsAtMostEveryPath n table → AreSafe n table rules → (moves : List Move) (j : ℕ) → j < n.reactors → (turns : ℕ) → place n.stop * 64 + 64 ≤ turns → BeginsWith (part j (whole n turns)) (rows_of_run n rules moves j)
rows_begin n table rules lawful facts safe moves j there turns enough =
    begins_whole n lawful (after_moves n rules moves) (IsSettled n (after_moves n rules moves)) (histories_are_consistent n table rules lawful facts safe moves) j there
    (moves_replay n table rules moves lawful facts safe j) turns enough

pub rows_begin_some : (n : Network) (table : Table) (rules : ℕ → Rule) → IsLawful n → IsAtMostEveryPath n table → AreSafe n table rules → (moves : List Move) (j : ℕ) → j < n.reactors → (turns : ℕ) × BeginsWith (part j (whole n turns)) (rows_of_run n rules moves j)
rows_begin_some n table rules lawful facts safe moves j there =
    (place n.stop * 64 + 64, rows_begin n table rules lawful facts safe moves j there (place n.stop * 64 + 64) (omega arith))

-- two runs
module _ (n : Network) (table other_table : Table) (rules others : ℕ → Rule) (lawful : IsLawful n) (facts : IsAtMostEveryPath n table) (other_facts : IsAtMostEveryPath n other_table) (safe : AreSafe n table rules) (other_safe : AreSafe n other_table others) (moves other_moves : List Move) (j : ℕ) where
  pub histories_agree : (tag : LogicalTime) → IsInTime n j tag → IsSettled n (after_moves n rules moves) j tag → IsSettled n (after_moves n others other_moves) j tag → up_to tag (histories_of (after_moves n rules moves) j) ≡ up_to tag (histories_of (after_moves n others other_moves) j)
  histories_agree =
      agree n lawful (histories_of (after_moves n rules moves)) (histories_of (after_moves n others other_moves)) (IsSettled n (after_moves n rules moves)) (IsSettled n (after_moves n others other_moves))
      (histories_are_consistent n table rules lawful facts safe moves) (histories_are_consistent n other_table others lawful other_facts other_safe other_moves) j

  pub rows_agree : j < n.reactors → (tag : LogicalTime) → IsFinite tag → IsTrue (is_reached (after_moves n rules moves j).federate.completed tag) → IsTrue (is_reached (after_moves n others other_moves j).federate.completed tag) → rows_up_to tag (rows_of_run n rules moves j) ≡ rows_up_to tag (rows_of_run n others other_moves j)
  rows_agree there =
      same_rows n lawful (after_moves n rules moves) (after_moves n others other_moves) (IsSettled n (after_moves n rules moves)) (IsSettled n (after_moves n others other_moves))
      (histories_are_consistent n table rules lawful facts safe moves) (histories_are_consistent n other_table others lawful other_facts other_safe other_moves) j there
      (moves_replay n table rules moves lawful facts safe j) (moves_replay n other_table others other_moves lawful other_facts other_safe j)

  pub one_begins_other : j < n.reactors → BeginsWith (rows_of_run n rules moves j) (rows_of_run n others other_moves j) ⊎ BeginsWith (rows_of_run n others other_moves j) (rows_of_run n rules moves j)
  one_begins_other there =
      runs_begin n lawful (after_moves n rules moves) (after_moves n others other_moves) (IsSettled n (after_moves n rules moves)) (IsSettled n (after_moves n others other_moves))
      (histories_are_consistent n table rules lawful facts safe moves) (histories_are_consistent n other_table others lawful other_facts other_safe other_moves) j there
      (moves_replay n table rules moves lawful facts safe j) (moves_replay n other_table others other_moves lawful other_facts other_safe j)

-- where nothing is left to do
module _ (n : Network) (table : Table) (rules : ℕ → Rule) (lawful : IsLawful n) (facts : IsAtMostEveryPath n table) (safe : AreSafe n table rules) (moves : List Move) (quiet : (j : ℕ) → j < n.reactors → IsQuiet (after_moves n rules moves j)) (j : ℕ) (there : j < n.reactors) where
  settled_to_stop : IsSettled n (after_moves n rules moves) j n.stop
  settled_to_stop k s path pending w = absurd (nothing_pending n lawful (after_moves n rules moves) (moves_sound n table rules moves lawful facts safe).kept quiet k j s path there pending w)

  pub quiet_has_every_row : HasEveryRow n j (rows_of_run n rules moves j)
  quiet_has_every_row =
      every_row n lawful (after_moves n rules moves) (IsSettled n (after_moves n rules moves)) (histories_are_consistent n table rules lawful facts safe moves) j there
      (moves_replay n table rules moves lawful facts safe j) settled_to_stop

  pub quiet_has_just_these : (turns : ℕ) → place n.stop * 64 + 64 ≤ turns → rows_of_run n rules moves j ≡ part j (whole n turns)
  quiet_has_just_these =
      just_these n lawful (after_moves n rules moves) (IsSettled n (after_moves n rules moves)) (histories_are_consistent n table rules lawful facts safe moves) j there
      (moves_replay n table rules moves lawful facts safe j) settled_to_stop
