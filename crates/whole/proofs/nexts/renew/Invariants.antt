use Rattle.std.proofs.Common.{◌≡◌, ℕ, true, Some, length, take, slice_get}
use Rattle.std.specs.Option.{option_map}
use Rattle.reactor_agenda.specs.Agenda.{Agenda, IsAgenda}
use Rattle.whole.specs.Construction.{has_target}
use Rattle.whole.specs.Next.{renewed}
use Rattle.whole.specs.Targets.{all_shown}
use Rattle.whole.proofs.nexts.renew.Given as goal

abbrev pub invariant-loop-target : goal.invariant-loop-target
invariant-loop-target l =
    (length l.nexts ≡ length l.initial.nexts) ×
    ((federate : ℕ) → slice_get l.nexts federate
    ≡ option_map (renewed l.agendas (has_target federate (all_shown (take l.target-index l.targets))) federate) (slice_get l.initial.nexts federate)) ×
    ((federate : ℕ) (a : Agenda) → has_target federate (all_shown (take l.target-index l.targets)) ≡ true → slice_get l.agendas federate ≡ Some a → IsAgenda a)
