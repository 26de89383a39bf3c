-- What is odd about something: how it is printed.
use Rattle.std.specs.Prelude.{ℕ, List, codes}
use Rattle.fedrun_lint_findings.specs.declared.oddity.Why.{Why}
use Rattle.fedrun_lint_findings.specs.declared.oddity.Why.TheVariants.{Unconnected, Unread, WithoutBody, NeverFires, NeverRuns}
use Rattle.fedrun_lint_findings.specs.declared.oddity.Why.TheVariants.{Alike, NeverArrives, NeverComes, NeverScheduled, UnusedAction}
use Rattle.fedrun_lint_findings.specs.declared.oddity.Why.TheVariants.{UnusedTimer, UnusedState, TriggeredTwice}
use Rattle.fedrun_lint_findings.specs.declared.oddity.Why.TheVariants.{ReadsNoValue}

-- what it is
abbrev pub kind_of : Why → List ℕ
kind_of Unconnected = codes "input"
kind_of Unread = codes "output"
kind_of WithoutBody = codes "reaction"
kind_of NeverFires = codes "timer"
kind_of NeverRuns = codes "recorded input of"
kind_of Alike = codes "name"
kind_of NeverArrives = codes "connection to"
kind_of NeverComes = codes "line"
kind_of NeverScheduled = codes "action"
kind_of UnusedAction = codes "action"
kind_of UnusedTimer = codes "timer"
kind_of UnusedState = codes "state"
kind_of TriggeredTwice = codes "reaction"
kind_of ReadsNoValue = codes "line"

-- what is odd about it, and what to do
abbrev pub advice_of : Why → List ℕ
advice_of Unconnected =
    codes "no connection ends here, so it is never present; connect an output to it, or leave it out"
advice_of Unread = codes "no connection begins here, so its values are in rows alone; connect it, or leave it so"
advice_of WithoutBody = codes "it has no body, so it does nothing; write one, or leave it out"
advice_of NeverFires = codes "its offset is later than stop, so it never fires; change one of them"
advice_of NeverRuns = codes "it is later than stop, so it never runs; change one of them"
advice_of Alike = codes "it differs from another by case alone; rename one of them"
advice_of NeverArrives = codes "its delay is later than stop, so nothing arrives; change one of them"
advice_of NeverComes = codes "its delay is later than stop, so what it schedules never comes; change one of them"
advice_of NeverScheduled = codes "no line schedules it, so it is never present; schedule it, or leave it out"
advice_of UnusedAction = codes "no reaction is triggered by it and no line reads it; use it, or leave it out"
advice_of UnusedTimer = codes "no reaction is triggered by it and no line reads it; use it, or leave it out"
advice_of UnusedState = codes "no line reads it, so it changes nothing; read it, or leave it out"
advice_of TriggeredTwice = codes "one of its triggers stands there twice; leave one out"
advice_of ReadsNoValue = codes "in. of a timer and of startup is always 0; write has. of it, or leave it out"
