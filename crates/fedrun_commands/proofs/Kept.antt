-- What was printed stays printed where a writer keeps its bytes.
use Rattle.std.proofs.Common.{ℕ, List, Option}
use Rattle.std.specs.Io.KnownBytes.{Keeps}
use Rattle.std.proofs.KnownBytes.{Appends-kept}
use Rattle.plan.specs.declared.draft.Draft.{Draft}
use Rattle.plan.specs.declared.input.Input.{Input}
use Rattle.reactor_program.specs.Behaviour.{Behaviour}
use Rattle.files_script.specs.Scripts.{Script}
use Rattle.fedrun_frames.specs.Shown.{ShowsSchedule, ShowsSomeOf}
use Rattle.fedrun_trace.specs.Traced.{TracesSchedule, TracesSomeOf}
use Rattle.fedrun_draw.specs.Drawn.{HasPicture}

-- all steps with their frames
pub shown_kept :
    (d : Draft) (programs : List Behaviour) (inputs : List Input) (s : Script) (closing : Option ℕ) (before mid after : Option (List ℕ)) →
    ShowsSchedule d programs inputs s closing before mid → Keeps mid after → ShowsSchedule d programs inputs s closing before after
shown_kept d programs inputs s closing before mid after shown kept =
    record { made = shown.made; are = shown.are; written = Appends-kept before mid after _ shown.written kept }

-- those of some first steps
pub some_shown_kept :
    (d : Draft) (programs : List Behaviour) (inputs : List Input) (s : Script) (closing : Option ℕ) (before mid after : Option (List ℕ)) →
    ShowsSomeOf d programs inputs s closing before mid → Keeps mid after → ShowsSomeOf d programs inputs s closing before after
some_shown_kept d programs inputs s closing before mid after shown kept =
    let some = shown.some in
    record {
      rounds = shown.rounds;
      may = shown.may;
      some = record { made = some.made; unmade = some.unmade; first = some.first; written = Appends-kept before mid after _ some.written kept };
    }

-- a trace
pub traced_kept :
    (d : Draft) (programs : List Behaviour) (inputs : List Input) (s : Script) (closing : Option ℕ) (before mid after : Option (List ℕ)) →
    TracesSchedule d programs inputs s closing before mid → Keeps mid after → TracesSchedule d programs inputs s closing before after
traced_kept d programs inputs s closing before mid after traced kept =
    record { made = traced.made; are = traced.are; written = Appends-kept before mid after _ traced.written kept }

-- a prefix of that of some first steps
pub some_traced_kept :
    (d : Draft) (programs : List Behaviour) (inputs : List Input) (s : Script) (closing : Option ℕ) (before mid after : Option (List ℕ)) →
    TracesSomeOf d programs inputs s closing before mid → Keeps mid after → TracesSomeOf d programs inputs s closing before after
some_traced_kept d programs inputs s closing before mid after traced kept =
    let some = traced.some in
    record {
      rounds = traced.rounds;
      may = traced.may;
      some = record { front = some.front; rest = some.rest; is = some.is; written = Appends-kept before mid after _ some.written kept };
    }

-- a picture
pub picture_kept : (before mid after : Option (List ℕ)) → HasPicture before mid → Keeps mid after → HasPicture before after
picture_kept before mid after drawn kept = record { picture = drawn.picture; written = Appends-kept before mid after _ drawn.written kept }
