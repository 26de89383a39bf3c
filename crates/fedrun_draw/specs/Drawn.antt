-- Which schedules are drawn: those of few steps and frames; and which steps are drawn of one. Of how a picture looks
-- nothing is said.
use Rattle.std.specs.Prelude.{◌≡◌, ℕ, ◌<◌, ◌≤◌, List, length, map, Option}
use Rattle.std.specs.Io.KnownBytes.{Appends}
use Rattle.plan.specs.declared.draft.Draft.{Draft}
use Rattle.plan.specs.declared.input.Input.{Input}
use Rattle.reactor_program.specs.Behaviour.{Behaviour}
use Rattle.files_script.specs.Scripts.{Script}
use Rattle.fedrun_replay.specs.Play.{Made}
use Rattle.fedrun_frames.specs.Shown.{AreStepsOf}
use Rattle.fedrun_draw.specs.declared.excerpt.Excerpt.{Excerpt}
use Rattle.fedrun_draw.specs.Excerpts.{steps_in}
use Rattle.files_pictures.specs.declared.history.Moment.{Moment}
use Rattle.files_pictures.specs.declared.shapes.Picture.{Picture}
use Rattle.files_pictures.specs.Svg.{picture_text}
use Rattle.fedrun_draw.specs.declared.fault.TheConstants.{MOST_STEPS, MOST_FRAMES}
use Rattle.fedrun_draw.specs.declared.fault.DrawFault.{DrawFault}
use Rattle.fedrun_draw.specs.declared.fault.DrawFault.TheVariants.{TooManySteps, TooManyFrames, Memory, CannotWrite}

-- a writer's bytes grew by some picture, as SVG
pub record HasPicture (before after : Option (List ℕ)) : Type 0 where
  pub picture : Picture
  pub written : Appends before after (picture_text picture)

-- the lines of a schedule that steps were made for, one after the other
abbrev pub made_lines : List Made → List ℕ
made_lines made = map (λ m. m.line) made

-- those that stand beside steps that are drawn
abbrev pub moment_lines : List Moment → List ℕ
moment_lines moments = map (λ m. m.line) moments

-- these are the lines of an excerpt of the steps of a schedule and of its closing rounds, as `replay` makes them, in
-- their order
pub record AreLinesOf (d : Draft) (programs : List Behaviour) (inputs : List Input) (s : Script) (closing : Option ℕ)
    (excerpt : Excerpt) (lines : List ℕ) : Type 0 where
  pub made : List Made
  pub are : AreStepsOf d programs inputs s closing made
  pub lines_are : lines ≡ made_lines (steps_in excerpt made)

-- of the steps of a schedule and of its closing rounds so many are in an excerpt
pub record HasSteps (d : Draft) (programs : List Behaviour) (inputs : List Input) (s : Script) (closing : Option ℕ)
    (excerpt : Excerpt) (count : ℕ) : Type 0 where
  pub made : List Made
  pub are : AreStepsOf d programs inputs s closing made
  pub many : length (steps_in excerpt made) ≡ count

-- so many steps are no more than are drawn
abbrev pub IsWithin : (steps : ℕ) → Type 0
IsWithin steps = steps ≤ MOST_STEPS

-- an excerpt of a schedule has this many steps, and no more than are drawn
pub record HasFewSteps (d : Draft) (programs : List Behaviour) (inputs : List Input) (s : Script) (closing : Option ℕ)
    (excerpt : Excerpt) (count : ℕ) : Type 0 where
  pub steps : HasSteps d programs inputs s closing excerpt count
  pub few : IsWithin count

-- it has no more than that
pub record IsShort (d : Draft) (programs : List Behaviour) (inputs : List Input) (s : Script) (closing : Option ℕ)
    (excerpt : Excerpt) : Type 0 where
  pub count : ℕ
  pub has : HasFewSteps d programs inputs s closing excerpt count

-- there was no memory, or the output refused a write
abbrev pub IsInterrupted : DrawFault → Type 0
IsInterrupted (TooManySteps count) = ⊥
IsInterrupted (TooManyFrames count) = ⊥
IsInterrupted Memory = Unit {0}
IsInterrupted CannotWrite = Unit {0}

-- why so many steps aren't drawn: they are too many; or this many frames are sent by them, and these are; or there was
-- no memory
abbrev pub IsUndrawn : (steps : ℕ) → DrawFault → Type 0
IsUndrawn steps (TooManySteps count) = (steps ≡ count) × (MOST_STEPS < count)
IsUndrawn steps (TooManyFrames count) = IsWithin steps × (MOST_FRAMES < count)
IsUndrawn steps Memory = Unit {0}
IsUndrawn steps CannotWrite = ⊥

-- why an excerpt of a schedule isn't drawn: it has just this many steps, and they are too many; or this many frames are
-- sent or come in it; or there was no memory, or the output refused a write
abbrev pub IsFaultOf : Draft → List Behaviour → List Input → Script → Option ℕ → Excerpt → DrawFault → Type 0
IsFaultOf d programs inputs s closing excerpt (TooManySteps count) =
    HasSteps d programs inputs s closing excerpt count × (MOST_STEPS < count)
IsFaultOf d programs inputs s closing excerpt (TooManyFrames count) =
    IsShort d programs inputs s closing excerpt × (MOST_FRAMES < count)
IsFaultOf d programs inputs s closing excerpt Memory = Unit {0}
IsFaultOf d programs inputs s closing excerpt CannotWrite = Unit {0}
