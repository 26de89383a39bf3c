-- A link end with all that it ever offered. What it answers is what its image answers.
use Rattle.std.specs.Prelude.{◌≡◌, ℕ, ◌≤◌, List, [], ◌∷◌, ◌++◌, length, drop}
use Rattle.signal.specs.declared.signal.Signal.{Signal}
use Rattle.signal.specs.declared.frame.Frame.{Frame}
use Rattle.link.specs.Image.{Image}
use Rattle.link.specs.Image as image

pub record End : Type 0 where
  -- what a caller sees
  pub image : Image
  -- all signals that were ever offered here, in order
  pub offered : List Signal

-- nothing is acknowledged that wasn't offered, and all signals after the acknowledged ones are kept
pub record IsLawful (e : End) : Type 0 where
  pub acknowledged : e.image.acknowledged ≤ length e.offered
  pub kept : e.image.kept ≡ drop e.image.acknowledged e.offered

-- an end of which nothing was asked yet
abbrev pub blank : (federate incarnation room : ℕ) → End
blank federate incarnation room = record { image = image.blank federate incarnation room; offered = [] }

-- the signal is offered after all others
abbrev pub after_offer : End → Signal → End
after_offer e signal = record { image = image.after_offer e.image signal; offered = e.offered ++ signal ∷ [] }

-- what a frame that isn't refused makes of the end
abbrev pub after_frame : End → Frame → End
after_frame e frame = record { image = image.after_frame e.image frame; offered = e.offered }

-- closed, and otherwise as it was
abbrev pub after_close : End → End
after_close e = record { image = image.after_close e.image; offered = e.offered }
