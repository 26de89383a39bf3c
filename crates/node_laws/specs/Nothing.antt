-- Steps of a station by which nothing happens.
use Rattle.std.specs.Prelude.{◌≡◌, ◌≢◌, []}
use Rattle.protocol.specs.Outcome.{Done}
use Rattle.node.specs.Core.{Core, Made}
use Rattle.node.specs.Step.{Station, Answer, Silent, Says, Declines, Stepped}

-- no frame goes out with an answer
abbrev pub SendsNothing : Answer → Type 0
SendsNothing Silent = Unit {0}
SendsNothing (Says frames) = frames ≡ []
SendsNothing (Declines number frames) = frames ≡ []

-- an answer that is no refusal
abbrev pub RefusesNothing : Answer → Type 0
RefusesNothing Silent = Unit {0}
RefusesNothing (Says frames) = Unit {0}
RefusesNothing (Declines number frames) = ⊥

-- by a step the station stays as it was, sends nothing and refuses nothing
pub record NothingHappens {View : Type 0} (s : Station View) (made : Stepped View) : Type 0 where
  pub stays : made.station ≡ s
  pub sends : SendsNothing made.answer
  pub refuses : RefusesNothing made.answer

-- what a node does by itself changes it, where it does anything
pub record ActsByChanging {View Row : Type 0} (core : Core View Row) : Type 0 where
  pub announce : (v : View) (made : Made View) → core.announce v ≡ Done made → made.after ≢ v
  pub advance : (v : View) (made : Made View) → core.advance v ≡ Done made → made.after ≢ v
