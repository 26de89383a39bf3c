-- What a replay printed stays printed where a writer keeps its bytes.
use Rattle.std.proofs.Common.{ℕ, List, Option, None, Some}
use Rattle.std.specs.Io.KnownBytes.{Keeps}
use Rattle.std.proofs.KnownBytes.{Appends-kept, Keeps-trans}
use Rattle.plan.specs.declared.draft.Draft.{Draft}
use Rattle.plan.specs.declared.input.Input.{Input}
use Rattle.reactor_program.specs.Behaviour.{Behaviour}
use Rattle.world.specs.World.{WorldView}
use Rattle.files_text.specs.declared.row_format.RowFormat.{RowFormat}
use Rattle.files_text.specs.declared.row_format.RowFormat.TheVariants.{Text, Csv}
use Rattle.files_script.specs.Scripts.{Script}
use Rattle.fedrun_replay.specs.Replayed.{IsEnded, IsReplayed, IsBrokenOff}
use Rattle.fedrun_replay.specs.AsCsv.{IsReplayedIn, IsBrokenOffIn}
use Rattle.fedrun_replay.specs.declared.fault.ReplayFault.{ReplayFault}
use Rattle.fedrun_replay.specs.declared.fault.ReplayFault.TheVariants.{World, CannotWrite}

ended_kept : (closing : Option ℕ) (w : WorldView) (before mid after : Option (List ℕ)) → IsEnded closing w before mid → Keeps mid after
    → IsEnded closing w before after
ended_kept None w before mid after ended kept = Appends-kept before mid after _ ended kept
ended_kept (Some most) w before mid after ended kept =
    record { is_stuck = ended.is_stuck; tells = ended.tells; printed = Appends-kept before mid after _ ended.printed kept }

-- all of a replay
replayed_kept :
    (d : Draft) (programs : List Behaviour) (inputs : List Input) (s : Script) (closing : Option ℕ) (before mid after : Option (List ℕ)) →
    IsReplayed d programs inputs s closing before mid → Keeps mid after → IsReplayed d programs inputs s closing before after
replayed_kept d programs inputs s closing before mid after replayed kept =
    record {
      last = replayed.last;
      played = replayed.played;
      plays = replayed.plays;
      ended = ended_kept closing replayed.last replayed.played mid after replayed.ended kept;
      faithful = replayed.faithful;
      enough = λ asks.
          let whole = replayed.enough asks in
          record { stuck = whole.stuck; printed = Appends-kept replayed.played mid after _ whole.printed kept };
    }

-- the refused steps of one that broke off
broken_off_kept :
    (d : Draft) (programs : List Behaviour) (inputs : List Input) (s : Script) (closing : Option ℕ) (why : ReplayFault) (before mid after : Option (List ℕ)) →
    IsBrokenOff d programs inputs s closing before mid why → Keeps mid after → IsBrokenOff d programs inputs s closing before after why
broken_off_kept d programs inputs s closing (World memory) before mid after broken kept =
    let some = broken.1 in
    let plays = some.plays.plays in (
      broken.0,
      record {
        rounds = some.rounds;
        may = some.may;
        plays = record {
          made = some.plays.made;
          unmade = some.plays.unmade;
          first = some.plays.first;
          plays = record { later_is = plays.later_is; printed = Appends-kept before mid after _ plays.printed kept };
        };
      },
    )
broken_off_kept d programs inputs s closing CannotWrite before mid after broken kept = tt

-- the same in either format
pub replayed_in_kept :
    (format : RowFormat) (d : Draft) (programs : List Behaviour) (inputs : List Input) (s : Script) (closing : Option ℕ) (before mid after : Option (List ℕ)) →
    IsReplayedIn format d programs inputs s closing before mid → Keeps mid after → IsReplayedIn format d programs inputs s closing before after
replayed_in_kept Text d programs inputs s closing before mid after replayed kept = replayed_kept d programs inputs s closing before mid after replayed kept
replayed_in_kept Csv d programs inputs s closing before mid after replayed kept =
    record {
      last = replayed.last;
      plays = replayed.plays;
      printed = Appends-kept before mid after _ replayed.printed kept;
      faithful = replayed.faithful;
      enough = λ asks.
          let whole = replayed.enough asks in
          record { stuck = whole.stuck; printed = Appends-kept before mid after _ whole.printed kept };
    }

pub broken_off_in_kept :
    (format : RowFormat) (d : Draft) (programs : List Behaviour) (inputs : List Input) (s : Script) (closing : Option ℕ) (why : ReplayFault) (before mid after : Option (List ℕ)) →
    IsBrokenOffIn format d programs inputs s closing before mid why → Keeps mid after → IsBrokenOffIn format d programs inputs s closing before after why
broken_off_in_kept Text d programs inputs s closing why before mid after broken kept = broken_off_kept d programs inputs s closing why before mid after broken kept
broken_off_in_kept Csv d programs inputs s closing (World memory) before mid after unprinted kept = Keeps-trans before mid after unprinted kept
broken_off_in_kept Csv d programs inputs s closing CannotWrite before mid after unprinted kept = tt
