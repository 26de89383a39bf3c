-- How much can still be done, as a number that falls: by 1 at each move that does something, and by 1 more where it
-- takes a signal. Each weight is the sum that its comment gives. With one of them less by 1, save those of signals that
-- are never there, the move of that comment could leave as much as before, or take a signal for 1.
use Rattle.std.specs.Prelude.{ℕ, ◌+◌, ◌*◌, ◌-◌, if◌then◌else◌, List, [], ◌∷◌, length}
use Rattle.tag.specs.LogicalTime.{is_past}
use Rattle.network.specs.Network.{Network}
use Rattle.signal.specs.declared.signal.Signal.{Signal}
use Rattle.signal.specs.declared.signal.Signal.TheVariants.{Net, Ltc, Tag, Msg}
use Rattle.protocol.specs.Federate.{Federate, is_told, next_event}
use Rattle.protocol.specs.FederateRecord.{FederateRecord}
use Rattle.protocol.specs.Machine.{Member}
use Rattle.world_progress.specs.Fuel.{sum_below, rows_of_part, turn_worth}

-- a signal on its way up: 2 for the move that takes it, and what may come of it: of a NET a TAG that may go out (2), of
-- an LTC nothing, of a message the same message on its way down (7). A TAG is never there
abbrev pub worth_up : Signal → ℕ
worth_up (Net tag) = 4
worth_up (Ltc tag) = 2
worth_up (Tag tag) = 1
worth_up (Msg connection tag value) = 9

-- a signal on its way down: 2 for the move that takes it, and what may come of it: of a TAG nothing, of a message one
-- more announcement (5). A NET and an LTC are never there
abbrev pub worth_down : Signal → ℕ
worth_down (Net tag) = 1
worth_down (Ltc tag) = 1
worth_down (Tag tag) = 2
worth_down (Msg connection tag value) = 7

-- the signals of a queue together
abbrev pub all_worth : (Signal → ℕ) → List Signal → ℕ
all_worth worth [] = 0
all_worth worth (signal ∷ rest) = worth signal + all_worth worth rest

-- an announcement that is still to be made: 1 for that move, and its NET (4)
abbrev pub untold : Federate → ℕ
untold f = if is_told f.announced (next_event f) then 0 else 5

-- a TAG that may go out: the TAG on its way down (2); to send it is no move
abbrev pub ungranted : FederateRecord → ℕ
ungranted s = if is_past s.granted s.next then 2 else 0

-- what federate j can still do, where it is to have this many rows in the end
abbrev pub member_worth : Network → (j rows : ℕ) → Member → ℕ
member_worth n j rows m =
    turn_worth n j * (rows - length m.federate.rows) +
    (untold m.federate + (ungranted m.federate_record + (all_worth worth_up m.up + all_worth worth_down m.down)))

-- what all of them can still do
abbrev pub left_of : Network → (ℕ → Member) → ℕ
left_of n members = sum_below n.reactors (λ j. member_worth n j (rows_of_part n j) (members j))
