-- Slips whose places are 0, 1, 2 .., and one more or less.
use Rattle.std.proofs.Common.{◌≡◌, ◌≢◌, ◌∙◌, sym, ap, subst, refl, ℕ, zero, suc, ◌+◌, ◌-◌, ◌<◌, ◌≤◌, Bool, true, false, nat_lt, List, [], ◌∷◌, ◌++◌, length, take, drop, slice_get, length-append, append-nil, append_assoc, Option, Some, None, IfSome, MatchOption, option_map, arith}
use Rattle.std.proofs.Math.Seq.{take-append_seam, drop-append_seam}
use Rattle.std.proofs.lemmas.List.{length-map, length_push, map-append, take-append-drop, take-map}
use Rattle.std.proofs.lemmas.Bool.Decides.{nat_tests}
use Rattle.std.proofs.lemmas.Option.{slice_get_past, slice_get_within, slice_get-map}
use Rattle.node.specs.declared.event.Event.{Event}
use Rattle.node_journal.specs.declared.slip.Slip.{Slip}
use Rattle.node_journal.specs.Numbered.{AreNumbered, events_of}
use Rattle.node_journal.specs.Slips.{slips_from}
use Rattle.node_journal.proofs.Places.{get_left, get_right}

pub as_many : (slips : List Slip) → length slips ≡ length (events_of slips)
as_many slips = sym (length-map slips (λ (s : Slip). s.event))

pub one_event : (slips more : List Slip) (slip : Slip) → more ≡ slips ++ slip ∷ [] → events_of more ≡ events_of slips ++ slip.event ∷ []
one_event slips more slip is = ap events_of is ∙ map-append (λ (s : Slip). s.event) slips (slip ∷ [])

numbered_by : (slips : List Slip) (slip : Slip) (k : ℕ) (b : Bool) (other : Slip) → nat_lt k (length slips) ≡ b → AreNumbered slips → slip.place ≡ length slips →
    slice_get (slips ++ slip ∷ []) k ≡ Some other → other.place ≡ k
numbered_by slips slip k true other test numbered at is =
    let less : k < length slips = grind (arith, nat_tests) in
    numbered k other (sym (get_left slips (slip ∷ []) k less) ∙ is)
numbered_by slips slip k false other test numbered at is =
    let beyond : length slips ≤ k = grind (arith, nat_tests) in
    let within = slice_get_within (slips ++ slip ∷ []) k other is in
    let long = length_push slips slip in
    let here : k ≡ length slips = omega arith in
    let same : Some slip ≡ Some other = sym (get_right slips (slip ∷ []) 0 k (omega arith)) ∙ is in
    let one : slip ≡ other = grind (arith, same) in
    sym (ap (λ (s : Slip). s.place) one) ∙ at ∙ sym here

pub one_number : (slips more : List Slip) (slip : Slip) → more ≡ slips ++ slip ∷ [] → slip.place ≡ length slips → AreNumbered slips → AreNumbered more
one_number slips more slip is at numbered =
    subst AreNumbered (sym is) (λ k other there. numbered_by slips slip k (nat_lt k (length slips)) other refl numbered at there)

fewer_numbers : (slips less : List Slip) (slip : Slip) → slips ≡ less ++ slip ∷ [] → AreNumbered slips → AreNumbered less
fewer_numbers slips less slip is numbered k other there =
    let within = slice_get_within less k other there in
    numbered k other (ap (λ (l : List Slip). slice_get l k) is ∙ get_left less (slip ∷ []) k within ∙ there)

pub fewer_or_same : (slips less : List Slip) (popped : Option Slip) → MatchOption popped (slips ≡ []) (λ slip. slips ≡ less ++ slip ∷ []) →
    (popped ≡ None → less ≡ slips) → AreNumbered slips → AreNumbered less
fewer_or_same slips less None none same numbered = subst AreNumbered (sym (same refl)) numbered
fewer_or_same slips less (Some slip) is same numbered = fewer_numbers slips less slip is numbered

event_there : (slips : List Slip) (k place : ℕ) (event : Event) → AreNumbered slips → slice_get slips k ≡ Some (record { place = place; event = event }) →
    slice_get (events_of slips) place ≡ Some event
event_there slips k place event numbered is =
    let same : place ≡ k = numbered k (record { place = place; event = event }) is in
    ap (slice_get (events_of slips)) same ∙ slice_get-map (λ (s : Slip). s.event) slips k ∙ ap (option_map (λ (s : Slip). s.event)) is

no_event : (slips : List Slip) (place : ℕ) (found : Option Slip) → slice_get slips place ≡ found → AreNumbered slips →
    ((k : ℕ) (slip : Slip) → slice_get slips k ≡ Some slip → slip.place ≢ place) → slice_get (events_of slips) place ≡ None
no_event slips place None is numbered none = slice_get-map (λ (s : Slip). s.event) slips place ∙ ap (option_map (λ (s : Slip). s.event)) is
no_event slips place (Some slip) is numbered none = absurd (none place slip is (numbered place slip is))

-- what is found of a place is the event there
pub event_is : (slips : List Slip) (place : ℕ) (found : Option Event) → AreNumbered slips →
    IfSome found (λ event. (k : ℕ) × (slice_get slips k ≡ Some (record { place = place; event = event }))) →
    (found ≡ None → (k : ℕ) (slip : Slip) → slice_get slips k ≡ Some slip → slip.place ≢ place) → found ≡ slice_get (events_of slips) place
event_is slips place (Some event) numbered found none = sym (event_there slips found.0 place event numbered found.1)
event_is slips place None numbered found none = sym (no_event slips place (slice_get slips place) refl numbered (none refl))

-- past the last place there is none
pub none_beyond : (slips : List Slip) (place : ℕ) → length slips ≤ place → None ≡ slice_get (events_of slips) place
none_beyond slips place beyond =
    let many = as_many slips in
    sym (slice_get_past (events_of slips) place (omega arith))

-- no slip, no event
pub no_events : (slips : List Slip) → slips ≡ [] → events_of slips ≡ []
no_events slips none = ap events_of none

-- the last event is the last slip's
pub last_event : (slips front : List Slip) (slip : Slip) → slips ≡ front ++ slip ∷ [] → (rest : List Event) × (events_of slips ≡ rest ++ slip.event ∷ [])
last_event slips front slip is = (events_of front, one_event front slips slip is)

-- the first items, and those behind them
none_taken : {X : Type 0} (n : ℕ) → ◌≡◌ {A = List X} (take n []) []
none_taken zero = refl
none_taken (suc n) = refl

take_both : {X : Type 0} (xs : List X) (m n k : ℕ) → k ≡ m + n → take k xs ≡ take m xs ++ take n (drop m xs)
take_both xs zero n k is = let same : k ≡ n = omega arith in ap (λ (i : ℕ). take i xs) same
take_both [] (suc m) n k is = none_taken k ∙ sym (none_taken n)
take_both (x ∷ xs) (suc m) n zero is = absurd (omega arith)
take_both (x ∷ xs) (suc m) n (suc k) is = ap (λ l. x ∷ l) (take_both xs m n k (omega arith))

-- the events of slips that follow one another
events_from : (place : ℕ) (events : List Event) → events_of (slips_from place events) ≡ events
events_from place [] = refl
events_from place (event ∷ events) = ap (λ rest. event ∷ rest) (events_from (suc place) events)

first_place : (slips front back : List Slip) (place : ℕ) (events : List Event) → AreNumbered slips → slips ≡ front ++ (slips_from place events ++ back) → 0 < length events → place ≡ length front
first_place slips front back place [] numbered is some = absurd (omega arith)
first_place slips front back place (event ∷ events) numbered is some =
    numbered (length front) (record { place = place; event = event })
    (ap (λ (l : List Slip). slice_get l (length front)) is ∙ get_right front (slips_from place (event ∷ events) ++ back) 0 (length front) (omega arith))

module _ (slips front back : List Slip) (place : ℕ) (events : List Event) (numbered : AreNumbered slips) (is : slips ≡ front ++ (slips_from place events ++ back)) (some : 0 < length events) where
  all_events : events_of slips ≡ events_of front ++ (events ++ events_of back)
  all_events =
      ap events_of is ∙ map-append (λ (s : Slip). s.event) front (slips_from place events ++ back)
      ∙ ap (λ l. events_of front ++ l) (map-append (λ (s : Slip). s.event) (slips_from place events) back ∙ ap (λ l. l ++ events_of back) (events_from place events))

  before : length (events_of front) ≡ place
  before = sym (as_many front) ∙ sym (first_place slips front back place events numbered is some)

  -- there are as many as a block has, from its place on
  pub block_within : place + length events ≤ length (events_of slips)
  block_within =
      let whole : length (events_of slips) ≡ length (events_of front ++ (events ++ events_of back)) = ap length all_events in
      let one = length-append (events_of front) (events ++ events_of back) in
      let two = length-append events (events_of back) in
      let first = before in
      omega arith

  -- and they are the block's
  pub block_get : (k : ℕ) → place ≤ k → k < place + length events → slice_get (events_of slips) k ≡ slice_get events (k - place)
  block_get k begun less =
      let first = before in
      ap (λ (l : List Event). slice_get l k) all_events
      ∙ get_right (events_of front) (events ++ events_of back) (k - place) k (omega arith)
      ∙ get_left events (events_of back) (k - place) (omega arith)

  pub block_taken : take (length events) (drop place (events_of slips)) ≡ events
  block_taken =
      ap (λ (l : List Event). take (length events) (drop place l)) all_events
      ∙ ap (λ (n : ℕ). take (length events) (drop n (events_of front ++ (events ++ events_of back)))) (sym before)
      ∙ ap (take (length events)) (drop-append_seam (events_of front) (events ++ events_of back))
      ∙ take-append_seam events (events_of back)

  -- the events before a block's end are those before its place, and its own
  pub block_ends : (end : ℕ) → place + length events ≡ end → take end (events_of slips) ≡ take place (events_of slips) ++ events
  block_ends end is = take_both (events_of slips) place (length events) end (sym is) ∙ ap (λ l. take place (events_of slips) ++ l) block_taken

-- two journals with the same block at a place are the same there
pub same_block : (slips front back others front' back' : List Slip) (place : ℕ) (events events' : List Event) → AreNumbered slips → slips ≡ front ++ (slips_from place events ++ back) →
    0 < length events → AreNumbered others → others ≡ front' ++ (slips_from place events' ++ back') → events ≡ events' →
    (k : ℕ) → place ≤ k → k < place + length events → slice_get (events_of slips) k ≡ slice_get (events_of others) k
same_block slips front back others front' back' place events events' numbered is some numbered' is' same k begun less =
    let long : length events ≡ length events' = ap length same in
    block_get slips front back place events numbered is some k begun less ∙ ap (λ (l : List Event). slice_get l (k - place)) same
    ∙ sym (block_get others front' back' place events' numbered' is' (omega arith) k begun (omega arith))

-- slips with more that follow one another are numbered
pub more_numbers : (slips more : List Slip) (place : ℕ) (events : List Event) → place ≡ length slips → AreNumbered slips → more ≡ slips ++ slips_from place events → AreNumbered more
more_numbers slips more place [] at numbered is = subst AreNumbered (sym (is ∙ append-nil slips)) numbered
more_numbers slips more place (event ∷ events) at numbered is =
    let long = length_push slips (record { place = place; event = event }) in
    more_numbers (slips ++ record { place = place; event = event } ∷ []) more (suc place) events (omega arith)
    (one_number slips (slips ++ record { place = place; event = event } ∷ []) (record { place = place; event = event }) refl at numbered)
    (is ∙ sym (append_assoc slips (record { place = place; event = event } ∷ []) (slips_from (suc place) events)))

pub more_events : (slips more : List Slip) (place : ℕ) (events : List Event) → more ≡ slips ++ slips_from place events → events_of more ≡ events_of slips ++ events
more_events slips more place events is =
    ap events_of is ∙ map-append (λ (s : Slip). s.event) slips (slips_from place events) ∙ ap (λ l. events_of slips ++ l) (events_from place events)

-- the first ones are numbered
pub first_numbers : (slips first : List Slip) (count : ℕ) → first ≡ take count slips → AreNumbered slips → AreNumbered first
first_numbers slips first count is numbered k other there =
    let within = slice_get_within first k other there in
    let whole : first ++ drop count slips ≡ slips = ap (λ (l : List Slip). l ++ drop count slips) is ∙ take-append-drop count slips in
    numbered k other (ap (λ (l : List Slip). slice_get l k) (sym whole) ∙ get_left first (drop count slips) k within ∙ there)

pub first_events : (slips first : List Slip) (count : ℕ) → first ≡ take count slips → events_of first ≡ take count (events_of slips)
first_events slips first count is = ap events_of is ∙ sym (take-map (λ (s : Slip). s.event) count slips)
