-- The slips of blocks, and one slip more or less.
use Rattle.std.proofs.Common.{◌≡◌, ◌≢◌, ◌∙◌, sym, ap, ap₂, subst, refl, ℕ, zero, suc, ◌+◌, ◌-◌, ◌<◌, ◌≤◌, ◌^◌, Bool, true, false, nat_lt, nat_le, List, [], ◌∷◌, ◌++◌, length, take, set, get_or, slice_get, Option, Some, None, length-append, append_assoc, append-nil, arith}
use Rattle.std.proofs.lemmas.List.{length_push}
use Rattle.std.proofs.Math.Seq.{take-length}
use Rattle.std.proofs.lemmas.List.Elements.{All-nil, All-cons, All-head, All-tail, All-push}
use Rattle.std.proofs.lemmas.Grind.{flat_map-append}
use Rattle.std.proofs.lemmas.Bool.Decides.{nat_tests}
use Rattle.std.proofs.lemmas.Option.{slice_get_past, slice_get_within, slice_get-get_or}
use Rattle.node.specs.declared.event.Event.{Event}
use Rattle.node_journal.specs.declared.placed_block.PlacedBlock.{PlacedBlock}
use Rattle.node_journal.specs.declared.slip.Slip.{Slip}
use Rattle.node_journal.specs.Slips.{slips_from, slips_at, slips_of, IsFilled, AreFilled, event_of, event_if, event_in}
use Rattle.node_journal.specs.Turns.{turn_events}
use Rattle.node_journal.proofs.BlockEvents.{turns_length}
use Rattle.node_journal.proofs.Places.{get_left, get_right, take_next}

-- an event with its place
abbrev slip_with : ℕ → Event → Slip
slip_with place event = record { place = place; event = event }

-- one event more in a block
one_more_slip : (place : ℕ) (events : List Event) (event : Event) (next : ℕ) → next ≡ place + length events →
    slips_from place (events ++ event ∷ []) ≡ slips_from place events ++ record { place = next; event = event } ∷ []
one_more_slip place [] event next is =
    let same : place ≡ next = omega arith in
    ap (λ (p : ℕ). slip_with p event ∷ []) same
one_more_slip place (e ∷ events) event next is =
    ap (λ slips. slip_with place e ∷ slips) (one_more_slip (suc place) events event next (omega arith))

pub one_more : (place : ℕ) (events more : List Event) (event : Event) (next : ℕ) → more ≡ events ++ event ∷ [] → next ≡ place + length events →
    slips_from place more ≡ slips_from place events ++ record { place = next; event = event } ∷ []
one_more place events more event next longer is = ap (slips_from place) longer ∙ one_more_slip place events event next is

pub filled_more : (place : ℕ) (events more : List Event) (event : Event) (next : ℕ) → more ≡ events ++ event ∷ [] → next ≡ place + length events →
    next < 2 ^ 64 → IsFilled (record { place = place; block = more })
filled_more place events more event next longer is small =
    let long : length more ≡ length events + 1 = ap length longer ∙ length_push events event in
    record { some = omega arith; counted = omega arith }

-- more events in a block
joined_slips : (place : ℕ) (events more : List Event) (next : ℕ) → next ≡ place + length events → slips_from place (events ++ more) ≡ slips_from place events ++ slips_from next more
joined_slips place [] more next is =
    let same : place ≡ next = omega arith in
    ap (λ (p : ℕ). slips_from p more) same
joined_slips place (e ∷ events) more next is = ap (λ slips. slip_with place e ∷ slips) (joined_slips (suc place) events more next (omega arith))

pub more_slips : (place : ℕ) (events more new : List Event) (next : ℕ) → new ≡ events ++ more → next ≡ place + length events →
    slips_from place new ≡ slips_from place events ++ slips_from next more
more_slips place events more new next longer is = ap (slips_from place) longer ∙ joined_slips place events more next is

pub filled_by : (place : ℕ) (events more new : List Event) (next : ℕ) → new ≡ events ++ more → next ≡ place + length events → 0 < length more →
    next + length more < 2 ^ 64 → IsFilled (record { place = place; block = new })
filled_by place events more new next longer is some small =
    let long : length new ≡ length events + length more = ap length longer ∙ length-append events more in
    record { some = omega arith; counted = omega arith }

no_items : (slips : List Slip) → length slips ≡ 0 → slips ≡ []
no_items [] none = refl
no_items (slip ∷ slips) none = absurd (omega arith)

-- this many slips as events
pub slips_length : (place : ℕ) (events : List Event) → length (slips_from place events) ≡ length events
slips_length place [] = refl
slips_length place (event ∷ events) = ap suc (slips_length (suc place) events)

-- one block more
pub one_block : (blocks : List PlacedBlock) (placed : PlacedBlock) → slips_of (blocks ++ placed ∷ []) ≡ slips_of blocks ++ slips_at placed
one_block blocks placed = flat_map-append slips_at blocks (placed ∷ []) ∙ ap (λ slips. slips_of blocks ++ slips) (append-nil (slips_at placed))

-- the last block, with one slip more
pub extended_last : (blocks : List PlacedBlock) (k : ℕ) (d new : PlacedBlock) (slip : Slip) → suc k ≡ length blocks →
    slips_at new ≡ slips_at (get_or blocks k d) ++ slip ∷ [] → slips_of (set blocks k new) ≡ slips_of blocks ++ slip ∷ []
extended_last [] k d new slip last is = absurd (omega arith)
extended_last (placed ∷ []) zero d new slip last is =
    append-nil (slips_at new) ∙ is ∙ ap (λ slips. slips ++ slip ∷ []) (sym (append-nil (slips_at placed)))
extended_last (placed ∷ other ∷ blocks) zero d new slip last is = absurd (omega arith)
extended_last (placed ∷ blocks) (suc k) d new slip last is =
    ap (λ slips. slips_at placed ++ slips) (extended_last blocks k d new slip (omega arith) is)
    ∙ sym (append_assoc (slips_at placed) (slips_of blocks) (slip ∷ []))

-- the same with several more
pub extended_by : (blocks : List PlacedBlock) (k : ℕ) (d new : PlacedBlock) (more : List Slip) → suc k ≡ length blocks →
    slips_at new ≡ slips_at (get_or blocks k d) ++ more → slips_of (set blocks k new) ≡ slips_of blocks ++ more
extended_by [] k d new more last is = absurd (omega arith)
extended_by (placed ∷ []) zero d new more last is = append-nil (slips_at new) ∙ is ∙ ap (λ slips. slips ++ more) (sym (append-nil (slips_at placed)))
extended_by (placed ∷ other ∷ blocks) zero d new more last is = absurd (omega arith)
extended_by (placed ∷ blocks) (suc k) d new more last is =
    ap (λ slips. slips_at placed ++ slips) (extended_by blocks k d new more (omega arith) is) ∙ sym (append_assoc (slips_at placed) (slips_of blocks) more)

pub filled_last : (blocks : List PlacedBlock) (k : ℕ) (new : PlacedBlock) → IsFilled new → AreFilled blocks → AreFilled (set blocks k new)
filled_last [] k new filled all = all
filled_last (placed ∷ blocks) zero new filled all = All-cons IsFilled new blocks filled (All-tail IsFilled placed blocks all)
filled_last (placed ∷ blocks) (suc k) new filled all =
    All-cons IsFilled placed (set blocks k new) (All-head IsFilled placed blocks all) (filled_last blocks k new filled (All-tail IsFilled placed blocks all))

-- the last slip of a block
pub last_slip : (place : ℕ) (events front : List Event) (event : Event) (next : ℕ) → events ≡ front ++ event ∷ [] → next + 1 ≡ place + length events →
    (slips : List Slip) × (slips_from place events ≡ slips ++ record { place = next; event = event } ∷ [])
last_slip place events front event next is at =
    let long : length events ≡ length front + 1 = ap length is ∙ length_push front event in
    (slips_from place front, one_more place front events event next is (omega arith))

-- one event less in a block
pub slip_less : (place : ℕ) (events less : List Event) (event : Event) (next : ℕ) → events ≡ less ++ event ∷ [] → next ≡ place + length less →
    slips_from place events ≡ slips_from place less ++ record { place = next; event = event } ∷ []
slip_less place events less event next is at = one_more place less events event next is at

pub filled_less : (place : ℕ) (events less : List Event) (event : Event) → events ≡ less ++ event ∷ [] → IsFilled (record { place = place; block = events }) →
    0 < length less → IsFilled (record { place = place; block = less })
filled_less place events less event is filled some =
    let counted = filled.counted in
    let long : length events ≡ length less + 1 = ap length is ∙ length_push less event in
    record { some = some; counted = omega arith }

-- how many slips there are, with one less
pub count_less : (slips less : List Slip) (slip : Slip) (count : ℕ) → slips ≡ less ++ slip ∷ [] → count ≡ length slips → (0 < count) × (count - 1 ≡ length less)
count_less slips less slip count is counted =
    let long : length slips ≡ length less + 1 = ap length is ∙ length_push less slip in
    (omega arith, omega arith)

-- the same with those of a block less
pub count_without : (slips less : List Slip) (place : ℕ) (events : List Event) (count : ℕ) → slips ≡ less ++ slips_from place events → count ≡ length slips →
    (length events ≤ count) × (count - length events ≡ length less)
count_without slips less place events count is counted =
    let long : length slips ≡ length less + length (slips_from place events) = ap length is ∙ length-append less (slips_from place events) in
    let many = slips_length place events in
    (omega arith, omega arith)

-- how many slips there are, with those of turns
pub count_turns : (slips more : List Slip) (place turns count : ℕ) → more ≡ slips ++ slips_from place (turn_events turns) → count ≡ length slips → count + turns ≡ length more
count_turns slips more place turns count is counted =
    let long : length more ≡ length slips + length (slips_from place (turn_events turns)) = ap length is ∙ length-append slips (slips_from place (turn_events turns)) in
    let many = slips_length place (turn_events turns) in
    let as_many = turns_length turns in
    omega arith

-- where there is no block, there is no slip
pub no_slip : (blocks : List PlacedBlock) → length blocks ≡ 0 → slips_of blocks ≡ []
no_slip [] none = refl
no_slip (placed ∷ blocks) none = absurd (omega arith)

pub no_block : (blocks front : List PlacedBlock) → blocks ≡ front ++ [] → length front ≡ 0 → slips_of blocks ≡ []
no_block blocks front is none = ap slips_of (is ∙ append-nil front) ∙ no_slip front none

all_front : (front rest : List PlacedBlock) → AreFilled (front ++ rest) → AreFilled front
all_front [] rest all = All-nil IsFilled
all_front (placed ∷ front) rest all =
    All-cons IsFilled placed front (All-head IsFilled placed (front ++ rest) all) (all_front front rest (All-tail IsFilled placed (front ++ rest) all))

all_back : (front rest : List PlacedBlock) → AreFilled (front ++ rest) → AreFilled rest
all_back [] rest all = all
all_back (placed ∷ front) rest all = all_back front rest (All-tail IsFilled placed (front ++ rest) all)

-- the last block has events, and so have all others
pub filled_end : (blocks front : List PlacedBlock) (placed : PlacedBlock) → blocks ≡ front ++ placed ∷ [] → AreFilled blocks → IsFilled placed
filled_end blocks front placed is filled = All-head IsFilled placed [] (all_back front (placed ∷ []) (subst AreFilled is filled))

pub filled_front : (blocks front : List PlacedBlock) (placed : PlacedBlock) → blocks ≡ front ++ placed ∷ [] → AreFilled blocks → AreFilled front
filled_front blocks front placed is filled = all_front front (placed ∷ []) (subst AreFilled is filled)

pub filled_push : (blocks front : List PlacedBlock) (placed less : PlacedBlock) → blocks ≡ front ++ placed ∷ [] → AreFilled blocks → IsFilled less → AreFilled (front ++ less ∷ [])
filled_push blocks front placed less is filled one = All-push IsFilled front less (filled_front blocks front placed is filled) one

-- the last block, with one slip less
pub popped_some : (blocks front : List PlacedBlock) (placed less : PlacedBlock) (slip : Slip) → blocks ≡ front ++ placed ∷ [] → slips_at placed ≡ slips_at less ++ slip ∷ [] →
    slips_of blocks ≡ slips_of (front ++ less ∷ []) ++ slip ∷ []
popped_some blocks front placed less slip there is =
    ap slips_of there ∙ one_block front placed ∙ ap (λ s. slips_of front ++ s) is
    ∙ sym (append_assoc (slips_of front) (slips_at less) (slip ∷ [])) ∙ ap (λ s. s ++ slip ∷ []) (sym (one_block front less))

pub popped_last : (blocks front : List PlacedBlock) (placed less : PlacedBlock) (slip : Slip) → blocks ≡ front ++ placed ∷ [] → slips_at placed ≡ slips_at less ++ slip ∷ [] →
    length less.block ≡ 0 → slips_of blocks ≡ slips_of front ++ slip ∷ []
popped_last blocks front placed less slip there is none =
    let long = slips_length less.place less.block in
    let empty : slips_at less ≡ [] = no_items (slips_at less) (omega arith) in
    ap slips_of there ∙ one_block front placed ∙ ap (λ s. slips_of front ++ s) (is ∙ ap (λ s. s ++ slip ∷ []) empty)

-- without the last block
pub popped_block : (blocks front : List PlacedBlock) (placed : PlacedBlock) (place : ℕ) (events : List Event) → blocks ≡ front ++ placed ∷ [] → placed.place ≡ place → placed.block ≡ events →
    slips_of blocks ≡ slips_of front ++ slips_from place events
popped_block blocks front placed place events there at is =
    ap slips_of there ∙ one_block front placed ∙ ap₂ (λ (p : ℕ) (l : List Event). slips_of front ++ slips_from p l) at is

-- the last slip of the last block is the last of all
pub last_in : (blocks : List PlacedBlock) (position : ℕ) (placed : PlacedBlock) (slips : List Slip) (slip : Slip) → position + 1 ≡ length blocks → placed ≡ get_or blocks position placed →
    slips_at placed ≡ slips ++ slip ∷ [] → (before : List Slip) × (slips_of blocks ≡ before ++ slip ∷ [])
last_in blocks position placed slips slip end is last =
    let found : slice_get blocks position ≡ Some placed = slice_get-get_or blocks position placed (omega arith) ∙ ap Some (sym is) in
    let whole : length blocks ≡ suc position = omega arith in
    let split : blocks ≡ take position blocks ++ placed ∷ [] = sym (take-length blocks) ∙ ap (λ n. take n blocks) whole ∙ take_next blocks position placed found in (
      slips_of (take position blocks) ++ slips,
      ap slips_of split ∙ one_block (take position blocks) placed ∙ ap (λ s. slips_of (take position blocks) ++ s) last
          ∙ sym (append_assoc (slips_of (take position blocks)) slips (slip ∷ [])),
    )

-- what a block has at a place
event_of_is : (placed : PlacedBlock) (place : ℕ) (b : Bool) (event : Event) → nat_le placed.place place ≡ b → event_of placed place ≡ Some event →
    (placed.place ≤ place) × (slice_get placed.block (place - placed.place) ≡ Some event)
event_of_is placed place true event test is =
    let there : slice_get placed.block (place - placed.place) ≡ Some event = rw test at is in
    (grind (arith, nat_tests), there)
event_of_is placed place false event test is =
    let bad : None ≡ Some event = rw test at is in
    absurd (grind (arith, bad))

event_of_from : (placed : PlacedBlock) (place offset : ℕ) (event : Event) → place ≡ placed.place + offset → slice_get placed.block offset ≡ Some event →
    event_of placed place ≡ Some event
event_of_from placed place offset event at is =
    let test : nat_le placed.place place ≡ true = grind (arith, nat_tests) in
    let same : place - placed.place ≡ offset = omega arith in
    rw (test, same) is

get_slip : (place : ℕ) (events : List Event) (i next : ℕ) (event : Event) → slice_get events i ≡ Some event → next ≡ place + i →
    slice_get (slips_from place events) i ≡ Some (record { place = next; event = event })
get_slip place [] i next event is at = let bad : ⊥ = grind arith in absurd bad
get_slip place (e ∷ events) zero next event is at =
    let same : e ≡ event = grind arith in
    let first : place ≡ next = omega arith in
    ap₂ (λ (p : ℕ) (x : Event). Some (slip_with p x)) first same
get_slip place (e ∷ events) (suc i) next event is at = get_slip (suc place) events i next event is (omega arith)

-- a slip of a block
slip_is : (place : ℕ) (events : List Event) (i : ℕ) (slip : Slip) → slice_get (slips_from place events) i ≡ Some slip →
    (slip.place ≡ place + i) × (slice_get events i ≡ Some slip.event)
slip_is place [] i slip is = let bad : ⊥ = grind arith in absurd bad
slip_is place (e ∷ events) zero slip is =
    let same : slip_with place e ≡ slip = grind arith in
    let first : place ≡ place + 0 = omega arith in
    (sym (ap (λ (s : Slip). s.place) same) ∙ first, ap (λ (s : Slip). Some s.event) same)
slip_is place (e ∷ events) (suc i) slip is =
    let rest = slip_is (suc place) events i slip is in
    let moved : suc place + i ≡ place + suc i = omega arith in
    (rest.0 ∙ moved, rest.1)

found_first : (placed : PlacedBlock) (blocks : List PlacedBlock) (place : ℕ) (event : Event) → event_of placed place ≡ Some event →
    (k : ℕ) × (slice_get (slips_of (placed ∷ blocks)) k ≡ Some (record { place = place; event = event }))
found_first placed blocks place event is =
    let there = event_of_is placed place (nat_le placed.place place) event refl is in
    let within = slice_get_within placed.block (place - placed.place) event there.1 in
    let long = slips_length placed.place placed.block in (
      place - placed.place,
      get_left (slips_at placed) (slips_of blocks) (place - placed.place) (omega arith)
          ∙ get_slip placed.place placed.block (place - placed.place) place event there.1 (omega (arith, there.0)),
    )

-- an event that is found has a slip
pub found_in : (blocks : List PlacedBlock) (position place : ℕ) (event : Event) → event_in blocks position place ≡ Some event →
    (k : ℕ) × (slice_get (slips_of blocks) k ≡ Some (record { place = place; event = event }))
found_in [] position place event is = let bad : ⊥ = grind arith in absurd bad
found_in (placed ∷ blocks) zero place event is = found_first placed blocks place event is
found_in (placed ∷ blocks) (suc position) place event is =
    let rest = found_in blocks position place event is in
    (length (slips_at placed) + rest.0, get_right (slips_at placed) (slips_of blocks) rest.0 (length (slips_at placed) + rest.0) refl ∙ rest.1)

held_by : (placed : PlacedBlock) (blocks : List PlacedBlock) (k : ℕ) (b : Bool) (slip : Slip) → nat_lt k (length (slips_at placed)) ≡ b → slice_get (slips_of (placed ∷ blocks)) k ≡ Some slip →
    ((i : ℕ) → slice_get (slips_of blocks) i ≡ Some slip → (position : ℕ) × (event_in blocks position slip.place ≡ Some slip.event)) →
    (position : ℕ) × (event_in (placed ∷ blocks) position slip.place ≡ Some slip.event)
held_by placed blocks k true slip test is rest =
    let less : k < length (slips_at placed) = grind (arith, nat_tests) in
    let here = slip_is placed.place placed.block k slip (sym (get_left (slips_at placed) (slips_of blocks) k less) ∙ is) in
    (0, event_of_from placed slip.place k slip.event here.0 here.1)
held_by placed blocks k false slip test is rest =
    let beyond : length (slips_at placed) ≤ k = grind (arith, nat_tests) in
    let later = rest (k - length (slips_at placed))
    (sym (get_right (slips_at placed) (slips_of blocks) (k - length (slips_at placed)) k (omega arith)) ∙ is) in
    (suc later.0, later.1)

held : (blocks : List PlacedBlock) (k : ℕ) (slip : Slip) → slice_get (slips_of blocks) k ≡ Some slip → (position : ℕ) × (event_in blocks position slip.place ≡ Some slip.event)
held [] k slip is = let bad : ⊥ = grind arith in absurd bad
held (placed ∷ blocks) k slip is =
    held_by placed blocks k (nat_lt k (length (slips_at placed))) slip refl is (λ i there. held blocks i slip there)

-- where no block has an event at a place, there is no slip of it
pub none_in : (blocks : List PlacedBlock) (place : ℕ) → ((position : ℕ) → event_in blocks position place ≡ None) →
    (k : ℕ) (slip : Slip) → slice_get (slips_of blocks) k ≡ Some slip → slip.place ≢ place
none_in blocks place none k slip is same =
    let there = held blocks k slip is in
    let both : Some slip.event ≡ None = sym there.1 ∙ ap (event_in blocks there.0) same ∙ none there.0 in
    absurd (grind (arith, both))

none_by : (blocks : List PlacedBlock) (place position k : ℕ) (b : Bool) → nat_lt k position ≡ b → length blocks ≤ position →
    ((k : ℕ) → k < position → event_in blocks k place ≡ None) → event_in blocks k place ≡ None
none_by blocks place position k true test all none = none k (grind (arith, nat_tests))
none_by blocks place position k false test all none =
    let beyond : length blocks ≤ k = grind (arith, nat_tests) in
    ap (λ (found : Option PlacedBlock). event_if found place) (slice_get_past blocks k beyond)

-- no block at all has an event at a place, if none that is there has one
pub none_anywhere : (blocks : List PlacedBlock) (place position : ℕ) → length blocks ≤ position → ((k : ℕ) → k < position → event_in blocks k place ≡ None) →
    (k : ℕ) → event_in blocks k place ≡ None
none_anywhere blocks place position all none k = none_by blocks place position k (nat_lt k position) refl all none

-- the slips of the block at a position, with those before it and behind it
pub split_at : (blocks : List PlacedBlock) (position : ℕ) (placed : PlacedBlock) → slice_get blocks position ≡ Some placed →
    (front : List Slip) × (back : List Slip) × (slips_of blocks ≡ front ++ (slips_at placed ++ back))
split_at [] position placed is = let bad : ⊥ = grind arith in absurd bad
split_at (first ∷ blocks) zero placed is =
    let same : first ≡ placed = grind arith in
    ([], slips_of blocks, ap (λ (p : PlacedBlock). slips_at p ++ slips_of blocks) same)
split_at (first ∷ blocks) (suc position) placed is =
    let rest = split_at blocks position placed is in
    (slips_at first ++ rest.0, rest.1, ap (λ slips. slips_at first ++ slips) rest.2 ∙ sym (append_assoc (slips_at first) rest.0 (slips_at placed ++ rest.1)))

-- those of a block that begins at a place
pub split_from : (blocks : List PlacedBlock) (position place : ℕ) (placed : PlacedBlock) → slice_get blocks position ≡ Some placed → placed.place ≡ place →
    (front : List Slip) × (back : List Slip) × (slips_of blocks ≡ front ++ (slips_from place placed.block ++ back))
split_from blocks position place placed is same =
    let split = split_at blocks position placed is in
    (split.0, split.1, split.2 ∙ ap (λ (p : ℕ). split.0 ++ (slips_from p placed.block ++ split.1)) same)

-- it has an event, as all have
pub filled_at : (blocks : List PlacedBlock) (position : ℕ) (placed : PlacedBlock) → slice_get blocks position ≡ Some placed → AreFilled blocks → IsFilled placed
filled_at [] position placed is filled = let bad : ⊥ = grind arith in absurd bad
filled_at (first ∷ blocks) zero placed is filled =
    let same : first ≡ placed = grind arith in
    subst IsFilled same (All-head IsFilled first blocks filled)
filled_at (first ∷ blocks) (suc position) placed is filled = filled_at blocks position placed is (All-tail IsFilled first blocks filled)

-- how many slips there are, with a block more
pub count_more : (slips more : List Slip) (place : ℕ) (events : List Event) → more ≡ slips ++ slips_from place events → length more ≡ length slips + length events
count_more slips more place events is =
    let both = length-append slips (slips_from place events) in
    let long = slips_length place events in
    let whole : length more ≡ length (slips ++ slips_from place events) = ap length is in
    omega arith
