-- The events of a block, and one event more or less.
use Rattle.std.proofs.Common.{◌≡◌, ◌∙◌, sym, ap, refl, ℕ, zero, suc, ◌+◌, ◌-◌, ◌*◌, ◌/◌, ◌%◌, ◌<◌, ◌≤◌, Bool, true, false, if◌then◌else◌, nat_eq, List, [], ◌∷◌, ◌++◌, length, take, get_or, slice_get, Some, None, length-append, length-take-le, append_assoc, append-nil, arith}
use Rattle.std.proofs.Math.Nat.{add-mul-mod_self_left, div-add-mod}
use Rattle.std.proofs.lemmas.List.{length_push}
use Rattle.std.proofs.lemmas.Bool.Decides.{nat_tests}
use Rattle.std.proofs.lemmas.Option.{slice_get_past, slice_get-get_or}
use Rattle.node.specs.declared.event.Event.{Event}
use Rattle.node.specs.declared.event.Event.TheVariants.{Announce, Advance}
use Rattle.node_journal.specs.Turns.{turn_event, turn_events}
use Rattle.node_journal.proofs.Places.{get_left, get_right, get_first, take_next}

pub turns_length : (count : ℕ) → length (turn_events count) ≡ count
turns_length zero = refl
turns_length (suc count) =
    let before = turns_length count in
    let more = length_push (turn_events count) (turn_event count) in
    omega arith

get_turn_by : (count i : ℕ) (b : Bool) → nat_eq count i ≡ b → i < suc count →
    (i < count → slice_get (turn_events count) i ≡ Some (turn_event i)) → slice_get (turn_events (suc count)) i ≡ Some (turn_event i)
get_turn_by count i true test less earlier =
    let same : count ≡ i = grind (arith, nat_tests) in
    let long = turns_length count in
    get_right (turn_events count) (turn_event count ∷ []) 0 i (omega arith) ∙ ap (λ n. Some (turn_event n)) same
get_turn_by count i false test less earlier =
    let other : i < count = grind (arith, nat_tests) in
    let long = turns_length count in
    get_left (turn_events count) (turn_event count ∷ []) i (omega arith) ∙ earlier other

pub get_turn : (count i : ℕ) → i < count → slice_get (turn_events count) i ≡ Some (turn_event i)
get_turn zero i less = absurd (omega arith)
get_turn (suc count) i less = get_turn_by count i (nat_eq count i) refl less (λ earlier. get_turn count i earlier)

module _ (batch : List Event) (used turns : ℕ) (there : used ≤ length batch) where
  -- how many events a block has
  pub block_length : length (take used batch ++ turn_events turns) ≡ used + turns
  block_length =
      let both = length-append (take used batch) (turn_events turns) in
      let first = length-take-le used batch there in
      let second = turns_length turns in
      omega arith

  -- which ones
  pub get_used : (i : ℕ) → i < used → slice_get (take used batch ++ turn_events turns) i ≡ slice_get batch i
  get_used i less =
      let long = length-take-le used batch there in
      get_left (take used batch) (turn_events turns) i (omega arith) ∙ get_first batch used i less

  pub get_behind : (i : ℕ) → used ≤ i → i - used < turns → slice_get (take used batch ++ turn_events turns) i ≡ Some (turn_event (i - used))
  get_behind i beyond less =
      let long = length-take-le used batch there in
      get_right (take used batch) (turn_events turns) (i - used) i (omega arith) ∙ get_turn turns (i - used) less

  pub get_none : (i : ℕ) → used ≤ i → turns ≤ i - used → slice_get (take used batch ++ turn_events turns) i ≡ None
  get_none i beyond more =
      let long = block_length in
      slice_get_past (take used batch ++ turn_events turns) i (omega arith)

-- one event more of the batch
pub one_used : (batch : List Event) (used turns more : ℕ) (event : Event) → more ≡ suc used → turns ≡ 0 → slice_get batch used ≡ Some event →
    take more batch ++ turn_events turns ≡ (take used batch ++ turn_events turns) ++ event ∷ []
one_used batch used turns more event next none is =
    rw (none, next) (append-nil (take (suc used) batch) ∙ take_next batch used event is ∙ ap (λ events. events ++ event ∷ []) (sym (append-nil (take used batch))))

-- one event more of the turns
pub one_turn : (batch : List Event) (used turns more : ℕ) (event : Event) → more ≡ suc turns → event ≡ turn_event turns →
    take used batch ++ turn_events more ≡ (take used batch ++ turn_events turns) ++ event ∷ []
one_turn batch used turns more event next is =
    ap (λ n. take used batch ++ turn_events n) next
    ∙ sym (append_assoc (take used batch) (turn_events turns) (turn_event turns ∷ []))
    ∙ ap (λ e. (take used batch ++ turn_events turns) ++ e ∷ []) (sym is)

-- turns behind turns are turns, where a turn begins
same_turn : (m count q : ℕ) → m ≡ count + 2 * q → turn_event m ≡ turn_event count
same_turn m count q is =
    let rest : m % 2 ≡ count % 2 = ap (λ (n : ℕ). n % 2) is ∙ add-mul-mod_self_left count 2 q in
    ap (λ (r : ℕ). if nat_eq r 0 then Announce else Advance) rest

turns_joined : (turns count more : ℕ) → more ≡ turns + count → turns % 2 ≡ 0 → turn_events more ≡ turn_events turns ++ turn_events count
turns_joined turns zero more is even =
    let same : more ≡ turns = omega arith in
    ap turn_events same ∙ sym (append-nil (turn_events turns))
turns_joined turns (suc count) zero is even = absurd (omega arith)
turns_joined turns (suc count) (suc more) is even =
    let before : more ≡ turns + count = omega arith in
    let q : ℕ = turns / 2 in
    let halves : 2 * q + turns % 2 ≡ turns = div-add-mod turns 2 in
    let at : more ≡ count + 2 * q = omega (arith, before, halves, even) in
    ap (λ l. l ++ turn_event more ∷ []) (turns_joined turns count more before even)
    ∙ append_assoc (turn_events turns) (turn_events count) (turn_event more ∷ [])
    ∙ ap (λ e. turn_events turns ++ (turn_events count ++ e ∷ [])) (same_turn more count q at)

-- more events of turns, where a turn begins
pub more_turns : (batch : List Event) (used turns more count : ℕ) → more ≡ turns + count → turns % 2 ≡ 0 →
    take used batch ++ turn_events more ≡ (take used batch ++ turn_events turns) ++ turn_events count
more_turns batch used turns more count is even =
    ap (λ l. take used batch ++ l) (turns_joined turns count more is even) ∙ sym (append_assoc (take used batch) (turn_events turns) (turn_events count))

-- one event less of the turns
pub one_turn_less : (batch : List Event) (used turns : ℕ) (event : Event) → 0 < turns → event ≡ turn_event (turns - 1) →
    take used batch ++ turn_events turns ≡ (take used batch ++ turn_events (turns - 1)) ++ event ∷ []
one_turn_less batch used turns event some is = one_turn batch used (turns - 1) turns event (omega arith) is

-- the last event of the turns
pub last_turn : (batch : List Event) (used turns : ℕ) (event : Event) → 0 < turns → event ≡ turn_event (turns - 1) →
    (front : List Event) × (take used batch ++ turn_events turns ≡ front ++ event ∷ [])
last_turn batch used turns event some is = (take used batch ++ turn_events (turns - 1), one_turn_less batch used turns event some is)

-- or of the batch
pub last_used : (batch : List Event) (used turns : ℕ) (event : Event) → turns ≡ 0 → 0 < used → used ≤ length batch → event ≡ get_or batch (used - 1) event →
    (front : List Event) × (take used batch ++ turn_events turns ≡ front ++ event ∷ [])
last_used batch used turns event none some there is =
    let found : slice_get batch (used - 1) ≡ Some event = slice_get-get_or batch (used - 1) event (omega arith) ∙ ap Some (sym is) in
    (take (used - 1) batch ++ turn_events turns, one_used batch (used - 1) turns used event (omega arith) none found)
