-- What acts make of a side: what it took and what it has acknowledged never falls, what it sent stays sent, and each act by which a
-- signal is taken takes one.
use Rattle.std.proofs.Common.{◌≡◌, ℕ, ◌+◌, ◌<◌, ◌≤◌, inl, inr, max, Bool, true, false, List, [], ◌∷◌, ◌++◌, slice_get, refl, sym, ap, subst, ◌∙◌, arith, Option, None, Some, Result, Ok, Err, if◌then◌else◌}
use Rattle.std.specs.Prelude.{nat_eq, nat_le}
use Rattle.std.proofs.lemmas.Bool.{eqb-true}
use Rattle.std.proofs.lemmas.List.{append-nil, append_assoc}
use Rattle.signal.specs.declared.signal.Signal.{Signal}
use Rattle.signal.specs.declared.frame.Frame.{Frame}
use Rattle.signal.specs.declared.frame.Frame.TheVariants.{Hello, Data, Ack, Refuse}
use Rattle.signal.specs.Batch.{numbered}
use Rattle.link.specs.declared.arrival.Arrival.{Arrival}
use Rattle.link.specs.declared.arrival.Arrival.TheVariants as arrival
use Rattle.link.specs.declared.fault.LinkFault.{LinkFault}
use Rattle.link.specs.Image.{last_number, answer_of, after_frame, ack_of, hello_of, resent_by}
use Rattle.link_laws.specs.Link.{Side, Link, says, admits, hears, gets, greeting, side_after, Act, Gets, Offers}
use Rattle.link_laws.specs.Link.{Resends, Greets, Closes, TurnsAway}
use Rattle.world_stations.proofs.Course.{acted}
use Rattle.world_stations.proofs.Courses.{data_is}
use Rattle.world_stations.proofs.Site.{in_turn_is}
use Rattle.world_stations.proofs.Quiet.{quiet_takes_nothing}
use Rattle.world_stations.proofs.Taking.{acts_take_nothing}
use Rattle.world_progress.proofs.Walking.{count_taking, IsActed}

pub record Grown (s after : Side) : Type 0 where
  pub taken : s.end.taken ≤ after.end.taken
  pub acknowledged : s.end.acknowledged ≤ after.end.acknowledged
  pub room : after.end.room ≡ s.end.room
  pub more : List Frame
  pub sent : after.sent ≡ s.sent ++ more

pub unchanged_grown : (s : Side) → Grown s s
unchanged_grown s = record { taken = omega arith; acknowledged = omega arith; room = refl; more = []; sent = sym (append-nil s.sent) }

pub grown_on : (s t u : Side) → Grown s t → Grown t u → Grown s u
grown_on s t u a b =
    record {
      taken = omega (arith, a.taken, b.taken);
      acknowledged = omega (arith, a.acknowledged, b.acknowledged);
      room = b.room ∙ a.room;
      more = a.more ++ b.more;
      sent = b.sent ∙ ap (λ (x : List Frame). x ++ b.more) a.sent ∙ append_assoc s.sent a.more b.more;
    }

admits_grown : (s : Side) (frame : Frame) (arrived : Arrival) (is_taken : Bool) → Grown s (admits is_taken s frame arrived)
admits_grown s (Data k n signal) arrival.Signal true = record { taken = omega arith; acknowledged = omega arith; room = refl; more = ack_of (after_frame s.end (Data k n signal)) ∷ []; sent = refl }
admits_grown s (Data k n signal) arrival.Signal false = unchanged_grown s
admits_grown s (Data k n signal) arrival.Repeated true = record { taken = omega arith; acknowledged = omega arith; room = refl; more = ack_of s.end ∷ []; sent = refl }
admits_grown s (Data k n signal) arrival.Repeated false = record { taken = omega arith; acknowledged = omega arith; room = refl; more = ack_of s.end ∷ []; sent = refl }
admits_grown s (Data k n signal) arrival.Acked true = record { taken = omega arith; acknowledged = omega arith; room = refl; more = ack_of s.end ∷ []; sent = refl }
admits_grown s (Data k n signal) arrival.Acked false = record { taken = omega arith; acknowledged = omega arith; room = refl; more = ack_of s.end ∷ []; sent = refl }
admits_grown s (Data k n signal) arrival.Resume true = record { taken = omega arith; acknowledged = omega arith; room = refl; more = ack_of s.end ∷ []; sent = refl }
admits_grown s (Data k n signal) arrival.Resume false = record { taken = omega arith; acknowledged = omega arith; room = refl; more = ack_of s.end ∷ []; sent = refl }
admits_grown s (Data k n signal) arrival.Closed true = record { taken = omega arith; acknowledged = omega arith; room = refl; more = ack_of s.end ∷ []; sent = refl }
admits_grown s (Data k n signal) arrival.Closed false = record { taken = omega arith; acknowledged = omega arith; room = refl; more = ack_of s.end ∷ []; sent = refl }
admits_grown s (Hello hello) arrived is_taken = record { taken = omega arith; acknowledged = omega arith; room = refl; more = resent_by (after_frame s.end (Hello hello)); sent = refl }
admits_grown s (Ack k n) arrived is_taken = record { taken = omega arith; acknowledged = omega arith; room = refl; more = []; sent = sym (append-nil s.sent) }
admits_grown s (Refuse k n) arrived is_taken = record { taken = omega arith; acknowledged = omega arith; room = refl; more = []; sent = sym (append-nil s.sent) }

gets_grown : (s : Side) (o : Option Frame) (is_taken : Bool) → Grown s (gets is_taken s o)
gets_grown s None is_taken = unchanged_grown s
gets_grown s (Some frame) is_taken = by_answer (answer_of s.end frame)
  where
    by_answer : (r : Result Arrival LinkFault) → Grown s (hears is_taken s frame r)
    by_answer (Ok arrived) = admits_grown s frame arrived is_taken
    by_answer (Err fault) = unchanged_grown s

offers_grown : (s : Side) (signals : List Signal) (b : Bool) → Grown s (if b then s else record { end = record s.end { kept = s.end.kept ++ signals }; sent = s.sent ++ numbered s.end.incarnation (last_number s.end + 1) signals; took = s.took })
offers_grown s signals true = unchanged_grown s
offers_grown s signals false = record { taken = omega arith; acknowledged = omega arith; room = refl; more = numbered s.end.incarnation (last_number s.end + 1) signals; sent = refl }

spoken_grown : (s : Side) (frames : List Frame) → Grown s (says s frames)
spoken_grown s frames = record { taken = omega arith; acknowledged = omega arith; room = refl; more = frames; sent = refl }

act_grown : (s : Side) (coming : List Frame) (act : Act) → Grown s (side_after s coming act)
act_grown s coming (Gets place is_taken) = gets_grown s (slice_get coming place) is_taken
act_grown s coming (Offers signals) = offers_grown s signals s.end.closed
act_grown s coming Resends = spoken_grown s (resent_by s.end)
act_grown s coming Greets = spoken_grown s (greeting (hello_of s.end))
act_grown s coming (Closes number) = record { taken = omega arith; acknowledged = omega arith; room = refl; more = Refuse s.end.incarnation number ∷ []; sent = refl }
act_grown s coming (TurnsAway incarnation number) = spoken_grown s (Refuse incarnation number ∷ [])

acts_grown : (s : Side) (coming : List Frame) (acts : List Act) → Grown s (acted s coming acts)
acts_grown s coming [] = unchanged_grown s
acts_grown s coming (act ∷ rest) = grown_on s (side_after s coming act) (acted (side_after s coming act) coming rest) (act_grown s coming act) (acts_grown (side_after s coming act) coming rest)

-- at most one signal is taken of a frame
admits_one : (s : Side) (frame : Frame) (arrived : Arrival) → answer_of s.end frame ≡ Ok arrived → (admits true s frame arrived).end.taken ≤ s.end.taken + 1
admits_one s (Hello hello) arrived is = omega arith
admits_one s (Ack k n) arrived is = omega arith
admits_one s (Refuse k n) arrived is = omega arith
admits_one s (Data k n signal) arrived is =
    let P : Arrival → Type 0 = λ a. (admits true s (Data k n signal) a).end.taken ≤ s.end.taken + 1 in
    let Q : Arrival → Type 0 = λ a. answer_of s.end (Data k n signal) ≡ Ok a in
    elim (data_is s.end k n signal arrived is) [
      | inl old ↦ (let least = old.1 in let same : max s.end.taken n ≤ s.end.taken + 1 = omega arith in subst P (sym old.0) same)
      | inr next ↦
          let own = in_turn_is (nat_eq k s.end.incarnation) s.end.closed (nat_le n s.end.taken) (nat_eq n (s.end.taken + 1)) (subst Q next is) in
          let number : n ≡ s.end.taken + 1 = eqb-true n (s.end.taken + 1) own.1 in
          let same : max s.end.taken n ≤ s.end.taken + 1 = omega arith in
          subst P (sym next) same
    ]

gets_one : (s : Side) (o : Option Frame) → (gets true s o).end.taken ≤ s.end.taken + 1
gets_one s None = omega arith
gets_one s (Some frame) = by_answer (answer_of s.end frame) refl
  where
    by_answer : (r : Result Arrival LinkFault) → answer_of s.end frame ≡ r → (hears true s frame r).end.taken ≤ s.end.taken + 1
    by_answer (Ok arrived) is = admits_one s frame arrived is
    by_answer (Err fault) is = omega arith

act_takes : (s : Side) (coming : List Frame) (act : Act) → (side_after s coming act).end.taken ≤ s.end.taken + count_taking (act ∷ [])
act_takes s coming (Gets place true) = gets_one s (slice_get coming place)
act_takes s coming (Gets place false) = let none = quiet_takes_nothing false 0 s coming (Gets place false) refl in omega (arith, none.taken)
act_takes s coming (Offers signals) = let none = acts_take_nothing s coming (Offers signals ∷ []) (tt, tt) in omega (arith, none.taken)
act_takes s coming Resends = omega arith
act_takes s coming Greets = omega arith
act_takes s coming (Closes number) = omega arith
act_takes s coming (TurnsAway incarnation number) = omega arith

counted_first : (act : Act) (rest : List Act) → count_taking (act ∷ rest) ≡ count_taking (act ∷ []) + count_taking rest
counted_first (Gets place true) rest = omega arith
counted_first (Gets place false) rest = omega arith
counted_first (Offers signals) rest = omega arith
counted_first Resends rest = omega arith
counted_first Greets rest = omega arith
counted_first (Closes number) rest = omega arith
counted_first (TurnsAway incarnation number) rest = omega arith

acts_take : (s : Side) (coming : List Frame) (acts : List Act) → (acted s coming acts).end.taken ≤ s.end.taken + count_taking acts
acts_take s coming [] = omega arith
acts_take s coming (act ∷ rest) =
    let first = act_takes s coming act in
    let more = acts_take (side_after s coming act) coming rest in
    let all = counted_first act rest in
    omega arith

-- the same of links
pub links_grown : (links after : ℕ → Link) (count : ℕ) (ups downs : ℕ → ℕ) → IsActed links after count ups downs → (j : ℕ) → Grown (links j).first (after j).first × Grown (links j).second (after j).second
links_grown links after count ups downs a j =
    let P : Link → Type 0 = λ x. Grown (links j).first x.first × Grown (links j).second x.second in
    subst P (sym (a.each j)) (acts_grown (links j).first (links j).second.sent (a.firsts j), acts_grown (links j).second (links j).first.sent (a.seconds j))

pub links_take : (links after : ℕ → Link) (count : ℕ) (ups downs : ℕ → ℕ) → IsActed links after count ups downs → (j : ℕ) → j < count → ((after j).first.end.taken ≤ (links j).first.end.taken + ups j) × ((after j).second.end.taken ≤ (links j).second.end.taken + downs j)
links_take links after count ups downs a j l =
    let P : Link → Type 0 = λ x. (x.first.end.taken ≤ (links j).first.end.taken + ups j) × (x.second.end.taken ≤ (links j).second.end.taken + downs j) in
    let up = a.up j l in
    let down = a.down j l in
    let first = acts_take (links j).first (links j).second.sent (a.firsts j) in
    let second = acts_take (links j).second (links j).first.sent (a.seconds j) in
    subst P (sym (a.each j)) (omega arith, omega arith)
