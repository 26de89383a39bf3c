-- What is taken at each side by a step of the world: at most the signal that the step delivers, where the number taken rises.
use Rattle.std.proofs.Common.{◌≡◌, ℕ, suc, ◌+◌, max, Bool, true, false, List, [], ◌∷◌, ◌++◌, slice_get, refl, sym, ap, subst, ◌∙◌, arith, Some, Ok, if◌then◌else◌}
use Rattle.std.specs.Prelude.{nat_eq, nat_lt, nat_le}
use Rattle.std.specs.List.{AllByRecursion}
use Rattle.std.proofs.lemmas.Bool.{eqb-true, lt-ltb}
use Rattle.std.proofs.lemmas.Bool.Decides.{nat_tests}
use Rattle.std.proofs.lemmas.List.{append-nil}
use Rattle.signal.specs.declared.signal.Signal.{Signal}
use Rattle.signal.specs.declared.frame.Frame.{Frame}
use Rattle.signal.specs.declared.frame.Frame.TheVariants.{Data}
use Rattle.link.specs.declared.arrival.Arrival.TheVariants as arrival
use Rattle.link.specs.Image.{Image, answer_of, last_number}
use Rattle.signal.specs.Batch.{numbered}
use Rattle.link.specs.Taken.{carried_by}
use Rattle.node.specs.declared.event.Event.{Event}
use Rattle.node.specs.declared.event.Event.TheVariants as event
use Rattle.node.specs.Core.{Core, Made}
use Rattle.protocol.specs.Outcome as outcome
use Rattle.protocol.specs.Machine.{sent_to}
use Rattle.node.specs.Step.{Station, Stepped}
use Rattle.link_laws.specs.Link.{Side, side_after, Act, Gets, Offers, Resends, Greets, Closes, TurnsAway, offers, takes}
use Rattle.world_stations.proofs.Course.{acted, IsQuiet, TakesNone, taking, Comes, IsHandedOn, quiet, takes as takes_kind, notes, says as says_kind, declines, cannot, IsCourse}
use Rattle.world_stations.proofs.Courses.{gets_frame, some_of}
use Rattle.world_stations.proofs.Quiet.{TookNothing, quiet_takes_nothing, as_it_was}
use Rattle.world_stations.proofs.Site.{in_turn_is}
use Rattle.world_stations.proofs.Runs.{comes_with}

-- a side after acts: of what the step brings it took that whose number is new
pub record Took (s after : Side) (brought : List Signal) : Type 0 where
  pub incarnation : after.end.incarnation ≡ s.end.incarnation
  pub took : after.took ≡ s.took ++ (if nat_lt s.end.taken after.end.taken then brought else [])

pub not_below : (a b : ℕ) → b ≡ a → nat_lt a b ≡ false
not_below a b e = grind (arith, nat_tests)

pub nothing_took : (s after : Side) (brought : List Signal) → TookNothing s after → Took s after brought
nothing_took s after brought n =
    record {
      incarnation = n.incarnation;
      took = n.took ∙ sym (append-nil s.took) ∙ ap (λ (b : Bool). s.took ++ (if b then brought else [])) (sym (not_below s.end.taken after.end.taken n.taken));
    }

offers_nothing : (s : Side) (signals : List Signal) (b : Bool) → TookNothing s (if b then s else record { end = record s.end { kept = s.end.kept ++ signals }; sent = s.sent ++ numbered s.end.incarnation (last_number s.end + 1) signals; took = s.took })
offers_nothing s signals true = as_it_was s
offers_nothing s signals false = record { taken = refl; took = refl; incarnation = refl }

act_takes_nothing : (s : Side) (coming : List Frame) (act : Act) → TakesNone act → TookNothing s (side_after s coming act)
act_takes_nothing s coming (Gets place is_taken) q = quiet_takes_nothing false 0 s coming (Gets place is_taken) q
act_takes_nothing s coming (Offers signals) q = offers_nothing s signals s.end.closed
act_takes_nothing s coming Resends q = record { taken = refl; took = refl; incarnation = refl }
act_takes_nothing s coming Greets q = record { taken = refl; took = refl; incarnation = refl }
act_takes_nothing s coming (Closes number) q = record { taken = refl; took = refl; incarnation = refl }
act_takes_nothing s coming (TurnsAway k number) q = record { taken = refl; took = refl; incarnation = refl }

pub acts_take_nothing : (s : Side) (coming : List Frame) (acts : List Act) → AllByRecursion TakesNone acts → TookNothing s (acted s coming acts)
acts_take_nothing s coming [] q = as_it_was s
acts_take_nothing s coming (act ∷ rest) q =
    let first = act_takes_nothing s coming act q.0 in
    let more = acts_take_nothing (side_after s coming act) coming rest q.1 in
    record { taken = more.taken ∙ first.taken; took = more.took ∙ first.took; incarnation = more.incarnation ∙ first.incarnation }

pub quiet_none : (is_coordinator : Bool) (i : ℕ) (acts : List Act) → AllByRecursion (IsQuiet is_coordinator i) acts → AllByRecursion TakesNone acts
quiet_none is_coordinator i [] q = tt
quiet_none is_coordinator i (Gets place is_taken ∷ rest) q = (q.0, quiet_none is_coordinator i rest q.1)
quiet_none is_coordinator i (Offers signals ∷ rest) q = absurd q.0
quiet_none is_coordinator i (Resends ∷ rest) q = (tt, quiet_none is_coordinator i rest q.1)
quiet_none is_coordinator i (Greets ∷ rest) q = (tt, quiet_none is_coordinator i rest q.1)
quiet_none is_coordinator i (Closes number ∷ rest) q = absurd q.0
quiet_none is_coordinator i (TurnsAway k number ∷ rest) q = (tt, quiet_none is_coordinator i rest q.1)

-- a signal in its turn is taken
gets_took : (s : Side) (coming : List Frame) (place k n : ℕ) (signal : Signal) (signals : List Signal) (brought : List Signal) → slice_get coming place ≡ Some (Data k n signal) → answer_of s.end (Data k n signal) ≡ Ok arrival.Signal → brought ≡ signal ∷ [] → Took s (acted s coming (Gets place true ∷ Offers signals ∷ [])) brought
gets_took s coming place k n signal signals brought at is brings =
    let own = in_turn_is (nat_eq k s.end.incarnation) s.end.closed (nat_le n s.end.taken) (nat_eq n (s.end.taken + 1)) is in
    let number : n ≡ s.end.taken + 1 = eqb-true n (s.end.taken + 1) own.1 in
    let heard : side_after s coming (Gets place true) ≡ takes s (Data k n signal) signal = gets_frame s coming place true (Data k n signal) (Ok arrival.Signal) at is in
    let then_offers = offers_nothing (takes s (Data k n signal) signal) signals s.end.closed in
    let up : max s.end.taken n ≡ suc s.end.taken = omega arith in
    let G : Side → Type 0 = λ x. Took s (offers x signals) brought in
    let after : ℕ = (offers (takes s (Data k n signal) signal) signals).end.taken in
    let rises : nat_lt s.end.taken (offers (takes s (Data k n signal) signal) signals).end.taken ≡ true = higher s.end.taken (offers (takes s (Data k n signal) signal) signals).end.taken (then_offers.taken ∙ up) in
    subst G (sym heard)
    (record {
      incarnation = then_offers.incarnation;
      took = then_offers.took ∙ ap (λ (x : List Signal). s.took ++ x) (sym brings) ∙ ap (λ (b : Bool). s.took ++ (if b then brought else [])) (sym rises);
    })
  where
    higher : (a b : ℕ) → b ≡ suc a → nat_lt a b ≡ true
    higher a b e = lt-ltb a b (omega arith)

-- what is handed on is taken, and nothing at other sides
handed_took : {View Row : Type 0} (core : Core View Row) (s : Station View) (e : Event) (came : ℕ → List Frame) (place q : ℕ) (o : outcome.Outcome (Made View)) (signals brought : List Signal) (handed : IsHandedOn core s e q o) → Comes s came place e → ((q : ℕ) (frame : Frame) → e ≡ event.Frame q frame → brought ≡ carried_by frame) → (p : ℕ) (side : Side) → slice_get s.ends p ≡ Some side.end → Took side (acted side (came p) (taking q place p signals)) brought
handed_took core s e came place q o signals brought handed comes brings p side found = by_number (nat_eq p q) refl
  where
    by_number : (b : Bool) → nat_eq p q ≡ b → Took side (acted side (came p) (if b then Gets place true ∷ Offers signals ∷ [] else Offers signals ∷ [])) brought
    by_number false apart = nothing_took side (acted side (came p) (Offers signals ∷ [])) brought (acts_take_nothing side (came p) (Offers signals ∷ []) (tt, tt))
    by_number true own =
        let here = eqb-true p q own in
        let P : ℕ → Type 0 = λ x. slice_get s.ends x ≡ Some side.end in
        let same : handed.image ≡ side.end = some_of handed.image side.end (sym handed.found ∙ subst P here found) in
        let A : Image → Type 0 = λ x. answer_of x (Data handed.incarnation handed.number handed.signal) ≡ Ok arrival.Signal in
        let Q : ℕ → Type 0 = λ x. slice_get (came x) place ≡ Some (Data handed.incarnation handed.number handed.signal) in
        gets_took side (came p) place handed.incarnation handed.number handed.signal signals brought
        (subst Q (sym here) (comes_with s came place e q (Data handed.incarnation handed.number handed.signal) handed.is_event comes)) (subst A same handed.in_turn)
        (brings q (Data handed.incarnation handed.number handed.signal) handed.is_event)

-- a course at one side
pub course_took : {View Row : Type 0} (core : Core View Row) (is_coordinator : Bool) (s : Station View) (e : Event) (came : ℕ → List Frame) (place : ℕ) (made : Stepped View) (c : IsCourse core is_coordinator s e came place made) (brought : List Signal) → Comes s came place e → ((q : ℕ) (frame : Frame) → e ≡ event.Frame q frame → brought ≡ carried_by frame) → (p : ℕ) (side : Side) → slice_get s.ends p ≡ Some side.end → Took side (acted side (came p) (c.acts p)) brought
course_took core is_coordinator s e came place made c brought comes brings p side found =
    let none = (λ (q : AllByRecursion TakesNone (c.acts p)). nothing_took side (acted side (came p) (c.acts p)) brought (acts_take_nothing side (came p) (c.acts p) q)) in
    let T : List Act → Type 0 = λ x. Took side (acted side (came p) x) brought in
    let A : List Act → Type 0 = λ x. AllByRecursion TakesNone x in
    elim c.kind [
      | quiet node harmless acts ↦ none (quiet_none is_coordinator side.end.incarnation (c.acts p) (acts p side.end found))
      | takes_kind q m handed node harmless acts ↦ subst T (sym (acts p)) (handed_took core s e came place q (outcome.Done m) (sent_to p m.sent) brought handed comes brings p side found)
      | notes q handed acts ↦ subst T (sym (acts p)) (handed_took core s e came place q outcome.Nothing [] brought handed comes brings p side found)
      | says_kind m speaks node harmless acts ↦ none (subst A (sym (acts p)) (tt, tt))
      | declines q refusal handed acts ↦ none (acts p)
      | cannot refusal speaks acts ↦ none (acts p)
    ]
