-- Whatever is done at both sides of a link, also after the second side forgot all.
use Rattle.std.proofs.Common.{◌≡◌, ◌≢◌, ℕ, ◌≤◌, ◌⊎◌, inl, inr, List, [], ◌∷◌, ◌++◌, length, take, refl, sym, ap, subst, ◌∙◌, arith, Some}
use Rattle.std.specs.Prelude.{slice_get, nat_eq, nat_le, nat_lt, ◌+◌, ◌&&◌, Err}
use Rattle.std.proofs.lemmas.Bool.{eqb-true}
use Rattle.signal.specs.declared.frame.Frame.{Frame}
use Rattle.signal.specs.declared.frame.Frame.TheVariants.{Hello, Data, Ack, Refuse}
use Rattle.link.specs.declared.arrival.Arrival.TheVariants as arrival
use Rattle.link.specs.declared.fault.LinkFault.{LinkFault}
use Rattle.link.specs.Image.{last_number, answer_of}
use Rattle.link_laws.specs.Direction.{offered_in}
use Rattle.link_laws.specs.Link.{Side, says, side_after, replaced, Act, Link, At, First, Second, Forgets, after_acts, initial_link, IsTakenInOrder, TellsNothingUnsent}
use Rattle.link_laws.proofs.Carried.{IsLinked, linked_back}
use Rattle.link_laws.proofs.Taken.{at_place, act_keeps, fresh_is_linked, in_order, told_offered, signal_offered, refuse_offered, own_hello, tells_nothing}
use Rattle.link_laws.proofs.Forgotten.{IsOf, AreOf, act_of, IsBlank, blank_acts, foreign_says, replaced_is_blank}

-- the second side is as its last incarnation but this left it, or that is gone and it is blank
abbrev pub IsThere : ℕ → Side → Side → Type 0
IsThere i gone s = (gone ≡ s) ⊎ IsBlank i s

-- the first side is linked to the side that had its incarnation, be it there or gone
pub record IsHeld (i : ℕ) (l : Link) : Type 0 where
  pub gone : Side
  pub sent : gone.sent ≡ l.second.sent
  pub linked : IsLinked i l.first gone
  pub own : AreOf i l.first.sent
  pub there : IsThere i gone l.second

pub first_acts : (i : ℕ) (l : Link) (act : Act) → IsHeld i l → IsHeld i (record { first = side_after l.first l.second.sent act; second = l.second })
first_acts i l act h =
    let P : List Frame → Type 0 = λ x. IsLinked i (side_after l.first x act) h.gone in
    record {
      gone = h.gone;
      sent = h.sent;
      linked = subst P h.sent (act_keeps i l.first h.gone act h.linked);
      own = act_of i l.first l.second.sent act h.linked.here h.own;
      there = h.there;
    }

pub second_acts : (i : ℕ) (l : Link) (act : Act) → IsHeld i l → IsHeld i (record { first = l.first; second = side_after l.second l.first.sent act })
second_acts i l act h =
    elim h.there [
      | inl e ↦
          let P : Side → Type 0 = λ x. IsLinked i l.first x in
          record {
            gone = side_after l.second l.first.sent act;
            sent = refl;
            linked = linked_back i (side_after l.second l.first.sent act) l.first (act_keeps i l.second l.first act (linked_back i l.first l.second (subst P e h.linked)));
            own = h.own;
            there = inl refl;
          }
      | inr b ↦
          let stays = blank_acts i l.second l.first.sent act h.own b in
          record {
            gone = says h.gone stays.more;
            sent = ap (λ (x : List Frame). x ++ stays.more) h.sent ∙ sym stays.sent;
            linked = foreign_says i l.first h.gone stays.more stays.foreign h.linked;
            own = h.own;
            there = inr stays.blank;
          }
    ]

pub forgets : (i : ℕ) (l : Link) → IsHeld i l → IsHeld i (record { first = l.first; second = replaced l.second })
forgets i l h =
    let late : i ≤ l.second.end.incarnation =
    elim h.there [
      | inl e ↦ (let P : Side → Type 0 = λ x. x.end.incarnation ≡ i in let same = subst P e h.linked.there in omega arith)
      | inr b ↦ (let later = b.later in omega arith)
    ] in
    record { gone = h.gone; sent = h.sent; linked = h.linked; own = h.own; there = inr (replaced_is_blank i l.second late) }

acts_hold : (i : ℕ) (l : Link) (acts : List At) → IsHeld i l → IsHeld i (after_acts l acts)
acts_hold i l [] h = h
acts_hold i l (First act ∷ earlier) h = first_acts i (after_acts l earlier) act (acts_hold i l earlier h)
acts_hold i l (Second act ∷ earlier) h = second_acts i (after_acts l earlier) act (acts_hold i l earlier h)
acts_hold i l (Forgets ∷ earlier) h = forgets i (after_acts l earlier) (acts_hold i l earlier h)

pub held : (federate i room : ℕ) (acts : List At) → IsHeld i (after_acts (initial_link federate i room) acts)
held federate i room acts =
    let l = initial_link federate i room in
    acts_hold i l acts (record { gone = l.second; sent = refl; linked = fresh_is_linked i federate federate room room; own = tt; there = inl refl })

-- what is taken
blank_in_order : (i incarnation : ℕ) (s r : Side) → IsBlank i r → IsTakenInOrder incarnation s r
blank_in_order i incarnation s r b =
    let P : ℕ → Type 0 = λ x. r.took ≡ take x (offered_in incarnation s.sent) in
    let none = b.taken in
    record { offered = omega arith; in_order = subst P (sym b.taken) b.took }

pub second_in_order : (i : ℕ) (l : Link) → IsHeld i l → IsTakenInOrder l.second.end.incarnation l.first l.second
second_in_order i l h =
    elim h.there [
      | inl e ↦
          let P : Side → Type 0 = λ x. IsLinked i l.first x in
          let linked = subst P e h.linked in
          let Q : ℕ → Type 0 = λ x. IsTakenInOrder x l.first l.second in
          subst Q (sym linked.there) (in_order i l.first l.second linked)
      | inr b ↦ blank_in_order i l.second.end.incarnation l.first l.second b
    ]

pub first_in_order : (i : ℕ) (l : Link) → IsHeld i l → IsTakenInOrder i l.second l.first
first_in_order i l h =
    let order = in_order i h.gone l.first (linked_back i l.first h.gone h.linked) in
    let P : List Frame → Type 0 = λ x. l.first.end.taken ≤ length (offered_in i x) in
    let Q : List Frame → Type 0 = λ x. l.first.took ≡ take l.first.end.taken (offered_in i x) in
    record { offered = subst P h.sent order.offered; in_order = subst Q h.sent order.in_order }

-- what is told
pub first_told : (i : ℕ) (l : Link) → IsHeld i l → TellsNothingUnsent l.first l.second
first_told i l h place frame e =
    let P : List Frame → Type 0 = λ x. slice_get x place ≡ Some frame in
    tells_nothing i l.first h.gone h.linked place frame (subst P (sym h.sent) e)

stranger_tells : (i : ℕ) (s : Side) (frame : Frame) → IsOf i frame → IsBlank i s → answer_of s.end frame ≢ Err LinkFault.AckOfUnsent
stranger_tells i s (Hello hello) of b =
    let later = b.later in
    told_offered arrival.Resume (nat_eq hello.incarnation s.end.incarnation && nat_eq hello.federate s.end.federate) s.end.closed (nat_lt (last_number s.end) hello.last_taken)
    (λ own. (let same = own_hello s.end.incarnation hello.incarnation hello.federate s.end.federate own in absurd (omega arith)))
stranger_tells i s (Data k n signal) of b = signal_offered (nat_eq k s.end.incarnation) s.end.closed (nat_le n s.end.taken) (nat_eq n (s.end.taken + 1))
stranger_tells i s (Ack k n) of b =
    let later = b.later in
    told_offered arrival.Acked (nat_eq k s.end.incarnation) s.end.closed (nat_lt (last_number s.end) n)
    (λ own. (let same = eqb-true k s.end.incarnation own in absurd (omega arith)))
stranger_tells i s (Refuse k n) of b = refuse_offered (nat_eq k s.end.incarnation) s.end.closed

pub second_told : (i : ℕ) (l : Link) → IsHeld i l → TellsNothingUnsent l.second l.first
second_told i l h place frame e =
    elim h.there [
      | inl same ↦
          let P : Side → Type 0 = λ x. IsLinked i l.first x in
          tells_nothing i l.second l.first (linked_back i l.first l.second (subst P same h.linked)) place frame e
      | inr b ↦ stranger_tells i l.second frame (at_place (IsOf i) l.first.sent place frame h.own e) b
    ]

pub taken_by_second : (federate i room : ℕ) (acts : List At) → IsTakenInOrder (after_acts (initial_link federate i room) acts).second.end.incarnation (after_acts (initial_link federate i room) acts).first (after_acts (initial_link federate i room) acts).second
taken_by_second federate i room acts = second_in_order i (after_acts (initial_link federate i room) acts) (held federate i room acts)

pub taken_by_first : (federate i room : ℕ) (acts : List At) → IsTakenInOrder i (after_acts (initial_link federate i room) acts).second (after_acts (initial_link federate i room) acts).first
taken_by_first federate i room acts = first_in_order i (after_acts (initial_link federate i room) acts) (held federate i room acts)

pub first_is_told : (federate i room : ℕ) (acts : List At) → TellsNothingUnsent (after_acts (initial_link federate i room) acts).first (after_acts (initial_link federate i room) acts).second
first_is_told federate i room acts = first_told i (after_acts (initial_link federate i room) acts) (held federate i room acts)

pub second_is_told : (federate i room : ℕ) (acts : List At) → TellsNothingUnsent (after_acts (initial_link federate i room) acts).second (after_acts (initial_link federate i room) acts).first
second_is_told federate i room acts = second_told i (after_acts (initial_link federate i room) acts) (held federate i room acts)
