-- All that is pending stays clear of what is completed, whatever moves are made.
use Rattle.std.proofs.Common.{◌≡◌, ℕ, ◌+◌, ◌≤◌, Bool, true, false, cond, List, [], ◌∷◌, ◌++◌, refl, sym, subst, arith, Option, None, Some}
use Rattle.std.specs.Prelude.{slice_get, nat_eq, if◌then◌else◌}
use Rattle.tag.specs.LogicalTime.{LogicalTime, IsLogicalTime, is_before, sum_of, place}
use Rattle.tag.proofs.Order.{at_most_from_places, at_most_places, place_bound}
use Rattle.network.specs.Connection.{Connection, then_along, IsWalk}
use Rattle.network.specs.Network.{Network}
use Rattle.network.specs.Lawful.{IsLawful}
use Rattle.network.specs.Tables.{Table, IsAtMostEveryPath}
use Rattle.signal.specs.declared.signal.Signal.{Signal}
use Rattle.signal.specs.declared.signal.Signal.TheVariants.{Net, Ltc, Tag, Msg}
use Rattle.network.specs.Undone.{PendingEvent, put, put_all, drop_up_to, is_held_before, is_for_same}
use Rattle.network.proofs.Walks.{along_monotone}
use Rattle.protocol.specs.Machine.{Member, federate_records_of}
use Rattle.protocol_laws.proofs.Tags.{above}
use Rattle.protocol_laws.proofs.Transit.{least_above}
use Rattle.protocol_laws.proofs.Upward.{IsOver, IsUp, least_key, last_is_later, source_at_least}
use Rattle.protocol_laws.proofs.Downward.{IsDown, AreCovered}
use Rattle.protocol_laws.proofs.StillUndone.{IsUndone, AreHeld, first_place, first_at_least}
use Rattle.protocol_laws.proofs.Turns.{AreMessages}
use Rattle.protocol_laws.proofs.Kept.{IsKept}
use Rattle.protocol_laws.proofs.Backing.{IsBacked, at_update}
use Rattle.protocol_laws.proofs.Eligibility.{contains_at}
use Rattle.protocol_laws.proofs.Chains.{IsClear, IsAhead, along_is_logical, backed_is_ahead, message_is_ahead}

-- events of reactor k
abbrev pub AreClear : Network → (ℕ → Option LogicalTime) → ℕ → List PendingEvent → Type 0
AreClear n completed k [] = Unit {0}
AreClear n completed k (x ∷ rest) = IsClear n completed k x.tag × AreClear n completed k rest

-- a message over a connection
abbrev pub IsClearOver : Network → (ℕ → Option LogicalTime) → Option Connection → LogicalTime → Type 0
IsClearOver n completed None s = Unit {0}
IsClearOver n completed (Some c) s = IsClear n completed c.target s

abbrev pub AreUpClear : Network → (ℕ → Option LogicalTime) → List Signal → Type 0
AreUpClear n completed [] = Unit {0}
AreUpClear n completed (Net g ∷ rest) = AreUpClear n completed rest
AreUpClear n completed (Ltc g ∷ rest) = AreUpClear n completed rest
AreUpClear n completed (Tag g ∷ rest) = AreUpClear n completed rest
AreUpClear n completed (Msg c s v ∷ rest) = IsClearOver n completed (slice_get n.connections c) s × AreUpClear n completed rest

abbrev pub AreDownClear : Network → (ℕ → Option LogicalTime) → ℕ → List Signal → Type 0
AreDownClear n completed j [] = Unit {0}
AreDownClear n completed j (Net g ∷ rest) = AreDownClear n completed j rest
AreDownClear n completed j (Ltc g ∷ rest) = AreDownClear n completed j rest
AreDownClear n completed j (Tag g ∷ rest) = AreDownClear n completed j rest
AreDownClear n completed j (Msg c s v ∷ rest) = IsClear n completed j s × AreDownClear n completed j rest

pub record IsMemberClear (n : Network) (completed : ℕ → Option LogicalTime) (j : ℕ) (undone : List PendingEvent) (up down : List Signal) : Type 0 where
  pub held : AreClear n completed j undone
  pub upward : AreUpClear n completed up
  pub downward : AreDownClear n completed j down

put_if : (n : Network) (completed : ℕ → Option LogicalTime) (k : ℕ) (e x : PendingEvent) (rest more : List PendingEvent) (b c : Bool) → IsClear n completed k e.tag → AreClear n completed k (x ∷ rest) → AreClear n completed k more → AreClear n completed k (if b then e ∷ x ∷ rest else (if c then e ∷ rest else x ∷ more))
put_if n completed k e x rest more true c p a r = (p, (a.0, a.1))
put_if n completed k e x rest more false true p a r = (p, a.1)
put_if n completed k e x rest more false false p a r = (a.0, r)

pub put_clear : (n : Network) (completed : ℕ → Option LogicalTime) (k : ℕ) (e : PendingEvent) (u : List PendingEvent) → IsClear n completed k e.tag → AreClear n completed k u → AreClear n completed k (put e u)
put_clear n completed k e [] p a = (p, tt)
put_clear n completed k e (x ∷ rest) p a = put_if n completed k e x rest (put e rest) (is_held_before e x) (is_for_same e x) p a (put_clear n completed k e rest p a.1)

pub put_all_clear : (n : Network) (completed : ℕ → Option LogicalTime) (k : ℕ) (es u : List PendingEvent) → AreClear n completed k es → AreClear n completed k u → AreClear n completed k (put_all es u)
put_all_clear n completed k [] u a h = h
put_all_clear n completed k (e ∷ rest) u a h = put_all_clear n completed k rest (put e u) a.1 (put_clear n completed k e u a.0 h)

drop_if : (n : Network) (completed : ℕ → Option LogicalTime) (k : ℕ) (x : PendingEvent) (kept : List PendingEvent) (b : Bool) → IsClear n completed k x.tag → AreClear n completed k kept → AreClear n completed k (cond b (x ∷ kept) kept)
drop_if n completed k x kept true p a = (p, a)
drop_if n completed k x kept false p a = a

pub drop_clear : (n : Network) (completed : ℕ → Option LogicalTime) (k : ℕ) (g : LogicalTime) (u : List PendingEvent) → AreClear n completed k u → AreClear n completed k (drop_up_to g u)
drop_clear n completed k g [] a = tt
drop_clear n completed k g (x ∷ rest) a = drop_if n completed k x (drop_up_to g rest) (is_before g x.tag) a.0 (drop_clear n completed k g rest a.1)

pub up_clear-append : (n : Network) (completed : ℕ → Option LogicalTime) (up more : List Signal) → AreUpClear n completed up → AreUpClear n completed more → AreUpClear n completed (up ++ more)
up_clear-append n completed [] more a b = b
up_clear-append n completed (Net g ∷ rest) more a b = up_clear-append n completed rest more a b
up_clear-append n completed (Ltc g ∷ rest) more a b = up_clear-append n completed rest more a b
up_clear-append n completed (Tag g ∷ rest) more a b = up_clear-append n completed rest more a b
up_clear-append n completed (Msg c s v ∷ rest) more a b = (a.0, up_clear-append n completed rest more a.1 b)

pub down_clear-append : (n : Network) (completed : ℕ → Option LogicalTime) (j : ℕ) (down more : List Signal) → AreDownClear n completed j down → AreDownClear n completed j more → AreDownClear n completed j (down ++ more)
down_clear-append n completed j [] more a b = b
down_clear-append n completed j (Net g ∷ rest) more a b = down_clear-append n completed j rest more a b
down_clear-append n completed j (Ltc g ∷ rest) more a b = down_clear-append n completed j rest more a b
down_clear-append n completed j (Tag g ∷ rest) more a b = down_clear-append n completed j rest more a b
down_clear-append n completed j (Msg c s v ∷ rest) more a b = (a.0, down_clear-append n completed j rest more a.1 b)

-- with one more tag completed by j
abbrev pub completed_with : (ℕ → Option LogicalTime) → ℕ → LogicalTime → ℕ → Option LogicalTime
completed_with completed j g i = if nat_eq i j then Some g else completed i

-- an event stays clear where what it brings to j is later
clear_after : (n : Network) (completed : ℕ → Option LogicalTime) (j k : ℕ) (g s : LogicalTime) → IsClear n completed k s → ((path : List Connection) → IsWalk n.connections k path j → place g + 1 ≤ place (then_along s path)) → IsClear n (completed_with completed j g) k s
clear_after n completed j k g s clear past i path w =
    let P : Option LogicalTime → Type 0 = λ o. above o ≤ place (then_along s path) in
    let Q : ℕ → Type 0 = λ x. IsWalk n.connections k path x in
    at_update P (Some g) (completed i) i j (λ e. past path (subst Q e w)) (clear i path w)

walk_past : (n : Network) (j k : ℕ) (g γ s : LogicalTime) (path : List Connection) → IsAhead n j k s γ → place g ≤ place γ → (k ≡ j → place g + 1 ≤ place s) → IsWalk n.connections k path j → place g + 1 ≤ place (then_along s path)
walk_past n j k g γ s [] ahead l here w = here w
walk_past n j k g γ s (c ∷ rest) ahead l here w = let a = ahead c rest w in omega arith

-- what is known at a turn of j at g: how far it was granted, and what is behind each grant
pub record IsTurn (n : Network) (table : Table) (members : ℕ → Member) (j : ℕ) (g γ : LogicalTime) : Type 0 where
  pub lawful : IsLawful n
  pub facts : IsAtMostEveryPath n table
  pub kept : (i : ℕ) → IsKept n i (members i).federate_record (members i).federate (members i).up (members i).down
  pub logical : IsLogicalTime γ
  pub within : place g ≤ place γ
  pub backed : IsBacked n table (federate_records_of members) j (Some γ)

-- the completed tags of all
abbrev pub completed_of : (ℕ → Member) → ℕ → Option LogicalTime
completed_of members i = (members i).federate.completed

behind : (n : Network) (i : ℕ) (m : Member) → IsKept n i m.federate_record m.federate m.up m.down → above m.federate_record.completed ≤ above m.federate.completed
behind n i m k = let a = last_is_later n i (above m.federate_record.completed) m.up k.upward in let c = k.chain in omega arith

pub ahead_of : (n : Network) (table : Table) (members : ℕ → Member) (j k : ℕ) (g γ s : LogicalTime) → IsTurn n table members j g γ → IsLogicalTime s → place (members k).federate_record.next ≤ place s → IsClear n (completed_of members) k s → IsAhead n j k s γ
ahead_of n table members j k g γ s t p l clear =
    backed_is_ahead n table (federate_records_of members) (completed_of members) k j s γ t.lawful t.facts (λ i. (t.kept i).completed_tag) (λ i. behind n i (members i) (t.kept i)) p t.logical
    (at_most_from_places (members k).federate_record.next s (t.kept k).next_tag p l) clear t.backed

pub held_after : (n : Network) (table : Table) (members : ℕ → Member) (j k low : ℕ) (g γ : LogicalTime) (u : List PendingEvent) → IsTurn n table members j g γ → IsUndone n.stop low u → place (members k).federate_record.next ≤ first_place u → (k ≡ j → place g + 1 ≤ first_place u) → AreClear n (completed_of members) k u → AreClear n (completed_with (completed_of members) j g) k u
held_after n table members j k low g γ [] t h l here a = tt
held_after n table members j k low g γ (x ∷ rest) t h l here a =
    let next = first_at_least n.stop (place x.tag) rest (place_bound x.tag h.0) h.3 in (
      clear_after n (completed_of members) j k g x.tag a.0 (λ path w. walk_past n j k g γ x.tag path (ahead_of n table members j k g γ x.tag t h.0 l a.0) t.within here w),
      held_after n table members j k (place x.tag) g γ rest t h.3 (omega arith) (λ e. (let b = here e in omega arith)) a.1,
    )

pub down_after : (n : Network) (table : Table) (members : ℕ → Member) (j k low : ℕ) (g γ : LogicalTime) (transit : List LogicalTime) (down : List Signal) → IsTurn n table members j g γ → IsDown n k low down → AreCovered transit down → place (members k).federate_record.next ≤ least_above 0 transit → (k ≡ j → place g + 1 ≤ low) → AreDownClear n (completed_of members) k down → AreDownClear n (completed_with (completed_of members) j g) k down
down_after n table members j k low g γ transit [] t h c l here a = tt
down_after n table members j k low g γ transit (Net x ∷ rest) t h c l here a = absurd h
down_after n table members j k low g γ transit (Ltc x ∷ rest) t h c l here a = absurd h
down_after n table members j k low g γ transit (Tag x ∷ rest) t h c l here a =
    let b = h.1 in down_after n table members j k (place x + 1) g γ transit rest t h.3 c l (λ e. (let d = here e in omega arith)) a
down_after n table members j k low g γ transit (Msg m s v ∷ rest) t h c l here a =
    let at = c.0 0 (omega arith) in
    let b = h.2 in (
      clear_after n (completed_of members) j k g s a.0 (λ path w. walk_past n j k g γ s path (ahead_of n table members j k g γ s t h.1 (omega arith) a.0) t.within (λ e. (let d = here e in omega arith)) w),
      down_after n table members j k low g γ transit rest t h.4 c.1 l here a.1,
    )

over_after : (n : Network) (table : Table) (members : ℕ → Member) (i j number : ℕ) (g γ source s : LogicalTime) (o : Option Connection) → IsTurn n table members j g γ → slice_get n.connections number ≡ o → IsOver n i o source s → IsLogicalTime source → place (members i).federate_record.next ≤ place source → above (members i).federate_record.completed ≤ place source → IsClearOver n (completed_of members) o s → IsClearOver n (completed_with (completed_of members) j g) o s
over_after n table members i j number g γ source s None t e over p next low clear = tt
over_after n table members i j number g γ source s (Some c) t e over p next low clear =
    clear_after n (completed_of members) j c.target g s clear
    (λ path w. (
    let ahead = message_is_ahead n table (federate_records_of members) (completed_of members) i j c source s γ path t.lawful t.facts (λ x. (t.kept x).completed_tag) (λ x. behind n x (members x) (t.kept x)) p t.logical
    (contains_at n.connections number c e) over.0 over.1 (at_most_from_places (members i).federate_record.next source (t.kept i).next_tag p next) low clear t.backed w in
    let within = t.within in
    omega arith))

pub up_after : (n : Network) (table : Table) (members : ℕ → Member) (i j low : ℕ) (g γ : LogicalTime) (up : List Signal) → IsTurn n table members j g γ → IsUp n i low up → above (members i).federate_record.completed ≤ low → place (members i).federate_record.next ≤ least_key up → AreUpClear n (completed_of members) up → AreUpClear n (completed_with (completed_of members) j g) up
up_after n table members i j low g γ [] t h b l a = tt
up_after n table members i j low g γ (Net x ∷ rest) t h b l a = up_after n table members i j low g γ rest t h.3 b (omega arith) a
up_after n table members i j low g γ (Ltc x ∷ rest) t h b l a = let d = h.1 in up_after n table members i j (place x + 1) g γ rest t h.3 (omega arith) (omega arith) a
up_after n table members i j low g γ (Tag x ∷ rest) t h b l a = absurd h
up_after n table members i j low g γ (Msg k s v ∷ rest) t h b l a =
    let is = source_at_least n i low rest h.0 h.3 h.1 in
    let d = is.1 in
    let key = is.2 in (
      over_after n table members i j k g γ h.0 s (slice_get n.connections k) t refl h.2 is.0 (omega arith) (omega arith) a.0,
      up_after n table members i j low g γ rest t h.3 b l a.1,
    )

later_past : (n : Network) (j : ℕ) (g γ s : LogicalTime) (path : List Connection) → IsAhead n j j g γ → place g ≤ place γ → place g + 1 ≤ place s → place (then_along g path) ≤ place (then_along s path) → IsWalk n.connections j path j → place g + 1 ≤ place (then_along s path)
later_past n j g γ s [] ahead within l grows w = l
later_past n j g γ s (c ∷ rest) ahead within l grows w = let a = ahead c rest w in omega arith

-- what j schedules at g is later, and a chain from it is no earlier than the same chain from g
later_clear : (n : Network) (completed : ℕ → Option LogicalTime) (j : ℕ) (g γ s : LogicalTime) → IsLawful n → IsLogicalTime g → IsLogicalTime s → place g + 1 ≤ place s → place g ≤ place γ → IsClear n completed j g → IsAhead n j j g γ → IsClear n (completed_with completed j g) j s
later_clear n completed j g γ s lawful p q l within clear ahead i path w =
    let grows = at_most_places (then_along g path) (then_along s path) (along_is_logical n j i g path lawful p w) (along_is_logical n j i s path lawful q w) (along_monotone g s path (at_most_from_places g s p q (omega arith))) in
    let P : Option LogicalTime → Type 0 = λ o. above o ≤ place (then_along s path) in
    let was = clear i path w in
    let Q : ℕ → Type 0 = λ x. IsWalk n.connections j path x in
    at_update P (Some g) (completed i) i j (λ e. later_past n j g γ s path ahead within l grows (subst Q e w)) (omega arith)

pub scheduled_clear : (n : Network) (completed : ℕ → Option LogicalTime) (j : ℕ) (g γ : LogicalTime) (es : List PendingEvent) → IsLawful n → IsLogicalTime g → AreHeld n.stop (place g + 1) es → place g ≤ place γ → IsClear n completed j g → IsAhead n j j g γ → AreClear n (completed_with completed j g) j es
scheduled_clear n completed j g γ [] lawful p h within clear ahead = tt
scheduled_clear n completed j g γ (x ∷ rest) lawful p h within clear ahead =
    (later_clear n completed j g γ x.tag lawful p h.0 h.1 within clear ahead, scheduled_clear n completed j g γ rest lawful p h.3 within clear ahead)

-- a message of the turn: its chains are chains from the turn
sent_clear : (n : Network) (completed : ℕ → Option LogicalTime) (j number : ℕ) (g γ s : LogicalTime) (o : Option Connection) → slice_get n.connections number ≡ o → IsOver n j o g s → place g ≤ place γ → IsClear n completed j g → IsAhead n j j g γ → IsClearOver n (completed_with completed j g) o s
sent_clear n completed j number g γ s None e over within clear ahead = tt
sent_clear n completed j number g γ s (Some c) e over within clear ahead = λ i path w. (
    let walk : (x : ℕ) → IsWalk n.connections c.target path x → IsWalk n.connections j (c ∷ path) x = λ x v. (contains_at n.connections number c e, over.0, v) in
    let P : LogicalTime → Type 0 = λ x. above (completed i) ≤ place (then_along x path) in
    let was : above (completed i) ≤ place (then_along s path) = subst P (sym over.1) (clear i (c ∷ path) (walk i w)) in
    let Q : Option LogicalTime → Type 0 = λ x. above x ≤ place (then_along s path) in
    at_update Q (Some g) (completed i) i j
    (λ q. (
    let R : ℕ → Type 0 = λ x. IsWalk n.connections c.target path x in
    let far = ahead c path (walk j (subst R q w)) in
    let S : LogicalTime → Type 0 = λ x. place g + 1 ≤ place (then_along x path) in
    let near : place g + 1 ≤ place (then_along (sum_of g c.delay) path) = omega arith in
    subst S (sym over.1) near))
    was)

pub messages_clear : (n : Network) (completed : ℕ → Option LogicalTime) (j : ℕ) (g γ : LogicalTime) (xs : List Signal) → AreMessages n j g xs → place g ≤ place γ → IsClear n completed j g → IsAhead n j j g γ → AreUpClear n (completed_with completed j g) xs
messages_clear n completed j g γ [] h within clear ahead = tt
messages_clear n completed j g γ (Net x ∷ rest) h within clear ahead = absurd h
messages_clear n completed j g γ (Ltc x ∷ rest) h within clear ahead = absurd h
messages_clear n completed j g γ (Tag x ∷ rest) h within clear ahead = absurd h
messages_clear n completed j g γ (Msg k s v ∷ rest) h within clear ahead =
    (sent_clear n completed j k g γ s (slice_get n.connections k) refl h.0 within clear ahead, messages_clear n completed j g γ rest h.1 within clear ahead)
