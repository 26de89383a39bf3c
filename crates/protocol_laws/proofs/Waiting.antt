-- What waits for a slot at a tag: on queues the last message for it, and what is undone.
use Rattle.std.proofs.Common.{◌≡◌, ℕ, ◌<◌, ◌≤◌, Bool, true, false, cond, List, [], ◌∷◌, ◌++◌, refl, sym, ap, ◌∙◌, arith, Option, None, Some, ℤ}
use Rattle.std.specs.Prelude.{slice_get, nat_eq, if◌then◌else◌, ◌&&◌}
use Rattle.std.proofs.lemmas.Bool.{false_from_ne_true, eqb-true}
use Rattle.std.proofs.lemmas.Bool.Decides.{nat_tests}
use Rattle.tag.specs.LogicalTime.{LogicalTime, IsLogicalTime, is_before, is_same, place}
use Rattle.tag.proofs.Order.{equal_places, not_before_places, same_is_equal}
use Rattle.network.specs.Connection.{Connection}
use Rattle.network.specs.Network.{Network}
use Rattle.signal.specs.declared.signal.Signal.{Signal}
use Rattle.signal.specs.declared.signal.Signal.TheVariants.{Net, Ltc, Tag, Msg}
use Rattle.network_laws.specs.Newest.{or_else}
use Rattle.network_laws.proofs.LookUps.{or_nothing, or_apart}
use Rattle.network_laws.proofs.Maker.{maker}
use Rattle.network.specs.Undone.{PendingEvent, put, put_all, look, drop_up_to, is_held_before, is_for_same}
use Rattle.protocol.specs.Machine.{Member}
use Rattle.protocol_laws.proofs.Tags.{above}
use Rattle.protocol_laws.proofs.StillUndone.{IsUndone}
use Rattle.protocol_laws.proofs.Tests.{both_left, both_right}
use Rattle.protocol_laws.proofs.Clear.{AreClear, IsClearOver, AreUpClear, AreDownClear, completed_of}
use Rattle.protocol_laws.proofs.ClearRuns.{AllClear}

-- the connection leads to this slot of this reactor
abbrev pub leads_to : Option Connection → ℕ → ℕ → Bool
leads_to None a slot = false
leads_to (Some c) a slot = nat_eq c.target a && nat_eq c.slot slot

-- what a message over a connection brings to a slot at a tag
abbrev pub brought_over : Option Connection → LogicalTime → ℤ → ℕ → LogicalTime → ℕ → Option ℤ
brought_over o s v a t slot = if leads_to o a slot && is_same s t then Some v else None

-- what the last message on a queue brings there
abbrev pub last_message : Network → ℕ → LogicalTime → ℕ → List Signal → Option ℤ
last_message n a t slot [] = None
last_message n a t slot (Net g ∷ rest) = last_message n a t slot rest
last_message n a t slot (Ltc g ∷ rest) = last_message n a t slot rest
last_message n a t slot (Tag g ∷ rest) = last_message n a t slot rest
last_message n a t slot (Msg k s v ∷ rest) = or_else (last_message n a t slot rest) (brought_over (slice_get n.connections k) s v a t slot)

-- what waits: on its way up from the one that makes it, else on its way down, else undone
abbrev pub waiting : Network → (ℕ → Member) → ℕ → LogicalTime → ℕ → Option ℤ
waiting n members a t slot =
    or_else (last_message n a t slot (members (maker n a slot)).up)
    (or_else (last_message n a t slot (members a).down) (look (members a).federate.undone t slot))

pub or_first : (a b : Option ℤ) → or_else a b ≡ None → a ≡ None
or_first None b h = refl
or_first (Some x) b h = h

pub or_second : (a b : Option ℤ) → or_else a b ≡ None → b ≡ None
or_second None b h = h
or_second (Some x) b h = cc

pub last_message-append : (n : Network) (a : ℕ) (t : LogicalTime) (slot : ℕ) (xs ys : List Signal) → last_message n a t slot (xs ++ ys) ≡ or_else (last_message n a t slot ys) (last_message n a t slot xs)
last_message-append n a t slot [] ys = sym (or_nothing (last_message n a t slot ys))
last_message-append n a t slot (Net g ∷ rest) ys = last_message-append n a t slot rest ys
last_message-append n a t slot (Ltc g ∷ rest) ys = last_message-append n a t slot rest ys
last_message-append n a t slot (Tag g ∷ rest) ys = last_message-append n a t slot rest ys
last_message-append n a t slot (Msg k s v ∷ rest) ys =
    let this : Option ℤ = brought_over (slice_get n.connections k) s v a t slot in
    ap (λ (x : Option ℤ). or_else x this) (last_message-append n a t slot rest ys) ∙ or_apart (last_message n a t slot ys) (last_message n a t slot rest) this

drop_found : (x : PendingEvent) (rest kept : List PendingEvent) (t : LogicalTime) (slot : ℕ) (b : Bool) → (b ≡ false → (is_same x.tag t && nat_eq x.slot slot) ≡ false) → look kept t slot ≡ look rest t slot → look (cond b (x ∷ kept) kept) t slot ≡ look (x ∷ rest) t slot
drop_found x rest kept t slot true f r = ap (λ (o : Option ℤ). if is_same x.tag t && nat_eq x.slot slot then Some x.value else o) r
drop_found x rest kept t slot false f r = r ∙ sym (ap (λ (b : Bool). if b then Some x.value else look rest t slot) (f refl))

-- where the first tag is dropped, all others stay
pub look_drop : (stop : LogicalTime) (low : ℕ) (g t : LogicalTime) (slot : ℕ) (u : List PendingEvent) → IsLogicalTime g → place g ≤ low → IsUndone stop low u → (g ≡ t → ⊥) → look (drop_up_to g u) t slot ≡ look u t slot
look_drop stop low g t slot [] p l h other = refl
look_drop stop low g t slot (x ∷ rest) p l h other =
    let a = h.1 in
    drop_found x rest (drop_up_to g rest) t slot (is_before g x.tag)
    (λ e. false_from_ne_true (is_same x.tag t && nat_eq x.slot slot) (λ k. (
    let high = not_before_places g x.tag p h.0 e in
    other (equal_places g x.tag p h.0 (omega arith) ∙ same_is_equal x.tag t (both_left (is_same x.tag t) (nat_eq x.slot slot) k)))))
    (look_drop stop (place x.tag) g t slot rest p (omega arith) h.3 other)

pub brought_none : (o : Option Connection) (s : LogicalTime) (v : ℤ) (a : ℕ) (t : LogicalTime) (slot : ℕ) → (leads_to o a slot ≡ true → s ≡ t → ⊥) → brought_over o s v a t slot ≡ None
brought_none o s v a t slot h =
    ap (λ (b : Bool). if b then Some v else None)
    (false_from_ne_true (leads_to o a slot && is_same s t) (λ k. h (both_left (leads_to o a slot) (is_same s t) k) (same_is_equal s t (both_right (leads_to o a slot) (is_same s t) k))))

-- nothing waits at a completed tag
over_none : (n : Network) (completed : ℕ → Option LogicalTime) (o : Option Connection) (s : LogicalTime) (v : ℤ) (a : ℕ) (t : LogicalTime) (slot : ℕ) → place t < above (completed a) → IsClearOver n completed o s → brought_over o s v a t slot ≡ None
over_none n completed None s v a t slot l clear = refl
over_none n completed (Some c) s v a t slot l clear =
    brought_none (Some c) s v a t slot (λ k e. (
    let there : c.target ≡ a = eqb-true c.target a (both_left (nat_eq c.target a) (nat_eq c.slot slot) k) in
    let low : above (completed a) ≤ place s = clear a [] there in
    let same : place s ≡ place t = ap place e in
    omega arith))

pub up_none : (n : Network) (completed : ℕ → Option LogicalTime) (a : ℕ) (t : LogicalTime) (slot : ℕ) (up : List Signal) → place t < above (completed a) → AreUpClear n completed up → last_message n a t slot up ≡ None
up_none n completed a t slot [] l clear = refl
up_none n completed a t slot (Net g ∷ rest) l clear = up_none n completed a t slot rest l clear
up_none n completed a t slot (Ltc g ∷ rest) l clear = up_none n completed a t slot rest l clear
up_none n completed a t slot (Tag g ∷ rest) l clear = up_none n completed a t slot rest l clear
up_none n completed a t slot (Msg k s v ∷ rest) l clear =
    let first = over_none n completed (slice_get n.connections k) s v a t slot l clear.0 in
    let others = up_none n completed a t slot rest l clear.1 in
    λ y. or_else (others y) (first y)

pub down_none : (n : Network) (completed : ℕ → Option LogicalTime) (a : ℕ) (t : LogicalTime) (slot : ℕ) (down : List Signal) → place t < above (completed a) → AreDownClear n completed a down → last_message n a t slot down ≡ None
down_none n completed a t slot [] l clear = refl
down_none n completed a t slot (Net g ∷ rest) l clear = down_none n completed a t slot rest l clear
down_none n completed a t slot (Ltc g ∷ rest) l clear = down_none n completed a t slot rest l clear
down_none n completed a t slot (Tag g ∷ rest) l clear = down_none n completed a t slot rest l clear
down_none n completed a t slot (Msg k s v ∷ rest) l clear =
    let first = brought_none (slice_get n.connections k) s v a t slot (λ b e. (let low = clear.0 a [] refl in let same : place s ≡ place t = ap place e in omega arith)) in
    let others = down_none n completed a t slot rest l clear.1 in
    λ y. or_else (others y) (first y)

pub held_none : (n : Network) (completed : ℕ → Option LogicalTime) (a : ℕ) (t : LogicalTime) (slot : ℕ) (u : List PendingEvent) → place t < above (completed a) → AreClear n completed a u → look u t slot ≡ None
held_none n completed a t slot [] l clear = refl
held_none n completed a t slot (x ∷ rest) l clear =
    let other : (is_same x.tag t && nat_eq x.slot slot) ≡ false = false_from_ne_true (is_same x.tag t && nat_eq x.slot slot) (λ k. (
    let low = clear.0 a [] refl in
    let same : place x.tag ≡ place t = ap place (same_is_equal x.tag t (both_left (is_same x.tag t) (nat_eq x.slot slot) k)) in
    omega arith)) in
    ap (λ (b : Bool). if b then Some x.value else look rest t slot) other ∙ held_none n completed a t slot rest l clear.1

pub waiting_none : (n : Network) (members : ℕ → Member) (a : ℕ) (t : LogicalTime) (slot : ℕ) → place t < above (completed_of members a) → AllClear n members → waiting n members a t slot ≡ None
waiting_none n members a t slot l clear =
    let up = up_none n (completed_of members) a t slot (members (maker n a slot)).up l (clear (maker n a slot)).upward in
    let down = down_none n (completed_of members) a t slot (members a).down l (clear a).downward in
    let held = held_none n (completed_of members) a t slot (members a).federate.undone l (clear a).held in
    λ y. or_else (up y) (or_else (down y) (held y))
