-- What the coordinator was told last, and where the tags in transit are: undone or on their way down.
use Rattle.std.proofs.Common.{◌≡◌, ℕ, ◌+◌, ◌≤◌, ◌⊎◌, inl, inr, Bool, true, false, cond, List, [], ◌∷◌, ◌++◌, refl, ap, subst, ◌∙◌, arith, min, Option, None, Some, ℤ}
use Rattle.std.specs.Prelude.{nat_lt, nat_eq, if◌then◌else◌}
use Rattle.std.proofs.lemmas.Bool.Decides.{nat_tests}
use Rattle.tag.specs.LogicalTime.{LogicalTime, IsLogicalTime, is_before, is_same, place}
use Rattle.tag.proofs.Order.{not_before_places, place_bound, same_is_equal, top}
use Rattle.signal.specs.declared.signal.Signal.{Signal}
use Rattle.signal.specs.declared.signal.Signal.TheVariants.{Net, Ltc, Tag, Msg}
use Rattle.network.specs.Undone.{PendingEvent, is_held_before, is_for_same, put, put_all, drop_up_to}
use Rattle.protocol.specs.FederateRecord.{FederateRecord}
use Rattle.protocol_laws.proofs.Transit.{least_above}
use Rattle.protocol_laws.proofs.StillUndone.{IsUndone}
use Rattle.protocol_laws.proofs.Tests.{both_left}

-- the least undone tag from a place on
abbrev pub undone_from : ℕ → List PendingEvent → ℕ
undone_from low [] = top
undone_from low (x ∷ rest) = if nat_lt (place x.tag) low then undone_from low rest else min (place x.tag) (undone_from low rest)

-- the least tag of a message from a place on
abbrev pub message_from : ℕ → List Signal → ℕ
message_from low [] = top
message_from low (Net g ∷ rest) = message_from low rest
message_from low (Ltc g ∷ rest) = message_from low rest
message_from low (Tag g ∷ rest) = message_from low rest
message_from low (Msg k g v ∷ rest) = if nat_lt (place g) low then message_from low rest else min (place g) (message_from low rest)

-- the last signal is this NET
abbrev pub EndsWithNet : LogicalTime → List Signal → Type 0
EndsWithNet g [] = ⊥
EndsWithNet g (x ∷ []) = x ≡ Net g
EndsWithNet g (x ∷ y ∷ rest) = EndsWithNet g (y ∷ rest)

-- the NET that was told is the last signal on its way, or the coordinator took it and nothing is on its way
abbrev pub IsTold : FederateRecord → Option LogicalTime → List Signal → Type 0
IsTold s None up = Unit {0}
IsTold s (Some g) up = EndsWithNet g up ⊎ ((up ≡ []) × (s.announced ≡ true) × (place s.next ≡ min (place g) (least_above 0 s.transit)))

pub ends_with : (g : LogicalTime) (up : List Signal) → EndsWithNet g (up ++ Net g ∷ [])
ends_with g [] = refl
ends_with g (x ∷ []) = refl
ends_with g (x ∷ y ∷ rest) = ends_with g (y ∷ rest)

-- with another signal taken first, while more are on their way
told_more : (s t : FederateRecord) (o : Option LogicalTime) (x y : Signal) (rest : List Signal) → IsTold s o (x ∷ y ∷ rest) → IsTold t o (y ∷ rest)
told_more s t None x y rest h = tt
told_more s t (Some g) x y rest (inl h) = inl h
told_more s t (Some g) x y rest (inr h) = let e = h.0 in cc

pub told_after_net : (s t : FederateRecord) (o : Option LogicalTime) (g : LogicalTime) (rest : List Signal) → t.announced ≡ true → place t.next ≡ min (place g) (least_above 0 t.transit) → IsTold s o (Net g ∷ rest) → IsTold t o rest
told_after_net s t None g rest a n h = tt
told_after_net s t (Some x) g [] a n (inl h) =
    let same : g ≡ x = cc in
    let P : LogicalTime → Type 0 = λ y. place t.next ≡ min (place y) (least_above 0 t.transit) in
    inr (refl, a, subst P same n)
told_after_net s t (Some x) g [] a n (inr h) = let e = h.0 in cc
told_after_net s t (Some x) g (y ∷ rest) a n h = told_more s t (Some x) (Net g) y rest h

pub told_after_ltc : (s t : FederateRecord) (o : Option LogicalTime) (c : LogicalTime) (rest : List Signal) → IsTold s o (Ltc c ∷ rest) → IsTold t o rest
told_after_ltc s t None c rest h = tt
told_after_ltc s t (Some x) c [] (inl h) = cc
told_after_ltc s t (Some x) c [] (inr h) = let e = h.0 in cc
told_after_ltc s t (Some x) c (y ∷ rest) h = told_more s t (Some x) (Ltc c) y rest h

pub told_after_message : (s : FederateRecord) (o : Option LogicalTime) (k : ℕ) (g : LogicalTime) (v : ℤ) (rest : List Signal) → IsTold s o (Msg k g v ∷ rest) → IsTold s o rest
told_after_message s None k g v rest h = tt
told_after_message s (Some x) k g v [] (inl h) = cc
told_after_message s (Some x) k g v [] (inr h) = let e = h.0 in cc
told_after_message s (Some x) k g v (y ∷ rest) h = told_more s s (Some x) (Msg k g v) y rest h

pub told_after_route : (s t : FederateRecord) (o : Option LogicalTime) (g : LogicalTime) (up : List Signal) → t.announced ≡ s.announced → place t.next ≡ min (place s.next) (place g) → least_above 0 t.transit ≡ min (place g) (least_above 0 s.transit) → IsTold s o up → IsTold t o up
told_after_route s t None g up a n l h = tt
told_after_route s t (Some x) g up a n l (inl h) = inl h
told_after_route s t (Some x) g up a n l (inr h) = let e = h.2 in inr (h.0, a ∙ h.1, omega arith)

pub message_within : (low : ℕ) (down : List Signal) → message_from low down ≤ top
message_within low [] = omega arith
message_within low (Net g ∷ rest) = message_within low rest
message_within low (Ltc g ∷ rest) = message_within low rest
message_within low (Tag g ∷ rest) = message_within low rest
message_within low (Msg k g v ∷ rest) = let r = message_within low rest in grind (arith, nat_tests)

pub message-append : (low : ℕ) (down more : List Signal) → message_from low (down ++ more) ≡ min (message_from low down) (message_from low more)
message-append low [] more = let w = message_within low more in omega arith
message-append low (Net g ∷ rest) more = message-append low rest more
message-append low (Ltc g ∷ rest) more = message-append low rest more
message-append low (Tag g ∷ rest) more = message-append low rest more
message-append low (Msg k g v ∷ rest) more = let r = message-append low rest more in grind (arith, nat_tests)

put_from : (low : ℕ) (e x : PendingEvent) (rest more : List PendingEvent) (b c : Bool) → (c ≡ true → e.tag ≡ x.tag) → undone_from low more ≤ undone_from low (e ∷ rest) → undone_from low (if b then e ∷ x ∷ rest else (if c then e ∷ rest else x ∷ more)) ≤ undone_from low (e ∷ x ∷ rest)
put_from low e x rest more true c s r = omega arith
put_from low e x rest more false true s r = let t = ap place (s refl) in grind (arith, nat_tests)
put_from low e x rest more false false s r = grind (arith, nat_tests)

-- with one more event
pub undone_after_put : (low : ℕ) (e : PendingEvent) (u : List PendingEvent) → undone_from low (put e u) ≤ undone_from low (e ∷ u)
undone_after_put low e [] = omega arith
undone_after_put low e (x ∷ rest) =
    put_from low e x rest (put e rest) (is_held_before e x) (is_for_same e x)
    (λ b. same_is_equal e.tag x.tag (both_left (is_same e.tag x.tag) (nat_eq e.slot x.slot) b)) (undone_after_put low e rest)

pub undone_with : (low : ℕ) (e : PendingEvent) (u : List PendingEvent) → undone_from low (e ∷ u) ≤ undone_from low u
undone_with low e u = grind (arith, nat_tests)

pub undone_after_all : (low : ℕ) (es u : List PendingEvent) → undone_from low (put_all es u) ≤ undone_from low u
undone_after_all low [] u = omega arith
undone_after_all low (e ∷ rest) u = let a = undone_after_all low rest (put e u) in let b = undone_after_put low e u in let c = undone_with low e u in omega arith

dropped_from : (low : ℕ) (g : LogicalTime) (x : PendingEvent) (kept rest : List PendingEvent) (b : Bool) → place g + 1 ≤ low → (b ≡ false → place x.tag ≤ place g) → undone_from low kept ≤ undone_from low rest → undone_from low (cond b (x ∷ kept) kept) ≤ undone_from low (x ∷ rest)
dropped_from low g x kept rest true l f r = grind (arith, nat_tests)
dropped_from low g x kept rest false l f r = let a = f refl in grind (arith, nat_tests)

-- with all up to a tag below dropped
pub undone_after_drop : (stop : LogicalTime) (start low : ℕ) (g : LogicalTime) (u : List PendingEvent) → IsLogicalTime g → place g + 1 ≤ low → IsUndone stop start u → undone_from low (drop_up_to g u) ≤ undone_from low u
undone_after_drop stop start low g [] p l h = omega arith
undone_after_drop stop start low g (x ∷ rest) p l h =
    dropped_from low g x (drop_up_to g rest) rest (is_before g x.tag) l (not_before_places g x.tag p h.0) (undone_after_drop stop (place x.tag) low g rest p l h.3)

-- none is before the first
pub first_is_least : (stop : LogicalTime) (start low : ℕ) (u : List PendingEvent) → start ≤ top → IsUndone stop start u → start ≤ undone_from low u
first_is_least stop start low [] s h = s
first_is_least stop start low (x ∷ rest) s h =
    let w = place_bound x.tag h.0 in
    let r = first_is_least stop (place x.tag) low rest w h.3 in
    let a = h.1 in
    grind (arith, nat_tests)

pub above_at_least : (low : ℕ) (xs : List LogicalTime) → low ≤ top → low ≤ least_above low xs
above_at_least low [] l = l
above_at_least low (x ∷ rest) l = let r = above_at_least low rest l in grind (arith, nat_tests)
