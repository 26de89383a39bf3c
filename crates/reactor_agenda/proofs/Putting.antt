-- Putting events: in which order they are put doesn't matter where they are for different slots or tags.
use Rattle.std.proofs.Common.{◌≡◌, ℕ, ◌+◌, ◌<◌, length, get_or, take, true, cond, List, [], ◌∷◌, ◌++◌, refl, sym, ap, ◌∙◌, IsTrue, Ordering, Less, Equal, Greater}
use Rattle.std.specs.List.{AllByRecursion}
use Rattle.std.specs.Ordering.{match_ordering, ordering_reverse}
use Rattle.std.proofs.lemmas.List.Elements.{filter_more}
use Rattle.std.proofs.lemmas.Cmp.{tied_back, alike_right}
use Rattle.tag.specs.LogicalTime.{LogicalTime, is_at_most}
use Rattle.network.specs.Undone.{PendingEvent, is_held_before, put, put_all, Rises}
use Rattle.reactor_agenda.specs.Agenda.{in_time}
use Rattle.reactor_agenda.proofs.Order.{held_cmp, held_total, put_by, less_is, is_less}

pub put_less : (e x : PendingEvent) (rest : List PendingEvent) → held_cmp e x ≡ Less → put e (x ∷ rest) ≡ e ∷ x ∷ rest
put_less e x rest h = put_by e x rest ∙ ap (λ o. match_ordering o (e ∷ x ∷ rest) (e ∷ rest) (x ∷ put e rest)) h

pub put_equal : (e x : PendingEvent) (rest : List PendingEvent) → held_cmp e x ≡ Equal → put e (x ∷ rest) ≡ e ∷ rest
put_equal e x rest h = put_by e x rest ∙ ap (λ o. match_ordering o (e ∷ x ∷ rest) (e ∷ rest) (x ∷ put e rest)) h

pub put_greater : (e x : PendingEvent) (rest : List PendingEvent) → held_cmp e x ≡ Greater → put e (x ∷ rest) ≡ x ∷ put e rest
put_greater e x rest h = put_by e x rest ∙ ap (λ o. match_ordering o (e ∷ x ∷ rest) (e ∷ rest) (x ∷ put e rest)) h

pub turned : (a b : PendingEvent) → held_cmp a b ≡ Less → held_cmp b a ≡ Greater
turned a b h = held_total.antisymm b a ∙ ap ordering_reverse h

pub turned_back : (a b : PendingEvent) → held_cmp a b ≡ Greater → held_cmp b a ≡ Less
turned_back a b h = held_total.antisymm b a ∙ ap ordering_reverse h

-- two events for different slots or tags may be put in either order
swap_at :
    (a b x : PendingEvent) (rest : List PendingEvent) → held_cmp a b ≡ Less → put a (put b rest) ≡ put b (put a rest) → (p q : Ordering) →
    held_cmp a x ≡ p → held_cmp b x ≡ q → put a (put b (x ∷ rest)) ≡ put b (put a (x ∷ rest))
swap_at a b x rest h more Less Less p q =
    let e1 = put_less b x rest q in let e2 = put_less a b (x ∷ rest) h in let e3 = put_less a x rest p in
    let e4 = put_greater b a (x ∷ rest) (turned a b h) in cc
swap_at a b x rest h more Less Equal p q =
    let e1 = put_equal b x rest q in let e2 = put_less a b rest h in let e3 = put_less a x rest p in
    let e4 = put_greater b a (x ∷ rest) (turned a b h) in cc
swap_at a b x rest h more Less Greater p q =
    let e1 = put_greater b x rest q in let e2 = put_less a x (put b rest) p in let e3 = put_less a x rest p in
    let e4 = put_greater b a (x ∷ rest) (turned a b h) in cc
swap_at a b x rest h more Equal Less p q =
    let e1 = held_total.congr a x b p in let e2 = turned b x q in cc
swap_at a b x rest h more Equal Equal p q =
    let e1 = held_total.congr a x b p in let e2 = tied_back held_total b x q in cc
swap_at a b x rest h more Equal Greater p q =
    let e1 = put_greater b x rest q in let e2 = put_equal a x (put b rest) p in let e3 = put_equal a x rest p in
    let e4 = put_greater b a rest (turned a b h) in cc
swap_at a b x rest h more Greater Less p q =
    let e1 = held_total.trans a b x h q in cc
swap_at a b x rest h more Greater Equal p q =
    let e1 = alike_right held_total b x a q in cc
swap_at a b x rest h more Greater Greater p q =
    let e1 = put_greater b x rest q in let e2 = put_greater a x (put b rest) p in let e3 = put_greater a x rest p in
    let e4 = put_greater b x (put a rest) q in cc

pub swap : (a b : PendingEvent) → held_cmp a b ≡ Less → (u : List PendingEvent) → put a (put b u) ≡ put b (put a u)
swap a b h [] = let e1 = put_less a b [] h in let e2 = put_greater b a [] (turned a b h) in cc
swap a b h (x ∷ rest) = swap_at a b x rest h (swap a b h rest) (held_cmp a x) (held_cmp b x) refl refl

-- the later of two events for one slot at one tag
over_at :
    (a b x : PendingEvent) (rest : List PendingEvent) → held_cmp a b ≡ Equal → put a (put b rest) ≡ put a rest → (q : Ordering) →
    held_cmp b x ≡ q → put a (put b (x ∷ rest)) ≡ put a (x ∷ rest)
over_at a b x rest h more Less q =
    let e0 = held_total.congr a b x h in let e1 = put_less b x rest q in let e2 = put_equal a b (x ∷ rest) h in
    let e3 = put_less a x rest (e0 ∙ q) in cc
over_at a b x rest h more Equal q =
    let e0 = held_total.congr a b x h in let e1 = put_equal b x rest q in let e2 = put_equal a b rest h in
    let e3 = put_equal a x rest (e0 ∙ q) in cc
over_at a b x rest h more Greater q =
    let e0 = held_total.congr a b x h in let e1 = put_greater b x rest q in let e2 = put_greater a x (put b rest) (e0 ∙ q) in
    let e3 = put_greater a x rest (e0 ∙ q) in cc

pub over : (a b : PendingEvent) → held_cmp a b ≡ Equal → (u : List PendingEvent) → put a (put b u) ≡ put a u
over a b h [] = put_equal a b [] h
over a b h (x ∷ rest) = over_at a b x rest h (over a b h rest) (held_cmp b x) refl

-- the event is before all of these
abbrev pub Above : PendingEvent → List PendingEvent → Type 0
Above e xs = AllByRecursion (λ x. held_cmp e x ≡ Less) xs

-- each is before all that follow
abbrev pub Ordered : List PendingEvent → Type 0
Ordered [] = Unit {0}
Ordered (x ∷ xs) = Above x xs × Ordered xs

pub above_less : (e x : PendingEvent) (xs : List PendingEvent) → held_cmp e x ≡ Less → Above x xs → Above e xs
above_less e x [] h a = tt
above_less e x (y ∷ ys) h a = (held_total.trans e x y h a.0, above_less e x ys h a.1)

pub above_equal : (e x : PendingEvent) (xs : List PendingEvent) → held_cmp e x ≡ Equal → Above x xs → Above e xs
above_equal e x [] h a = tt
above_equal e x (y ∷ ys) h a = (held_total.congr e x y h ∙ a.0, above_equal e x ys h a.1)

above_put_at :
    (b e x : PendingEvent) (xs : List PendingEvent) → held_cmp b e ≡ Less → held_cmp b x ≡ Less → Above b xs → Above b (put e xs) → (o : Ordering) →
    held_cmp e x ≡ o → Above b (put e (x ∷ xs))
above_put_at b e x xs h k a more Less p = rw (put_less e x xs p) (h, (k, a))
above_put_at b e x xs h k a more Equal p = rw (put_equal e x xs p) (h, a)
above_put_at b e x xs h k a more Greater p = rw (put_greater e x xs p) (k, more)

pub above_put : (b e : PendingEvent) (xs : List PendingEvent) → held_cmp b e ≡ Less → Above b xs → Above b (put e xs)
above_put b e [] h a = (h, tt)
above_put b e (x ∷ xs) h a = above_put_at b e x xs h a.0 a.1 (above_put b e xs h a.1) (held_cmp e x) refl

ordered_put_at : (e x : PendingEvent) (xs : List PendingEvent) → Above x xs → Ordered xs → Ordered (put e xs) → (o : Ordering) → held_cmp e x ≡ o → Ordered (put e (x ∷ xs))
ordered_put_at e x xs a r more Less p = rw (put_less e x xs p) ((p, above_less e x xs p a), (a, r))
ordered_put_at e x xs a r more Equal p = rw (put_equal e x xs p) (above_equal e x xs p a, r)
ordered_put_at e x xs a r more Greater p = rw (put_greater e x xs p) (above_put x e xs (turned_back e x p) a, more)

pub ordered_put : (e : PendingEvent) (xs : List PendingEvent) → Ordered xs → Ordered (put e xs)
ordered_put e [] r = (tt, tt)
ordered_put e (x ∷ xs) r = ordered_put_at e x xs r.0 r.1 (ordered_put e xs r.1) (held_cmp e x) refl

pub ordered_put_all : (es xs : List PendingEvent) → Ordered xs → Ordered (put_all es xs)
ordered_put_all [] xs r = r
ordered_put_all (e ∷ es) xs r = ordered_put_all es (put e xs) (ordered_put e xs r)

-- an event that is before all that are put may be put first or last
pub put_first : (e : PendingEvent) (xs u : List PendingEvent) → Above e xs → put_all xs (put e u) ≡ put e (put_all xs u)
put_first e [] u a = refl
put_first e (x ∷ xs) u a = ap (put_all xs) (sym (swap e x a.0 u)) ∙ put_first e xs (put x u) a.1

put_among_at :
    (e x : PendingEvent) (xs u : List PendingEvent) → Above x xs → put_all (put e xs) (put x u) ≡ put e (put_all xs (put x u)) → (o : Ordering) → held_cmp e x ≡ o →
    put_all (put e (x ∷ xs)) u ≡ put e (put_all (x ∷ xs) u)
put_among_at e x xs u a more Less p = rw (put_less e x xs p) (put_first e (x ∷ xs) u (p, above_less e x xs p a))
put_among_at e x xs u a more Equal p =
    rw (put_equal e x xs p) (ap (put_all xs) (sym (over e x p u)) ∙ put_first e xs (put x u) (above_equal e x xs p a))
put_among_at e x xs u a more Greater p = rw (put_greater e x xs p) more

-- one more among those that are put is one put last
pub put_among : (e : PendingEvent) (xs u : List PendingEvent) → Ordered xs → put_all (put e xs) u ≡ put e (put_all xs u)
put_among e [] u r = refl
put_among e (x ∷ xs) u r = put_among_at e x xs u r.0 (put_among e xs (put x u) r.1) (held_cmp e x) refl

pub put_all_among : (es xs u : List PendingEvent) → Ordered xs → put_all (put_all es xs) u ≡ put_all es (put_all xs u)
put_all_among [] xs u r = refl
put_all_among (e ∷ es) xs u r = put_all_among es (put e xs) u (ordered_put e xs r) ∙ ap (put_all es) (put_among e xs u r)

pub put_all-append : (xs ys u : List PendingEvent) → put_all (xs ++ ys) u ≡ put_all ys (put_all xs u)
put_all-append [] ys u = refl
put_all-append (x ∷ xs) ys u = put_all-append xs ys (put x u)

-- before all that is undone, an event goes to the front
pub put_front : (e : PendingEvent) (u : List PendingEvent) → Above e u → put e u ≡ e ∷ u
put_front e [] a = refl
put_front e (x ∷ u) a = put_less e x u a.0

-- in order in both spellings
rises_above : (e : PendingEvent) (u : List PendingEvent) → Above e u → AllByRecursion (λ x. IsTrue (is_held_before e x)) u
rises_above e [] a = tt
rises_above e (x ∷ u) a = (is_less e x a.0, rises_above e u a.1)

pub rises : (u : List PendingEvent) → Ordered u → Rises u
rises [] r = tt
rises (e ∷ u) r = (rises_above e u r.0, rises u r.1)

above_rises : (e : PendingEvent) (u : List PendingEvent) → AllByRecursion (λ x. IsTrue (is_held_before e x)) u → Above e u
above_rises e [] a = tt
above_rises e (x ∷ u) a = (less_is e x a.0, above_rises e u a.1)

pub ordered : (u : List PendingEvent) → Rises u → Ordered u
ordered [] r = tt
ordered (e ∷ u) r = (above_rises e u r.0, ordered u r.1)

-- one more of a list is put
pub put_more :
    (stop : LogicalTime) (events : List PendingEvent) (i : ℕ) (e : PendingEvent) (u : List PendingEvent) → i < length events → e ≡ get_or events i e → is_at_most e.tag stop ≡ true →
    put_all (in_time stop (take (i + 1) events)) u ≡ put e (put_all (in_time stop (take i events)) u)
put_more stop events i e u h is early =
    ap (λ es. put_all es u) (filter_more (λ x. is_at_most x.tag stop) events i e h ∙ ap (λ x. in_time stop (take i events) ++ cond (is_at_most x.tag stop) (x ∷ []) []) (sym is)
    ∙ ap (λ b. in_time stop (take i events) ++ cond b (e ∷ []) []) early)
    ∙ put_all-append (in_time stop (take i events)) (e ∷ []) u
