-- What is kept of the events by a test of their tags, and what holds of each event.
use Rattle.std.proofs.Common.{◌≡◌, Bool, true, false, cond, List, [], ◌∷◌, ◌++◌, refl, sym, ap, ◌∙◌, arith, Ordering, Less, Equal, Greater}
use Rattle.std.specs.Prelude.{filter}
use Rattle.std.specs.List.{AllByRecursion}
use Rattle.std.proofs.lemmas.Bool.Decides.{nat_tests}
use Rattle.tag.specs.LogicalTime.{LogicalTime, logical_time}
use Rattle.network.specs.Undone.{PendingEvent, put, put_all}
use Rattle.reactor_agenda.proofs.Order.{held_cmp}
use Rattle.reactor_agenda.proofs.Putting.{put_less, put_equal, put_greater, put_front, Above, above_less, Ordered, ordered_put}

same_parts : (g h : LogicalTime) → g.time ≡ h.time → g.microstep ≡ h.microstep → g ≡ h
same_parts g h t m = ap (λ time. logical_time time g.microstep) t ∙ ap (λ microstep. logical_time h.time microstep) m

-- equal in the order of events
pub same_tag : (a b : PendingEvent) → held_cmp a b ≡ Equal → a.tag ≡ b.tag
same_tag a b h =
    let t : a.tag.time ≡ b.tag.time = grind (arith, nat_tests) in
    let m : a.tag.microstep ≡ b.tag.microstep = grind (arith, nat_tests) in
    same_parts a.tag b.tag t m

pub same_slot : (a b : PendingEvent) → held_cmp a b ≡ Equal → a.slot ≡ b.slot
same_slot a b h = grind (arith, nat_tests)

module _ (P : PendingEvent → Type 0) where
  all_put_at : (e x : PendingEvent) (u : List PendingEvent) → P e → P x → AllByRecursion P u → AllByRecursion P (put e u) → (o : Ordering) → held_cmp e x ≡ o →
      AllByRecursion P (put e (x ∷ u))
  all_put_at e x u h k r more Less p = rw (put_less e x u p) (h, (k, r))
  all_put_at e x u h k r more Equal p = rw (put_equal e x u p) (h, r)
  all_put_at e x u h k r more Greater p = rw (put_greater e x u p) (k, more)

  pub all_put : (e : PendingEvent) (u : List PendingEvent) → P e → AllByRecursion P u → AllByRecursion P (put e u)
  all_put e [] h r = (h, tt)
  all_put e (x ∷ u) h r = all_put_at e x u h r.0 r.1 (all_put e u h r.1) (held_cmp e x) refl

  pub all_put_all : (es u : List PendingEvent) → AllByRecursion P es → AllByRecursion P u → AllByRecursion P (put_all es u)
  all_put_all [] u h r = r
  all_put_all (e ∷ es) u h r = all_put_all es (put e u) h.1 (all_put e u h.0 r)

  kept_if : (b : Bool) (e : PendingEvent) (rest : List PendingEvent) → P e → AllByRecursion P rest → AllByRecursion P (cond b (e ∷ rest) rest)
  kept_if true e rest h r = (h, r)
  kept_if false e rest h r = r

  pub all_filter : (p : PendingEvent → Bool) (u : List PendingEvent) → AllByRecursion P u → AllByRecursion P (filter p u)
  all_filter p [] r = tt
  all_filter p (x ∷ u) r = kept_if (p x) x (filter p u) r.0 (all_filter p u r.1)

  pub all_append : (xs ys : List PendingEvent) → AllByRecursion P xs → AllByRecursion P ys → AllByRecursion P (xs ++ ys)
  all_append [] ys h r = r
  all_append (x ∷ xs) ys h r = (h.0, all_append xs ys h.1 r)

-- a filter that keeps all, or none
pub filter_all : (p : PendingEvent → Bool) (u : List PendingEvent) → AllByRecursion (λ x. p x ≡ true) u → filter p u ≡ u
filter_all p [] r = refl
filter_all p (x ∷ u) r = ap (λ b. cond b (x ∷ filter p u) (filter p u)) r.0 ∙ ap (λ rest. x ∷ rest) (filter_all p u r.1)

pub filter_none : (p : PendingEvent → Bool) (u : List PendingEvent) → AllByRecursion (λ x. p x ≡ false) u → filter p u ≡ []
filter_none p [] r = refl
filter_none p (x ∷ u) r = ap (λ b. cond b (x ∷ filter p u) (filter p u)) r.0 ∙ filter_none p u r.1

twice_at : (p : PendingEvent → Bool) (x : PendingEvent) (u : List PendingEvent) → filter p (filter p u) ≡ filter p u → (b : Bool) → p x ≡ b →
    filter p (cond b (x ∷ filter p u) (filter p u)) ≡ cond b (x ∷ filter p u) (filter p u)
twice_at p x u more true h = ap (λ b. cond b (x ∷ filter p (filter p u)) (filter p (filter p u))) h ∙ ap (λ rest. x ∷ rest) more
twice_at p x u more false h = more

pub filter_twice : (p : PendingEvent → Bool) (u : List PendingEvent) → filter p (filter p u) ≡ filter p u
filter_twice p [] = refl
filter_twice p (x ∷ u) = twice_at p x u (filter_twice p u) (p x) refl

module _ (p : LogicalTime → Bool) where
  abbrev pub kept : List PendingEvent → List PendingEvent
  kept u = filter (λ e. p e.tag) u

  pub above_kept : (b : PendingEvent) (u : List PendingEvent) → Above b u → Above b (kept u)
  above_kept b u a = all_filter (λ x. held_cmp b x ≡ Less) (λ e. p e.tag) u a

  -- past the place where it goes
  passed : (e x : PendingEvent) (k : List PendingEvent) (bx be : Bool) → held_cmp e x ≡ Greater →
      cond bx (x ∷ cond be (put e k) k) (cond be (put e k) k) ≡ cond be (put e (cond bx (x ∷ k) k)) (cond bx (x ∷ k) k)
  passed e x k true true g = sym (put_greater e x k g)
  passed e x k true false g = refl
  passed e x k false true g = refl
  passed e x k false false g = refl

  replaced : (e x : PendingEvent) (k : List PendingEvent) (b : Bool) → held_cmp e x ≡ Equal →
      cond b (e ∷ k) k ≡ cond b (put e (cond b (x ∷ k) k)) (cond b (x ∷ k) k)
  replaced e x k true h = sym (put_equal e x k h)
  replaced e x k false h = refl

  kept_put_at : (e x : PendingEvent) (u : List PendingEvent) → Above x u → kept (put e u) ≡ cond (p e.tag) (put e (kept u)) (kept u) → (o : Ordering) → held_cmp e x ≡ o →
      kept (put e (x ∷ u)) ≡ cond (p e.tag) (put e (kept (x ∷ u))) (kept (x ∷ u))
  kept_put_at e x u a more Less h =
      let above : Above e (x ∷ u) = (h, above_less e x u h a) in
      ap kept (put_less e x u h) ∙ ap (λ l. cond (p e.tag) l (kept (x ∷ u))) (sym (put_front e (kept (x ∷ u)) (above_kept e (x ∷ u) above)))
  kept_put_at e x u a more Equal h =
      ap kept (put_equal e x u h) ∙ replaced e x (kept u) (p e.tag) h
      ∙ ap (λ b. cond (p e.tag) (put e (cond b (x ∷ kept u) (kept u))) (cond b (x ∷ kept u) (kept u))) (ap p (same_tag e x h))
  kept_put_at e x u a more Greater h =
      ap kept (put_greater e x u h) ∙ ap (λ l. cond (p x.tag) (x ∷ l) l) more ∙ passed e x (kept u) (p x.tag) (p e.tag) h

  pub kept_put : (e : PendingEvent) (u : List PendingEvent) → Ordered u → kept (put e u) ≡ cond (p e.tag) (put e (kept u)) (kept u)
  kept_put e [] r = refl
  kept_put e (x ∷ u) r = kept_put_at e x u r.0 (kept_put e u r.1) (held_cmp e x) refl

  put_if : (b : Bool) (x : PendingEvent) (es u : List PendingEvent) → put_all es (cond b (put x u) u) ≡ put_all (cond b (x ∷ es) es) u
  put_if true x es u = refl
  put_if false x es u = refl

  -- keeping goes over to what is put
  pub kept_put_all : (es u : List PendingEvent) → Ordered u → kept (put_all es u) ≡ put_all (kept es) (kept u)
  kept_put_all [] u r = refl
  kept_put_all (e ∷ es) u r =
      kept_put_all es (put e u) (ordered_put e u r) ∙ ap (put_all (kept es)) (kept_put e u r) ∙ put_if (p e.tag) e (kept es) (kept u)
