-- The states of a division, line by line.
use Rattle.std.proofs.Common.{◌≡◌, ◌≢◌, ℕ, ◌+◌, ◌<◌, ◌≤◌, ℤ, pos, ◌+ℤ◌, Bool, true, false, cond, length, Option, Some, refl, sym, ap, ◌∙◌, subst, arith}
use Rattle.std.specs.Prelude.{slice_get, unwrap_or, int_lt}
use Rattle.std.specs.Ordering.{int_eq}
use Rattle.std.specs.Int.{w64, int_wrapping_sub}
use Rattle.network.specs.Network.{Effect}
use Rattle.reactor_program.specs.declared.program.Operand.TheVariants.{Number, State}
use Rattle.reactor_program.specs.declared.program.Operator.TheVariants.{Minus, Less}
use Rattle.reactor_program.specs.declared.program.Expression.{Expression}
use Rattle.reactor_program.specs.declared.program.Expression.TheVariants.{Binary}
use Rattle.reactor.specs.Effect.{truth_value, operand_value, expression_value, after_line}
use Rattle.expand_expressions.specs.Division.{assigned, assigned_where, taken_off}
use Rattle.expand_expressions.specs.Laws.{KeepsBelow, after_lines}
use Rattle.expand_expressions.proofs.Keeping.{get_set_same, get_set_other, with_state, with_state_keeps, keeps_trans}

-- the scratch states are there
pub record Room (free : ℕ) (q : Bool) (n : ℕ) : Type 0 where
  pub rest : free + 1 < n
  pub more : free + 2 < n
  pub quotient : q ≡ true → free + 3 < n

-- what is divided, what is left of it, and the quotient so far
pub record Dividing (free : ℕ) (q : Bool) (begin e : Effect) (number rest quotient : ℤ) : Type 0 where
  pub keeps : KeepsBelow free begin e
  pub number_is : slice_get e.states free ≡ Some number
  pub rest_is : slice_get e.states (free + 1) ≡ Some rest
  pub quotient_is : q ≡ true → slice_get e.states (free + 3) ≡ Some quotient

-- and whether the next step is to be done
pub record Marked (free : ℕ) (q : Bool) (begin e : Effect) (number rest quotient : ℤ) (b : Bool) : Type 0 where
  pub dividing : Dividing free q begin e number rest quotient
  pub more_is : slice_get e.states (free + 2) ≡ Some (truth_value b)

keeps_set : (free : ℕ) (begin e : Effect) (k : ℕ) (v : ℤ) → free ≤ k → KeepsBelow free begin e → KeepsBelow free begin (with_state e k v)
keeps_set free begin e k v above keeps = keeps_trans free free begin e (with_state e k v) (omega arith) keeps (with_state_keeps free e k v above)

pub mark : (free : ℕ) (q : Bool) (begin e : Effect) (number rest quotient v : ℤ) (b : Bool) → Room free q (length begin.states) → v ≡ truth_value b → Dividing free q begin e number rest quotient →
    Marked free q begin (with_state e (free + 2) v) number rest quotient b
mark free q begin e number rest quotient v b room is d =
    let there : free + 2 < length e.states = omega (arith, d.keeps.count, room.more) in
    record {
      dividing = record {
        keeps = keeps_set free begin e (free + 2) v (omega arith) d.keeps;
        number_is = let other : free ≢ free + 2 = λ same. omega arith in get_set_other e.states (free + 2) free v other ∙ d.number_is;
        rest_is = let other : free + 1 ≢ free + 2 = λ same. omega arith in get_set_other e.states (free + 2) (free + 1) v other ∙ d.rest_is;
        quotient_is = λ is. let other : free + 3 ≢ free + 2 = λ same. omega arith in get_set_other e.states (free + 2) (free + 3) v other ∙ d.quotient_is is;
      };
      more_is = get_set_same e.states (free + 2) v there ∙ ap Some is;
    }

pub rest_set : (free : ℕ) (q : Bool) (begin e : Effect) (number rest quotient v w : ℤ) → Room free q (length begin.states) → v ≡ w → Dividing free q begin e number rest quotient →
    Dividing free q begin (with_state e (free + 1) v) number w quotient
rest_set free q begin e number rest quotient v w room is d =
    let there : free + 1 < length e.states = omega (arith, d.keeps.count, room.rest) in
    record {
      keeps = keeps_set free begin e (free + 1) v (omega arith) d.keeps;
      number_is = let other : free ≢ free + 1 = λ same. omega arith in get_set_other e.states (free + 1) free v other ∙ d.number_is;
      rest_is = get_set_same e.states (free + 1) v there ∙ ap Some is;
      quotient_is = λ is. let other : free + 3 ≢ free + 1 = λ same. omega arith in get_set_other e.states (free + 1) (free + 3) v other ∙ d.quotient_is is;
    }

pub quotient_set : (free : ℕ) (q : Bool) (begin e : Effect) (number rest quotient v w : ℤ) → Room free q (length begin.states) → q ≡ true → v ≡ w → Dividing free q begin e number rest quotient →
    Dividing free q begin (with_state e (free + 3) v) number rest w
quotient_set free q begin e number rest quotient v w room is_quotient is d =
    let here : free + 3 < length begin.states = room.quotient is_quotient in
    let there : free + 3 < length e.states = omega (arith, d.keeps.count, here) in
    record {
      keeps = keeps_set free begin e (free + 3) v (omega arith) d.keeps;
      number_is = let other : free ≢ free + 3 = λ same. omega arith in get_set_other e.states (free + 3) free v other ∙ d.number_is;
      rest_is = let other : free + 1 ≢ free + 3 = λ same. omega arith in get_set_other e.states (free + 3) (free + 1) v other ∙ d.rest_is;
      quotient_is = λ yes. get_set_same e.states (free + 3) v there ∙ ap Some is;
    }

-- what a state holds is read
pub state_read : (present : ℕ → Option ℤ) (e : Effect) (k : ℕ) (v : ℤ) → slice_get e.states k ≡ Some v → operand_value e.states present (State k) ≡ v
state_read present e k v is = ap (λ o. unwrap_or o (pos 0)) is

-- a line that is done where a state isn't 0
pub where_line : (present : ℕ → Option ℤ) (e : Effect) (c k : ℕ) (x : Expression) (b : Bool) → slice_get e.states c ≡ Some (truth_value b) →
    after_line present e (assigned_where c k x) ≡ cond b (with_state e k (expression_value e.states present x)) e
where_line present e c k x b is =
    let done = with_state e k (expression_value e.states present x) in
    let P : Option ℤ → Type 0 = λ o. cond (cond (int_eq (unwrap_or o (pos 0)) (pos 0)) false true) done e ≡ cond b done e in
    subst P (sym is) (at b done e)
  where
    at : (b : Bool) (done e : Effect) → cond (cond (int_eq (truth_value b) (pos 0)) false true) done e ≡ cond b done e
    at true done e = refl
    at false done e = refl

-- a part is taken off
rest_line : (present : ℕ → Option ℤ) (free : ℕ) (q : Bool) (begin e : Effect) (number rest quotient part : ℤ) (b : Bool) → Room free q (length begin.states) → Marked free q begin e number rest quotient b →
    Marked free q begin (after_line present e (assigned_where (free + 2) (free + 1) (Binary (State (free + 1)) Minus (Number part)))) number (cond b (int_wrapping_sub w64 rest part) rest) quotient b
rest_line present free q begin e number rest quotient part true room m =
    let x = Binary (State (free + 1)) Minus (Number part) in
    let v = expression_value e.states present x in
    let is : v ≡ int_wrapping_sub w64 rest part = ap (λ v. int_wrapping_sub w64 v part) (state_read present e (free + 1) rest m.dividing.rest_is) in
    let other : free + 2 ≢ free + 1 = λ same. omega arith in
    let after : Marked free q begin (with_state e (free + 1) v) number (int_wrapping_sub w64 rest part) quotient true = record {
      dividing = rest_set free q begin e number rest quotient v (int_wrapping_sub w64 rest part) room is m.dividing;
      more_is = get_set_other e.states (free + 1) (free + 2) v other ∙ m.more_is;
    } in
    subst (λ e. Marked free q begin e number (int_wrapping_sub w64 rest part) quotient true) (sym (where_line present e (free + 2) (free + 1) x true m.more_is)) after
rest_line present free q begin e number rest quotient part false room m =
    let x = Binary (State (free + 1)) Minus (Number part) in
    subst (λ e. Marked free q begin e number rest quotient false) (sym (where_line present e (free + 2) (free + 1) x false m.more_is)) m

quotient_line : (present : ℕ → Option ℤ) (free : ℕ) (begin e : Effect) (number rest quotient weight : ℤ) (b : Bool) → Room free true (length begin.states) → Marked free true begin e number rest quotient b →
    Dividing free true begin (after_line present e (assigned_where (free + 2) (free + 3) (Binary (State (free + 3)) Minus (Number weight)))) number rest (cond b (int_wrapping_sub w64 quotient weight) quotient)
quotient_line present free begin e number rest quotient weight true room m =
    let x = Binary (State (free + 3)) Minus (Number weight) in
    let v = expression_value e.states present x in
    let is : v ≡ int_wrapping_sub w64 quotient weight = ap (λ v. int_wrapping_sub w64 v weight) (state_read present e (free + 3) quotient (m.dividing.quotient_is refl)) in
    subst (λ e. Dividing free true begin e number rest (int_wrapping_sub w64 quotient weight)) (sym (where_line present e (free + 2) (free + 3) x true m.more_is))
    (quotient_set free true begin e number rest quotient v (int_wrapping_sub w64 quotient weight) room refl is m.dividing)
quotient_line present free begin e number rest quotient weight false room m =
    let x = Binary (State (free + 3)) Minus (Number weight) in
    subst (λ e. Dividing free true begin e number rest quotient) (sym (where_line present e (free + 2) (free + 3) x false m.more_is)) m.dividing

test_line : (present : ℕ → Option ℤ) (free : ℕ) (q : Bool) (begin e : Effect) (number rest quotient part : ℤ) (b : Bool) → Room free q (length begin.states) → int_lt rest (part +ℤ pos 1) ≡ b → Dividing free q begin e number rest quotient →
    Marked free q begin (after_line present e (assigned (free + 2) (Binary (State (free + 1)) Less (Number (part +ℤ pos 1))))) number rest quotient b
test_line present free q begin e number rest quotient part b room is d =
    let v = expression_value e.states present (Binary (State (free + 1)) Less (Number (part +ℤ pos 1))) in
    let same : v ≡ truth_value b = ap (λ r. truth_value (int_lt r (part +ℤ pos 1))) (state_read present e (free + 1) rest d.rest_is) ∙ ap truth_value is in
    mark free q begin e number rest quotient v b room same d

pub taken : (present : ℕ → Option ℤ) (free : ℕ) (q : Bool) (begin e : Effect) (number rest quotient part weight : ℤ) (b : Bool) → Room free q (length begin.states) → int_lt rest (part +ℤ pos 1) ≡ b →
    Dividing free q begin e number rest quotient →
    Dividing free q begin (after_lines present e (taken_off free q part weight)) number (cond b (int_wrapping_sub w64 rest part) rest) (cond b (int_wrapping_sub w64 quotient weight) quotient)
taken present free true begin e number rest quotient part weight b room is d =
    let m = rest_line present free true begin _ number rest quotient part b room (test_line present free true begin e number rest quotient part b room is d) in
    quotient_line present free begin _ number (cond b (int_wrapping_sub w64 rest part) rest) quotient weight b room m
taken present free false begin e number rest quotient part weight b room is d =
    let m = rest_line present free false begin _ number rest quotient part b room (test_line present free false begin e number rest quotient part b room is d) in
    let h = m.dividing in
    record { keeps = h.keeps; number_is = h.number_is; rest_is = h.rest_is; quotient_is = λ yes. absurd cc }
