-- Reading a whole from the readings of its parts; operands.
use Rattle.std.proofs.Common.{◌≡◌, ℕ, ℤ, ◌&&◌, Bool, true, false, not, List, [], ◌∷◌, ◌++◌, IsTrue, Result, Ok, Err, Option, Some, None, codes, get_or, refl, sym, ap, ◌∙◌, subst, arith}
use Rattle.std.specs.Option.{option_map, option_and_then}
use Rattle.std.specs.Char.{is_ascii_digit}
use Rattle.std.specs.Str.{bytes_eq}
use Rattle.std.proofs.lemmas.Bool.Decides.{nat_tests}
use Rattle.std.proofs.lemmas.Slice.Eq.{bytes_eq-Decides}
use Rattle.plan_slots.specs.declared.slots.Slots.{Slots}
use Rattle.plan_names.specs.Naming.{place_of}
use Rattle.reactor_program.specs.declared.program.State as StateOf
use Rattle.reactor_program.specs.declared.program.Operand.TheVariants.{Number, State, Presence}
use Rattle.reactor_program.specs.declared.fault.LineFault.{LineFault}
use Rattle.reactor_program.specs.declared.fault.LineFault.TheVariants.{NoForm, UnknownName}
use Rattle.reactor_program.specs.Tokens.{has_minus, is_numeral, digits_in, number_in, IsWholeNumber}
use Rattle.plan_names.specs.Spelling.{is_name, is_name_start}
use Rattle.reactor_program.specs.Grammar.{WrittenOperand, WrittenNumber, StateNamed, ValueAt, PresenceAt, is_slot_name, SpellsOperand}
use Rattle.reactor_program.specs.Resolution.{operand_slot, state_names, value_at_slot, operand_of}
use Rattle.reactor_program.specs.Reading.{IsReading, name_read, made_of, made_of_both, pair_of}

pub mapped_first : {A B C : Type 0} (f : A → B) (g : B → Option C) (o : Option A) → option_and_then (λ x. g (f x)) o ≡ option_and_then g (option_map f o)
mapped_first f g None = refl
mapped_first f g (Some x) = refl

-- a whole is written where its part is, and means what is made of the part's meaning
pub record Wraps {A C V W : Type 0} (whole : V → W) (part : V → Type 0) (written : W → Type 0) (part_meaning : V → Option A) (meaning : W → Option C) (f : A → C) : Type 0 where
  pub intro : (v : V) → part v → written (whole v)
  pub inverse : (w : W) → written w → (v : V) × part v
  pub means : (v : V) → meaning (whole v) ≡ option_map f (part_meaning v)

pub wrapped : {A C V W : Type 0} (whole : V → W) (part : V → Type 0) (written : W → Type 0) (part_meaning : V → Option A) (meaning : W → Option C) (f : A → C)
    → Wraps whole part written part_meaning meaning f → (r : Result A LineFault) → IsReading part part_meaning r → IsReading written meaning (made_of f r)
wrapped whole part written pm meaning f h (Ok a) k = (whole k.0, h.intro k.0 k.1, h.means k.0 ∙ ap (option_map f) k.2)
wrapped whole part written pm meaning f h (Err NoForm) k = λ w x. let v = h.inverse w x in k v.0 v.1
wrapped whole part written pm meaning f h (Err UnknownName) k = (whole k.0, h.intro k.0 k.1, h.means k.0 ∙ ap (option_map f) k.2)

-- the same of two parts
pub record Joins {A B C U V W : Type 0} (whole : U → V → W) (left : U → Type 0) (right : V → Type 0) (written : W → Type 0)
    (left_meaning : U → Option A) (right_meaning : V → Option B) (meaning : W → Option C) (f : A → B → C) : Type 0 where
  pub intro : (u : U) (v : V) → left u → right v → written (whole u v)
  pub inverse : (w : W) → written w → (u : U) × (v : V) × left u × right v
  pub means : (u : U) (v : V) → meaning (whole u v) ≡ option_and_then (λ x. option_map (f x) (right_meaning v)) (left_meaning u)

pub joined : {A B C U V W : Type 0} (whole : U → V → W) (left : U → Type 0) (right : V → Type 0) (written : W → Type 0)
    (lm : U → Option A) (rm : V → Option B) (meaning : W → Option C) (f : A → B → C)
    → Joins whole left right written lm rm meaning f → (r : Result A LineFault) (q : Result B LineFault)
    → IsReading left lm r → IsReading right rm q → IsReading written meaning (made_of_both f r q)
joined whole left right written lm rm meaning f h (Ok a) (Ok b) k l =
    (whole k.0 l.0, h.intro k.0 l.0 k.1 l.1, h.means k.0 l.0 ∙ ap (option_and_then (λ x. option_map (f x) (rm l.0))) k.2 ∙ ap (option_map (f a)) l.2)
joined whole left right written lm rm meaning f h (Ok a) (Err NoForm) k l = λ w x. let v = h.inverse w x in l v.1 v.3
joined whole left right written lm rm meaning f h (Ok a) (Err UnknownName) k l =
    (whole k.0 l.0, h.intro k.0 l.0 k.1 l.1, h.means k.0 l.0 ∙ ap (option_and_then (λ x. option_map (f x) (rm l.0))) k.2 ∙ ap (option_map (f a)) l.2)
joined whole left right written lm rm meaning f h (Err NoForm) q k l = λ w x. let v = h.inverse w x in k v.0 v.2
joined whole left right written lm rm meaning f h (Err UnknownName) (Ok b) k l =
    (whole k.0 l.0, h.intro k.0 l.0 k.1 l.1, h.means k.0 l.0 ∙ ap (option_and_then (λ x. option_map (f x) (rm l.0))) k.2)
joined whole left right written lm rm meaning f h (Err UnknownName) (Err NoForm) k l = λ w x. let v = h.inverse w x in l v.1 v.3
joined whole left right written lm rm meaning f h (Err UnknownName) (Err UnknownName) k l =
    (whole k.0 l.0, h.intro k.0 l.0 k.1 l.1, h.means k.0 l.0 ∙ ap (option_and_then (λ x. option_map (f x) (rm l.0))) k.2)

-- what is made of a pair of answers is made of both
pub paired_ok : {A B C : Type 0} (f : A → B → C) (r : Result A LineFault) (q : Result B LineFault) (a : A) (b : B)
    → Ok (pair_of a b) ≡ made_of_both pair_of r q → made_of_both f r q ≡ Ok (f a b)
paired_ok {A} {B} f (Ok x) (Ok y) a b e =
    let p : pair_of x y ≡ pair_of a b = cc in
    let i : x ≡ a = ap (λ z. z.0) p in
    let j : y ≡ b = ap (λ z. z.1) p in
    cc
paired_ok f (Ok x) (Err g) a b e = cc
paired_ok f (Err NoForm) q a b e = cc
paired_ok f (Err UnknownName) (Ok y) a b e = cc
paired_ok f (Err UnknownName) (Err g) a b e = cc

pub paired_err : {A B C : Type 0} (f : A → B → C) (r : Result A LineFault) (q : Result B LineFault) (g : LineFault)
    → Err g ≡ made_of_both pair_of r q → made_of_both f r q ≡ Err g
paired_err f (Ok x) (Ok y) g e = cc
paired_err f (Ok x) (Err h) g e = cc
paired_err f (Err NoForm) q g e = cc
paired_err f (Err UnknownName) (Ok y) g e = cc
paired_err f (Err UnknownName) (Err h) g e = cc

-- what comparing two texts tells
negated : (t : Bool) → not t ≡ false → t ≡ true
negated true h = refl
negated false h = cc

pub same_text : (a b c : List ℕ) (r : Bool) → r ≡ not (bytes_eq a b) → r ≡ false → b ≡ c → a ≡ c
same_text a b c r e f g = (bytes_eq-Decides a b).0 (negated (bytes_eq a b) (sym e ∙ f)) ∙ g

pub other_text : (a b c : List ℕ) (r : Bool) → r ≡ bytes_eq a b → r ≡ false → b ≡ c → a ≡ c → ⊥
other_text a b c r e f g h = let yes = (bytes_eq-Decides a b).1 (h ∙ sym g) in let no = sym e ∙ f in cc

pub equal_text : (a b c : List ℕ) (r : Bool) → r ≡ bytes_eq a b → r ≡ true → b ≡ c → a ≡ c
equal_text a b c r e f g = (bytes_eq-Decides a b).0 (sym e ∙ f) ∙ g

pub unequal_text : (a b c : List ℕ) (r : Bool) → r ≡ not (bytes_eq a b) → r ≡ true → b ≡ c → a ≡ c → ⊥
unequal_text a b c r e f g h = let yes = (bytes_eq-Decides a b).1 (h ∙ sym g) in let no : true ≡ false = sym f ∙ e ∙ ap not yes in cc

-- a name read, from the two answers that it is made of
pub read_of : {a b : Bool} {m n : Option ℕ} {r : Result ℕ LineFault} → r ≡ name_read a m → a ≡ b → m ≡ n → r ≡ name_read b n
read_of {a} {b} {m} {n} {r} e f g = rw (e, f, g) refl

-- a name where one stands
abbrev pub IsNamed : (List ℕ → Bool) → List ℕ → List ℕ → Type 0
IsNamed test target x = IsTrue (test x) × (target ≡ x)

no_name : (test : List ℕ → Bool) (target x : List ℕ) → false ≡ test target → IsNamed test target x → ⊥
no_name test target x e h = let same = ap test h.1 in let yes = h.0 in cc

pub named : (test : List ℕ → Bool) (m : List ℕ → Option ℕ) (target : List ℕ) (well_formed : Bool) → well_formed ≡ test target
    → (number : Option ℕ) → number ≡ m target → IsReading (IsNamed test target) m (name_read well_formed number)
named test m target true e (Some k) h = (target, (sym e, refl), sym h)
named test m target true e None h = (target, (sym e, refl), sym h)
named test m target false e number h = λ x n. no_name test target x e n

pub in_or_has : (x y : List ℕ) → codes "in." ++ x ≡ codes "has." ++ y → ⊥
in_or_has x y e = let f : List ℕ → ℕ = λ l. get_or l 0 0 in clash (ap f e)
  where
    clash : ◌≡◌ {A = ℕ} 105 104 → ⊥
    clash h = absurd (omega arith)

-- no name has a dot, and none begins like a number
pub dotted_in : (x : List ℕ) → is_name (codes "in." ++ x) ≡ false
dotted_in x = refl

pub dotted_has : (x : List ℕ) → is_name (codes "has." ++ x) ≡ false
dotted_has x = refl

pub dotted_out : (x : List ℕ) → is_name (codes "out." ++ x) ≡ false
dotted_out x = refl

pub not_dotted : (front : List ℕ → List ℕ) (token x y : List ℕ) → token ≡ front x → is_name (front x) ≡ false → IsTrue (is_name y) → token ≡ y → ⊥
not_dotted front token x y e h n f = let g : is_name (front x) ≡ is_name y = ap is_name (sym e ∙ f) in cc

pub no_number_in : (x : List ℕ) → IsWholeNumber (codes "in." ++ x) → ⊥
no_number_in x h = let d : IsTrue (is_numeral (digits_in (codes "in." ++ x))) = h.digits in cc

pub no_number_has : (x : List ℕ) → IsWholeNumber (codes "has." ++ x) → ⊥
no_number_has x h = let d : IsTrue (is_numeral (digits_in (codes "has." ++ x))) = h.digits in cc

name_begins : (c : ℕ) → is_name_start c ≡ true → (has_minus (c ∷ []) ≡ false) × (is_ascii_digit c ≡ false)
name_begins c h = (grind (arith, nat_tests), grind (arith, nat_tests))

pub name_no_number : (token : List ℕ) → is_name token ≡ true → IsWholeNumber token → ⊥
name_no_number [] n h = cc
name_no_number (c ∷ cs) n h =
    let start : is_name_start c ≡ true = starts c cs n in
    let b = name_begins c start in
    let minus : has_minus (c ∷ cs) ≡ false = b.0 in
    let d : IsTrue (is_numeral (digits_in (c ∷ cs))) = h.digits in
    let e : digits_in (c ∷ cs) ≡ c ∷ cs = rw minus refl in
    let f : is_numeral (c ∷ cs) ≡ false = rw b.1 refl in
    let g = ap is_numeral e in
    cc
  where
    starts : (c : ℕ) (cs : List ℕ) → is_name (c ∷ cs) ≡ true → is_name_start c ≡ true
    starts c cs n = grind (arith, nat_tests)

-- operands
value_wraps : (s : Slots) (states : List StateOf.State) (token x : List ℕ) → token ≡ codes "in." ++ x
    → Wraps ValueAt (IsNamed is_slot_name x) (λ w. SpellsOperand w token) (operand_slot s) (operand_of s states) (value_at_slot s)
value_wraps s states token x e = record {
  intro = λ v h. (h.0, e ∙ ap (λ y. codes "in." ++ y) h.1);
  inverse = back;
  means = λ v. refl;
}
  where
    back : (w : WrittenOperand) → SpellsOperand w token → (v : List ℕ) × IsNamed is_slot_name x v
    back (WrittenNumber n) h = absurd (no_number_in x (subst IsWholeNumber e h.0))
    back (StateNamed y) h = absurd (not_dotted (λ z. codes "in." ++ z) token x y e (dotted_in x) h.0 h.1)
    back (ValueAt y) h = let f : codes "in." ++ x ≡ codes "in." ++ y = sym e ∙ h.1 in (y, (h.0, cc))
    back (PresenceAt y) h = absurd (in_or_has x y (sym e ∙ h.1))

pub value_reading : (s : Slots) (states : List StateOf.State) (token x : List ℕ) → token ≡ codes "in." ++ x → (r : Result ℕ LineFault)
    → r ≡ name_read (is_slot_name x) (operand_slot s x) → IsReading (λ w. SpellsOperand w token) (operand_of s states) (made_of (value_at_slot s) r)
value_reading s states token x e r h =
    wrapped ValueAt (IsNamed is_slot_name x) (λ w. SpellsOperand w token) (operand_slot s) (operand_of s states) (value_at_slot s) (value_wraps s states token x e) r
    (let P : Result ℕ LineFault → Type 0 = IsReading (IsNamed is_slot_name x) (operand_slot s) in
    subst P (sym h) (named is_slot_name (operand_slot s) x (is_slot_name x) refl (operand_slot s x) refl))

presence_wraps : (s : Slots) (states : List StateOf.State) (token x : List ℕ) → token ≡ codes "has." ++ x
    → Wraps PresenceAt (IsNamed is_slot_name x) (λ w. SpellsOperand w token) (operand_slot s) (operand_of s states) Presence
presence_wraps s states token x e = record {
  intro = λ v h. (h.0, e ∙ ap (λ y. codes "has." ++ y) h.1);
  inverse = back;
  means = λ v. refl;
}
  where
    back : (w : WrittenOperand) → SpellsOperand w token → (v : List ℕ) × IsNamed is_slot_name x v
    back (WrittenNumber n) h = absurd (no_number_has x (subst IsWholeNumber e h.0))
    back (StateNamed y) h = absurd (not_dotted (λ z. codes "has." ++ z) token x y e (dotted_has x) h.0 h.1)
    back (ValueAt y) h = absurd (in_or_has y x (sym h.1 ∙ e))
    back (PresenceAt y) h = let f : codes "has." ++ x ≡ codes "has." ++ y = sym e ∙ h.1 in (y, (h.0, cc))

pub presence_reading : (s : Slots) (states : List StateOf.State) (token x : List ℕ) → token ≡ codes "has." ++ x → (r : Result ℕ LineFault)
    → r ≡ name_read (is_slot_name x) (operand_slot s x) → IsReading (λ w. SpellsOperand w token) (operand_of s states) (made_of Presence r)
presence_reading s states token x e r h =
    wrapped PresenceAt (IsNamed is_slot_name x) (λ w. SpellsOperand w token) (operand_slot s) (operand_of s states) Presence (presence_wraps s states token x e) r
    (let P : Result ℕ LineFault → Type 0 = IsReading (IsNamed is_slot_name x) (operand_slot s) in
    subst P (sym h) (named is_slot_name (operand_slot s) x (is_slot_name x) refl (operand_slot s x) refl))

state_wraps : (s : Slots) (states : List StateOf.State) (token : List ℕ) → is_name token ≡ true
    → Wraps StateNamed (IsNamed is_name token) (λ w. SpellsOperand w token) (place_of (state_names states)) (operand_of s states) State
state_wraps s states token n = record {
  intro = λ v h. h;
  inverse = back;
  means = λ v. refl;
}
  where
    back : (w : WrittenOperand) → SpellsOperand w token → (v : List ℕ) × IsNamed is_name token v
    back (WrittenNumber k) h = absurd (name_no_number token n h.0)
    back (StateNamed y) h = (y, h)
    back (ValueAt y) h = let f : is_name token ≡ false = ap is_name h.1 ∙ dotted_in y in cc
    back (PresenceAt y) h = let f : is_name token ≡ false = ap is_name h.1 ∙ dotted_has y in cc

pub state_reading : (s : Slots) (states : List StateOf.State) (token : List ℕ) → is_name token ≡ true → (number : Option ℕ) → number ≡ place_of (state_names states) token → (r : Result ℕ LineFault)
    → r ≡ name_read true number → IsReading (λ w. SpellsOperand w token) (operand_of s states) (made_of State r)
state_reading s states token n number e r h =
    wrapped StateNamed (IsNamed is_name token) (λ w. SpellsOperand w token) (place_of (state_names states)) (operand_of s states) State (state_wraps s states token n) r
    (let P : Result ℕ LineFault → Type 0 = IsReading (IsNamed is_name token) (place_of (state_names states)) in
    subst P (sym h) (named is_name (place_of (state_names states)) token true (sym n) number e))

pub number_reading : (s : Slots) (states : List StateOf.State) (token : List ℕ) → (n : ℤ) → IsWholeNumber token → number_in token ≡ n
    → IsReading (λ w. SpellsOperand w token) (operand_of s states) (Ok (Number n))
number_reading s states token n h e = (WrittenNumber n, (h, sym e), refl)

-- what is a number, a state and neither slot is no operand
pub no_operand : (token : List ℕ) → ((x : List ℕ) → token ≡ codes "in." ++ x → ⊥) → ((x : List ℕ) → token ≡ codes "has." ++ x → ⊥)
    → is_name token ≡ false → (IsWholeNumber token → ⊥) → (w : WrittenOperand) → SpellsOperand w token → ⊥
no_operand token a b c d (WrittenNumber n) h = d h.0
no_operand token a b c d (StateNamed y) h = let f = ap is_name h.1 in let g = h.0 in cc
no_operand token a b c d (ValueAt y) h = a y h.1
no_operand token a b c d (PresenceAt y) h = b y h.1
