-- What is spelled names only what is there.
use Rattle.std.proofs.Common.{◌≡◌, ℕ, pos, zero, suc, ◌+◌, ◌<◌, ◌≤◌, Bool, true, false, not, cond, ◌&&◌, List, [], ◌∷◌, ◌++◌, length, Option, Some, None, codes, refl, subst, arith, length-append}
use Rattle.std.specs.Option.{option_map, option_and_then}
use Rattle.std.specs.List.{AllZip, All}
use Rattle.std.specs.Str.{bytes_eq}
use Rattle.tag.specs.LogicalTime.{delay_of}
use Rattle.plan_slots.specs.declared.slots.Slots.{Slots}
use Rattle.plan_names.specs.Naming.{place_of}
use Rattle.plan_slots.specs.Numbering.{slot_count, is_bare, timer_names, first_action, first_physical}
use Rattle.reactor_program.specs.declared.program.State as StateOf
use Rattle.reactor_program.specs.declared.program.Operand.{Operand}
use Rattle.reactor_program.specs.declared.program.Operand.TheVariants.{Number, State, Value, Presence}
use Rattle.reactor_program.specs.declared.program.Expression.{Expression}
use Rattle.reactor_program.specs.declared.program.Expression.TheVariants.{Single, Binary}
use Rattle.reactor_program.specs.declared.program.Statement.{Statement}
use Rattle.reactor_program.specs.declared.program.Statement.TheVariants.{Assign, Output, Schedule}
use Rattle.reactor_program.specs.declared.program.Line.{Line}
use Rattle.reactor_program.specs.declared.program.Reaction.{Reaction}
use Rattle.reactor_program.specs.declared.reaction_draft.ReactionDraft.{ReactionDraft}
use Rattle.reactor_program.specs.Tokens.{tokens_of}
use Rattle.reactor_program.specs.Grammar.{WrittenOperand, WrittenNumber, StateNamed, ValueAt, PresenceAt, WrittenExpression, Alone, Combined, WrittenStatement, AssignTo, OutputTo, ScheduleAfter, SpellsStatement, SpellsGuarded}
use Rattle.reactor_program.specs.Resolution.{slot_names, trigger_slot, operand_slot, state_names, value_at_slot, operand_of, expression_of, statement_of, condition_of}
use Rattle.reactor_program.specs.Spelled.{SpellsLineOf, SpellsReaction}
use Rattle.reactor_program.specs.Behaviour.{Behaviour, HasOperand, HasExpression, HasStatement, HasLine, HasReaction, IsWellFormed}
use Rattle.std.proofs.lemmas.List.{length-map}
use Rattle.reactor_program.proofs.NamePlaces.{names_length}

below_step : (b : Bool) (o : Option ℕ) (n k : ℕ) → ((j : ℕ) → o ≡ Some j → j < n) → cond b (Some 0) (option_map suc o) ≡ Some k → k < suc n
below_step true o n k h e = let f : 0 ≡ k = cc in omega arith
below_step false None n k h e = cc
below_step false (Some j) n k h e = let f : suc j ≡ k = cc in omega (arith, h j refl)

pub place_below : (names : List (List ℕ)) (x : List ℕ) (k : ℕ) → place_of names x ≡ Some k → k < length names
place_below [] x k e = cc
place_below (m ∷ names) x k e = below_step (bytes_eq m x) (place_of names x) (length names) k (place_below names x) e

slots_many : (s : Slots) → length (slot_names s) ≡ slot_count s
slots_many s = omega (arith, length-append (s.inputs ++ timer_names s.timers ++ s.actions) s.physical, length-append (s.inputs ++ timer_names s.timers) s.actions, length-append s.inputs (timer_names s.timers), names_length s.timers)

pub slot_below : (s : Slots) (x : List ℕ) (k : ℕ) → trigger_slot s x ≡ Some k → k < slot_count s
slot_below s x k e = omega (arith, place_below (slot_names s) x k e, slots_many s)

operand_slot_by : (b : Bool) (o : Option ℕ) (k : ℕ) → cond b None o ≡ Some k → o ≡ Some k
operand_slot_by true o k e = cc
operand_slot_by false o k e = e

operand_slot_below : (s : Slots) (x : List ℕ) (k : ℕ) → operand_slot s x ≡ Some k → k < slot_count s
operand_slot_below s x k e = slot_below s x k (operand_slot_by (not s.startup && bytes_eq x (codes "startup")) (trigger_slot s x) k e)

mapped : {A B : Type 0} (f : A → B) (o : Option A) (y : B) → option_map f o ≡ Some y → (x : A) × (o ≡ Some x) × (f x ≡ y)
mapped f None y e = cc
mapped f (Some x) y e = (x, refl, cc)

bound : {A B : Type 0} (f : A → Option B) (o : Option A) (y : B) → option_and_then f o ≡ Some y → (x : A) × (o ≡ Some x) × (f x ≡ Some y)
bound f None y e = cc
bound f (Some x) y e = (x, refl, e)

has_value : (b : Behaviour) (bare : Bool) (slot : ℕ) → slot < slot_count b.slots → HasOperand b (cond bare (Number (pos 0)) (Value slot))
has_value b true slot h = tt
has_value b false slot h = h

has_operand : (b : Behaviour) (w : WrittenOperand) (o : Operand) → operand_of b.slots b.states w ≡ Some o → HasOperand b o
has_operand b (WrittenNumber n) o e = let f : Number n ≡ o = cc in subst (HasOperand b) f tt
has_operand b (StateNamed x) o e =
    let m = mapped State (place_of (state_names b.states) x) o e in
    subst (HasOperand b) m.2 (omega (arith, place_below (state_names b.states) x m.0 m.1, length-map b.states (λ (s : StateOf.State). s.name)))
has_operand b (ValueAt x) o e =
    let m = mapped (value_at_slot b.slots) (operand_slot b.slots x) o e in
    subst (HasOperand b) m.2 (has_value b (is_bare b.slots m.0) m.0 (operand_slot_below b.slots x m.0 m.1))
has_operand b (PresenceAt x) o e = let m = mapped Presence (operand_slot b.slots x) o e in subst (HasOperand b) m.2 (operand_slot_below b.slots x m.0 m.1)

has_expression : (b : Behaviour) (w : WrittenExpression) (x : Expression) → expression_of b.slots b.states w ≡ Some x → HasExpression b x
has_expression b (Alone a) x e = let m = mapped Single (operand_of b.slots b.states a) x e in subst (HasExpression b) m.2 (has_operand b a m.0 m.1)
has_expression b (Combined a o c) x e =
    let m = bound (λ left. option_map (λ right. Binary left o right) (operand_of b.slots b.states c)) (operand_of b.slots b.states a) x e in
    let n = mapped (λ right. Binary m.0 o right) (operand_of b.slots b.states c) x m.2 in
    subst (HasExpression b) n.2 (has_operand b a m.0 m.1, has_operand b c n.0 n.1)

action_within : (s : Slots) (c : List ℕ) (k : ℕ) → place_of s.actions c ≡ Some k → (first_action s ≤ first_action s + k) × (first_action s + k < first_physical s)
action_within s c k e = (omega arith, omega (arith, place_below s.actions c k e))

has_statement : (b : Behaviour) (w : WrittenStatement) (tokens : List (List ℕ)) → SpellsStatement w tokens → (x : Statement) → statement_of b.slots b.states w ≡ Some x → HasStatement b x
has_statement b (AssignTo y a) tokens i x e =
    let m = bound (λ k. option_map (λ v. Assign k v) (expression_of b.slots b.states a)) (place_of (state_names b.states) y) x e in
    let n = mapped (λ v. Assign m.0 v) (expression_of b.slots b.states a) x m.2 in
    let k : m.0 < length b.states = omega (arith, place_below (state_names b.states) y m.0 m.1, length-map b.states (λ (s : StateOf.State). s.name)) in
    subst (HasStatement b) n.2 (k, has_expression b a n.0 n.1)
has_statement b (OutputTo p a) tokens i x e =
    let m = bound (λ k. option_map (λ v. Output k v) (operand_of b.slots b.states a)) (place_of b.slots.outputs p) x e in
    let n = mapped (λ v. Output m.0 v) (operand_of b.slots b.states a) x m.2 in
    subst (HasStatement b) n.2 (place_below b.slots.outputs p m.0 m.1, has_operand b a n.0 n.1)
has_statement b (ScheduleAfter c time a) tokens i x e =
    let m = bound (λ k. option_map (λ v. Schedule (first_action b.slots + k) (delay_of time) v) (operand_of b.slots b.states a)) (place_of b.slots.actions c) x e in
    let n = mapped (λ v. Schedule (first_action b.slots + m.0) (delay_of time) v) (operand_of b.slots b.states a) x m.2 in
    let k = action_within b.slots c m.0 m.1 in
    subst (HasStatement b) n.2 (k.0, k.1, (time, i.5, refl), has_operand b a n.0 n.1)

abbrev line_with : Option Operand → Statement → Line
line_with c s = record { condition = c; statement = s }

has_guarded : (b : Behaviour) (c : Option WrittenOperand) (w : WrittenStatement) (tokens : List (List ℕ)) → SpellsGuarded c w tokens → (line : Line)
    → option_and_then (λ condition. option_map (line_with condition) (statement_of b.slots b.states w)) (condition_of b.slots b.states c) ≡ Some line → HasLine b line
has_guarded b None w tokens t line e =
    let m = mapped (line_with None) (statement_of b.slots b.states w) line e in
    subst (HasLine b) m.2 (tt, has_statement b w tokens t m.0 m.1)
has_guarded b (Some a) w tokens t line e =
    let l = bound (λ condition. option_map (line_with condition) (statement_of b.slots b.states w)) (option_map (λ x. Some x) (operand_of b.slots b.states a)) line e in
    let o = mapped (λ x. Some x) (operand_of b.slots b.states a) l.0 l.1 in
    let m = mapped (line_with l.0) (statement_of b.slots b.states w) line l.2 in
    let P : Option Operand → Type 0 = λ c. HasLine b (line_with c m.0) in
    subst (HasLine b) m.2 (subst P o.2 (has_operand b a o.0 o.1, has_statement b w t.1 t.4 m.0 m.1))

pub has_line : (b : Behaviour) (line : Line) (text : List ℕ) → SpellsLineOf b.slots b.states line text → HasLine b line
has_line b line text (w, t, e) = has_guarded b w.condition w.statement (tokens_of text) t line e

pub all_more : {A : Type 0} (P : A → Type 0) (x : A) (xs : List A) → P x → All P xs → All P (x ∷ xs)
all_more P x xs p h zero d lt = p
all_more P x xs p h (suc k) d lt = h k d (omega arith)

all_from_zip : {A B : Type 0} (R : A → B → Type 0) (P : A → Type 0) (xs : List A) (ys : List B) → ((x : A) (y : B) → R x y → P x) → AllZip R xs ys → All P xs
all_from_zip R P [] ys f h = λ k d lt. absurd (omega arith)
all_from_zip R P (x ∷ xs) [] f h = absurd h
all_from_zip R P (x ∷ xs) (y ∷ ys) f h = all_more P x xs (f x y h.0) (all_from_zip R P xs ys f h.1)

pub well_formed : (s : Slots) (states : List StateOf.State) (reactions : List Reaction) (drafts : List ReactionDraft)
    → AllZip (SpellsReaction s states) reactions drafts → IsWellFormed (record { slots = s; states = states; reactions = reactions })
well_formed s states reactions drafts h =
    let b : Behaviour = record { slots = s; states = states; reactions = reactions } in
    let one : (r : Reaction) (d : ReactionDraft) → SpellsReaction s states r d → HasReaction b r = λ r d g. (
      all_from_zip (λ slot text. trigger_slot s text ≡ Some slot) (λ slot. slot < slot_count s) r.triggers d.triggers (λ k x e. slot_below s x k e) g.triggers,
      all_from_zip (SpellsLineOf s states) (HasLine b) r.body d.body (has_line b) g.body,
    ) in
    record { reactions = all_from_zip (SpellsReaction s states) (HasReaction b) reactions drafts one h }
