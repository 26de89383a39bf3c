-- A text has at most one reading, so what is spelled is refused only for want of memory.
use Rattle.std.proofs.Common.{◌≡◌, ℕ, zero, suc, ◌+◌, false, if◌then◌else◌, List, [], ◌∷◌, ◌++◌, IsTrue, Option, Some, None, codes, get_or, refl, sym, ap, ◌∙◌, subst, arith, inl, inr, ◌⊎◌}
use Rattle.std.specs.Prelude.{slice_get}
use Rattle.std.specs.List.{AllZip}
use Rattle.std.specs.Str.{bytes_eq}
use Rattle.tag_text.specs.Duration.{Spells}
use Rattle.tag_text.proofs.Spellings.{one_value}
use Rattle.plan_slots.specs.declared.slots.Slots.{Slots}
use Rattle.reactor_program.specs.declared.program.Line.{Line}
use Rattle.reactor_program.specs.declared.program.Operator.{Operator}
use Rattle.reactor_program.specs.declared.program.Operator.TheVariants.{Plus, Minus, Times, Minimum, Maximum, Less, Equal}
use Rattle.reactor_program.specs.declared.program.Reaction.{Reaction}
use Rattle.reactor_program.specs.declared.program.State as StateOf
use Rattle.reactor_program.specs.declared.reaction_draft.ReactionDraft.{ReactionDraft}
use Rattle.reactor_program.specs.declared.program_fault.ProgramFault.{ProgramFault}
use Rattle.reactor_program.specs.declared.program_fault.ProgramFault.TheVariants.{BadLine, UnknownOperand, Memory, RepeatedState}
use Rattle.reactor_program.specs.Tokens.{tokens_of, IsWholeNumber}
use Rattle.plan_names.specs.Spelling.{is_name}
use Rattle.reactor_program.specs.Grammar.{WrittenOperand, WrittenNumber, StateNamed, ValueAt, PresenceAt, WrittenExpression, Alone, Combined, WrittenStatement, AssignTo, OutputTo, ScheduleAfter, WrittenLine, operator_token, SpellsOperand, SpellsExpression, SpellsDuration, SpellsStatement, SpellsGuarded, SpellsLine}
use Rattle.reactor_program.specs.Resolution.{trigger_slot, line_of}
use Rattle.reactor_program.specs.Behaviour.{Behaviour}
use Rattle.reactor_program.specs.Spelled.{SpellsLineOf, SpellsReaction, SpellsProgram, IsTriggerFault, IsLineFault, IsReactionFault}
use Rattle.reactor_program.proofs.Readings.{in_or_has, dotted_in, dotted_has, dotted_out, no_number_in, no_number_has, name_no_number}

pub name_and_other : (token x : List ℕ) → is_name token ≡ false → IsTrue (is_name x) → token ≡ x → ⊥
name_and_other token x e h f = let g = ap is_name f in cc

-- operands
operand_one : (a b : WrittenOperand) (t : List ℕ) → SpellsOperand a t → SpellsOperand b t → a ≡ b
operand_one (WrittenNumber n) (WrittenNumber m) t h k = ap WrittenNumber (h.1 ∙ sym k.1)
operand_one (WrittenNumber n) (StateNamed y) t h k = absurd (name_no_number t (ap is_name k.1 ∙ k.0) h.0)
operand_one (WrittenNumber n) (ValueAt y) t h k = absurd (no_number_in y (subst IsWholeNumber k.1 h.0))
operand_one (WrittenNumber n) (PresenceAt y) t h k = absurd (no_number_has y (subst IsWholeNumber k.1 h.0))
operand_one (StateNamed x) (WrittenNumber m) t h k = absurd (name_no_number t (ap is_name h.1 ∙ h.0) k.0)
operand_one (StateNamed x) (StateNamed y) t h k = ap StateNamed (sym h.1 ∙ k.1)
operand_one (StateNamed x) (ValueAt y) t h k = absurd (name_and_other t x (ap is_name k.1 ∙ dotted_in y) h.0 h.1)
operand_one (StateNamed x) (PresenceAt y) t h k = absurd (name_and_other t x (ap is_name k.1 ∙ dotted_has y) h.0 h.1)
operand_one (ValueAt x) (WrittenNumber m) t h k = absurd (no_number_in x (subst IsWholeNumber h.1 k.0))
operand_one (ValueAt x) (StateNamed y) t h k = absurd (name_and_other t y (ap is_name h.1 ∙ dotted_in x) k.0 k.1)
operand_one (ValueAt x) (ValueAt y) t h k = let f : codes "in." ++ x ≡ codes "in." ++ y = sym h.1 ∙ k.1 in let g : x ≡ y = cc in ap ValueAt g
operand_one (ValueAt x) (PresenceAt y) t h k = absurd (in_or_has x y (sym h.1 ∙ k.1))
operand_one (PresenceAt x) (WrittenNumber m) t h k = absurd (no_number_has x (subst IsWholeNumber h.1 k.0))
operand_one (PresenceAt x) (StateNamed y) t h k = absurd (name_and_other t y (ap is_name h.1 ∙ dotted_has x) k.0 k.1)
operand_one (PresenceAt x) (ValueAt y) t h k = absurd (in_or_has y x (sym k.1 ∙ h.1))
operand_one (PresenceAt x) (PresenceAt y) t h k = let f : codes "has." ++ x ≡ codes "has." ++ y = sym h.1 ∙ k.1 in let g : x ≡ y = cc in ap PresenceAt g

operand_here : (a b : WrittenOperand) (t u : List ℕ) → t ≡ u → SpellsOperand a t → SpellsOperand b u → a ≡ b
operand_here a b t u e h k = let P : List ℕ → Type 0 = λ x. SpellsOperand a x in operand_one a b u (subst P e h) k

-- the operator that a token stands for
abbrev operator_named : List ℕ → Operator
operator_named t =
    if bytes_eq t (codes "+") then Plus else if bytes_eq t (codes "-") then Minus else if bytes_eq t (codes "*") then Times
    else if bytes_eq t (codes "min") then Minimum else if bytes_eq t (codes "max") then Maximum else if bytes_eq t (codes "<") then Less else Equal

operator_back : (o : Operator) → operator_named (operator_token o) ≡ o
operator_back Plus = refl
operator_back Minus = refl
operator_back Times = refl
operator_back Minimum = refl
operator_back Maximum = refl
operator_back Less = refl
operator_back Equal = refl

operator_one : (o p : Operator) → operator_token o ≡ operator_token p → o ≡ p
operator_one o p e = sym (operator_back o) ∙ ap operator_named e ∙ operator_back p

-- expressions
expression_one : (a b : WrittenExpression) (ts : List (List ℕ)) → SpellsExpression a ts → SpellsExpression b ts → a ≡ b
expression_one (Alone a) (Alone b) ts h k =
    let f : h.0 ∷ [] ≡ k.0 ∷ [] = sym h.1 ∙ k.1 in
    let g : h.0 ≡ k.0 = cc in
    ap Alone (operand_here a b h.0 k.0 g h.2 k.2)
expression_one (Alone a) (Combined c p d) ts h k = let f = sym h.1 ∙ k.2 in cc
expression_one (Combined a o b) (Alone c) ts h k = let f = sym k.1 ∙ h.2 in cc
expression_one (Combined a o b) (Combined c p d) ts h k =
    let f : h.0 ∷ operator_token o ∷ h.1 ∷ [] ≡ k.0 ∷ operator_token p ∷ k.1 ∷ [] = sym h.2 ∙ k.2 in
    let i : h.0 ≡ k.0 = cc in
    let j : operator_token o ≡ operator_token p = cc in
    let l : h.1 ≡ k.1 = cc in
    let x : a ≡ c = operand_here a c h.0 k.0 i h.3 k.3 in
    let y : b ≡ d = operand_here b d h.1 k.1 l h.4 k.4 in
    let z : o ≡ p = operator_one o p j in
    cc (x, y, z)

-- durations, with the operand's token after them
pub duration_one : (n m : ℕ) (d e : List (List ℕ)) (t u : List ℕ) → d ++ t ∷ [] ≡ e ++ u ∷ [] → SpellsDuration n d → SpellsDuration m e → (n ≡ m) × (t ≡ u)
duration_one n m d e t u f (inl h) (inl k) =
    let g : h.0 ∷ t ∷ [] ≡ k.0 ∷ u ∷ [] = sym (ap (λ x. x ++ t ∷ []) h.1) ∙ f ∙ ap (λ x. x ++ u ∷ []) k.1 in
    let i : h.0 ≡ k.0 = cc in
    let P : List ℕ → Type 0 = λ x. Spells x n in
    (one_value k.0 n m (subst P i h.2) k.2, cc)
duration_one n m d e t u f (inl h) (inr k) =
    let g : h.0 ∷ t ∷ [] ≡ k.0 ∷ k.1 ∷ u ∷ [] = sym (ap (λ x. x ++ t ∷ []) h.1) ∙ f ∙ ap (λ x. x ++ u ∷ []) k.2 in cc
duration_one n m d e t u f (inr h) (inl k) =
    let g : k.0 ∷ u ∷ [] ≡ h.0 ∷ h.1 ∷ t ∷ [] = sym (ap (λ x. x ++ u ∷ []) k.1) ∙ sym f ∙ ap (λ x. x ++ t ∷ []) h.2 in cc
duration_one n m d e t u f (inr h) (inr k) =
    let g : h.0 ∷ h.1 ∷ t ∷ [] ≡ k.0 ∷ k.1 ∷ u ∷ [] = sym (ap (λ x. x ++ t ∷ []) h.2) ∙ f ∙ ap (λ x. x ++ u ∷ []) k.2 in
    let i : h.0 ≡ k.0 = cc in
    let j : h.1 ≡ k.1 = cc in
    let l : h.0 ++ codes " " ++ h.1 ≡ k.0 ++ codes " " ++ k.1 = ap (λ x. x ++ codes " " ++ h.1) i ∙ ap (λ x. k.0 ++ codes " " ++ x) j in
    let P : List ℕ → Type 0 = λ x. Spells x n in
    (one_value (k.0 ++ codes " " ++ k.1) n m (subst P l h.3) k.3, cc)

-- statements
pub no_equals : is_name (codes "=") ≡ false
no_equals = refl

statement_one : (a b : WrittenStatement) (ts : List (List ℕ)) → SpellsStatement a ts → SpellsStatement b ts → a ≡ b
statement_one (AssignTo x a) (AssignTo y b) ts h k =
    let f : x ∷ codes "=" ∷ h.0 ≡ y ∷ codes "=" ∷ k.0 = sym h.1 ∙ k.1 in
    let i : x ≡ y = cc in
    let j : h.0 ≡ k.0 = cc in
    let P : List (List ℕ) → Type 0 = λ t. SpellsExpression a t in
    let z : a ≡ b = expression_one a b k.0 (subst P j h.3) k.3 in
    cc (i, z)
statement_one (AssignTo x a) (OutputTo p b) ts h k =
    let f : x ∷ codes "=" ∷ h.0 ≡ (codes "out." ++ p) ∷ codes "=" ∷ k.0 ∷ [] = sym h.1 ∙ k.1 in
    let i : codes "out." ++ p ≡ x = cc in
    absurd (name_and_other (codes "out." ++ p) x (dotted_out p) h.2 i)
statement_one (AssignTo x a) (ScheduleAfter c time b) ts h k =
    let f : x ∷ codes "=" ∷ h.0 ≡ codes "schedule" ∷ c ∷ (k.0 ++ k.1 ∷ []) = sym h.1 ∙ k.2 in
    let i : codes "=" ≡ c = cc in
    absurd (name_and_other (codes "=") c no_equals k.3 i)
statement_one (OutputTo p b) (AssignTo x a) ts k h =
    let f : x ∷ codes "=" ∷ h.0 ≡ (codes "out." ++ p) ∷ codes "=" ∷ k.0 ∷ [] = sym h.1 ∙ k.1 in
    let i : codes "out." ++ p ≡ x = cc in
    absurd (name_and_other (codes "out." ++ p) x (dotted_out p) h.2 i)
statement_one (OutputTo p a) (OutputTo q b) ts h k =
    let f : (codes "out." ++ p) ∷ codes "=" ∷ h.0 ∷ [] ≡ (codes "out." ++ q) ∷ codes "=" ∷ k.0 ∷ [] = sym h.1 ∙ k.1 in
    let g : codes "out." ++ p ≡ codes "out." ++ q = cc in
    let i : p ≡ q = cc in
    let j : h.0 ≡ k.0 = cc in
    let z : a ≡ b = operand_here a b h.0 k.0 j h.3 k.3 in
    cc (i, z)
statement_one (OutputTo p a) (ScheduleAfter c time b) ts h k =
    let f : (codes "out." ++ p) ∷ codes "=" ∷ h.0 ∷ [] ≡ codes "schedule" ∷ c ∷ (k.0 ++ k.1 ∷ []) = sym h.1 ∙ k.2 in
    let i : codes "=" ≡ c = cc in
    absurd (name_and_other (codes "=") c no_equals k.3 i)
statement_one (ScheduleAfter c time b) (AssignTo x a) ts k h =
    let f : x ∷ codes "=" ∷ h.0 ≡ codes "schedule" ∷ c ∷ (k.0 ++ k.1 ∷ []) = sym h.1 ∙ k.2 in
    let i : codes "=" ≡ c = cc in
    absurd (name_and_other (codes "=") c no_equals k.3 i)
statement_one (ScheduleAfter c time b) (OutputTo p a) ts k h =
    let f : (codes "out." ++ p) ∷ codes "=" ∷ h.0 ∷ [] ≡ codes "schedule" ∷ c ∷ (k.0 ++ k.1 ∷ []) = sym h.1 ∙ k.2 in
    let i : codes "=" ≡ c = cc in
    absurd (name_and_other (codes "=") c no_equals k.3 i)
statement_one (ScheduleAfter c n a) (ScheduleAfter d m b) ts h k =
    let f : codes "schedule" ∷ c ∷ (h.0 ++ h.1 ∷ []) ≡ codes "schedule" ∷ d ∷ (k.0 ++ k.1 ∷ []) = sym h.2 ∙ k.2 in
    let i : c ≡ d = cc in
    let g : h.0 ++ h.1 ∷ [] ≡ k.0 ++ k.1 ∷ [] = cc in
    let j = duration_one n m h.0 k.0 h.1 k.1 g h.4 k.4 in
    let z : a ≡ b = operand_here a b h.1 k.1 j.1 h.6 k.6 in
    let l : n ≡ m = j.0 in
    cc (i, l, z)

-- no statement begins with `when`
when_or_out : (p : List ℕ) → codes "when" ≡ codes "out." ++ p → ⊥
when_or_out p e = let f : List ℕ → ℕ = λ l. get_or l 0 0 in clash (ap f e)
  where
    clash : ◌≡◌ {A = ℕ} 119 111 → ⊥
    clash h = absurd (omega arith)

when_or_schedule : codes "when" ≡ codes "schedule" → ⊥
when_or_schedule e = let f : List ℕ → ℕ = λ l. get_or l 0 0 in clash (ap f e)
  where
    clash : ◌≡◌ {A = ℕ} 119 115 → ⊥
    clash h = absurd (omega arith)

no_when : is_name (codes "when") ≡ false
no_when = refl

pub unguarded : (b : WrittenStatement) (rest : List (List ℕ)) → SpellsStatement b (codes "when" ∷ rest) → ⊥
unguarded (AssignTo x a) rest h =
    let f : codes "when" ∷ rest ≡ x ∷ codes "=" ∷ h.0 = h.1 in
    let i : codes "when" ≡ x = cc in
    name_and_other (codes "when") x no_when h.2 i
unguarded (OutputTo p a) rest h =
    let f : codes "when" ∷ rest ≡ (codes "out." ++ p) ∷ codes "=" ∷ h.0 ∷ [] = h.1 in
    when_or_out p (cc f)
unguarded (ScheduleAfter c n a) rest h =
    let f : codes "when" ∷ rest ≡ codes "schedule" ∷ c ∷ (h.0 ++ h.1 ∷ []) = h.2 in
    when_or_schedule (cc f)

guarded_one : (c d : Option WrittenOperand) (a b : WrittenStatement) (ts : List (List ℕ)) → SpellsGuarded c a ts → SpellsGuarded d b ts → (c ≡ d) × (a ≡ b)
guarded_one None None a b ts h k = (refl, statement_one a b ts h k)
guarded_one None (Some d) a b ts h k = let P : List (List ℕ) → Type 0 = λ t. SpellsStatement a t in absurd (unguarded a (k.0 ∷ codes ":" ∷ k.1) (subst P k.2 h))
guarded_one (Some c) None a b ts h k = let P : List (List ℕ) → Type 0 = λ t. SpellsStatement b t in absurd (unguarded b (h.0 ∷ codes ":" ∷ h.1) (subst P h.2 k))
guarded_one (Some c) (Some d) a b ts h k =
    let f : codes "when" ∷ h.0 ∷ codes ":" ∷ h.1 ≡ codes "when" ∷ k.0 ∷ codes ":" ∷ k.1 = sym h.2 ∙ k.2 in
    let i : h.0 ≡ k.0 = cc in
    let j : h.1 ≡ k.1 = cc in
    let P : List (List ℕ) → Type 0 = λ t. SpellsStatement a t in
    (ap (λ x. Some x) (operand_here c d h.0 k.0 i h.3 k.3), statement_one a b k.1 (subst P j h.4) k.4)

-- lines
abbrev line_with : Option WrittenOperand → WrittenStatement → WrittenLine
line_with c a = record { condition = c; statement = a }

pub one_reading : (w v : WrittenLine) (tokens : List (List ℕ)) → SpellsLine w tokens → SpellsLine v tokens → w ≡ v
one_reading w v tokens h k =
    let e = guarded_one w.condition v.condition w.statement v.statement tokens h k in
    ap (λ c. line_with c w.statement) e.0 ∙ ap (λ a. line_with v.condition a) e.1

line_at_one : (s : Slots) (states : List StateOf.State) (text : List ℕ) (l m : Line) → SpellsLineOf s states l text → SpellsLineOf s states m text → l ≡ m
line_at_one s states text l m h k =
    let e : line_of s states h.0 ≡ line_of s states k.0 = ap (line_of s states) (one_reading h.0 k.0 (tokens_of text) h.1 k.1) in
    let f : Some l ≡ Some m = sym h.2 ∙ e ∙ k.2 in
    cc

zip_one : {A B : Type 0} (R : A → B → Type 0) → ((x y : A) (b : B) → R x b → R y b → x ≡ y) → (xs ys : List A) (bs : List B) → AllZip R xs bs → AllZip R ys bs → xs ≡ ys
zip_one R f [] [] [] h k = refl
zip_one R f [] (y ∷ ys) [] h k = absurd k
zip_one R f (x ∷ xs) ys [] h k = absurd h
zip_one R f [] ys (b ∷ bs) h k = absurd h
zip_one R f (x ∷ xs) [] (b ∷ bs) h k = absurd k
zip_one R f (x ∷ xs) (y ∷ ys) (b ∷ bs) h k = ap (λ v. v ∷ xs) (f x y b h.0 k.0) ∙ ap (λ v. y ∷ v) (zip_one R f xs ys bs h.1 k.1)

trigger_one : (s : Slots) (i j : ℕ) (text : List ℕ) → trigger_slot s text ≡ Some i → trigger_slot s text ≡ Some j → i ≡ j
trigger_one s i j text h k = let f : Some i ≡ Some j = sym h ∙ k in cc

abbrev reaction_with : List ℕ → List Line → Reaction
reaction_with t b = record { triggers = t; body = b }

reaction_one : (s : Slots) (states : List StateOf.State) (q r : Reaction) (d : ReactionDraft) → SpellsReaction s states q d → SpellsReaction s states r d → q ≡ r
reaction_one s states q r d h k =
    let e : q.triggers ≡ r.triggers = zip_one (λ slot text. trigger_slot s text ≡ Some slot) (λ x y b. trigger_one s x y b) q.triggers r.triggers d.triggers h.triggers k.triggers in
    let f : q.body ≡ r.body = zip_one (SpellsLineOf s states) (λ x y b. line_at_one s states b x y) q.body r.body d.body h.body k.body in
    ap (λ t. reaction_with t q.body) e ∙ ap (λ b. reaction_with r.triggers b) f

abbrev behaviour_with : Slots → List StateOf.State → List Reaction → Behaviour
behaviour_with s states rs = record { slots = s; states = states; reactions = rs }

pub one_program : (s : Slots) (states : List StateOf.State) (drafts : List ReactionDraft) (b c : Behaviour) → SpellsProgram s states drafts b → SpellsProgram s states drafts c → b ≡ c
one_program s states drafts b c h k =
    let f : b.slots ≡ c.slots = h.slots ∙ sym k.slots in
    let g : b.states ≡ c.states = h.states_are ∙ sym k.states_are in
    let i : b.reactions ≡ c.reactions = zip_one (SpellsReaction s states) (λ x y d. reaction_one s states x y d) b.reactions c.reactions drafts h.reactions k.reactions in
    ap (λ x. behaviour_with x b.states b.reactions) f ∙ ap (λ x. behaviour_with c.slots x b.reactions) g ∙ ap (λ x. behaviour_with c.slots c.states x) i

-- what is spelled has no fault
zip_at : {A B : Type 0} (R : A → B → Type 0) (xs : List A) (bs : List B) (k : ℕ) (b : B) → slice_get bs k ≡ Some b → AllZip R xs bs → (x : A) × R x b
zip_at R xs [] k b e h = absurd (nothing b e)
  where
    nothing : {B : Type 0} (b : B) → ◌≡◌ {A = Option B} None (Some b) → ⊥
    nothing b e = cc
zip_at R [] (c ∷ bs) k b e h = absurd h
zip_at R (x ∷ xs) (c ∷ bs) zero b e h = let f : c ≡ b = cc in (x, subst (R x) f h.0)
zip_at R (x ∷ xs) (c ∷ bs) (suc k) b e h = zip_at R xs bs k b e h.1

trigger_no_fault : (s : Slots) (number : ℕ) (texts : List (List ℕ)) (slots : List ℕ) (fault : ProgramFault)
    → AllZip (λ slot text. trigger_slot s text ≡ Some slot) slots texts → IsTriggerFault s number texts fault → ⊥
trigger_no_fault s number texts slots (UnknownOperand r l) h k =
    let z = zip_at (λ slot text. trigger_slot s text ≡ Some slot) slots texts k.0 k.1 k.4 h in
    let f = sym k.5 ∙ z.1 in cc
trigger_no_fault s number texts slots (BadLine r l) h k = k
trigger_no_fault s number texts slots Memory h k = k
trigger_no_fault s number texts slots RepeatedState h k = k

line_no_fault : (s : Slots) (states : List StateOf.State) (number : ℕ) (texts : List (List ℕ)) (lines : List Line) (fault : ProgramFault)
    → AllZip (SpellsLineOf s states) lines texts → IsLineFault s states number texts fault → ⊥
line_no_fault s states number texts lines (BadLine r l) h k =
    let z = zip_at (SpellsLineOf s states) lines texts k.0 k.1 k.4 h in
    k.5 z.1.0 z.1.1
line_no_fault s states number texts lines (UnknownOperand r l) h k =
    let z = zip_at (SpellsLineOf s states) lines texts k.0 k.1 k.4 h in
    let e : line_of s states z.1.0 ≡ line_of s states k.5.0 = ap (line_of s states) (one_reading z.1.0 k.5.0 (tokens_of k.1) z.1.1 k.5.1) in
    let f : Some z.0 ≡ None = sym z.1.2 ∙ e ∙ k.5.2 in cc
line_no_fault s states number texts lines Memory h k = k
line_no_fault s states number texts lines RepeatedState h k = k

pub only_memory : (s : Slots) (states : List StateOf.State) (drafts : List ReactionDraft) (b : Behaviour) (fault : ProgramFault)
    → SpellsProgram s states drafts b → (fault ≡ Memory) ⊎ IsReactionFault s states drafts fault → fault ≡ Memory
only_memory s states drafts b fault h (inl m) = m
only_memory s states drafts b fault h (inr k) =
    let z = zip_at (SpellsReaction s states) b.reactions drafts k.0 k.1 k.2 h.reactions in
    absurd (neither z.0 z.1 k.3)
  where
    neither : (r : Reaction) → SpellsReaction s states r k.1 → IsTriggerFault s (k.0 + 1) k.1.triggers fault ⊎ IsLineFault s states (k.0 + 1) k.1.body fault → ⊥
    neither r g (inl f) = trigger_no_fault s (k.0 + 1) k.1.triggers r.triggers fault g.triggers f
    neither r g (inr f) = line_no_fault s states (k.0 + 1) k.1.body r.body fault g.body f
