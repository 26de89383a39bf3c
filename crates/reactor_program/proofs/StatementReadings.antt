-- Reading expressions and statements from the readings of their parts.
use Rattle.std.proofs.Common.{◌≡◌, ℕ, ◌+◌, ◌<◌, ◌^◌, false, List, [], ◌∷◌, ◌++◌, IsTrue, Result, Option, Some, None, codes, get_or, refl, sym, ap, ◌∙◌, subst, arith}
use Rattle.std.specs.Option.{option_map, option_and_then}
use Rattle.tag.specs.LogicalTime.{delay_of}
use Rattle.plan_slots.specs.declared.slots.Slots.{Slots}
use Rattle.plan_names.specs.Naming.{place_of}
use Rattle.plan_slots.specs.Numbering.{first_action}
use Rattle.reactor_program.specs.declared.program.State as StateOf
use Rattle.reactor_program.specs.declared.program.Operand.{Operand}
use Rattle.reactor_program.specs.declared.program.Operator.{Operator}
use Rattle.reactor_program.specs.declared.program.Expression.{Expression}
use Rattle.reactor_program.specs.declared.program.Expression.TheVariants.{Single, Binary}
use Rattle.reactor_program.specs.declared.program.Statement.TheVariants.{Assign, Output, Schedule}
use Rattle.reactor_program.specs.declared.fault.LineFault.{LineFault}
use Rattle.reactor_program.specs.Tokens.{tokens_of}
use Rattle.plan_names.specs.Spelling.{is_name}
use Rattle.reactor_program.specs.Grammar.{WrittenOperand, WrittenExpression, Alone, Combined, WrittenStatement, AssignTo, OutputTo, ScheduleAfter, operator_token, SpellsOperand, SpellsExpression, SpellsDuration, SpellsStatement}
use Rattle.reactor_program.specs.Resolution.{state_names, operand_of, expression_of, statement_of}
use Rattle.reactor_program.specs.Reading.{IsReading, IsTimed, name_read, made_of, made_of_both}
use Rattle.reactor_program.proofs.Readings.{Wraps, wrapped, Joins, joined, IsNamed, named, dotted_out, not_dotted, mapped_first}
use Rattle.reactor_program.proofs.OneReading.{name_and_other, no_equals, duration_one}

-- the tokens of a text, from its first tokens and what follows them
pub token_alone : {left : List ℕ} {tokens rest : List (List ℕ)} → tokens ≡ left ∷ rest → rest ≡ [] → tokens ≡ left ∷ []
token_alone {left} {tokens} {rest} e f = rw f at e

pub tokens_combined : {left sign right : List ℕ} {tokens after_left after_sign : List (List ℕ)} (o : Operator)
    → tokens ≡ left ∷ after_left → after_left ≡ sign ∷ after_sign → sign ≡ operator_token o → after_sign ≡ right ∷ [] → tokens ≡ left ∷ operator_token o ∷ right ∷ []
tokens_combined {left} {sign} {right} {tokens} {after_left} {after_sign} o e f g h = rw (e, f, g, h) refl

-- expressions
single_wraps : (s : Slots) (states : List StateOf.State) (tokens : List (List ℕ)) (left : List ℕ) → tokens ≡ left ∷ []
    → Wraps Alone (λ w. SpellsOperand w left) (λ w. SpellsExpression w tokens) (operand_of s states) (expression_of s states) Single
single_wraps s states tokens left e = record {
  intro = λ v h. (left, e, h);
  inverse = back;
  means = λ v. refl;
}
  where
    back : (w : WrittenExpression) → SpellsExpression w tokens → (v : WrittenOperand) × SpellsOperand v left
    back (Alone a) h = let f : left ∷ [] ≡ h.0 ∷ [] = sym e ∙ h.1 in let g : h.0 ≡ left = cc in let P : List ℕ → Type 0 = λ x. SpellsOperand a x in (a, subst P g h.2)
    back (Combined a o b) h = let f = sym e ∙ h.2 in cc

pub single_reading : (s : Slots) (states : List StateOf.State) (tokens : List (List ℕ)) (left : List ℕ) → tokens ≡ left ∷ [] → (r : Result Operand LineFault)
    → IsReading (λ w. SpellsOperand w left) (operand_of s states) r → IsReading (λ w. SpellsExpression w tokens) (expression_of s states) (made_of Single r)
single_reading s states tokens left e r h =
    wrapped Alone (λ w. SpellsOperand w left) (λ w. SpellsExpression w tokens) (operand_of s states) (expression_of s states) Single (single_wraps s states tokens left e) r h

combined_joins : (s : Slots) (states : List StateOf.State) (o : Operator) (tokens : List (List ℕ)) (left right : List ℕ) → tokens ≡ left ∷ operator_token o ∷ right ∷ []
    → Joins (λ a b. Combined a o b) (λ w. SpellsOperand w left) (λ w. SpellsOperand w right) (λ w. SpellsExpression w tokens)
    (operand_of s states) (operand_of s states) (expression_of s states) (λ a b. Binary a o b)
combined_joins s states o tokens left right e = record {
  intro = λ u v h k. (left, right, e, h, k);
  inverse = back;
  means = λ u v. refl;
}
  where
    back : (w : WrittenExpression) → SpellsExpression w tokens → (u v : WrittenOperand) × SpellsOperand u left × SpellsOperand v right
    back (Alone a) h = let f = sym e ∙ h.1 in cc
    back (Combined a p b) h =
        let f : left ∷ operator_token o ∷ right ∷ [] ≡ h.0 ∷ operator_token p ∷ h.1 ∷ [] = sym e ∙ h.2 in
        let g : h.0 ≡ left = cc in
        let k : h.1 ≡ right = cc in
        let P : List ℕ → Type 0 = λ x. SpellsOperand a x in
        let Q : List ℕ → Type 0 = λ x. SpellsOperand b x in
        (a, b, subst P g h.3, subst Q k h.4)

pub combined_reading : (s : Slots) (states : List StateOf.State) (o : Operator) (tokens : List (List ℕ)) (left right : List ℕ) → tokens ≡ left ∷ operator_token o ∷ right ∷ []
    → (r q : Result Operand LineFault) → IsReading (λ w. SpellsOperand w left) (operand_of s states) r → IsReading (λ w. SpellsOperand w right) (operand_of s states) q
    → IsReading (λ w. SpellsExpression w tokens) (expression_of s states) (made_of_both (λ a b. Binary a o b) r q)
combined_reading s states o tokens left right e r q h k =
    joined (λ a b. Combined a o b) (λ w. SpellsOperand w left) (λ w. SpellsOperand w right) (λ w. SpellsExpression w tokens)
    (operand_of s states) (operand_of s states) (expression_of s states) (λ a b. Binary a o b) (combined_joins s states o tokens left right e) r q h k

-- statements
pub none_in_nothing : (tokens : List (List ℕ)) → tokens ≡ [] → (w : WrittenStatement) → SpellsStatement w tokens → ⊥
none_in_nothing tokens e (AssignTo x a) h = let f = sym e ∙ h.1 in cc
none_in_nothing tokens e (OutputTo p a) h = let f = sym e ∙ h.1 in cc
none_in_nothing tokens e (ScheduleAfter c time a) h = let f = sym e ∙ h.2 in cc

pub none_in_one : (tokens : List (List ℕ)) (first : List ℕ) → tokens ≡ first ∷ [] → (w : WrittenStatement) → SpellsStatement w tokens → ⊥
none_in_one tokens first e (AssignTo x a) h = let f = sym e ∙ h.1 in cc
none_in_one tokens first e (OutputTo p a) h = let f = sym e ∙ h.1 in cc
none_in_one tokens first e (ScheduleAfter c time a) h = let f = sym e ∙ h.2 in cc

-- what begins with another word than `schedule` has `=` after it
pub none_without_equals : (tokens : List (List ℕ)) (first second : List ℕ) (rest : List (List ℕ)) → tokens ≡ first ∷ second ∷ rest → (first ≡ codes "schedule" → ⊥) → (second ≡ codes "=" → ⊥)
    → (w : WrittenStatement) → SpellsStatement w tokens → ⊥
none_without_equals tokens first second rest e other unequal (AssignTo x a) h = let f : first ∷ second ∷ rest ≡ x ∷ codes "=" ∷ h.0 = sym e ∙ h.1 in unequal (cc)
none_without_equals tokens first second rest e other unequal (OutputTo p a) h = let f : first ∷ second ∷ rest ≡ (codes "out." ++ p) ∷ codes "=" ∷ h.0 ∷ [] = sym e ∙ h.1 in unequal (cc)
none_without_equals tokens first second rest e other unequal (ScheduleAfter c time a) h = let f : first ∷ second ∷ rest ≡ codes "schedule" ∷ c ∷ (h.0 ++ h.1 ∷ []) = sym e ∙ h.2 in other (cc)

out_or_schedule : (p : List ℕ) → codes "out." ++ p ≡ codes "schedule" → ⊥
out_or_schedule p e = let f : List ℕ → ℕ = λ l. get_or l 0 0 in clash (ap f e)
  where
    clash : ◌≡◌ {A = ℕ} 111 115 → ⊥
    clash h = absurd (omega arith)

output_joins : (s : Slots) (states : List StateOf.State) (port : List ℕ) (tokens : List (List ℕ)) (value : List ℕ) → tokens ≡ value ∷ []
    → Joins OutputTo (IsNamed is_name port) (λ w. SpellsOperand w value) (λ w. SpellsStatement w ((codes "out." ++ port) ∷ codes "=" ∷ tokens))
    (place_of s.outputs) (operand_of s states) (statement_of s states) Output
output_joins s states port tokens value e = record {
  intro = λ u v h k. (value, cc, h.0, k);
  inverse = back;
  means = λ u v. refl;
}
  where
    back : (w : WrittenStatement) → SpellsStatement w ((codes "out." ++ port) ∷ codes "=" ∷ tokens) → (u : List ℕ) × (v : WrittenOperand) × IsNamed is_name port u × SpellsOperand v value
    back (AssignTo x a) h = absurd (not_dotted (λ z. codes "out." ++ z) (codes "out." ++ port) port x refl (dotted_out port) h.2 (cc h.1))
    back (OutputTo p a) h =
        let f : codes "out." ++ port ≡ codes "out." ++ p = cc h.1 in
        let g : port ≡ p = cc in
        let t : h.0 ≡ value = cc (h.1, e) in
        let P : List ℕ → Type 0 = λ x. SpellsOperand a x in
        (p, a, (h.2, g), subst P t h.3)
    back (ScheduleAfter c time a) h =
        let f : codes "out." ++ port ≡ codes "schedule" = cc h.2 in
        absurd (out_or_schedule port f)

pub output_reading : (s : Slots) (states : List StateOf.State) (port : List ℕ) (tokens : List (List ℕ)) (value : List ℕ) → tokens ≡ value ∷ []
    → (r : Result ℕ LineFault) (q : Result Operand LineFault) → r ≡ name_read (is_name port) (place_of s.outputs port) → IsReading (λ w. SpellsOperand w value) (operand_of s states) q
    → IsReading (λ w. SpellsStatement w ((codes "out." ++ port) ∷ codes "=" ∷ tokens)) (statement_of s states) (made_of_both Output r q)
output_reading s states port tokens value e r q h k =
    joined OutputTo (IsNamed is_name port) (λ w. SpellsOperand w value) (λ w. SpellsStatement w ((codes "out." ++ port) ∷ codes "=" ∷ tokens))
    (place_of s.outputs) (operand_of s states) (statement_of s states) Output (output_joins s states port tokens value e) r q
    (let P : Result ℕ LineFault → Type 0 = IsReading (IsNamed is_name port) (place_of s.outputs) in
    subst P (sym h) (named is_name (place_of s.outputs) port (is_name port) refl (place_of s.outputs port) refl)) k

assign_joins : (s : Slots) (states : List StateOf.State) (state : List ℕ) (tokens : List (List ℕ)) → ((x : List ℕ) → state ≡ codes "out." ++ x → ⊥)
    → Joins AssignTo (IsNamed is_name state) (λ w. SpellsExpression w tokens) (λ w. SpellsStatement w (state ∷ codes "=" ∷ tokens))
    (place_of (state_names states)) (expression_of s states) (statement_of s states) Assign
assign_joins s states state tokens apart = record {
  intro = λ u v h k. (tokens, cc, h.0, k);
  inverse = back;
  means = λ u v. refl;
}
  where
    back : (w : WrittenStatement) → SpellsStatement w (state ∷ codes "=" ∷ tokens) → (u : List ℕ) × (v : WrittenExpression) × IsNamed is_name state u × SpellsExpression v tokens
    back (AssignTo x a) h =
        let f : state ≡ x = cc h.1 in
        let g : h.0 ≡ tokens = cc h.1 in
        let P : List (List ℕ) → Type 0 = λ t. SpellsExpression a t in
        (x, a, (h.2, f), subst P g h.3)
    back (OutputTo p a) h = absurd (apart p (cc h.1))
    back (ScheduleAfter c time a) h =
        let f : codes "=" ≡ c = cc h.2 in
        absurd (name_and_other (codes "=") c no_equals h.3 f)

pub assign_reading : (s : Slots) (states : List StateOf.State) (state : List ℕ) (tokens : List (List ℕ)) → ((x : List ℕ) → state ≡ codes "out." ++ x → ⊥)
    → (r : Result ℕ LineFault) (q : Result Expression LineFault) → r ≡ name_read (is_name state) (place_of (state_names states) state) → IsReading (λ w. SpellsExpression w tokens) (expression_of s states) q
    → IsReading (λ w. SpellsStatement w (state ∷ codes "=" ∷ tokens)) (statement_of s states) (made_of_both Assign r q)
assign_reading s states state tokens apart r q h k =
    joined AssignTo (IsNamed is_name state) (λ w. SpellsExpression w tokens) (λ w. SpellsStatement w (state ∷ codes "=" ∷ tokens))
    (place_of (state_names states)) (expression_of s states) (statement_of s states) Assign (assign_joins s states state tokens apart) r q
    (let P : Result ℕ LineFault → Type 0 = IsReading (IsNamed is_name state) (place_of (state_names states)) in
    subst P (sym h) (named is_name (place_of (state_names states)) state (is_name state) refl (place_of (state_names states) state) refl)) k

-- schedulings
no_schedule_name : is_name (codes "schedule") ≡ false
no_schedule_name = refl

-- what begins with `schedule` is a scheduling: of an action, and with a duration and an operand after it
record IsScheduling (w : WrittenStatement) (tokens : List (List ℕ)) : Type 0 where
  action : List ℕ
  time : ℕ
  value : WrittenOperand
  duration : List (List ℕ)
  token : List ℕ
  tokens_are : tokens ≡ action ∷ (duration ++ token ∷ [])
  name : IsTrue (is_name action)
  spells : SpellsDuration time duration
  short : time < 2 ^ 62
  operand : SpellsOperand value token

scheduling : (w : WrittenStatement) (tokens : List (List ℕ)) → SpellsStatement w (codes "schedule" ∷ tokens) → IsScheduling w tokens
scheduling (AssignTo x a) tokens h =
    let f : codes "schedule" ≡ x = cc h.1 in
    absurd (name_and_other (codes "schedule") x no_schedule_name h.2 f)
scheduling (OutputTo p a) tokens h =
    let f : codes "out." ++ p ≡ codes "schedule" = cc h.1 in
    absurd (out_or_schedule p f)
scheduling (ScheduleAfter c time a) tokens h = record {
  action = c;
  time = time;
  value = a;
  duration = h.0;
  token = h.1;
  tokens_are = cc h.2;
  name = h.3;
  spells = h.4;
  short = h.5;
  operand = h.6;
}

pub no_scheduling : (text action rest : List ℕ) → tokens_of text ≡ action ∷ tokens_of rest → ((time : ℕ) (token : List ℕ) → IsTimed rest time token → ⊥)
    → (w : WrittenStatement) → SpellsStatement w (codes "schedule" ∷ tokens_of text) → ⊥
no_scheduling text action rest e none w h =
    let k = scheduling w (tokens_of text) h in
    let f : action ∷ tokens_of rest ≡ k.action ∷ (k.duration ++ k.token ∷ []) = sym e ∙ k.tokens_are in
    let g : tokens_of rest ≡ k.duration ++ k.token ∷ [] = cc in
    none k.time k.token (k.duration, g, k.spells, k.short)

-- the slot of an action
abbrev pub slot_in : Slots → List ℕ → Option ℕ
slot_in s c = option_map (λ place. first_action s + place) (place_of s.actions c)

schedule_joins : (s : Slots) (states : List StateOf.State) (text action rest value : List ℕ) (time : ℕ) → tokens_of text ≡ action ∷ tokens_of rest → IsTimed rest time value
    → Joins (λ c a. ScheduleAfter c time a) (IsNamed is_name action) (λ w. SpellsOperand w value) (λ w. SpellsStatement w (codes "schedule" ∷ tokens_of text))
    (slot_in s) (operand_of s states) (statement_of s states) (λ slot a. Schedule slot (delay_of time) a)
schedule_joins s states text action rest value time e t = record {
  intro = λ u v h k. (t.0, value, spelled u h.1, h.0, t.2, t.3, k);
  inverse = back;
  means = λ u v. mapped_first (λ place. first_action s + place) (λ slot. option_map (λ a. Schedule slot (delay_of time) a) (operand_of s states v)) (place_of s.actions u);
}
  where
    spelled : (u : List ℕ) → action ≡ u → codes "schedule" ∷ tokens_of text ≡ codes "schedule" ∷ u ∷ (t.0 ++ value ∷ [])
    spelled u f = ap (λ ts. codes "schedule" ∷ ts) (e ∙ ap (λ x. x ∷ tokens_of rest) f ∙ ap (λ ts. u ∷ ts) t.1)

    back : (w : WrittenStatement) → SpellsStatement w (codes "schedule" ∷ tokens_of text) → (u : List ℕ) × (v : WrittenOperand) × IsNamed is_name action u × SpellsOperand v value
    back w h =
        let k = scheduling w (tokens_of text) h in
        let f : action ∷ tokens_of rest ≡ k.action ∷ (k.duration ++ k.token ∷ []) = sym e ∙ k.tokens_are in
        let g : k.action ≡ action = cc in
        let i : k.duration ++ k.token ∷ [] ≡ t.0 ++ value ∷ [] = cc (f, t.1) in
        let d = duration_one k.time time k.duration t.0 k.token value i k.spells t.2 in
        let P : List ℕ → Type 0 = λ x. SpellsOperand k.value x in
        (k.action, k.value, (k.name, sym g), subst P d.1 k.operand)

pub schedule_reading : (s : Slots) (states : List StateOf.State) (text action rest value : List ℕ) (time : ℕ) → tokens_of text ≡ action ∷ tokens_of rest → IsTimed rest time value
    → (r : Result ℕ LineFault) (q : Result Operand LineFault) → r ≡ name_read (is_name action) (slot_in s action) → IsReading (λ w. SpellsOperand w value) (operand_of s states) q
    → IsReading (λ w. SpellsStatement w (codes "schedule" ∷ tokens_of text)) (statement_of s states) (made_of_both (λ slot a. Schedule slot (delay_of time) a) r q)
schedule_reading s states text action rest value time e t r q h k =
    joined (λ c a. ScheduleAfter c time a) (IsNamed is_name action) (λ w. SpellsOperand w value) (λ w. SpellsStatement w (codes "schedule" ∷ tokens_of text))
    (slot_in s) (operand_of s states) (statement_of s states) (λ slot a. Schedule slot (delay_of time) a) (schedule_joins s states text action rest value time e t) r q
    (let P : Result ℕ LineFault → Type 0 = IsReading (IsNamed is_name action) (slot_in s) in
    subst P (sym h) (named is_name (slot_in s) action (is_name action) refl (slot_in s action) refl)) k
