-- Reading lines, with a condition or without, from the readings of their parts.
use Rattle.std.proofs.Common.{◌≡◌, ℕ, List, ◌∷◌, Result, Option, Some, None, codes, refl, sym, ap, ◌∙◌, subst}
use Rattle.std.specs.Option.{option_map, option_and_then}
use Rattle.plan_slots.specs.declared.slots.Slots.{Slots}
use Rattle.reactor_program.specs.declared.program.State as StateOf
use Rattle.reactor_program.specs.declared.program.Operand.{Operand}
use Rattle.reactor_program.specs.declared.program.Statement.{Statement}
use Rattle.reactor_program.specs.declared.program.Line.{Line}
use Rattle.reactor_program.specs.declared.fault.LineFault.{LineFault}
use Rattle.reactor_program.specs.Grammar.{WrittenOperand, WrittenStatement, WrittenLine, SpellsOperand, SpellsStatement, SpellsGuarded, SpellsLine}
use Rattle.reactor_program.specs.Resolution.{operand_of, statement_of, line_of}
use Rattle.reactor_program.specs.Reading.{IsReading, made_of, made_of_both}
use Rattle.reactor_program.proofs.Readings.{Wraps, wrapped, Joins, joined, mapped_first}
use Rattle.reactor_program.proofs.OneReading.{unguarded}

-- without a condition
abbrev alone : Statement → Line
alone s = record { condition = None; statement = s }

abbrev written_alone : WrittenStatement → WrittenLine
written_alone w = record { condition = None; statement = w }

no_guard : (c : Option WrittenOperand) (w : WrittenStatement) (tokens : List (List ℕ)) (first : List ℕ) (rest : List (List ℕ)) → tokens ≡ first ∷ rest → (first ≡ codes "when" → ⊥)
    → SpellsGuarded c w tokens → SpellsStatement w tokens
no_guard None w tokens first rest e other h = h
no_guard (Some a) w tokens first rest e other h =
    let f : first ∷ rest ≡ codes "when" ∷ h.0 ∷ codes ":" ∷ h.1 = sym e ∙ h.2 in
    let g : first ≡ codes "when" = cc in
    absurd (other g)

line_wraps : (s : Slots) (states : List StateOf.State) (tokens : List (List ℕ)) (first : List ℕ) (rest : List (List ℕ)) → tokens ≡ first ∷ rest → (first ≡ codes "when" → ⊥)
    → Wraps written_alone (λ w. SpellsStatement w tokens) (λ w. SpellsLine w tokens) (statement_of s states) (line_of s states) alone
line_wraps s states tokens first rest e other = record {
  intro = λ v h. h;
  inverse = λ w h. (w.statement, no_guard w.condition w.statement tokens first rest e other h);
  means = λ v. refl;
}

pub line_reading : (s : Slots) (states : List StateOf.State) (tokens : List (List ℕ)) (first : List ℕ) (rest : List (List ℕ)) → tokens ≡ first ∷ rest → (first ≡ codes "when" → ⊥)
    → (r : Result Statement LineFault) → IsReading (λ w. SpellsStatement w tokens) (statement_of s states) r → IsReading (λ w. SpellsLine w tokens) (line_of s states) (made_of alone r)
line_reading s states tokens first rest e other r h =
    wrapped written_alone (λ w. SpellsStatement w tokens) (λ w. SpellsLine w tokens) (statement_of s states) (line_of s states) alone (line_wraps s states tokens first rest e other) r h

-- with a condition
abbrev written_after : WrittenOperand → WrittenStatement → WrittenLine
written_after a w = record { condition = Some a; statement = w }

abbrev pub done_after : Operand → Statement → Line
done_after a s = record { condition = Some a; statement = s }

record IsGuarded (c : Option WrittenOperand) (w : WrittenStatement) (tokens : List (List ℕ)) : Type 0 where
  condition : WrittenOperand
  token : List ℕ
  rest : List (List ℕ)
  tokens_are : tokens ≡ token ∷ codes ":" ∷ rest
  operand : SpellsOperand condition token
  statement : SpellsStatement w rest

guarded : (c : Option WrittenOperand) (w : WrittenStatement) (tokens : List (List ℕ)) → SpellsGuarded c w (codes "when" ∷ tokens) → IsGuarded c w tokens
guarded None w tokens h = absurd (unguarded w tokens h)
guarded (Some a) w tokens h = record {
  condition = a;
  token = h.0;
  rest = h.1;
  tokens_are = cc h.2;
  operand = h.3;
  statement = h.4;
}

abbrev with_condition : Option Operand → Statement → Line
with_condition c st = record { condition = c; statement = st }

guarded_joins : (s : Slots) (states : List StateOf.State) (tokens : List (List ℕ)) (token : List ℕ) (rest : List (List ℕ)) → tokens ≡ token ∷ codes ":" ∷ rest
    → Joins written_after (λ w. SpellsOperand w token) (λ w. SpellsStatement w rest) (λ w. SpellsLine w (codes "when" ∷ tokens)) (operand_of s states) (statement_of s states) (line_of s states) done_after
guarded_joins s states tokens token rest e = record {
  intro = λ u v h k. (token, rest, ap (λ ts. codes "when" ∷ ts) e, h, k);
  inverse = back;
  means = λ u v. sym (mapped_first (λ a. Some a) (λ c. option_map (λ st. with_condition c st) (statement_of s states v)) (operand_of s states u));
}
  where
    back : (w : WrittenLine) → SpellsLine w (codes "when" ∷ tokens) → (u : WrittenOperand) × (v : WrittenStatement) × SpellsOperand u token × SpellsStatement v rest
    back w h =
        let k = guarded w.condition w.statement tokens h in
        let f : k.token ∷ codes ":" ∷ k.rest ≡ token ∷ codes ":" ∷ rest = sym k.tokens_are ∙ e in
        let g : k.token ≡ token = cc in
        let i : k.rest ≡ rest = cc in
        let P : List ℕ → Type 0 = λ x. SpellsOperand k.condition x in
        let Q : List (List ℕ) → Type 0 = λ x. SpellsStatement w.statement x in
        (k.condition, w.statement, subst P g k.operand, subst Q i k.statement)

pub guarded_reading : (s : Slots) (states : List StateOf.State) (tokens : List (List ℕ)) (token : List ℕ) (rest : List (List ℕ)) → tokens ≡ token ∷ codes ":" ∷ rest
    → (r : Result Operand LineFault) (q : Result Statement LineFault) → IsReading (λ w. SpellsOperand w token) (operand_of s states) r → IsReading (λ w. SpellsStatement w rest) (statement_of s states) q
    → IsReading (λ w. SpellsLine w (codes "when" ∷ tokens)) (line_of s states) (made_of_both done_after r q)
guarded_reading s states tokens token rest e r q h k =
    joined written_after (λ w. SpellsOperand w token) (λ w. SpellsStatement w rest) (λ w. SpellsLine w (codes "when" ∷ tokens)) (operand_of s states) (statement_of s states) (line_of s states) done_after
    (guarded_joins s states tokens token rest e) r q h k
