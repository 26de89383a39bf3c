-- What a text spells, and what is answered for it.
use Rattle.std.proofs.Common.{◌≡◌, ℕ, ◌*◌, ◌^◌, ◌<◌, ◌≤◌, ◌↔◌, inl, inr, Option, Some, None, Result, Ok, Err, List, ◌++◌, length, length-append, replicate, codes, SomeIff, ok_or, IfOk, refl, sym, ap, ◌∙◌, arith}
use Rattle.std.specs.Str.Parse.{digits_value}
use Rattle.tag_text.specs.Duration.{HasParts, Spells}
use Rattle.tag_text.specs.declared.duration.DurationFault.{DurationFault}
use Rattle.tag_text.specs.declared.duration.DurationFault.TheVariants.{BadDuration, TooLong}
use Rattle.tag_text.proofs.Parts.{same_value, name_some}

-- `0` alone has no unit
zero_has_no_parts : (text digits : List ℕ) (unit : ℕ) → text ≡ codes "0" → HasParts text digits unit → ⊥
zero_has_no_parts text digits unit e p =
    omega (arith, p.some_digits, name_some p.name unit p.unit_is, length-append digits (replicate p.spaces 32 ++ p.name), length-append (replicate p.spaces 32) p.name, ap length p.text_is, ap length e)

-- one text spells one value
pub one_value : (text : List ℕ) (v w : ℕ) → Spells text v → Spells text w → v ≡ w
one_value text v w (inl p) (inl q) = p.1 ∙ sym q.1
one_value text v w (inl p) (inr q) = absurd (zero_has_no_parts text q.digits q.unit p.0 q.parts)
one_value text v w (inr p) (inl q) = absurd (zero_has_no_parts text p.digits p.unit q.0 p.parts)
one_value text v w (inr p) (inr q) =
    p.value_is ∙ same_value text p.digits q.digits p.unit q.unit p.parts q.parts ∙ sym q.value_is

-- the promise of the parser
pub record IsAnswer (text : List ℕ) (result : Result ℕ DurationFault) : Type 0 where
  pub ok : IfOk result (λ value. Spells text value × (value < 2 ^ 62))
  pub exact : (value : ℕ) → Spells text value → value < 2 ^ 62 → result ≡ Ok value
  pub too_long : (result ≡ Err TooLong) ↔ ((value : ℕ) × Spells text value × (2 ^ 62 ≤ value))
  pub bad : (result ≡ Err BadDuration) ↔ ((value : ℕ) → Spells text value → ⊥)

short_answer : (text : List ℕ) (value : ℕ) → Spells text value → value < 2 ^ 62 → IsAnswer text (Ok value)
short_answer text value s h = record {
  ok = (s, h);
  exact = λ w t k. ap (λ x. Ok x) (one_value text value w s t);
  too_long = (λ e. cc, λ t. absurd (omega (arith, h, one_value text value t.0 s t.1, t.2)));
  bad = (λ e. cc, λ f. absurd (f value s));
}

long_answer : (text : List ℕ) (value : ℕ) → Spells text value → 2 ^ 62 ≤ value → IsAnswer text (Err TooLong)
long_answer text value s h = record {
  ok = tt;
  exact = λ w t k. absurd (omega (arith, h, one_value text value w s t, k));
  too_long = (λ e. (value, s, h), λ t. refl);
  bad = (λ e. cc, λ f. absurd (f value s));
}

bad_answer : (text : List ℕ) → ((value : ℕ) → Spells text value → ⊥) → IsAnswer text (Err BadDuration)
bad_answer text none = record {
  ok = tt;
  exact = λ w t k. absurd (none w t);
  too_long = (λ e. cc, λ t. absurd (none t.0 t.1));
  bad = (λ e. none, λ f. refl);
}

pub zero_answer : (text : List ℕ) → text ≡ codes "0" → IsAnswer text (Ok 0)
zero_answer text e = short_answer text 0 (inl (e, refl)) (omega arith)

pub none_answer : (text : List ℕ) → (text ≡ codes "0" → ⊥) → ((digits : List ℕ) (unit : ℕ) → HasParts text digits unit → ⊥) → IsAnswer text (Err BadDuration)
none_answer text no_zero no_parts = bad_answer text (λ value s. none_spelled value s)
  where
    none_spelled : (value : ℕ) → Spells text value → ⊥
    none_spelled value (inl p) = no_zero p.0
    none_spelled value (inr p) = no_parts p.digits p.unit p.parts

pub some_answer : (text digits : List ℕ) (unit : ℕ) (r : Option ℕ) → HasParts text digits unit → SomeIff r (digits_value 10 digits * unit < 2 ^ 62) (digits_value 10 digits * unit) → IsAnswer text (ok_or r TooLong)
some_answer text digits unit None p h =
    long_answer text (digits_value 10 digits * unit) (inr (record { digits = digits; unit = unit; parts = p; value_is = refl })) (omega (arith, h))
some_answer text digits unit (Some value) p h =
    short_answer text value (inr (record { digits = digits; unit = unit; parts = p; value_is = h.1 })) (omega (arith, h.0, h.1))
