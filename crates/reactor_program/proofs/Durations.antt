-- Durations in tokens: two tokens spell the same with any spaces between them.
use Rattle.std.proofs.Common.{◌≡◌, ℕ, zero, suc, ◌<◌, ◌^◌, ◌⊎◌, inl, inr, true, ◌&&◌, List, [], ◌∷◌, ◌++◌, length, length-append, replicate, codes, refl, sym, ap, ◌∙◌, subst, arith}
use Rattle.std.specs.Prelude.{IsUtf8, IsAscii}
use Rattle.std.specs.Char.{is_ascii, is_ascii_digit}
use Rattle.std.specs.List.{list_all}
use Rattle.std.specs.Str.{all_ascii_digits}
use Rattle.std.proofs.lemmas.Bool.{and_parts}
use Rattle.std.proofs.lemmas.Bool.Decides.{nat_tests}
use Rattle.std.proofs.lemmas.List.{append_assoc}
use Rattle.std.proofs.lemmas.List.Folds.{list_all-append}
use Rattle.std.proofs.lemmas.Str.{IsAscii-append, IsUtf8-from_ascii}
use Rattle.std.proofs.lemmas.Str.Ascii.{IsAscii-nil, IsAscii-cons}
use Rattle.tag_text.specs.Duration.{IsUnit, Spells}
use Rattle.reactor_program.specs.Tokens.{is_word_character, tokens_of}
use Rattle.reactor_program.specs.Grammar.{SpellsDuration}
use Rattle.reactor_program.specs.Reading.{IsTimed, AreFirstTokens}
use Rattle.reactor_program.proofs.FirstTokens.{first_by_itself, tokens_after_spaces, single_token}

-- digits and names of units are words
digit_in_word : (c : ℕ) → is_ascii_digit c ≡ true → is_word_character c ≡ true
digit_in_word c h = grind (arith, nat_tests)

digits_word : (ds : List ℕ) → all_ascii_digits ds ≡ true → list_all is_word_character ds ≡ true
digits_word [] h = refl
digits_word (d ∷ ds) h =
    let both = and_parts (is_ascii_digit d) (all_ascii_digits ds) h in
    let one : is_word_character d ≡ true = digit_in_word d both.0 in
    rw one (digits_word ds both.1)

record IsUnitName (name : List ℕ) : Type 0 where
  some : 0 < length name
  word : list_all is_word_character name ≡ true
  ascii : list_all is_ascii name ≡ true

unit_name : (name : List ℕ) (unit : ℕ) → IsUnit name unit → IsUnitName name
unit_name name unit (inl (inl e, f)) = subst IsUnitName (sym e) (record { some = omega arith; word = refl; ascii = refl })
unit_name name unit (inl (inr e, f)) = subst IsUnitName (sym e) (record { some = omega arith; word = refl; ascii = refl })
unit_name name unit (inr (inl (inl e, f))) = subst IsUnitName (sym e) (record { some = omega arith; word = refl; ascii = refl })
unit_name name unit (inr (inl (inr e, f))) = subst IsUnitName (sym e) (record { some = omega arith; word = refl; ascii = refl })
unit_name name unit (inr (inr (inl (inl e, f)))) = subst IsUnitName (sym e) (record { some = omega arith; word = refl; ascii = refl })
unit_name name unit (inr (inr (inl (inr e, f)))) = subst IsUnitName (sym e) (record { some = omega arith; word = refl; ascii = refl })
unit_name name unit (inr (inr (inr (inl e, f)))) = subst IsUnitName (sym e) (record { some = omega arith; word = refl; ascii = refl })
unit_name name unit (inr (inr (inr (inr e, f)))) = subst IsUnitName (sym e) (record { some = omega arith; word = refl; ascii = refl })

-- two tokens of a duration are its number and its unit
split_by : (digits name first second : List ℕ) (m : ℕ) → 0 < length digits → list_all is_word_character digits ≡ true → IsUnitName name
    → tokens_of (digits ++ (replicate m 32 ++ name)) ≡ first ∷ second ∷ [] → (first ≡ digits) × (second ≡ name)
split_by digits name first second zero some d u t =
    let word : list_all is_word_character (digits ++ name) ≡ true = list_all-append is_word_character digits name ∙ ap (λ b. b && list_all is_word_character name) d ∙ u.word in
    let long : 0 < length (digits ++ name) = omega (arith, length-append digits name) in
    let f : (digits ++ name) ∷ [] ≡ first ∷ second ∷ [] = sym (single_token (digits ++ name) long word) ∙ t in
    cc
split_by digits name first second (suc m) some d u t =
    let rest = replicate (suc m) 32 ++ name in
    let two : tokens_of (digits ++ rest) ≡ digits ∷ name ∷ [] =
    first_by_itself digits rest (inr (some, d, refl)) ∙ ap (λ ts. digits ∷ ts) (tokens_after_spaces (suc m) name ∙ single_token name u.some u.word) in
    let f : digits ∷ name ∷ [] ≡ first ∷ second ∷ [] = sym two ∙ t in
    let g : first ≡ digits = cc in
    let h : second ≡ name = cc in
    (g, h)

pub respelled : (text other first second : List ℕ) (n v : ℕ) → tokens_of text ≡ first ∷ second ∷ [] → other ≡ first ++ (replicate n 32 ++ second) → Spells text v → Spells other v
respelled text other first second n v t o (inl p) =
    let f : codes "0" ∷ [] ≡ first ∷ second ∷ [] = sym (ap tokens_of p.0) ∙ t in cc
respelled text other first second n v t o (inr p) =
    let q = p.parts in
    let u = unit_name q.name p.unit q.unit_is in
    let s = split_by p.digits q.name first second q.spaces q.some_digits (digits_word p.digits q.digits_are) u (ap tokens_of (sym q.text_is) ∙ t) in
    inr (record {
      digits = p.digits;
      unit = p.unit;
      parts = record {
        spaces = n;
        name = q.name;
        text_is = o ∙ ap (λ x. x ++ (replicate n 32 ++ second)) s.0 ∙ ap (λ x. p.digits ++ (replicate n 32 ++ x)) s.1;
        some_digits = q.some_digits;
        digits_are = q.digits_are;
        unit_is = q.unit_is;
      };
      value_is = p.value_is;
    })

-- the bytes of a duration are ASCII
ascii_by : (c : ℕ) → is_ascii c ≡ true → c < 128
ascii_by c h = grind (arith, nat_tests)

ascii_all : (bs : List ℕ) → list_all is_ascii bs ≡ true → IsAscii bs
ascii_all [] h = IsAscii-nil
ascii_all (b ∷ bs) h =
    let both = and_parts (is_ascii b) (list_all is_ascii bs) h in
    IsAscii-cons b bs (ascii_by b both.0) (ascii_all bs both.1)

digit_ascii : (c : ℕ) → is_ascii_digit c ≡ true → c < 128
digit_ascii c h = grind (arith, nat_tests)

digits_ascii : (ds : List ℕ) → all_ascii_digits ds ≡ true → IsAscii ds
digits_ascii [] h = IsAscii-nil
digits_ascii (d ∷ ds) h =
    let both = and_parts (is_ascii_digit d) (all_ascii_digits ds) h in
    IsAscii-cons d ds (digit_ascii d both.0) (digits_ascii ds both.1)

spaces_ascii : (n : ℕ) → IsAscii (replicate n 32)
spaces_ascii zero = IsAscii-nil
spaces_ascii (suc n) = IsAscii-cons 32 (replicate n 32) (omega arith) (spaces_ascii n)

pub duration_is_text : (text : List ℕ) (v : ℕ) → Spells text v → IsUtf8 text
duration_is_text text v (inl p) = IsUtf8-from_ascii text (subst IsAscii (sym p.0) (ascii_all (codes "0") refl))
duration_is_text text v (inr p) =
    let q = p.parts in
    let u = unit_name q.name p.unit q.unit_is in
    IsUtf8-from_ascii text (subst IsAscii (sym q.text_is)
    (IsAscii-append p.digits (replicate q.spaces 32 ++ q.name) (digits_ascii p.digits q.digits_are) (IsAscii-append (replicate q.spaces 32) q.name (spaces_ascii q.spaces) (ascii_all q.name u.ascii))))

-- a duration and one token more: two tokens, or three
pub record IsTimedByOne (tokens : List (List ℕ)) (time : ℕ) (token : List ℕ) : Type 0 where
  pub text : List ℕ
  pub tokens_are : tokens ≡ text ∷ token ∷ []
  pub spells : Spells text time
  pub short : time < 2 ^ 62

pub record IsTimedByTwo (tokens : List (List ℕ)) (time : ℕ) (token : List ℕ) : Type 0 where
  pub number : List ℕ
  pub unit : List ℕ
  pub tokens_are : tokens ≡ number ∷ unit ∷ token ∷ []
  pub spells : Spells (number ++ codes " " ++ unit) time
  pub short : time < 2 ^ 62

by_one_or_two : (tokens duration : List (List ℕ)) (time : ℕ) (token : List ℕ) → tokens ≡ duration ++ token ∷ [] → SpellsDuration time duration → time < 2 ^ 62
    → IsTimedByOne tokens time token ⊎ IsTimedByTwo tokens time token
by_one_or_two tokens duration time token e (inl h) short =
    inl (record { text = h.0; tokens_are = e ∙ ap (λ d. d ++ token ∷ []) h.1; spells = h.2; short = short })
by_one_or_two tokens duration time token e (inr h) short =
    inr (record { number = h.0; unit = h.1; tokens_are = e ∙ ap (λ d. d ++ token ∷ []) h.2; spells = h.3; short = short })

one_or_two : (text : List ℕ) (time : ℕ) (token : List ℕ) → IsTimed text time token → IsTimedByOne (tokens_of text) time token ⊎ IsTimedByTwo (tokens_of text) time token
one_or_two text time token h = by_one_or_two (tokens_of text) h.0 time token h.1 h.2 h.3

pub no_token : (text : List ℕ) → tokens_of text ≡ [] → (time : ℕ) (token : List ℕ) → IsTimed text time token → ⊥
no_token text e time token h = by (one_or_two text time token h)
  where
    by : IsTimedByOne (tokens_of text) time token ⊎ IsTimedByTwo (tokens_of text) time token → ⊥
    by (inl k) = let f = sym e ∙ k.tokens_are in cc
    by (inr k) = let f = sym e ∙ k.tokens_are in cc

pub not_two : (text : List ℕ) → ((first second : List ℕ) (rest : List (List ℕ)) → tokens_of text ≡ first ∷ second ∷ rest → ⊥) → (time : ℕ) (token : List ℕ) → IsTimed text time token → ⊥
not_two text none time token h = by (one_or_two text time token h)
  where
    by : IsTimedByOne (tokens_of text) time token ⊎ IsTimedByTwo (tokens_of text) time token → ⊥
    by (inl k) = none k.text token [] k.tokens_are
    by (inr k) = none k.number k.unit (token ∷ []) k.tokens_are

pub timed_by_one : (text first value : List ℕ) (time : ℕ) → tokens_of text ≡ first ∷ value ∷ [] → Spells first time → time < 2 ^ 62 → IsTimed text time value
timed_by_one text first value time e s short = (first ∷ [], e, inl (first, refl, s), short)

pub no_time_in_one : (text first value : List ℕ) → tokens_of text ≡ first ∷ value ∷ [] → ((time : ℕ) → Spells first time → time < 2 ^ 62 → ⊥) → (time : ℕ) (token : List ℕ) → IsTimed text time token → ⊥
no_time_in_one text first value e none time token h = by (one_or_two text time token h)
  where
    by : IsTimedByOne (tokens_of text) time token ⊎ IsTimedByTwo (tokens_of text) time token → ⊥
    by (inl k) =
        let f : k.text ∷ token ∷ [] ≡ first ∷ value ∷ [] = sym k.tokens_are ∙ e in
        let g : k.text ≡ first = cc in
        let P : List ℕ → Type 0 = λ x. Spells x time in
        none time (subst P g k.spells) k.short
    by (inr k) = let f : k.number ∷ k.unit ∷ token ∷ [] ≡ first ∷ value ∷ [] = sym k.tokens_are ∙ e in cc

-- the first token isn't followed by one alone, so the duration is in two
in_two : (text first rest : List ℕ) → tokens_of text ≡ first ∷ tokens_of rest → ((value : List ℕ) → tokens_of rest ≡ value ∷ [] → ⊥) → (time : ℕ) (token : List ℕ) → IsTimed text time token → IsTimedByTwo (tokens_of text) time token
in_two text first rest e none time token h = by (one_or_two text time token h)
  where
    by : IsTimedByOne (tokens_of text) time token ⊎ IsTimedByTwo (tokens_of text) time token → IsTimedByTwo (tokens_of text) time token
    by (inl k) =
        let f : k.text ∷ token ∷ [] ≡ first ∷ tokens_of rest = sym k.tokens_are ∙ e in
        let g : tokens_of rest ≡ token ∷ [] = cc in
        absurd (none token g)
    by (inr k) = k

pub timed_by_two : (text both rest value : List ℕ) (time : ℕ) → AreFirstTokens text both rest → tokens_of rest ≡ value ∷ [] → Spells both time → time < 2 ^ 62 → IsTimed text time value
timed_by_two text both rest value time a e s short =
    let one : a.first ++ codes " " ++ a.second ≡ a.first ++ (replicate 1 32 ++ a.second) = append_assoc a.first (codes " ") a.second in
    let t = respelled both (a.first ++ codes " " ++ a.second) a.first a.second 1 time a.both_tokens one s in
    (a.first ∷ a.second ∷ [], a.tokens ∙ ap (λ ts. a.first ∷ a.second ∷ ts) e, inr (a.first, a.second, refl, t), short)

pub not_three : (text first after both rest : List ℕ) → tokens_of text ≡ first ∷ tokens_of after → ((value : List ℕ) → tokens_of after ≡ value ∷ [] → ⊥) → AreFirstTokens text both rest
    → ((value : List ℕ) → tokens_of rest ≡ value ∷ [] → ⊥) → (time : ℕ) (token : List ℕ) → IsTimed text time token → ⊥
not_three text first after both rest e alone a none time token h =
    let k = in_two text first after e alone time token h in
    let f : k.number ∷ k.unit ∷ token ∷ [] ≡ a.first ∷ a.second ∷ tokens_of rest = sym k.tokens_are ∙ a.tokens in
    let g : tokens_of rest ≡ token ∷ [] = cc in
    none token g

pub no_time_in_two : (text first after both rest : List ℕ) → tokens_of text ≡ first ∷ tokens_of after → ((value : List ℕ) → tokens_of after ≡ value ∷ [] → ⊥) → AreFirstTokens text both rest
    → ((time : ℕ) → Spells both time → time < 2 ^ 62 → ⊥) → (time : ℕ) (token : List ℕ) → IsTimed text time token → ⊥
no_time_in_two text first after both rest e alone a none time token h =
    let k = in_two text first after e alone time token h in
    let f : k.number ∷ k.unit ∷ token ∷ [] ≡ a.first ∷ a.second ∷ tokens_of rest = sym k.tokens_are ∙ a.tokens in
    let g : k.number ≡ a.first = cc in
    let i : k.unit ≡ a.second = cc in
    let l : k.number ++ codes " " ++ k.unit ≡ a.first ++ codes " " ++ a.second = ap (λ x. x ++ codes " " ++ k.unit) g ∙ ap (λ x. a.first ++ codes " " ++ x) i in
    let P : List ℕ → Type 0 = λ x. Spells x time in
    none time (respelled (a.first ++ codes " " ++ a.second) both a.first a.second a.spaces time a.with_one_space a.both_are (subst P l k.spells)) k.short
