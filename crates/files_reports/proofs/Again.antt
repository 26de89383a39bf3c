-- What is spelled at the front of some bytes is read there, whatever follows: numbers, tags, entries, rows, and lists of them.
use Rattle.std.proofs.Common.{◌≡◌, ℕ, suc, ◌^◌, ◌<◌, ◌≤◌, true, false, ltb, List, [], ◌∷◌, ◌++◌, length, Ok, refl, sym, ap, ◌∙◌, append_assoc, arith, inl, inr, lit<}
use Rattle.std.specs.List.{flat_map, AllByRecursion}
use Rattle.std.specs.Int.{w64, cast_unsigned}
use Rattle.std.proofs.lemmas.Bool.{cases_lt, lt-ltb, le-ltb}
use Rattle.std.proofs.lemmas.List.{drop_at, length-append}
use Rattle.std.proofs.lemmas.List.Concat.{flat_map-cons}
use Rattle.std.proofs.lemmas.Int.{to_z-of_z, ints}
use Rattle.byteorder.specs.Endian.{big_bytes}
use Rattle.byteorder.specs.Numbers.{big_number-reads_back, length-bytes_high_first}
use Rattle.tag.specs.LogicalTime.{LogicalTime, IsLogicalTime, logical_time}
use Rattle.network.specs.Undivided.{Row}
use Rattle.signal.specs.Signal.{tag_bytes}
use Rattle.signal.specs.Fault.{is_tag}
use Rattle.signal.specs.Begun.{tag_of}
use Rattle.files_reports.specs.Said.{AreCounted, IsEntry, IsRowOf}
use Rattle.files_reports.specs.Spelling.{counted, entry_bytes, row_bytes}
use Rattle.files_reports.specs.Reading.{Part, number_part, tag_part, entry_part, many, counted_part, row_part}

-- a part reads what has a spelling
abbrev pub ReadsBack : {X : Type 0} → (List ℕ → Part X) → (X → List ℕ) → (X → Type 0) → Type 0
ReadsBack {X = X} part spelling Is = (x : X) (rest : List ℕ) → Is x → part (spelling x ++ rest) ≡ Ok (x, rest)

pub number_again : (n x : ℕ) (rest : List ℕ) → x < 256 ^ n → number_part n (big_bytes n x ++ rest) ≡ Ok (x, rest)
number_again n x rest lt =
    let size = length-bytes_high_first n x in
    let long : ltb (length (big_bytes n x ++ rest)) n ≡ false = le-ltb _ _ (omega (arith, length-append (big_bytes n x) rest)) in
    rw (long, big_number-reads_back n x rest lt, drop_at (big_bytes n x) rest n size) refl

-- ---- tags

-- a tag in its twelve bytes, as two numbers
pub record IsInBytes (tag : LogicalTime) (time microstep : ℕ) : Type 0 where
  pub bytes : tag_bytes tag ≡ big_bytes 8 time ++ big_bytes 4 microstep
  pub time_fits : time < 2 ^ 64
  pub microstep_fits : microstep < 2 ^ 32
  pub good : is_tag true time microstep ≡ true
  pub again : tag_of time microstep ≡ tag

finite_in_bytes : (tag : LogicalTime) → tag.time < 2 ^ 62 → tag.microstep < 2 ^ 32 → IsInBytes tag tag.time tag.microstep
finite_in_bytes tag t m =
    let lt : ltb tag.time (2 ^ 62) ≡ true = lt-ltb _ _ t in
    record { bytes = rw lt refl; time_fits = omega arith; microstep_fits = m; good = rw lt refl; again = rw lt refl }

forever_in_bytes : (tag : LogicalTime) → 2 ^ 62 ≤ tag.time → IsLogicalTime tag → IsInBytes tag 0xffff_ffff_ffff_ffff 0xffff_ffff
forever_in_bytes tag le h =
    let ge : ltb tag.time (2 ^ 62) ≡ false = le-ltb _ _ le in
    let time : tag.time ≡ 2 ^ 62 = omega (arith, h.time) in
    let microstep : tag.microstep ≡ 0 = h.forever_alone le in
    record {
      bytes = rw ge refl;
      time_fits = lit< tt;
      microstep_fits = lit< tt;
      good = refl;
      again = sym (ap (λ (t : ℕ). logical_time t tag.microstep) time ∙ ap (λ (m : ℕ). logical_time (2 ^ 62) m) microstep);
    }

numbers_again : (tag : LogicalTime) (time microstep : ℕ) (rest : List ℕ) → IsInBytes tag time microstep → tag_part (tag_bytes tag ++ rest) ≡ Ok (tag, rest)
unfolding tag_part
numbers_again tag time microstep rest h =
    ap (λ (b : List ℕ). tag_part (b ++ rest)) h.bytes ∙ ap tag_part (append_assoc (big_bytes 8 time) (big_bytes 4 microstep) rest)
    ∙ rw (number_again 8 time (big_bytes 4 microstep ++ rest) h.time_fits, number_again 4 microstep rest h.microstep_fits, h.good, h.again) refl

pub tag_again : ReadsBack tag_part tag_bytes IsLogicalTime
tag_again tag rest h =
    elim (cases_lt tag.time (2 ^ 62)) [
      | inl lt ↦ numbers_again tag tag.time tag.microstep rest (finite_in_bytes tag lt h.microstep)
      | inr le ↦ numbers_again tag 0xffff_ffff_ffff_ffff 0xffff_ffff rest (forever_in_bytes tag le h)
    ]

-- ---- lists

pub many_again : {X : Type 0} (part : List ℕ → Part X) (spelling : X → List ℕ) (Is : X → Type 0) → ReadsBack part spelling Is → (xs : List X) (rest : List ℕ) → AllByRecursion Is xs
    → many part (length xs) (flat_map spelling xs ++ rest) ≡ Ok (xs, rest)
unfolding many
many_again part spelling Is back [] rest h = refl
many_again part spelling Is back (x ∷ xs) rest h =
    let others = flat_map spelling xs ++ rest in
    let regrouped : flat_map spelling (x ∷ xs) ++ rest ≡ spelling x ++ others =
    ap (λ (b : List ℕ). b ++ rest) (flat_map-cons spelling x xs) ∙ append_assoc (spelling x) (flat_map spelling xs) rest in
    ap (many part (suc (length xs))) regrouped ∙ rw (back x others h.0, many_again part spelling Is back xs rest h.1) refl

pub counted_again : {X : Type 0} (part : List ℕ → Part X) (spelling : X → List ℕ) (Is : X → Type 0) → ReadsBack part spelling Is → ReadsBack (counted_part part) (counted spelling) (AreCounted Is)
unfolding counted_part
counted_again part spelling Is back xs rest h =
    ap (counted_part part) (append_assoc (big_bytes 8 (length xs)) (flat_map spelling xs) rest)
    ∙ rw (number_again 8 (length xs) (flat_map spelling xs ++ rest) h.0) (many_again part spelling Is back xs rest h.1)

-- ---- rows

pub entry_again : ReadsBack entry_part entry_bytes IsEntry
unfolding entry_part
entry_again entry rest h =
    let bits = cast_unsigned w64 entry.value in
    let fits : bits < 2 ^ 64 = omega (arith, ints) in
    ap entry_part (append_assoc (big_bytes 8 entry.place) (big_bytes 8 bits) rest)
    ∙ rw (number_again 8 entry.place (big_bytes 8 bits ++ rest) h.place, number_again 8 bits rest fits, to_z-of_z w64 entry.value h.value) refl

-- a row like that, of another federate
abbrev as_of : Row → ℕ → Row
as_of row federate = record { reactor = federate; tag = row.tag; inputs = row.inputs; outputs = row.outputs }

abbrev read_as : Row → List ℕ → ℕ → Part Row
read_as row rest federate = Ok (as_of row federate, rest)

pub row_again : (federate : ℕ) → ReadsBack (row_part federate) row_bytes (IsRowOf federate)
unfolding row_part
row_again federate row rest h =
    let inputs = counted entry_bytes row.inputs in
    let outputs = counted entry_bytes row.outputs in
    let regrouped : row_bytes row ++ rest ≡ tag_bytes row.tag ++ (inputs ++ (outputs ++ rest)) =
    append_assoc (tag_bytes row.tag) (inputs ++ outputs) rest ∙ ap (λ (b : List ℕ). tag_bytes row.tag ++ b) (append_assoc inputs outputs rest) in
    ap (row_part federate) regrouped
    ∙ rw (tag_again row.tag (inputs ++ (outputs ++ rest)) h.tag, counted_again entry_part entry_bytes IsEntry entry_again row.inputs (outputs ++ rest) h.inputs, counted_again entry_part entry_bytes IsEntry entry_again row.outputs rest h.outputs)
    (ap (read_as row rest) (sym h.own))
