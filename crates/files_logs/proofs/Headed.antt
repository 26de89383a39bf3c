-- Heads: how long they are, and that bytes begin with one alone.
use Rattle.std.proofs.Common.{◌≡◌, ℕ, ◌^◌, ◌<◌, ◌≤◌, List, ◌++◌, length, take, drop, refl, sym, ap, ap₂, ◌∙◌, append_assoc, arith}
use Rattle.std.proofs.lemmas.List.{take_at, drop_at, length-append, append_cancel_left}
use Rattle.byteorder.specs.Endian.{big_bytes, big_number}
use Rattle.byteorder.specs.Numbers.{big_number-reads_back, length-bytes_high_first}
use Rattle.files_reports.specs.declared.file_digests.FileDigests.{FileDigests}
use Rattle.files_logs.specs.declared.log_head.LogHead.{LogHead}
use Rattle.files_logs.specs.Log.{format, summed_head, head_sum, head_bytes, IsHead}
use Rattle.files_logs.specs.Reading.{head_of, BeginsHead}
use Rattle.files_logs.proofs.Sizes.{drop_number}

-- ---- lists that are equal part by part

pub first_part : (p q x y : List ℕ) → length p ≡ length q → p ++ x ≡ q ++ y → p ≡ q
first_part p q x y same e = sym (take_at p x (length p) refl) ∙ ap (λ (l : List ℕ). take (length p) l) e ∙ take_at q y (length p) (sym same)

pub last_part : (p q x y : List ℕ) → length p ≡ length q → p ++ x ≡ q ++ y → x ≡ y
last_part p q x y same e = sym (drop_at p x (length p) refl) ∙ ap (λ (l : List ℕ). drop (length p) l) e ∙ drop_at q y (length p) (sym same)

pub first_number : (n x y : ℕ) (r s : List ℕ) → x < 256 ^ n → y < 256 ^ n → big_bytes n x ++ r ≡ big_bytes n y ++ s → x ≡ y
first_number n x y r s h k e = sym (big_number-reads_back n x r h) ∙ ap (λ (l : List ℕ). big_number n l) e ∙ big_number-reads_back n y s k

pub behind_number : (n x y : ℕ) (r s : List ℕ) → big_bytes n x ++ r ≡ big_bytes n y ++ s → r ≡ s
behind_number n x y r s e = sym (drop_number n x r) ∙ ap (λ (l : List ℕ). drop n l) e ∙ drop_number n y s

-- ---- heads

abbrev pub numbers : LogHead → List ℕ → List ℕ
numbers head rest = big_bytes 2 head.who ++ (big_bytes 2 head.rules ++ rest)

abbrev pub digests : LogHead → List ℕ → List ℕ
digests head rest = head.files.federation ++ (head.files.inputs ++ numbers head rest)

pub summed_apart : (head : LogHead) (rest : List ℕ) → summed_head head ++ rest ≡ format ++ digests head rest
summed_apart head rest =
    let two = big_bytes 2 head.who ++ big_bytes 2 head.rules in
    let inputs = head.files.inputs ++ two in
    append_assoc format (head.files.federation ++ inputs) rest
    ∙ ap (λ (l : List ℕ). format ++ l) (append_assoc head.files.federation inputs rest)
    ∙ ap (λ (l : List ℕ). format ++ (head.files.federation ++ l)) (append_assoc head.files.inputs two rest)
    ∙ ap (λ (l : List ℕ). format ++ (head.files.federation ++ (head.files.inputs ++ l))) (append_assoc (big_bytes 2 head.who) (big_bytes 2 head.rules) rest)

pub head_apart : (head : LogHead) (rest : List ℕ) → head_bytes head ++ rest ≡ format ++ digests head (big_bytes 8 (head_sum head) ++ rest)
head_apart head rest =
    append_assoc (summed_head head) (big_bytes 8 (head_sum head)) rest ∙ summed_apart head (big_bytes 8 (head_sum head) ++ rest)

pub summed_length : (head : LogHead) → IsHead head → length (summed_head head) ≡ 76
summed_length head h =
    let two = big_bytes 2 head.who ++ big_bytes 2 head.rules in
    let inputs = head.files.inputs ++ two in
    let name : length format ≡ 8 = refl in
    omega (
      arith,
      length-append format (head.files.federation ++ inputs),
      name,
      length-append head.files.federation inputs,
      h.federation,
      length-append head.files.inputs two,
      h.inputs,
      length-append (big_bytes 2 head.who) (big_bytes 2 head.rules),
      length-bytes_high_first 2 head.who,
      length-bytes_high_first 2 head.rules,
    )

pub head_length : (head : LogHead) → IsHead head → length (head_bytes head) ≡ 84
head_length head h =
    omega (arith, length-append (summed_head head) (big_bytes 8 (head_sum head)), summed_length head h, length-bytes_high_first 8 (head_sum head))

-- what begins with a head has as many bytes
pub long_enough : (head : LogHead) (bytes : List ℕ) → BeginsHead head bytes → 84 ≤ length bytes
long_enough head bytes b = omega (arith, ap length b.begins, length-append (head_bytes head) b.rest, head_length head b.is_head)

digests_of : List ℕ → List ℕ → FileDigests
digests_of federation inputs = record { federation = federation; inputs = inputs }

-- the parts of two heads with the same bytes
pub one_digests : (head other : LogHead) (rest more : List ℕ) → IsHead head → IsHead other → digests head rest ≡ digests other more → (head ≡ other) × (rest ≡ more)
unfolding digests_of
one_digests head other rest more h k e =
    let long : length head.files.federation ≡ length other.files.federation = omega (arith, h.federation, k.federation) in
    let also : length head.files.inputs ≡ length other.files.inputs = omega (arith, h.inputs, k.inputs) in
    let federation : head.files.federation ≡ other.files.federation =
    first_part head.files.federation other.files.federation (head.files.inputs ++ numbers head rest) (other.files.inputs ++ numbers other more) long e in
    let behind : head.files.inputs ++ numbers head rest ≡ other.files.inputs ++ numbers other more =
    last_part head.files.federation other.files.federation (head.files.inputs ++ numbers head rest) (other.files.inputs ++ numbers other more) long e in
    let inputs : head.files.inputs ≡ other.files.inputs = first_part head.files.inputs other.files.inputs (numbers head rest) (numbers other more) also behind in
    let left : numbers head rest ≡ numbers other more = last_part head.files.inputs other.files.inputs (numbers head rest) (numbers other more) also behind in
    let who : head.who ≡ other.who = first_number 2 head.who other.who (big_bytes 2 head.rules ++ rest) (big_bytes 2 other.rules ++ more) h.who k.who left in
    let last : big_bytes 2 head.rules ++ rest ≡ big_bytes 2 other.rules ++ more = behind_number 2 head.who other.who (big_bytes 2 head.rules ++ rest) (big_bytes 2 other.rules ++ more) left in
    let rules : head.rules ≡ other.rules = first_number 2 head.rules other.rules rest more h.rules k.rules last in
    let files : head.files ≡ other.files = ap₂ digests_of federation inputs in (
      ap (λ (f : FileDigests). head_of f head.rules head.who) files ∙ ap (λ (w : ℕ). head_of other.files head.rules w) who
          ∙ ap (λ (r : ℕ). head_of other.files r other.who) rules,
      behind_number 2 head.rules other.rules rest more last,
    )

-- bytes begin with one head
pub one_head : (head other : LogHead) (bytes : List ℕ) → BeginsHead head bytes → BeginsHead other bytes → head ≡ other
one_head head other bytes b c =
    let same : format ++ digests head (big_bytes 8 (head_sum head) ++ b.rest) ≡ format ++ digests other (big_bytes 8 (head_sum other) ++ c.rest) =
    sym (head_apart head b.rest) ∙ sym b.begins ∙ c.begins ∙ head_apart other c.rest in
    (one_digests head other (big_bytes 8 (head_sum head) ++ b.rest) (big_bytes 8 (head_sum other) ++ c.rest) b.is_head c.is_head
    (append_cancel_left format (digests head (big_bytes 8 (head_sum head) ++ b.rest)) (digests other (big_bytes 8 (head_sum other) ++ c.rest)) same)).0
