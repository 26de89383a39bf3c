-- A head that is read from the front of bytes, or that isn't there.
use Rattle.std.proofs.Common.{◌≡◌, ℕ, ◌^◌, ◌<◌, ◌≤◌, List, ◌++◌, length, take, Option, refl, sym, ap, subst, ◌∙◌, append_assoc, arith, inl}
use Rattle.std.specs.Prelude.{◌≢◌}
use Rattle.std.proofs.lemmas.List.{take_at, length-append, append_cancel_left}
use Rattle.byteorder.specs.Endian.{big_bytes}
use Rattle.files_reports.specs.declared.file_digests.FileDigests.{FileDigests}
use Rattle.files_logs.specs.declared.log_head.LogHead.{LogHead}
use Rattle.files_logs.specs.declared.log_fault.LogFault.{LogFault}
use Rattle.files_logs.specs.declared.log_fault.LogFault.TheVariants as faults
use Rattle.files_logs.specs.Sums.{sum_of}
use Rattle.files_logs.specs.Log.{format, summed_head, head_sum, head_bytes, IsHead}
use Rattle.files_logs.specs.Reading.{BeginsHead, HasNoHead, IsLogFault}
use Rattle.files_logs.specs.Parts.{IsHeadless}
use Rattle.files_logs.proofs.Sizes.{sum_fits}
use Rattle.files_logs.proofs.Headed.{digests, numbers, summed_apart, head_apart, summed_length, one_digests, first_number, long_enough}

-- the parts of a head, one behind the other, and a number where its sum stands
pub record AreParts (head : LogHead) (bytes : List ℕ) (sum : ℕ) (rest : List ℕ) : Type 0 where
  pub is_head : IsHead head
  pub begins : bytes ≡ format ++ digests head (big_bytes 8 sum ++ rest)

pub parts : (head : LogHead) (bytes named r1 r2 r3 r4 r5 rest : List ℕ) (sum : ℕ) → IsHead head → named ≡ format → bytes ≡ named ++ r1 → r1 ≡ head.files.federation ++ r2
    → r2 ≡ head.files.inputs ++ r3 → r3 ≡ big_bytes 2 head.who ++ r4 → r4 ≡ big_bytes 2 head.rules ++ r5 → r5 ≡ big_bytes 8 sum ++ rest → AreParts head bytes sum rest
parts head bytes named r1 r2 r3 r4 r5 rest sum h n a b c d e f = record {
  is_head = h;
  begins = a ∙ ap (λ (l : List ℕ). l ++ r1) n ∙ ap (λ (l : List ℕ). format ++ l) (b ∙ ap (λ (l : List ℕ). head.files.federation ++ l) (c ∙ ap (λ (l : List ℕ). head.files.inputs ++ l)
      (d ∙ ap (λ (l : List ℕ). big_bytes 2 head.who ++ l) (e ∙ ap (λ (l : List ℕ). big_bytes 2 head.rules ++ l) f))));
}

-- what is summed of them
summed_part : (head : LogHead) (bytes : List ℕ) (sum : ℕ) (rest : List ℕ) → AreParts head bytes sum rest → bytes ≡ summed_head head ++ (big_bytes 8 sum ++ rest)
summed_part head bytes sum rest p = p.begins ∙ sym (summed_apart head (big_bytes 8 sum ++ rest))

front_of_parts : (head : LogHead) (bytes : List ℕ) (sum : ℕ) (rest : List ℕ) → AreParts head bytes sum rest → take 76 bytes ≡ summed_head head
front_of_parts head bytes sum rest p =
    ap (λ (l : List ℕ). take 76 l) (summed_part head bytes sum rest p) ∙ take_at (summed_head head) (big_bytes 8 sum ++ rest) 76 (summed_length head p.is_head)

-- with the right sum they are a head
pub head_found : (head : LogHead) (bytes front rest : List ℕ) (sum : ℕ) → AreParts head bytes sum rest → front ≡ take 76 bytes → sum_of front ≡ sum → BeginsHead head bytes
head_found head bytes front rest sum p f s =
    let right : sum ≡ head_sum head = sym s ∙ ap sum_of (f ∙ front_of_parts head bytes sum rest p) in
    record {
      is_head = p.is_head;
      rest = rest;
      begins = summed_part head bytes sum rest p ∙ ap (λ (n : ℕ). summed_head head ++ (big_bytes 8 n ++ rest)) right
          ∙ sym (append_assoc (summed_head head) (big_bytes 8 (head_sum head)) rest);
    }

-- with another they aren't, and nothing else is
pub head_missed : (head : LogHead) (bytes front rest : List ℕ) (sum : ℕ) → sum < 2 ^ 64 → AreParts head bytes sum rest → front ≡ take 76 bytes → sum_of front ≢ sum → HasNoHead bytes
head_missed head bytes front rest sum fits p f apart other b =
    let mine = big_bytes 8 sum ++ rest in
    let theirs = big_bytes 8 (head_sum other) ++ b.rest in
    let same : format ++ digests head mine ≡ format ++ digests other theirs = sym p.begins ∙ b.begins ∙ head_apart other b.rest in
    let both = one_digests head other mine theirs p.is_head b.is_head (append_cancel_left format (digests head mine) (digests other theirs) same) in
    let sums : sum ≡ head_sum other = first_number 8 sum (head_sum other) rest b.rest fits (sum_fits (summed_head other)) both.1 in
    let front_sum : sum_of front ≡ head_sum head = ap sum_of (f ∙ front_of_parts head bytes sum rest p) in
    absurd (apart (front_sum ∙ ap head_sum both.0 ∙ sym sums))

-- ---- the same, of the parts as they are taken off

abbrev pub made : List ℕ → List ℕ → ℕ → ℕ → LogHead
made federation inputs who rules = record { files = record { federation = federation; inputs = inputs }; who = who; rules = rules }

is_made : (federation inputs : List ℕ) (who rules : ℕ) → length federation ≡ 32 → length inputs ≡ 32 → who < 2 ^ 16 → rules < 2 ^ 16 → IsHead (made federation inputs who rules)
is_made federation inputs who rules f i w r = record { federation = f; inputs = i; who = w; rules = r }

pub found_at : (bytes named federation inputs front r1 r2 r3 r4 r5 rest : List ℕ) (who rules sum : ℕ) → named ≡ format → bytes ≡ named ++ r1 → r1 ≡ federation ++ r2 → r2 ≡ inputs ++ r3
    → r3 ≡ big_bytes 2 who ++ r4 → r4 ≡ big_bytes 2 rules ++ r5 → r5 ≡ big_bytes 8 sum ++ rest → length federation ≡ 32 → length inputs ≡ 32 → who < 2 ^ 16 → rules < 2 ^ 16
    → front ≡ take 76 bytes → sum_of front ≡ sum → BeginsHead (made federation inputs who rules) bytes
found_at bytes named federation inputs front r1 r2 r3 r4 r5 rest who rules sum n a b c d e f x y w r t s =
    head_found (made federation inputs who rules) bytes front rest sum
    (parts (made federation inputs who rules) bytes named r1 r2 r3 r4 r5 rest sum (is_made federation inputs who rules x y w r) n a b c d e f) t s

pub missed_at : (bytes named federation inputs front r1 r2 r3 r4 r5 rest : List ℕ) (who rules sum : ℕ) → named ≡ format → bytes ≡ named ++ r1 → r1 ≡ federation ++ r2 → r2 ≡ inputs ++ r3
    → r3 ≡ big_bytes 2 who ++ r4 → r4 ≡ big_bytes 2 rules ++ r5 → r5 ≡ big_bytes 8 sum ++ rest → length federation ≡ 32 → length inputs ≡ 32 → who < 2 ^ 16 → rules < 2 ^ 16
    → sum < 2 ^ 64 → front ≡ take 76 bytes → sum_of front ≢ sum → HasNoHead bytes
missed_at bytes named federation inputs front r1 r2 r3 r4 r5 rest who rules sum n a b c d e f x y w r fits t s =
    head_missed (made federation inputs who rules) bytes front rest sum fits
    (parts (made federation inputs who rules) bytes named r1 r2 r3 r4 r5 rest sum (is_made federation inputs who rules x y w r) n a b c d e f) t s

-- too few bytes for one
pub too_short : (bytes : List ℕ) → length bytes < 84 → HasNoHead bytes
too_short bytes few head b = absurd (omega (arith, long_enough head bytes b, few))

-- or they don't begin with the format's name
pub no_name : (bytes named : List ℕ) → named ≡ format → ((rest : List ℕ) → bytes ≢ named ++ rest) → HasNoHead bytes
no_name bytes named n h head b =
    let behind = digests head (big_bytes 8 (head_sum head) ++ b.rest) in
    h behind (b.begins ∙ head_apart head b.rest ∙ ap (λ (l : List ℕ). l ++ behind) (sym n))

-- which fault that is
pub headless : (files : FileDigests) (who : Option ℕ) (rules : ℕ) (bytes : List ℕ) (fault : LogFault) → HasNoHead bytes → IsHeadless bytes fault → IsLogFault files who rules bytes fault
headless files who rules bytes faults.NoLog none h = (none, h)
headless files who rules bytes faults.Damaged none h = inl (none, h.0, h.1)
headless files who rules bytes faults.OtherFiles none h = absurd h
headless files who rules bytes faults.OtherNode none h = absurd h
headless files who rules bytes faults.OtherLog none h = absurd h
headless files who rules bytes (faults.Content fault) none h = absurd h
headless files who rules bytes faults.CutShort none h = absurd h
headless files who rules bytes faults.Memory none h = absurd h
