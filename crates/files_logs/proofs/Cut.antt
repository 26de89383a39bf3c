-- Logs that are cut anywhere, and torn tails.
use Rattle.std.proofs.Common.{◌≡◌, ℕ, zero, suc, ◌+◌, ◌-◌, ◌<◌, ◌≤◌, true, false, ltb, List, [], ◌∷◌, ◌++◌, length, take, drop, refl, sym, ap, subst, ◌∙◌, append_assoc, append-nil, arith, inl, inr, lit<}
use Rattle.std.specs.List.{AllByRecursion}
use Rattle.std.proofs.lemmas.Bool.{cases_lt, lt-ltb, le-ltb}
use Rattle.std.proofs.lemmas.List.{length-append, take-append-le}
use Rattle.std.proofs.Math.Seq.{take-append-add}
use Rattle.files_logs.specs.declared.item.Item.{Item}
use Rattle.files_logs.specs.Sums.{block_sum}
use Rattle.files_logs.specs.Items.{items_bytes}
use Rattle.files_logs.specs.Blocks.{size_bytes, block_bytes, IsBlock, blocks_bytes, sum_behind}
use Rattle.files_logs.specs.Front.{torn, front_of}
use Rattle.files_logs.specs.Cuts.{block_size, whole_within, IsTornTail, no_size, bad_size, bad_block, bad_end}
use Rattle.files_logs.proofs.Sizes.{sized_length, block_length}
use Rattle.files_logs.proofs.Fronts.{front_short, front_wrong, spelled_size, spelled_end, end_short, block_short, block_last, block_cut}

-- so many blocks begin the bytes, and behind them no block is whole
pub record IsCut (before : ℕ) (blocks : List (List Item)) (bytes : List ℕ) (n : ℕ) : Type 0 where
  pub rest : List ℕ
  pub begins : bytes ≡ blocks_bytes before (take n blocks) ++ rest
  pub torn_behind : front_of (sum_behind before (take n blocks)) rest ≡ torn

-- what is cut in its first block
first_cut : (before k : ℕ) (items : List Item) (others : List ℕ) → IsBlock items → k < 8 + (length (items_bytes items) + 8)
    → front_of before (take k (block_bytes before (items_bytes items) ++ others)) ≡ torn
first_cut before k items others h cut =
    ap (λ (b : List ℕ). front_of before b) (take-append-le k (block_bytes before (items_bytes items)) others (omega (arith, block_length before (items_bytes items))))
    ∙ block_cut before k (items_bytes items) h.sayable cut

-- what is cut behind its first block
later_cut : (before k : ℕ) (items : List Item) (others : List ℕ) → 8 + (length (items_bytes items) + 8) ≤ k
    → take k (block_bytes before (items_bytes items) ++ others) ≡ block_bytes before (items_bytes items) ++ take (k - block_size items) others
later_cut before k items others past =
    let block = block_bytes before (items_bytes items) in
    let same : k ≡ length block + (k - block_size items) = omega (arith, block_length before (items_bytes items)) in
    ap (λ (n : ℕ). take n (block ++ others)) same ∙ take-append-add block others (k - block_size items)

-- Blocks that are cut anywhere, or the first bytes of a tail behind them, none of which are more than a torn tail.
pub cut_blocks : (before : ℕ) (blocks : List (List Item)) (tail : List ℕ) (most k : ℕ) → AllByRecursion IsBlock blocks
    → ((j : ℕ) → j ≤ most → front_of (sum_behind before blocks) (take j tail) ≡ torn) → k ≤ length (blocks_bytes before blocks) + most
    → IsCut before blocks (take k (blocks_bytes before blocks ++ tail)) (whole_within blocks k)
cut_blocks before [] tail most k h short within =
    let few : k ≤ 0 + most = within in
    record { rest = take k tail; begins = refl; torn_behind = short k (omega arith) }
cut_blocks before (items ∷ blocks) tail most k h short within =
    let block = block_bytes before (items_bytes items) in
    let sum = block_sum before (items_bytes items) in
    let others = blocks_bytes sum blocks in
    let room : k ≤ length (block ++ others) + most = within in
    let apart : take k ((block ++ others) ++ tail) ≡ take k (block ++ (others ++ tail)) = ap (λ (b : List ℕ). take k b) (append_assoc block others tail) in
    elim (cases_lt k (8 + (length (items_bytes items) + 8))) [
      | inl cut ↦
          let test : ltb k (block_size items) ≡ true = lt-ltb _ _ cut in
          let none : whole_within (items ∷ blocks) k ≡ 0 = rw test refl in
          let nothing : IsCut before (items ∷ blocks) (take k ((block ++ others) ++ tail)) 0 = record {
            rest = take k ((block ++ others) ++ tail);
            begins = refl;
            torn_behind = ap (λ (b : List ℕ). front_of before b) apart ∙ first_cut before k items (others ++ tail) h.0 cut;
          } in
          subst (λ (n : ℕ). IsCut before (items ∷ blocks) (take k ((block ++ others) ++ tail)) n) (sym none) nothing
      | inr past ↦
          let left : ℕ = k - block_size items in
          let test : ltb k (block_size items) ≡ false = le-ltb _ _ past in
          let more : whole_within (items ∷ blocks) k ≡ suc (whole_within blocks left) = rw test refl in
          let enough : left ≤ length others + most = omega (arith, room, length-append block others, block_length before (items_bytes items)) in
          let later : IsCut sum blocks (take left (others ++ tail)) (whole_within blocks left) = cut_blocks sum blocks tail most left h.1 short enough in
          let all : IsCut before (items ∷ blocks) (take k ((block ++ others) ++ tail)) (suc (whole_within blocks left)) = record {
            rest = later.rest;
            begins = apart ∙ later_cut before k items (others ++ tail) past ∙ ap (λ (b : List ℕ). block ++ b) later.begins
                ∙ sym (append_assoc block (blocks_bytes sum (take (whole_within blocks left) blocks)) later.rest);
            torn_behind = later.torn_behind;
          } in
          subst (λ (n : ℕ). IsCut before (items ∷ blocks) (take k ((block ++ others) ++ tail)) n) (sym more) all
    ]

-- nothing of no bytes
pub nothing_behind : (before most j : ℕ) → j ≤ most → front_of before (take j []) ≡ torn
nothing_behind before most zero few = front_short before [] (lit< tt)
nothing_behind before most (suc j) few = front_short before [] (lit< tt)

-- a torn tail
pub torn_tail : (before : ℕ) (tail : List ℕ) → IsTornTail before tail → front_of before tail ≡ torn
torn_tail before tail (no_size few) = front_short before tail few
torn_tail before tail (bad_size wrong few none) = elim (cases_lt (length tail) 8) [
  | inl short ↦ front_short before tail short
  | inr long ↦ front_wrong before tail long wrong few none
]
torn_tail before tail (bad_block size rest e some fits few apart) =
    ap (λ (b : List ℕ). front_of before b) e ∙ spelled_size before size rest some fits ∙ elim (cases_lt (length rest) (size + 8)) [
      | inl short ↦ block_short before size rest short
      | inr long ↦
          let all : length rest ≡ size + 8 = omega arith in
          block_last before size rest all (apart all)
    ]
torn_tail before tail (bad_end rest e few) = ap (λ (b : List ℕ). front_of before b) e ∙ spelled_end before rest ∙ end_short rest few
