-- Bytes that differ nowhere, by the bits in which they differ.
use Rattle.std.proofs.Common.{◌≡◌, ℕ, ◌+◌, ◌<◌, List, length, take, get_or, bit_or, bit_xor, nat_eq, sym, ap, ◌∙◌, arith}
use Rattle.std.specs.Prelude.{bytes_eq}
use Rattle.std.proofs.lemmas.Bool.{eqb-true, eq-eqb}
use Rattle.std.proofs.lemmas.Bool.Decides.{same_from_decides}
use Rattle.std.proofs.lemmas.Slice.Eq.{bytes_eq-Decides}
use Rattle.std.proofs.lemmas.List.{take_more_same, take-take, get_or-take}
use Rattle.std.proofs.lemmas.Nat.{le_or_l, le_or_r}
use lib.Bits.{xor_self, xor_assoc, xor_zero_l, xor_zero_r}

-- no bit of either
no_bits : (a b : ℕ) → bit_or a b ≡ 0 → (a ≡ 0) × (b ≡ 0)
no_bits a b e = (omega (arith, le_or_l a b), omega (arith, le_or_r a b))

-- numbers that differ in no bit
no_difference : (a b : ℕ) → bit_xor a b ≡ 0 → a ≡ b
no_difference a b e = sym (xor_zero_r a) ∙ ap (λ z. bit_xor a z) (sym (xor_self b)) ∙ sym (xor_assoc a b b) ∙ ap (λ z. bit_xor z b) e ∙ xor_zero_l b

module _ (xs ys : List ℕ) (i : ℕ) (x : i < length xs) (y : i < length ys) (d : ℕ) where
  -- the difference up to a place, once that place was compared
  abbrev more : ℕ
  more = bit_or d (bit_xor (get_or xs i 0) (get_or ys i 0))

  pub still_same : (d ≡ 0 → take i xs ≡ take i ys) → more ≡ 0 → take (i + 1) xs ≡ take (i + 1) ys
  still_same same e =
      let bits = no_bits d (bit_xor (get_or xs i 0) (get_or ys i 0)) e in
      take_more_same xs ys i 0 x y (same bits.0) (no_difference _ _ bits.1)

  pub still_none : (take i xs ≡ take i ys → d ≡ 0) → take (i + 1) xs ≡ take (i + 1) ys → more ≡ 0
  still_none none e =
      let before : take i xs ≡ take i ys = sym (take-take i (i + 1) xs (omega arith)) ∙ ap (take i) e ∙ take-take i (i + 1) ys (omega arith) in
      let here : get_or xs i 0 ≡ get_or ys i 0 = sym (get_or-take (i + 1) xs i 0 (omega arith)) ∙ ap (λ zs. get_or zs i 0) e ∙ get_or-take (i + 1) ys i 0 (omega arith) in
      ap (λ z. bit_or z (bit_xor (get_or xs i 0) (get_or ys i 0))) (none before) ∙ ap (λ z. bit_or 0 (bit_xor z (get_or ys i 0))) here ∙ ap (λ z. bit_or 0 z) (xor_self (get_or ys i 0))

-- no difference up to the end is none at all
pub same_by_difference : (xs ys : List ℕ) (d : ℕ) → (d ≡ 0 → xs ≡ ys) → (xs ≡ ys → d ≡ 0) → nat_eq d 0 ≡ bytes_eq xs ys
same_by_difference xs ys d same none =
    same_from_decides (nat_eq d 0) (bytes_eq xs ys) ((λ e. same (eqb-true d 0 e)), (λ e. eq-eqb d 0 (none e))) (bytes_eq-Decides xs ys)
