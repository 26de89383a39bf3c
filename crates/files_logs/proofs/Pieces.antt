-- Sums of bytes that are hashed piece by piece.
use Rattle.std.proofs.Common.{◌≡◌, ℕ, ◌%◌, ◌^◌, ◌<◌, List, ◌++◌, length, sym, ap, subst, ◌∙◌, mod-eq_of_lt}
use Rattle.std.specs.Hash.DefaultHasher as sip
use Rattle.std.proofs.lemmas.List.Sums.{fold-append}
use Rattle.byteorder.specs.Endian.{big_bytes}
use Rattle.files_logs.specs.Sums.{sum_of, size_check, block_sum}

-- one behind the other
written_on : (first second : List ℕ) → sip.write (sip.write sip.initial first) second ≡ sip.write sip.initial (first ++ second)
unfolding sip.write
written_on first second = sym (fold-append sip.write_byte sip.initial first second)

-- a sum of eight bytes
pub summed : (bytes : List ℕ) (found : ℕ) → found < 2 ^ 64 → found ≡ sip.finish (sip.write sip.initial bytes) → found ≡ sum_of bytes
unfolding sum_of
summed bytes found fits e = sym (mod-eq_of_lt fits) ∙ ap (λ (n : ℕ). n % 2 ^ 64) e

pub summed_two : (first second : List ℕ) (found : ℕ) → found < 2 ^ 64 → found ≡ sip.finish (sip.write (sip.write sip.initial first) second) → found ≡ sum_of (first ++ second)
summed_two first second found fits e = summed (first ++ second) found fits (e ∙ ap sip.finish (written_on first second))

pub checked : (before size found : ℕ) → found < 2 ^ 64 → found ≡ sip.finish (sip.write (sip.write sip.initial (big_bytes 8 before)) (big_bytes 4 size)) → found % 2 ^ 32 ≡ size_check before size
unfolding size_check
checked before size found fits e = ap (λ (n : ℕ). n % 2 ^ 32) (summed_two (big_bytes 8 before) (big_bytes 4 size) found fits e)

pub block_summed : (before found : ℕ) (said : List ℕ) → found < 2 ^ 64
    → found ≡ sip.finish (sip.write (sip.write (sip.write sip.initial (big_bytes 8 before)) (big_bytes 4 (length said))) said) → found ≡ block_sum before said
unfolding block_sum sip.write
block_summed before found said fits e =
    let size = big_bytes 4 (length said) in
    let last = fold-append sip.write_byte (sip.write sip.initial (big_bytes 8 before)) size said in
    summed_two (big_bytes 8 before) (size ++ said) found fits (e ∙ ap sip.finish (sym last))
