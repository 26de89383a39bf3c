-- How often a runner greets and sends again.
use Rattle.std.proofs.Common.{◌≡◌, ◌↔◌, ◌∙◌, ℕ, zero, suc, ◌+◌, ◌%◌, ◌<◌, Bool, true, false, List, [], ◌∷◌, if◌then◌else◌, nat_eq, arith, ap, sym, refl}
use Rattle.std.proofs.lemmas.Bool.Decides.{nat_tests}
use Rattle.std.proofs.Math.Nat.{suc-mod, mod-lt, mod_self, mod-eq_of_lt}
use Rattle.wires_workers.specs.RetryState.{RetryState, Befallen, turns_made, wait_over, state_after, silent_waits, turn_of, after_wait, RepeatsAfterSilence}
use Rattle.wires_workers.specs.declared.retry_state.Next.{Next}
use Rattle.wires_workers.specs.declared.retry_state.Next.TheVariants.{Turn, Repeat, End}
use Rattle.wires_transports.specs.declared.times.TheConstants.{WAITS_BEFORE_RESEND}

-- a remainder and one more
next_count : (r most : ℕ) (is_last : Bool) → r < most → nat_eq (r + 1) most ≡ is_last → (if is_last then 0 else r + 1) ≡ suc r % most
next_count r most true small is =
    let same : suc r ≡ most = grind (arith, nat_tests) in
    sym (ap (λ n. n % most) same ∙ mod_self most)
next_count r most false small is =
    let less : suc r < most = grind (arith, nat_tests) in
    let same : r + 1 ≡ suc r = omega arith in
    same ∙ sym (mod-eq_of_lt less)

-- the count of waits is the remainder of those in a row
counted : (all : ℕ) (before : List Befallen) → (state_after all before).waits ≡ silent_waits before % WAITS_BEFORE_RESEND
counted all [] = refl
counted all (turns_made count ∷ before) = counted all before
counted all (wait_over true ∷ before) = refl
counted all (wait_over false ∷ before) =
    let n = silent_waits before in
    let ten : ℕ = WAITS_BEFORE_RESEND in
    let some : 0 < ten = omega arith in
    ap (λ w. if nat_eq (w + 1) ten then 0 else w + 1) (counted all before)
    ∙ next_count (n % ten) ten (nat_eq (n % ten + 1) ten) (mod-lt n some) refl
    ∙ sym (suc-mod n ten)

-- a turn is no resending
no_repeat : (none : Bool) → (if none then End else Turn) ≡ Repeat → ⊥
no_repeat true is = cc
no_repeat false is = cc

-- where this wait is the last one of so many, and where it isn't
repeats_at : (left n waits : ℕ) (is_last : Bool) → waits ≡ n % WAITS_BEFORE_RESEND → nat_eq (waits + 1) WAITS_BEFORE_RESEND ≡ is_last →
    ((if is_last then Repeat else turn_of left) ≡ Repeat) ↔ (suc n % WAITS_BEFORE_RESEND ≡ 0)
repeats_at left n waits true is last =
    let ten : ℕ = WAITS_BEFORE_RESEND in
    let some : 0 < ten = omega arith in
    let stepped : suc n % ten ≡ suc (n % ten) % ten = suc-mod n ten in
    let next = next_count (n % ten) ten true (mod-lt n some) (ap (λ w. nat_eq (w + 1) ten) (sym is) ∙ last) in
    (λ _. stepped ∙ sym next, λ _. refl)
repeats_at left n waits false is last =
    let ten : ℕ = WAITS_BEFORE_RESEND in
    let some : 0 < ten = omega arith in
    let stepped : suc n % ten ≡ suc (n % ten) % ten = suc-mod n ten in
    let next : n % ten + 1 ≡ suc (n % ten) % ten = next_count (n % ten) ten false (mod-lt n some) (ap (λ w. nat_eq (w + 1) ten) (sym is) ∙ last) in
    (λ repeat. absurd (no_repeat (nat_eq left 0) repeat), λ none. let bad : n % ten + 1 ≡ 0 = next ∙ sym stepped ∙ none in absurd (omega (arith, bad)))

pub repeats_after_silence : RepeatsAfterSilence
repeats_after_silence all before true =
    (λ repeat. absurd (no_repeat (nat_eq (state_after all before).turns 0) repeat), λ both. let bad : ⊥ = cc (both.0) in absurd bad)
repeats_after_silence all before false =
    let p = state_after all before in
    let at = repeats_at p.turns (silent_waits before) p.waits (nat_eq (p.waits + 1) WAITS_BEFORE_RESEND) (counted all before) refl in
    (λ repeat. (refl, at.0 repeat), λ both. at.1 both.1)
