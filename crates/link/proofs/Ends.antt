-- Ends with all that they ever offered: what their images tell, and that they stay lawful.
use Rattle.std.proofs.Common.{◌≡◌, ℕ, ◌+◌, ◌-◌, List, [], length, drop, max, arith, refl, ap, ◌∙◌}
use Rattle.std.specs.Prelude.{cond}
use Rattle.std.proofs.lemmas.List.{drop-drop, length-drop}
use Rattle.signal.specs.declared.signal.Signal.{Signal}
use Rattle.signal.specs.Batch.{numbered}
use Rattle.link.specs.Image.{last_number, resent_by}
use Rattle.link.specs.End.{End, IsLawful}
use Rattle.signal.proofs.Numbered.{drop-numbered}

-- the number offered last counts all that was offered
pub last_number-length : (e : End) → IsLawful e → last_number e.image ≡ length e.offered
last_number-length e lawful =
    let kept = ap length lawful.kept ∙ length-drop e.image.acknowledged e.offered in
    let acknowledged = lawful.acknowledged in
    omega arith

-- what is sent again are the frames of all that was offered, without those acknowledged
pub resent_by-offered : (e : End) → IsLawful e →
    resent_by e.image ≡ cond e.image.closed [] (drop e.image.acknowledged (numbered e.image.incarnation 1 e.offered))
resent_by-offered e lawful =
    let n : e.image.acknowledged + 1 ≡ 1 + e.image.acknowledged = omega arith in
    let same = drop-numbered e.image.incarnation 1 e.image.acknowledged (e.image.acknowledged + 1) e.offered n in
    rw (lawful.kept, ← same) refl

-- forgetting twice is forgetting once
pub drop-further : (xs : List Signal) (before n : ℕ) → drop (n - before) (drop before xs) ≡ drop (max before n) xs
drop-further xs before n =
    let all : before + (n - before) ≡ max before n = grind arith in
    drop-drop (n - before) before xs ∙ ap (λ k. drop k xs) all

pub ruleset ends = (last_number-length, resent_by-offered, drop-further)
