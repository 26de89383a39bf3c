-- Signals that are offered together, or one after the other.
use Rattle.std.proofs.Common.{◌≡◌, ℕ, ◌+◌, Bool, true, false, List, [], ◌∷◌, ◌++◌, length, refl, sym, ap, ◌∙◌, arith}
use Rattle.std.specs.Prelude.{if◌then◌else◌}
use Rattle.std.proofs.lemmas.List.{append_assoc, length-append}
use Rattle.signal.specs.declared.signal.Signal.{Signal}
use Rattle.signal.specs.declared.frame.Frame.{Frame}
use Rattle.signal.specs.declared.frame.Frame.TheVariants.{Data}
use Rattle.signal.specs.Batch.{numbered}
use Rattle.link.specs.Image.{last_number}
use Rattle.link_laws.specs.Link.{Side, offers}

numbered-append : (i n : ℕ) (xs ys : List Signal) (m : ℕ) → m ≡ n + length xs → numbered i n (xs ++ ys) ≡ numbered i n xs ++ numbered i m ys
numbered-append i n [] ys m e = let same : n ≡ m = omega arith in ap (λ k. numbered i k ys) same
numbered-append i n (x ∷ xs) ys m e = ap (λ (l : List Frame). Data i n x ∷ l) (numbered-append i (n + 1) xs ys m (omega arith))

-- at an end that isn't closed
abbrev with_signals : Side → List Signal → Side
with_signals s signals =
    record { end = record s.end { kept = s.end.kept ++ signals }; sent = s.sent ++ numbered s.end.incarnation (last_number s.end + 1) signals; took = s.took }

unless_closed : (b : Bool) (s t : Side) → b ≡ false → (if b then s else t) ≡ t
unless_closed true s t e = cc
unless_closed false s t e = refl

pub offers_open : (s : Side) (signals : List Signal) → s.end.closed ≡ false → offers s signals ≡ with_signals s signals
offers_open s signals e = unless_closed s.end.closed s (with_signals s signals) e

twice_is_once : (s : Side) (xs ys : List Signal) → with_signals (with_signals s xs) ys ≡ with_signals s (xs ++ ys)
twice_is_once s xs ys =
    let size = length-append s.end.kept xs in
    let kept = append_assoc s.end.kept xs ys in
    let next : last_number (with_signals s xs).end + 1 ≡ (last_number s.end + 1) + length xs = omega arith in
    let frames = numbered-append s.end.incarnation (last_number s.end + 1) xs ys (last_number (with_signals s xs).end + 1) next in
    let sent = append_assoc s.sent (numbered s.end.incarnation (last_number s.end + 1) xs) (numbered s.end.incarnation (last_number (with_signals s xs).end + 1) ys)
    ∙ ap (λ (x : List Frame). s.sent ++ x) (sym frames) in
    λ y. record { end = record s.end { kept = kept y }; sent = sent y; took = s.took }

pub offers_twice : (s : Side) (xs ys : List Signal) → s.end.closed ≡ false → offers (offers s xs) ys ≡ offers s (xs ++ ys)
offers_twice s xs ys e =
    ap (λ (x : Side). offers x ys) (offers_open s xs e) ∙ offers_open (with_signals s xs) ys e ∙ twice_is_once s xs ys ∙ sym (offers_open s (xs ++ ys) e)
