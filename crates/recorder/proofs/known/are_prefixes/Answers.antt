use Rattle.std.proofs.Common.{◌≡◌, true, false, arith, refl, map, get_or, [], below_more}
use Rattle.network_laws.specs.Settled.{BeginsWith}
use Rattle.recorder.proofs.Prefixes.{known_at, mapped_at, all_begin, begins_there}
use Rattle.recorder.proofs.known.are_prefixes.Goals as goal

pub loop-place-preserved : goal.loop-place-preserved
loop-place-preserved c =
    below_more (λ k. BeginsWith (get_or (map (λ j. j.now) c.args.journals.now) k []) (get_or c.args.known.now k [])) c.loop-place.place
    c.loop-place.invariant
    (let some = c.if-known-journals.false in
    let known = known_at c.args.known.now c.loop-place.place c.index-known-place.result c.loop-place-test.true c.index-known-place.is in
    let whole = mapped_at (λ j. j.now) c.args.journals.now c.loop-place.place c.index-journals-place.result (omega (arith, c.loop-place-test.true)) c.index-journals-place.is in
    rw (known, whole) (c.is_prefix.ensures.0 c.if-not-is_prefix.false))

pub returns-then-not-is_prefix : goal.returns-then-not-is_prefix
returns-then-not-is_prefix c = (
  λ no. absurd (let clash : false ≡ true = no in cc),
  λ both. (
      let some = c.if-known-journals.false in
      let known = known_at c.args.known.now c.loop-place.place c.index-known-place.result c.loop-place-test.true c.index-known-place.is in
      let whole = mapped_at (λ j. j.now) c.args.journals.now c.loop-place.place c.index-journals-place.result (omega (arith, c.loop-place-test.true)) c.index-journals-place.is in
      let yes = c.is_prefix.ensures.1 (begins_there c.args.known.now (map (λ j. j.now) c.args.journals.now) c.loop-place.place _ _ known whole both.1) in
      let no = c.if-not-is_prefix.true in
      absurd cc),
)

pub returns : goal.returns
returns c = (
  λ yes. (c.if-known-journals.false, all_begin c.args.known.now (map (λ j. j.now) c.args.journals.now) c.loop-place.place c.loop-place-test.false c.loop-place.invariant),
  λ both. refl,
)
