-- What a federate that forgets makes of the world.
use Rattle.std.proofs.Common.{◌≡◌, ℕ, ◌+◌, ◌^◌, Bool, true, false, List, [], ◌∷◌, length, map, set, slice_get, Option, None, Some, if◌then◌else◌, nat_lt, refl, sym, ap, ◌∙◌, arith}
use Rattle.std.specs.Prelude.{◌&&◌}
use Rattle.std.proofs.lemmas.List.{length-map}
use Rattle.std.proofs.lemmas.Option.{cond_some}
use Rattle.link.specs.Image.{Image}
use Rattle.node.specs.Core.{Core}
use Rattle.node.specs.Step.{Station}
use Rattle.world_stations.specs.declared.outcome.Outcome.TheVariants as outcome
use Rattle.world_stations.specs.World.{World, Applied, blank_next, forgotten, has_next, forgets}

-- a list of one
single : {X : Type 0} (xs : List X) (x : X) → length xs ≡ 1 → slice_get xs 0 ≡ Some x → xs ≡ x ∷ []
single [] x one found = let bad : ⊥ = omega arith in absurd bad
single (a ∷ []) x one found = grind arith
single (a ∷ (b ∷ rest)) x one found = let bad : ⊥ = omega arith in absurd bad

next_if : {X Y : Type 0} (b : Bool) (x : X) (y : Y) → ◌≡◌ {A = Option X} None (if b then Some x else None) → ◌≡◌ {A = Option Y} None (if b && true then Some y else None)
next_if true x y none = let bad : ⊥ = cc in absurd bad
next_if false x y none = refl

-- there is no next incarnation
pub no_next : {OfFederate Row : Type 0} (core : Core OfFederate Row) (s : Station OfFederate) (e : Image) → length s.ends ≡ 1 → slice_get s.ends 0 ≡ Some e →
    None ≡ (if nat_lt (e.incarnation + 1) (2 ^ 32) then Some (blank_next e) else None) → None ≡ (if has_next s.ends then Some (forgotten core s) else None)
no_next core s e one found none =
    next_if (nat_lt (e.incarnation + 1) (2 ^ 32)) (blank_next e) (forgotten core s) none ∙
    ap (λ (ends : List Image). if has_next ends then Some (forgotten core s) else None) (sym (single s.ends e one found))

-- there is one
pub some_next : {OfFederate Row : Type 0} (core : Core OfFederate Row) (s : Station OfFederate) (e n : Image) (node : OfFederate) (after : Station OfFederate) (ends : List Image) →
    length s.ends ≡ 1 → slice_get s.ends 0 ≡ Some e → Some n ≡ (if nat_lt (e.incarnation + 1) (2 ^ 32) then Some (blank_next e) else None) → node ≡ core.initial s.node → ends ≡ n ∷ [] →
    after ≡ record { node = node; ends = ends } → Some after ≡ (if has_next s.ends then Some (forgotten core s) else None)
some_next core s e n node after ends one found next made has is =
    let next_is = cond_some (nat_lt (e.incarnation + 1) (2 ^ 32)) (blank_next e) n (sym next) in
    let same : s.ends ≡ e ∷ [] = single s.ends e one found in
    let there : has_next s.ends ≡ true = ap has_next same ∙ ap (λ (b : Bool). b && true) next_is.0 in
    let mapped : map blank_next s.ends ≡ blank_next e ∷ [] = ap (map blank_next) same in
    let end : n ≡ blank_next e = sym next_is.1 in
    let after_is : after ≡ record { node = core.initial s.node; ends = map blank_next s.ends } = rw (is, made, has, end, mapped) refl in
    ap (λ (x : Station _). Some x) after_is ∙ sym (ap (λ (b : Bool). if b then Some (forgotten core s) else None) there)

-- what was forgotten
pub blank_is : {OfFederate Row : Type 0} (core : Core OfFederate Row) (s blank : Station OfFederate) → Some blank ≡ (if has_next s.ends then Some (forgotten core s) else None) →
    (has_next s.ends ≡ true) × (blank ≡ forgotten core s)
blank_is core s blank is = let both = cond_some (has_next s.ends) (forgotten core s) blank (sym is) in (both.0, sym both.1)

-- a federate that forgot still has one peer
pub has_one_still : {OfFederate Row : Type 0} (core : Core OfFederate Row) (s blank : Station OfFederate) → length s.ends ≡ 1 →
    Some blank ≡ (if has_next s.ends then Some (forgotten core s) else None) → length blank.ends ≡ 1
has_one_still core s blank one made =
    let blank_ends : blank.ends ≡ map blank_next s.ends = ap (λ (x : Station _). x.ends) (blank_is core s blank made).1 in
    ap length blank_ends ∙ length-map s.ends blank_next ∙ one

-- the world after a federate forgot
pub put_is : {OfCoordinator OfFederate Row : Type 0} (core : Core OfFederate Row) (w : World OfCoordinator OfFederate) (j : ℕ) (s blank : Station OfFederate) → slice_get w.federates j ≡ Some s →
    Some blank ≡ (if has_next s.ends then Some (forgotten core s) else None) →
    ◌≡◌ {A = Applied OfCoordinator OfFederate}
    (record { world = record w { federates = set w.federates j blank }; outcome = outcome.Done })
    (forgets core w j (slice_get w.federates j))
put_is core w j s blank found made =
    let both = blank_is core s blank made in
    rw (found, both.0, both.1) refl
