-- Chains of pending events: none leads to a tag that its last federate has completed.
use Rattle.std.proofs.Common.{◌≡◌, ℕ, ◌+◌, ◌≤◌, inl, inr, true, List, [], ◌∷◌, refl, sym, subst, arith, Option, Some}
use Rattle.std.specs.Prelude.{Contains}
use Rattle.tag.specs.LogicalTime.{LogicalTime, IsLogicalTime, is_before, is_at_most, sum_of, place}
use Rattle.tag.proofs.Order.{before_places, before_then}
use Rattle.tag.proofs.SumLaws.{sum_is_logical, sum_monotone_left, sum_monotone_right}
use Rattle.tag.proofs.Paths.{plain_is_logical}
use Rattle.network.specs.Connection.{Connection, then_along, total_of, IsWalk}
use Rattle.network.specs.Network.{Network}
use Rattle.network.specs.Lawful.{IsLawful}
use Rattle.network.specs.Tables.{Table, IsAtMostEveryPath}
use Rattle.network.proofs.Walks as walks
use Rattle.network.proofs.Walks.{sum_before_along}
use Rattle.network.proofs.Lawful.{contained_is, plain_of}
use Rattle.network.proofs.Tables.{within_found}
use Rattle.protocol.specs.FederateRecord.{FederateRecord}
use Rattle.protocol.specs.Grant.{after_completed}
use Rattle.protocol_laws.proofs.Tags.{IsOptional, above, after_completed_least}
use Rattle.protocol_laws.proofs.Backing.{HoldsByPaths, HoldsByConnections, IsBacked}
use Rattle.protocol_laws.proofs.Eligibility.{contained_at, lawful_is_wired, path_begins}
use Rattle.protocol_laws.proofs.FixedPoints.{within_path}

-- no chain from this event of reactor k leads to a completed tag
abbrev pub IsClear : Network → (ℕ → Option LogicalTime) → ℕ → LogicalTime → Type 0
IsClear n completed k s = (j : ℕ) (path : List Connection) → IsWalk n.connections k path j → above (completed j) ≤ place (then_along s path)

-- the tag is before all that chains from this event bring to j, but for the event itself
abbrev pub IsAhead : Network → ℕ → ℕ → LogicalTime → LogicalTime → Type 0
IsAhead n j k s tag = (c : Connection) (rest : List Connection) → IsWalk n.connections k (c ∷ rest) j → place tag + 1 ≤ place (then_along s (c ∷ rest))

pub along_is_logical : (n : Network) (i j : ℕ) (g : LogicalTime) (path : List Connection) → IsLawful n → IsLogicalTime g → IsWalk n.connections i path j → IsLogicalTime (then_along g path)
along_is_logical n i j g path lawful p w = walks.along_is_logical n.connections i path j g (plain_of n lawful) w p

-- over paths: what comes from a tag at or after the next one
ahead_by_paths : (n : Network) (table : Table) (federate_records : ℕ → FederateRecord) (k j : ℕ) (s tag : LogicalTime) (c : Connection) (rest : List Connection) → IsLawful n → IsAtMostEveryPath n table → is_at_most (federate_records k).next s ≡ true → HoldsByPaths n table federate_records j tag → IsWalk n.connections k (c ∷ rest) j → is_before tag (then_along s (c ∷ rest)) ≡ true
ahead_by_paths n table federate_records k j s tag c rest lawful facts next h w =
    let d = within_found (table k j) (total_of (c ∷ rest)) (within_path n table k j (c ∷ rest) facts w) in
    let first = h k d.0 (path_begins n k j (c ∷ rest) (lawful_is_wired n lawful) w) d.1 in
    let second = before_then tag (sum_of (federate_records k).next d.0) (sum_of s d.0) first (sum_monotone_left (federate_records k).next s d.0 next) in
    let third = before_then tag (sum_of s d.0) (sum_of s (total_of (c ∷ rest))) second (sum_monotone_right s d.0 (total_of (c ∷ rest)) d.2) in
    before_then tag (sum_of s (total_of (c ∷ rest))) (then_along s (c ∷ rest)) third (sum_before_along s c.delay rest)

-- over the last connection alone: what comes after a federate's last LTC
ahead_by_connections : (n : Network) (federate_records : ℕ → FederateRecord) (completed : ℕ → Option LogicalTime) (k j : ℕ) (s tag : LogicalTime) (c : Connection) (rest : List Connection) → IsLawful n → ((i : ℕ) → IsOptional (federate_records i).completed) → ((i : ℕ) → above (federate_records i).completed ≤ above (completed i)) → IsLogicalTime s → IsClear n completed k s → HoldsByConnections n federate_records j tag → IsWalk n.connections k (c ∷ rest) j → is_before tag (then_along s (c ∷ rest)) ≡ true
ahead_by_connections n federate_records completed k j s tag c [] lawful optional behind p clear h w =
    let at = contained_at n.connections c w.0 in
    let P : ℕ → Type 0 = λ x. above (completed x) ≤ place s in
    let here : above (completed c.source) ≤ place s = subst P (sym w.1) (clear k [] refl) in
    let low = behind c.source in
    let least = after_completed_least (federate_records c.source).completed s (optional c.source) p (omega arith) in
    before_then tag (sum_of (after_completed (federate_records c.source).completed) c.delay) (sum_of s c.delay) (h at.0 c at.1 w.2) (sum_monotone_left (after_completed (federate_records c.source).completed) s c.delay least)
ahead_by_connections n federate_records completed k j s tag c (d ∷ rest) lawful optional behind p clear h w =
    ahead_by_connections n federate_records completed c.target j (sum_of s c.delay) tag d rest lawful optional behind
    (sum_is_logical s c.delay p (plain_is_logical c.delay (contained_is n c lawful w.0).delay))
    (λ i path v. clear i (c ∷ path) (w.0, w.1, v)) h w.2

-- so of each pending event what comes over at least one connection is later than what was granted
pub backed_is_ahead : (n : Network) (table : Table) (federate_records : ℕ → FederateRecord) (completed : ℕ → Option LogicalTime) (k j : ℕ) (s tag : LogicalTime) → IsLawful n → IsAtMostEveryPath n table → ((i : ℕ) → IsOptional (federate_records i).completed) → ((i : ℕ) → above (federate_records i).completed ≤ above (completed i)) → IsLogicalTime s → IsLogicalTime tag → is_at_most (federate_records k).next s ≡ true → IsClear n completed k s → IsBacked n table federate_records j (Some tag) → IsAhead n j k s tag
backed_is_ahead n table federate_records completed k j s tag lawful facts optional behind p q next clear (inl h) c rest w =
    let before = before_places tag (then_along s (c ∷ rest)) q (along_is_logical n k j s (c ∷ rest) lawful p w) (ahead_by_paths n table federate_records k j s tag c rest lawful facts next h w) in
    omega arith
backed_is_ahead n table federate_records completed k j s tag lawful facts optional behind p q next clear (inr h) c rest w =
    let before = before_places tag (then_along s (c ∷ rest)) q (along_is_logical n k j s (c ∷ rest) lawful p w) (ahead_by_connections n federate_records completed k j s tag c rest lawful optional behind p clear h w) in
    omega arith

-- and so is what comes of a message that is still on its way to the coordinator
pub message_is_ahead : (n : Network) (table : Table) (federate_records : ℕ → FederateRecord) (completed : ℕ → Option LogicalTime) (i j : ℕ) (c : Connection) (source s tag : LogicalTime) (path : List Connection) → IsLawful n → IsAtMostEveryPath n table → ((x : ℕ) → IsOptional (federate_records x).completed) → ((x : ℕ) → above (federate_records x).completed ≤ above (completed x)) → IsLogicalTime source → IsLogicalTime tag → Contains n.connections c → c.source ≡ i → s ≡ sum_of source c.delay → is_at_most (federate_records i).next source ≡ true → above (federate_records i).completed ≤ place source → IsClear n completed c.target s → IsBacked n table federate_records j (Some tag) → IsWalk n.connections c.target path j → place tag + 1 ≤ place (then_along s path)
message_is_ahead n table federate_records completed i j c source s tag path lawful facts optional behind p q within from e next low clear (inl h) w =
    let walk : IsWalk n.connections i (c ∷ path) j = (within, from, w) in
    let before = before_places tag (then_along source (c ∷ path)) q (along_is_logical n i j source (c ∷ path) lawful p walk) (ahead_by_paths n table federate_records i j source tag c path lawful facts next h walk) in
    let P : LogicalTime → Type 0 = λ x. place tag + 1 ≤ place (then_along x path) in
    let there : place tag + 1 ≤ place (then_along (sum_of source c.delay) path) = omega arith in
    subst P (sym e) there
message_is_ahead n table federate_records completed i j c source s tag [] lawful facts optional behind p q within from e next low clear (inr h) w =
    let at = contained_at n.connections c within in
    let A : ℕ → Type 0 = λ x. above (federate_records x).completed ≤ place source in
    let least = after_completed_least (federate_records c.source).completed source (optional c.source) p (subst A (sym from) low) in
    let arrives = before_then tag (sum_of (after_completed (federate_records c.source).completed) c.delay) (sum_of source c.delay) (h at.0 c at.1 w) (sum_monotone_left (after_completed (federate_records c.source).completed) source c.delay least) in
    let before = before_places tag (sum_of source c.delay) q (sum_is_logical source c.delay p (plain_is_logical c.delay (contained_is n c lawful within).delay)) arrives in
    let P : LogicalTime → Type 0 = λ x. place tag + 1 ≤ place x in
    let there : place tag + 1 ≤ place (sum_of source c.delay) = omega arith in
    subst P (sym e) there
message_is_ahead n table federate_records completed i j c source s tag (d ∷ rest) lawful facts optional behind p q within from e next low clear (inr h) w =
    let D : LogicalTime → Type 0 = λ x. IsLogicalTime x in
    let logical : IsLogicalTime s = subst D (sym e) (sum_is_logical source c.delay p (plain_is_logical c.delay (contained_is n c lawful within).delay)) in
    let before = before_places tag (then_along s (d ∷ rest)) q (along_is_logical n c.target j s (d ∷ rest) lawful logical w) (ahead_by_connections n federate_records completed c.target j s tag d rest lawful optional behind logical clear h w) in
    omega arith
