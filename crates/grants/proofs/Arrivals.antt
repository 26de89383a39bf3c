-- Arrivals along lists of routes are the bounds.
use Rattle.std.proofs.Common.{◌≡◌, ℕ, zero, suc, Bool, true, false, cond, List, [], ◌∷◌, ◌++◌, refl, sym, ap, ◌∙◌, append-nil, Option, None, Some}
use Rattle.std.specs.Prelude.{nat_eq, if◌then◌else◌}
use Rattle.std.specs.List.{fold}
use Rattle.std.proofs.lemmas.List.Sums.{fold-append}
use Rattle.tag.specs.LogicalTime.{LogicalTime, forever, greater, lesser, sum_of}
use Rattle.tag.proofs.Order.{lesser_associates, lesser_commutes}
use Rattle.network.specs.Connection.{Connection}
use Rattle.network.specs.Tables.{Table}
use Rattle.protocol.specs.FederateRecord.{FederateRecord}
use Rattle.protocol.specs.Grant.{after_completed, lesser_arrival, bound_by_paths, bound_by_connections, bound_of}
use Rattle.grants.specs.declared.routes.Upstream.{Upstream}
use Rattle.grants.specs.Wiring.{Wiring, least_by, network_by}
use Rattle.grants.specs.Routes.{upstream_at, upstream_of, incoming_of}
use Rattle.grants.specs.Bounds.{first_upstream, first_incoming}

abbrev upstream_step : (ℕ → FederateRecord) → LogicalTime → Upstream → LogicalTime
upstream_step federate_records first u = lesser (sum_of (federate_records u.federate).next u.delay) first

with_upstream : (federate_records : ℕ → FederateRecord) (i : ℕ) (o : Option LogicalTime) (upstream : List Upstream) →
    lesser_arrival (federate_records i).next o (first_upstream federate_records upstream) ≡ first_upstream federate_records (upstream ++ upstream_at i o)
with_upstream federate_records i None upstream = ap (first_upstream federate_records) (sym (append-nil upstream))
with_upstream federate_records i (Some d) upstream = sym (fold-append (upstream_step federate_records) forever upstream (record { federate = i; delay = d } ∷ []))

pub by_paths : (table : Table) (federate_records : ℕ → FederateRecord) (j count : ℕ) → bound_by_paths table federate_records j count ≡ first_upstream federate_records (upstream_of table j count)
by_paths table federate_records j zero = refl
by_paths table federate_records j (suc count) =
    ap (lesser_arrival (federate_records count).next (table count j)) (by_paths table federate_records j count)
    ∙ with_upstream federate_records count (table count j) (upstream_of table j count)

-- over connections, in either order
abbrev incoming_step : (ℕ → FederateRecord) → LogicalTime → Connection → LogicalTime
incoming_step federate_records first c = lesser (sum_of (after_completed (federate_records c.source).completed) c.delay) first

first_over : (federate_records : ℕ → FederateRecord) (arrival first : LogicalTime) (incoming : List Connection) →
    fold (incoming_step federate_records) (lesser arrival first) incoming ≡ lesser arrival (fold (incoming_step federate_records) first incoming)
first_over federate_records arrival first [] = refl
first_over federate_records arrival first (c ∷ rest) =
    let sent = sum_of (after_completed (federate_records c.source).completed) c.delay in
    let swapped : lesser sent (lesser arrival first) ≡ lesser arrival (lesser sent first) =
    sym (lesser_associates sent arrival first) ∙ ap (λ x. lesser x first) (lesser_commutes sent arrival) ∙ lesser_associates arrival sent first in
    ap (λ x. fold (incoming_step federate_records) x rest) swapped ∙ first_over federate_records arrival (lesser sent first) rest

with_incoming : (federate_records : ℕ → FederateRecord) (c : Connection) (b : Bool) (rest : LogicalTime) (incoming : List Connection) → rest ≡ first_incoming federate_records incoming →
    (if b then lesser (sum_of (after_completed (federate_records c.source).completed) c.delay) rest else rest) ≡ first_incoming federate_records (cond b (c ∷ incoming) incoming)
with_incoming federate_records c true rest incoming e =
    ap (lesser (sum_of (after_completed (federate_records c.source).completed) c.delay)) e
    ∙ sym (first_over federate_records (sum_of (after_completed (federate_records c.source).completed) c.delay) forever incoming)
with_incoming federate_records c false rest incoming e = e

pub by_connections : (federate_records : ℕ → FederateRecord) (j : ℕ) (connections : List Connection) →
    bound_by_connections federate_records j connections ≡ first_incoming federate_records (incoming_of connections j)
by_connections federate_records j [] = refl
by_connections federate_records j (c ∷ rest) =
    with_incoming federate_records c (nat_eq c.target j) (bound_by_connections federate_records j rest) (incoming_of rest j) (by_connections federate_records j rest)

-- the greater of both is the bound
pub bound_is : (w : Wiring) (federate_records : ℕ → FederateRecord) (j : ℕ) (upstream : List Upstream) (incoming : List Connection) (paths connections bound : LogicalTime) →
    upstream ≡ upstream_of (least_by w) j w.federates → incoming ≡ incoming_of w.connections j → paths ≡ first_upstream federate_records upstream →
    connections ≡ first_incoming federate_records incoming → bound ≡ greater paths connections → bound ≡ bound_of (network_by w) (least_by w) federate_records j
bound_is w federate_records j upstream incoming paths connections bound up down p c b =
    let by_p : paths ≡ bound_by_paths (least_by w) federate_records j w.federates = p ∙ ap (first_upstream federate_records) up ∙ sym (by_paths (least_by w) federate_records j w.federates) in
    let by_c : connections ≡ bound_by_connections federate_records j w.connections = c ∙ ap (first_incoming federate_records) down ∙ sym (by_connections federate_records j w.connections) in
    b ∙ ap (λ x. greater x connections) by_p ∙ ap (greater (bound_by_paths (least_by w) federate_records j w.federates)) by_c
