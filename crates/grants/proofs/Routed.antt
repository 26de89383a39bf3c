-- The routes of each federate, and which federates they name.
use Rattle.std.proofs.Common.{◌≡◌, ℕ, zero, suc, ◌+◌, ◌<◌, List, [], ◌∷◌, ◌++◌, length, get_or, refl, sym, ap, subst, ◌∙◌, arith, length-append, inl, inr, Option, None, Some}
use Rattle.std.specs.Prelude.{nat_eq, All}
use Rattle.std.proofs.lemmas.Bool.{cases_lt}
use Rattle.std.proofs.lemmas.List.Elements.{All-nil, All-cons, All-append, All-weaker, All-filter}
use Rattle.tag.specs.LogicalTime.{LogicalTime}
use Rattle.network.specs.Connection.{Connection}
use Rattle.network.specs.Wiring.{IsBetween}
use Rattle.network.specs.Tables.{Table}
use Rattle.plan.specs.declared.draft.Draft.{Draft}
use Rattle.plan.specs.Federation.{federate_count, connections_of, stop_of}
use Rattle.plan.specs.Legal.{IsLegal}
use Rattle.protocol.specs.FederateRecord.{FederateRecord, initial_federate_record}
use Rattle.protocol.specs.FederateRecords.{federate_records_listed}
use Rattle.grants.specs.declared.routes.Upstream.{Upstream}
use Rattle.grants.specs.Wiring.{Wiring, IsWiring, least_by, federation_wiring}
use Rattle.grants.specs.Routes.{Routed, routed, routed_below, upstream_at, upstream_of, incoming_of}
use Rattle.grants.proofs.Plans.{wiring_is}

pub length_routed : (w : Wiring) (count : ℕ) → length (routed_below w count) ≡ count
length_routed w zero = refl
length_routed w (suc count) =
    length-append (routed_below w count) (routed w count ∷ []) ∙ ap (λ n. n + 1) (length_routed w count) ∙ omega arith

at_end : (rs : List Routed) (r d : Routed) (j : ℕ) → j ≡ length rs → get_or (rs ++ r ∷ []) j d ≡ r
at_end [] r d zero e = refl
at_end [] r d (suc j) e = absurd (omega arith)
at_end (x ∷ rs) r d zero e = absurd (omega arith)
at_end (x ∷ rs) r d (suc j) e = at_end rs r d j (omega arith)

within : (rs : List Routed) (r d : Routed) (j : ℕ) → j < length rs → get_or (rs ++ r ∷ []) j d ≡ get_or rs j d
within [] r d j l = absurd (omega arith)
within (x ∷ rs) r d zero l = refl
within (x ∷ rs) r d (suc j) l = within rs r d j (omega arith)

pub routed_at : (w : Wiring) (count j : ℕ) (d : Routed) → j < count → get_or (routed_below w count) j d ≡ routed w j
routed_at w zero j d l = absurd (omega arith)
routed_at w (suc count) j d l =
    let long = length_routed w count in
    elim (cases_lt j count) [
      | inl m ↦ within (routed_below w count) (routed w count) d j (omega arith) ∙ routed_at w count j d m
      | inr m ↦
          let last : j ≡ count = omega arith in
          at_end (routed_below w count) (routed w count) d j (omega arith) ∙ ap (routed w) (sym last)
    ]

one_upstream : (count : ℕ) (o : Option LogicalTime) → All (λ (u : Upstream). u.federate < suc count) (upstream_at count o)
one_upstream count None = All-nil (λ (u : Upstream). u.federate < suc count)
one_upstream count (Some d) =
    All-cons (λ (u : Upstream). u.federate < suc count) (record { federate = count; delay = d }) [] (omega arith) (All-nil (λ (u : Upstream). u.federate < suc count))

upstream_below : (table : Table) (j count : ℕ) → All (λ (u : Upstream). u.federate < count) (upstream_of table j count)
upstream_below table j zero = All-nil (λ (u : Upstream). u.federate < 0)
upstream_below table j (suc count) =
    All-append (λ (u : Upstream). u.federate < suc count) (upstream_of table j count) (upstream_at count (table count j))
    (All-weaker (λ (u : Upstream). u.federate < count) (λ (u : Upstream). u.federate < suc count) (λ u l. omega arith) (upstream_of table j count) (upstream_below table j count))
    (one_upstream count (table count j))

incoming_below : (w : Wiring) (j : ℕ) → IsWiring w → All (λ (c : Connection). c.source < w.federates) (incoming_of w.connections j)
incoming_below w j are =
    All-filter (λ c. nat_eq c.target j) (λ (c : Connection). c.source < w.federates) w.connections
    (All-weaker (IsBetween w.federates) (λ (c : Connection). c.source < w.federates) (λ c b. b.source) w.connections are.wired.connections)

-- what stands for a federate is its routes
pub routes_are : (routes : List Routed) (connections : List Connection) (stop : LogicalTime) (w : Wiring) (j : ℕ) (r : Routed) →
    record { federates = length routes; connections = connections; stop = stop } ≡ w →
    routes ≡ routed_below (record { federates = length routes; connections = connections; stop = stop }) (length routes) → j < w.federates → r ≡ get_or routes j r →
    r ≡ routed w j
routes_are routes connections stop w j r is all l here =
    let count = ap (λ (x : Wiring). x.federates) is in
    let seen : Wiring = record { federates = length routes; connections = connections; stop = stop } in
    here ∙ ap (λ rs. get_or rs j r) all ∙ routed_at seen (length routes) j r (omega (arith, count, l)) ∙ ap (λ x. routed x j) is

-- their federates are there
pub upstream_there : (w : Wiring) (j count : ℕ) (r : Routed) (upstream : List Upstream) → r ≡ routed w j → upstream ≡ r.upstream → count ≡ w.federates →
    All (λ (u : Upstream). u.federate < count) upstream
upstream_there w j count r upstream is e n =
    subst (λ us. All (λ (u : Upstream). u.federate < count) us) (sym (e ∙ ap (λ (x : Routed). x.upstream) is))
    (subst (λ k. All (λ (u : Upstream). u.federate < k) (upstream_of (least_by w) j w.federates)) (sym n) (upstream_below (least_by w) j w.federates))

pub incoming_there : (w : Wiring) (j count : ℕ) (r : Routed) (incoming : List Connection) → IsWiring w → r ≡ routed w j → incoming ≡ r.incoming → count ≡ w.federates →
    All (λ (c : Connection). c.source < count) incoming
incoming_there w j count r incoming are is e n =
    subst (λ cs. All (λ (c : Connection). c.source < count) cs) (sym (e ∙ ap (λ (x : Routed). x.incoming) is))
    (subst (λ k. All (λ (c : Connection). c.source < k) (incoming_of w.connections j)) (sym n) (incoming_below w j are))

-- the wiring that is made of a plan is the plan's
pub wiring_made : (d : Draft) (routes : List Routed) (connections : List Connection) (stop : LogicalTime) → routes ≡ routed_below (federation_wiring d) (federate_count d) →
    connections ≡ connections_of d → stop ≡ stop_of d → record { federates = length routes; connections = connections; stop = stop } ≡ federation_wiring d
wiring_made d routes connections stop rs cs e =
    let many : length routes ≡ federate_count d = ap length rs ∙ length_routed (federation_wiring d) (federate_count d) in
    let made : ℕ → List Connection → LogicalTime → Wiring = λ n c s. record { federates = n; connections = c; stop = s } in
    ap (λ n. made n connections stop) many ∙ ap (λ c. made (federate_count d) c stop) cs ∙ ap (made (federate_count d) (connections_of d)) e

pub wiring_made_is : (d : Draft) (routes : List Routed) (w : Wiring) → IsLegal d → routes ≡ routed_below (federation_wiring d) (federate_count d) → w ≡ federation_wiring d →
    IsWiring w × (routes ≡ routed_below w w.federates)
wiring_made_is d routes w legal rs e =
    (subst IsWiring (sym e) (wiring_is d legal), rs ∙ ap (λ x. routed_below x x.federates) (sym e))

-- this many initial records, then one more
one_more_initial : (count : ℕ) → federate_records_listed count (λ j. initial_federate_record) ++ initial_federate_record ∷ [] ≡ federate_records_listed (suc count) (λ j. initial_federate_record)
one_more_initial zero = refl
one_more_initial (suc count) = ap (λ (ss : List FederateRecord). initial_federate_record ∷ ss) (one_more_initial count)

pub initial_more : (count : ℕ) (before after : List FederateRecord) (s : FederateRecord) → before ≡ federate_records_listed count (λ j. initial_federate_record) → s ≡ initial_federate_record →
    after ≡ before ++ s ∷ [] → after ≡ federate_records_listed (count + 1) (λ j. initial_federate_record)
initial_more count before after s all one e =
    let next : suc count ≡ count + 1 = omega arith in
    e ∙ ap (λ ss. ss ++ s ∷ []) all ∙ ap (λ x. federate_records_listed count (λ j. initial_federate_record) ++ x ∷ []) one ∙ one_more_initial count
    ∙ ap (λ n. federate_records_listed n (λ j. initial_federate_record)) next
