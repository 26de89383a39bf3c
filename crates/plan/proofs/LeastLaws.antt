-- Least delays of legal drafts.
use Rattle.std.proofs.Common.{◌≡◌, ℕ, ◌<◌, ◌≤◌, ◌^◌, List, [], ◌∷◌, length, refl, sym, ◌∙◌, subst, arith, get_or}
use Rattle.std.specs.Prelude.{All, IfSome, MatchOption, Option, None, Some}
use Rattle.tag.specs.LogicalTime.{LogicalTime, sum_of}
use Rattle.tag.specs.Total.{IsConnectionDelay, no_delay, some_delay}
use Rattle.network.specs.Connection.{Connection, IsLeastDelay, IsUnreachable}
use Rattle.network.specs.Tables.{IsWithin}
use Rattle.network.proofs.Items.{All-filter_map}
use Rattle.network.proofs.Tables.{each_contained}
use Rattle.plan.specs.declared.draft.ConnectionDraft.{ConnectionDraft}
use Rattle.plan.specs.declared.draft.Draft.{Draft}
use Rattle.plan.specs.Federation.{delay_after, connection_of, connections_of, federate_count}
use Rattle.plan_paths.specs.Least.{IsTotalWithin, IsLeastTable}
use Rattle.plan.specs.Least.{least_of}
use Rattle.plan.specs.Legal.{IsLegal}
use Rattle.plan.proofs.Joined.{Joins, joins_from_connection_of}
use Rattle.plan.proofs.Plans.{ends_below}
use Rattle.plan_paths.proofs.LeastTotals.{attained, least_is, within_direct, within_onward}

-- ---- delays of connections

pub plain_after : (after : Option ℕ) → IfSome after (λ t. t < 2 ^ 62) → IsConnectionDelay (delay_after after)
plain_after None below = no_delay
plain_after (Some time) below = some_delay (time, below, refl)

pub connection_delays : (d : Draft) → IsLegal d → All (λ c. IsConnectionDelay c.delay) (connections_of d)
connection_delays d legal =
    All-filter_map (λ (c : ConnectionDraft). IfSome c.after (λ t. t < 2 ^ 62)) (λ (c : Connection). IsConnectionDelay c.delay) (connection_of d.federates) d.connections
    (λ c x below is.
    let joins : Joins d.federates c x = joins_from_connection_of d.federates c x is in
    subst (λ g. IsConnectionDelay g) (sym joins.delay) (plain_after c.after below))
    legal.delays

-- ---- least delays

pub least : (d : Draft) (i j : ℕ) → IsLegal d → MatchOption (least_of d i j) (IsUnreachable (connections_of d) i j) (IsLeastDelay (connections_of d) i j)
least d i j legal = least_is (connections_of d) (federate_count d) i j (ends_below d) (connection_delays d legal)

pub few : (d : Draft) (i j : ℕ) → IsLegal d → IfSome (least_of d i j) (IsTotalWithin (connections_of d) 64 i j)
few d i j legal = by (least_of d i j) (attained (connections_of d) (federate_count d) i j)
  where
    by : (o : Option LogicalTime) → IfSome o (IsTotalWithin (connections_of d) (federate_count d) i j) → IfSome o (IsTotalWithin (connections_of d) 64 i j)
    by None found = tt
    by (Some g) found =
        let short : length found.path ≤ federate_count d = found.few in
        let small : federate_count d ≤ 64 = legal.few_federates in
        record { path = found.path; is_path = found.is_path; total = found.total; few = omega arith }

pub ruleset least_delays = (least, few)

pub direct : (d : Draft) → IsLegal d → All (λ c. IsWithin (least_of d c.source c.target) c.delay) (connections_of d)
direct d legal =
    each_contained (λ (c : Connection). IsWithin (least_of d c.source c.target) c.delay) (connections_of d)
    (λ c contained. within_direct (connections_of d) (federate_count d) c (ends_below d) (connection_delays d legal) contained)

pub onward : (d : Draft) (j : ℕ) → IsLegal d → All (λ c. IfSome (least_of d c.target j) (λ rest. IsWithin (least_of d c.source j) (sum_of c.delay rest))) (connections_of d)
onward d j legal =
    each_contained (λ (c : Connection). IfSome (least_of d c.target j) (λ rest. IsWithin (least_of d c.source j) (sum_of c.delay rest))) (connections_of d)
    (λ c contained. within_onward (connections_of d) (federate_count d) j c legal.few_federates (ends_below d) (connection_delays d legal) contained)

pub ruleset least_delays_along = (direct, onward)

-- ---- what a plan holds of them

pub entry_is : (d kept : Draft) (table : List (List (Option LogicalTime))) (i j : ℕ) (entry : Option LogicalTime) → kept ≡ d → IsLeastTable (connections_of kept) (federate_count kept) table
    → i < federate_count d → j < federate_count d → entry ≡ get_or (get_or table i []) j None → entry ≡ least_of d i j
entry_is d kept table i j entry same is i_below j_below here =
    let of_d : IsLeastTable (connections_of d) (federate_count d) table
    = subst (λ e. IsLeastTable (connections_of e) (federate_count e) table) same is in
    here ∙ (of_d.rows i i_below).delays j j_below

pub entry_least : (d kept : Draft) (i j : ℕ) (entry : Option LogicalTime) → kept ≡ d → IsLegal kept → entry ≡ least_of d i j
    → MatchOption entry (IsUnreachable (connections_of d) i j) (IsLeastDelay (connections_of d) i j)
entry_least d kept i j entry same legal is =
    subst (λ o. MatchOption o (IsUnreachable (connections_of d) i j) (IsLeastDelay (connections_of d) i j)) (sym is) (least d i j (subst (λ e. IsLegal e) same legal))

pub entry_few : (d kept : Draft) (i j : ℕ) (entry : Option LogicalTime) → kept ≡ d → IsLegal kept → entry ≡ least_of d i j → IfSome entry (IsTotalWithin (connections_of d) 64 i j)
entry_few d kept i j entry same legal is =
    subst (λ o. IfSome o (IsTotalWithin (connections_of d) 64 i j)) (sym is) (few d i j (subst (λ e. IsLegal e) same legal))
