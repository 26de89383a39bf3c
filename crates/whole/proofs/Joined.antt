-- Connections join federates and ports that are there, and what they carry depends on those ports alone.
use Rattle.std.proofs.Common.{◌≡◌, ℕ, suc, ◌<◌, ℤ, List, [], ◌∷◌, length, All, nat_eq, slice_get, Option, Some, refl, ap, sym, ◌∙◌, arith, inl, inr, subst, if◌then◌else◌}
use Rattle.std.specs.Option.{option_map}
use Rattle.std.specs.List.{flat_map}
use Rattle.std.proofs.lemmas.Bool.Decides.{eqb_tells}
use Rattle.std.proofs.lemmas.Option.{slice_get_within}
use Rattle.tag.specs.LogicalTime.{LogicalTime}
use Rattle.network.specs.Connection.{Connection}
use Rattle.network.specs.Undivided.{message_of, carried_by}
use Rattle.plan_slots.specs.declared.slots.Slots.{Slots}
use Rattle.plan.specs.declared.draft.Federate.{Federate}
use Rattle.plan.specs.declared.draft.ConnectionDraft.{ConnectionDraft}
use Rattle.plan.specs.declared.draft.Draft.{Draft}
use Rattle.plan.specs.Federation.{connection_of, connections_of, federate_count}
use Rattle.plan.proofs.Joined.{Joins, joins_from_connection_of, found_at}
use Rattle.network.proofs.Items.{All-filter_map}
use Rattle.reactor.specs.Entries.{AgreesBelow}

-- both ends of a connection are there
pub record IsJoined (d : Draft) (c : Connection) : Type 0 where
  pub source : (f : Federate) × (slice_get d.federates c.source ≡ Some f) × (c.port < length f.slots.outputs)
  pub target : c.target < federate_count d

-- so are all connections of a federation
pub connections_of-joined : (d : Draft) → All (IsJoined d) (connections_of d)
connections_of-joined d =
    All-filter_map (λ (c : ConnectionDraft). Unit {0}) (IsJoined d) (connection_of d.federates) d.connections
    (λ c x any is.
    let joins : Joins d.federates c x = joins_from_connection_of d.federates c x is in
    let from = found_at (λ s. s.outputs) d.federates c.from.federate c.from.port joins.from joins.from_is in
    let to = found_at (λ s. s.inputs) d.federates c.to.federate c.to.port joins.to joins.to_is in
    let output : joins.from.place < length from.0.slots.outputs = from.2 in
    let port : x.port ≡ joins.from.place = joins.port in
    let below : joins.to.federate < federate_count d = slice_get_within d.federates joins.to.federate to.0 to.1 in
    let target : x.target ≡ joins.to.federate = joins.target in
    record {
      source = (from.0, ap (λ k. slice_get d.federates k) joins.source ∙ from.1, omega arith);
      target = omega arith;
    })
    (λ k e within. tt)

carried_by-agrees :
    (reactor : ℕ) (tag : LogicalTime) (f g : ℕ → Option ℤ) (c : Connection) → (c.source ≡ reactor → f c.port ≡ g c.port) →
    carried_by reactor tag f c ≡ carried_by reactor tag g c
carried_by-agrees reactor tag f g c same =
    elim (eqb_tells c.source reactor) [
      | inl mine ↦ ap (λ value. if nat_eq c.source reactor then message_of tag c value else []) (same mine.1)
      | inr other ↦ rw other.0 refl
    ]

flat_map-agrees : {X Y : Type 0} (P : X → Type 0) (f g : X → List Y) (same : (x : X) → P x → f x ≡ g x) (xs : List X) → All P xs → flat_map f xs ≡ flat_map g xs
flat_map-agrees P f g same [] each = refl
flat_map-agrees P f g same (x ∷ xs) each =
    let here : f x ≡ g x = same x (each 0 x (omega arith)) in
    let there : flat_map f xs ≡ flat_map g xs = flat_map-agrees P f g same xs (λ k d below. each (suc k) d (omega arith)) in
    rw (here, there) refl

-- what connections carry of a federate's outputs depends on its output ports alone
pub carried-agrees :
    (d : Draft) (reactor : ℕ) (s : Slots) (tag : LogicalTime) (f g : ℕ → Option ℤ) → option_map (λ k. k.slots) (slice_get d.federates reactor) ≡ Some s →
    AgreesBelow (length s.outputs) f g →
    flat_map (carried_by reactor tag f) (connections_of d) ≡ flat_map (carried_by reactor tag g) (connections_of d)
carried-agrees d reactor s tag f g slots agrees =
    flat_map-agrees (IsJoined d) (carried_by reactor tag f) (carried_by reactor tag g)
    (λ c joined. carried_by-agrees reactor tag f g c (λ mine.
    let found : slice_get d.federates reactor ≡ Some joined.source.0 = ap (λ j. slice_get d.federates j) (sym mine) ∙ joined.source.1 in
    let given : option_map (λ k. k.slots) (slice_get d.federates reactor) ≡ Some joined.source.0.slots = ap (λ o. option_map (λ k. k.slots) o) found in
    let both : Some joined.source.0.slots ≡ Some s = sym given ∙ slots in
    let same : joined.source.0.slots ≡ s = cc in
    agrees c.port (subst (λ (t : Slots). c.port < length t.outputs) same joined.source.2)))
    (connections_of d) (connections_of-joined d)
