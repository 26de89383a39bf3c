-- What is pending, where one node's part of it is replaced.
use Rattle.std.proofs.Common.{◌≡◌, ◌≢◌, ◌⊎◌, inl, inr, ℕ, Bool, true, false, if◌then◌else◌, List, refl, sym, ap, subst}
use Rattle.std.proofs.lemmas.Bool.{cases_eq, eq-eqb, ne_eqb}
use Rattle.node.specs.declared.node_id.NodeId.{NodeId}
use Rattle.node.specs.declared.node_id.NodeId.TheVariants.{Coordinator, Federate}
use Rattle.world_disks.specs.Disks.{PendingStep, same_node, with_pending}

-- a federate's number
abbrev number_of : NodeId → ℕ
number_of Coordinator = 0
number_of (Federate j) = j

-- a node is another or not
pub same_or_other : (node other : NodeId) → (node ≡ other) ⊎ (node ≢ other)
same_or_other Coordinator Coordinator = inl refl
same_or_other Coordinator (Federate k) = inr (λ e. cc)
same_or_other (Federate j) Coordinator = inr (λ e. cc)
same_or_other (Federate j) (Federate k) =
    elim (cases_eq j k) [
      | inl same ↦ inl (ap Federate same)
      | inr apart ↦ inr (λ e. apart (ap number_of e))
    ]

pub same_as_itself : (node : NodeId) → same_node node node ≡ true
same_as_itself Coordinator = refl
same_as_itself (Federate j) = eq-eqb j j refl

pub same_as_no_other : (node other : NodeId) → node ≢ other → same_node node other ≡ false
same_as_no_other Coordinator Coordinator apart = absurd (apart refl)
same_as_no_other Coordinator (Federate k) apart = refl
same_as_no_other (Federate j) Coordinator apart = refl
same_as_no_other (Federate j) (Federate k) apart = ne_eqb j k (λ e. apart (ap Federate e))

-- the node itself has the new steps
pub pending_here : (pending : NodeId → List PendingStep) (node : NodeId) (steps : List PendingStep) →
    with_pending pending node steps node ≡ steps
pending_here pending node steps =
    ap (λ (b : Bool). if b then steps else pending node) (same_as_itself node)

-- each other has what it had
pub pending_elsewhere : (pending : NodeId → List PendingStep) (node other : NodeId) (steps : List PendingStep) →
    other ≢ node → with_pending pending node steps other ≡ pending other
pending_elsewhere pending node other steps apart =
    ap (λ (b : Bool). if b then steps else pending other) (same_as_no_other other node apart)

-- what holds of the new steps, and of each other node's, holds of all
pub all_pending : (P : NodeId → List PendingStep → Type 0) (pending : NodeId → List PendingStep) (node : NodeId)
    (steps : List PendingStep) → P node steps → ((other : NodeId) → P other (pending other)) →
    (other : NodeId) → P other (with_pending pending node steps other)
all_pending P pending node steps new old other =
    elim (same_or_other other node) [
      | inl same ↦
          subst (λ (n : NodeId). P n (with_pending pending node steps n)) (sym same)
          (subst (P node) (sym (pending_here pending node steps)) new)
      | inr apart ↦ subst (P other) (sym (pending_elsewhere pending node other steps apart)) (old other)
    ]
