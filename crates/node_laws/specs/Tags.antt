-- Which TAGs the coordinator sends in a step, and what it notes of them, by its records and all paths.
use Rattle.std.specs.Prelude.{◌≡◌, ℕ, ◌<◌, List, ◌++◌, All, AllPairs, Contains, Some}
use Rattle.tag.specs.LogicalTime.{LogicalTime}
use Rattle.network.specs.Network.{Network}
use Rattle.signal.specs.declared.signal.Signal.TheVariants.{Tag}
use Rattle.protocol.specs.declared.post.Post.{Post}
use Rattle.protocol.specs.Outcome.{Outcome, Refused, Nothing, Done}
use Rattle.protocol.specs.FederateRecord.{FederateRecord, after_grant}
use Rattle.protocol.specs.FederateRecords.{federate_records_listed}
use Rattle.protocol.specs.Grant.{IsEligible}
use Rattle.protocol.specs.Bound.{IsWidest}
use Rattle.protocol.specs.Coordinator.{Coordinated}
use Rattle.plan.specs.Federation.{federate_count}
use Rattle.node.specs.Core.{Made}
use Rattle.node_cores.specs.CoordinatorCore.{CoordinatorNode, wiring_in}

-- federate j gets this tag: it is there and eligible over all paths, and the tag is the greatest that may be granted
pub record IsGranted (n : Network) (federate_records : ℕ → FederateRecord) (j : ℕ) (tag : LogicalTime) : Type 0 where
  pub there : j < n.reactors
  pub eligible : IsEligible n federate_records j
  pub widest : IsWidest n federate_records j tag

-- these are the TAGs that federates get: one goes to each that is eligible, and nothing else is sent, in number order
pub record AreTheTags (n : Network) (federate_records : ℕ → FederateRecord) (posts : List Post) : Type 0 where
  pub each : (j : ℕ) → j < n.reactors → IsEligible n federate_records j
      → (tag : LogicalTime) × IsWidest n federate_records j tag × Contains posts (record { peer = j; signal = Tag tag })
  pub only : All (λ p. (tag : LogicalTime) × (p.signal ≡ Tag tag) × IsGranted n federate_records p.peer tag) posts
  pub order : AllPairs (λ p q. p.peer < q.peer) posts

-- after a signal was taken the TAGs go out, by the records as they are then, and are noted
pub record SendsTheTags (v : CoordinatorNode) (taken : Coordinated) (made : Made CoordinatorNode) : Type 0 where
  pub tags : List Post
  pub are_the_tags : AreTheTags (wiring_in v.draft) taken.after tags
  pub sent : made.sent ≡ taken.sent ++ tags
  pub after : ℕ → FederateRecord
  pub granted : (j : ℕ) (tag : LogicalTime) → IsGranted (wiring_in v.draft) taken.after j tag
      → after j ≡ after_grant (taken.after j) (Some tag)
  pub others : (j : ℕ) → (IsEligible (wiring_in v.draft) taken.after j → ⊥) → after j ≡ taken.after j
  pub node : made.after ≡ record v { federate_records = federate_records_listed (federate_count v.draft) after }

-- a signal that is refused as it is taken is refused, and after one that is taken the TAGs go out
abbrev pub EndsWithTheTags : CoordinatorNode → Outcome Coordinated → Outcome (Made CoordinatorNode) → Type 0
EndsWithTheTags v (Refused refusal) outcome = outcome ≡ Refused refusal
EndsWithTheTags v Nothing outcome = outcome ≡ Nothing
EndsWithTheTags v (Done taken) outcome =
    (made : Made CoordinatorNode) × (outcome ≡ Done made) × SendsTheTags v taken made
