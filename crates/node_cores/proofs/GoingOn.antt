-- Each step of a node adds to its rows, and leaves what it was made from.
use Rattle.std.proofs.Common.{◌≡◌, ◌∙◌, ℕ, ℤ, Bool, true, false, not, ◌&&◌, nat_eq, if◌then◌else◌, List, [], ◌∷◌, ◌++◌, slice_get, Option, None, Some, refl, sym, subst}
use Rattle.std.proofs.lemmas.List.{append-nil}
use Rattle.tag.specs.LogicalTime.{LogicalTime, is_at_most, is_past, is_reached}
use Rattle.network.specs.Connection.{Connection}
use Rattle.network.specs.Network.{Network}
use Rattle.network.specs.Undivided.{Row}
use Rattle.network.specs.Undone.{put, first_tag}
use Rattle.signal.specs.declared.signal.Signal.{Signal}
use Rattle.signal.specs.declared.signal.Signal.TheVariants.{Net, Ltc, Tag, Msg}
use Rattle.protocol.specs.declared.refusal.Refusal.{Refusal}
use Rattle.protocol.specs.Outcome.{Outcome, Refused, Nothing, Done, with_made, IfDone}
use Rattle.protocol.specs.Federate.{Federate, Stepped, is_told, next_event, accept_message, advance_to, row_of_turn, turn_at, federate_accepts, federate_announces, federate_advances}
use Rattle.protocol.specs.FederateRecords.{Listed}
use Rattle.node.specs.Core.{Made, GoesOn, IsCore}
use Rattle.node_cores.specs.FederateCore.{FederateNode, made_by, network_at, federate_core}
use Rattle.node_cores.specs.CoordinatorCore as coordinator

-- a federate's rows stay, and more may follow
abbrev Extends : Federate → Stepped → Type 0
Extends f made = (more : List Row) × (made.after.rows ≡ f.rows ++ more)

same_rows : (f : Federate) (made : Stepped) → made.after.rows ≡ f.rows → Extends f made
same_rows f made is = ([], is ∙ sym (append-nil f.rows))

-- after two tests, each of which may refuse
guarded : (P : Stepped → Type 0) (a b : Bool) (r q : Refusal) (made : Stepped) → P made →
    IfDone (if a then Refused r else if b then Refused q else Done made) P
guarded P true b r q made p = tt
guarded P false true r q made p = tt
guarded P false false r q made p = p

message_extends : (n : Network) (j : ℕ) (f : Federate) (c : Option Connection) (tag : LogicalTime) (value : ℤ) → IfDone (accept_message n j f c tag value) (Extends f)
message_extends n j f None tag value = tt
message_extends n j f (Some c) tag value =
    let made : Stepped = record { after = record f { undone = put (record { tag = tag; slot = c.slot; value = value }) f.undone }; sent = [] } in
    guarded (Extends f) (not (nat_eq c.target j && is_at_most tag n.stop)) (not (is_past f.completed tag && is_past f.granted tag)) _ _ made (same_rows f made refl)

accept_extends : (n : Network) (j : ℕ) (f : Federate) (signal : Signal) → IfDone (federate_accepts n j f signal) (Extends f)
accept_extends n j f (Net tag) = tt
accept_extends n j f (Ltc tag) = tt
accept_extends n j f (Tag tag) =
    let made : Stepped = record { after = record f { granted = Some tag }; sent = [] } in
    guarded (Extends f) (not (is_at_most tag n.stop)) (not (is_past f.granted tag)) _ _ made (same_rows f made refl)
accept_extends n j f (Msg connection tag value) = message_extends n j f (slice_get n.connections connection) tag value

unless : (P : Stepped → Type 0) (b : Bool) (made : Stepped) → P made → IfDone (if b then Nothing else Done made) P
unless P true made p = tt
unless P false made p = p

announce_extends : (f : Federate) → IfDone (federate_announces f) (Extends f)
announce_extends f =
    let made : Stepped = record { after = record f { announced = Some (next_event f) }; sent = Net (next_event f) ∷ [] } in
    unless (Extends f) (is_told f.announced (next_event f)) made (same_rows f made refl)

provided : (P : Stepped → Type 0) (b : Bool) (made : Stepped) → P made → IfDone (if b then Done made else Nothing) P
provided P true made p = p
provided P false made p = tt

advance_extends : (n : Network) (j : ℕ) (f : Federate) (o : Option LogicalTime) → IfDone (advance_to n j f o) (Extends f)
advance_extends n j f None = tt
advance_extends n j f (Some tag) = provided (Extends f) (is_reached f.granted tag) (turn_at n j f tag) (row_of_turn n j f tag ∷ [], refl)

-- the node goes on as its federate does
goes : (v : FederateNode) (o : Outcome Stepped) (made : Made FederateNode) → IfDone o (Extends v.federate) → with_made (made_by v) o ≡ Done made →
    GoesOn federate_core v made.after
goes v o made extends is = from_done (with_made (made_by v) o) made (lifted o extends) is
  where
    lifted : (o : Outcome Stepped) → IfDone o (Extends v.federate) → IfDone (with_made (made_by v) o) (λ made. GoesOn federate_core v made.after)
    lifted (Refused r) e = tt
    lifted Nothing e = tt
    lifted (Done made) e = record { rows = e; initial = refl }

    from_done : (o : Outcome (Made FederateNode)) (made : Made FederateNode) → IfDone o (λ made. GoesOn federate_core v made.after) → o ≡ Done made → GoesOn federate_core v made.after
    from_done o made holds is = let P : Outcome (Made FederateNode) → Type 0 = λ o. IfDone o (λ made. GoesOn federate_core v made.after) in subst P is holds

pub federates_go_on : IsCore federate_core
federates_go_on = record {
  accept = λ v peer signal made is. goes v (federate_accepts (network_at v) v.number v.federate signal) made (accept_extends (network_at v) v.number v.federate signal) is;
  announce = λ v made is. goes v (federate_announces v.federate) made (announce_extends v.federate) is;
  advance = λ v made is. goes v (federate_advances (network_at v) v.number v.federate) made (advance_extends (network_at v) v.number v.federate (first_tag v.federate.undone)) is;
}

-- the coordinator has no rows, and stays one of its plan
coordinator_goes : (v : coordinator.CoordinatorNode) (o : Outcome Listed) (made : Made coordinator.CoordinatorNode) →
    with_made (coordinator.made_by v) o ≡ Done made → GoesOn coordinator.coordinator_core v made.after
coordinator_goes v o made is = let P : Outcome (Made coordinator.CoordinatorNode) → Type 0 = λ o. IfDone o (λ made. GoesOn coordinator.coordinator_core v made.after) in subst P is (lifted o)
  where
    lifted : (o : Outcome Listed) → IfDone (with_made (coordinator.made_by v) o) (λ made. GoesOn coordinator.coordinator_core v made.after)
    lifted (Refused r) = tt
    lifted Nothing = tt
    lifted (Done made) = record { rows = ([], refl); initial = refl }

nothing_goes : (v : coordinator.CoordinatorNode) (made : Made coordinator.CoordinatorNode) → Nothing ≡ Done made → GoesOn coordinator.coordinator_core v made.after
nothing_goes v made is = let P : Outcome (Made coordinator.CoordinatorNode) → Type 0 = λ o. IfDone o (λ made. GoesOn coordinator.coordinator_core v made.after) in subst P is tt

pub coordinators_go_on : IsCore coordinator.coordinator_core
coordinators_go_on = record {
  accept = λ v peer signal made is. coordinator_goes v _ made is;
  announce = λ v made is. nothing_goes v made is;
  advance = λ v made is. nothing_goes v made is;
}
