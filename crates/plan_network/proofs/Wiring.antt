-- Where the connections of a legal draft begin and end, and which delays there are.
use Rattle.std.proofs.Common.{◌≡◌, ℕ, ◌+◌, ◌<◌, ◌≤◌, ◌^◌, length, ap, sym, ◌∙◌, arith, subst, Some, IfSome}
use Rattle.std.specs.Prelude.{All, slice_get}
use Rattle.tag.specs.Total.{IsConnectionDelay}
use Rattle.network.specs.Connection.{Connection}
use Rattle.plan.specs.declared.draft.Federate.{Federate}
use Rattle.plan.specs.declared.draft.ConnectionDraft.{ConnectionDraft}
use Rattle.plan.specs.declared.draft.Draft.{Draft}
use Rattle.plan_slots.specs.Numbering.{first_input, first_timer}
use Rattle.plan.specs.Federation.{connection_of, connections_of}
use Rattle.plan.specs.Legal.{IsLegal}
use Rattle.plan.proofs.LeastLaws.{plain_after}
use Rattle.plan.proofs.Joined.{Joins, joins_from_connection_of, found_at}
use Rattle.network.proofs.Items.{All-filter_map}

-- a number is one federate's
pub same_federate : (d : Draft) (i j : ℕ) (f g : Federate) → i ≡ j → slice_get d.federates i ≡ Some f → slice_get d.federates j ≡ Some g → f ≡ g
same_federate d i j f g same f_is g_is =
    let both : Some f ≡ Some g = sym f_is ∙ ap (λ k. slice_get d.federates k) same ∙ g_is in
    cc

-- the federates at both ends of a connection, with its port and its slot among theirs
pub record IsWired (d : Draft) (c : Connection) : Type 0 where
  pub from : Federate
  pub to : Federate
  pub from_is : slice_get d.federates c.source ≡ Some from
  pub to_is : slice_get d.federates c.target ≡ Some to
  pub port : c.port < length from.slots.outputs
  pub input : 1 ≤ c.slot
  pub no_timer : c.slot < first_timer to.slots
  pub delay : IsConnectionDelay c.delay

wired : (d : Draft) (c : ConnectionDraft) (x : Connection) → IfSome c.after (λ t. t < 2 ^ 62) → connection_of d.federates c ≡ Some x → IsWired d x
wired d c x within is =
    let joins : Joins d.federates c x = joins_from_connection_of d.federates c x is in
    let from = found_at (λ s. s.outputs) d.federates c.from.federate c.from.port joins.from joins.from_is in
    let to = found_at (λ s. s.inputs) d.federates c.to.federate c.to.port joins.to joins.to_is in
    let output : joins.from.place < length from.0.slots.outputs = from.2 in
    let place : joins.to.place < length to.0.slots.inputs = to.2 in
    let port : x.port ≡ joins.from.place = joins.port in
    let slot : x.slot ≡ first_input + joins.to.place = joins.slot in
    record {
      from = from.0;
      to = to.0;
      from_is = ap (λ k. slice_get d.federates k) joins.source ∙ from.1;
      to_is = ap (λ k. slice_get d.federates k) joins.target ∙ to.1;
      port = omega arith;
      input = omega arith;
      no_timer = omega arith;
      delay = subst (λ g. IsConnectionDelay g) (sym joins.delay) (plain_after c.after within);
    }

pub all_wired : (d : Draft) → IsLegal d → All (IsWired d) (connections_of d)
all_wired d legal =
    All-filter_map (λ (c : ConnectionDraft). IfSome c.after (λ t. t < 2 ^ 62)) (IsWired d) (connection_of d.federates) d.connections
    (wired d) legal.delays
