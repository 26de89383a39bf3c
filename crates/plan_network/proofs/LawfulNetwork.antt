-- A legal plan with its programs and inputs gives a lawful network.
use Rattle.std.proofs.Common.{◌≡◌, ◌≢◌, ℕ, ◌<◌, ◌≤◌, ◌⊎◌, inl, inr, ℤ, List, refl, ap, sym, arith, subst, get_or, Option, None, Some, IsSomeAnd, MatchOption}
use Rattle.std.specs.Prelude.{All, slice_get}
use Rattle.std.proofs.lemmas.List.Elements.{All-nil, All-append, All-weaker, Contains-get_or}
use Rattle.std.proofs.lemmas.Option.{slice_get_within}
use Rattle.std.proofs.lemmas.Slice.Zip.{AllZip-right}
use Rattle.tag.specs.LogicalTime.{LogicalTime, origin, is_same}
use Rattle.tag.specs.Total.{some_delay}
use Rattle.tag.proofs.Paths.{after_is_some}
use Rattle.network.specs.Connection.{Connection}
use Rattle.network.specs.Event.{Event}
use Rattle.network.specs.Network.{Scheduling}
use Rattle.network.specs.Lawful.{IsConnected, IsExternal, IsOwn, IsLawful}
use Rattle.network.specs.Tables.{IsLawfulWith}
use Rattle.plan.specs.Least.{least_of}
use Rattle.plan.proofs.LeastLaws.{least, direct, onward}
use Rattle.plan_slots.specs.declared.slots.Slots.{Slots}
use Rattle.plan.specs.declared.draft.Federate.{Federate}
use Rattle.plan.specs.declared.draft.Draft.{Draft}
use Rattle.plan.specs.declared.input.Input.{Input}
use Rattle.plan_slots.specs.Numbering.{first_timer, first_action, first_physical, slot_count}
use Rattle.plan.specs.Federation.{connections_of, federate_count, rank_of, level_of}
use Rattle.plan.specs.External.{own_events_from, input_events, external_of, AreInputsOf}
use Rattle.plan.specs.Legal.{IsLegal}
use Rattle.plan.proofs.Legality.{rank_rises}
use Rattle.plan_paths.proofs.Paths.{before_by-lt, before_by-injective}
use Rattle.reactor_program.specs.Behaviour.{Behaviour, IsWellFormed}
use Rattle.reactor_programs.specs.Programs.{AreProgramsOf}
use Rattle.plan_network.specs.Network.{slots_of, ports_of, effect_by, network_of}
use Rattle.plan_network.proofs.Wiring.{IsWired, all_wired, same_federate}
use Rattle.plan_network.proofs.Outside.{IsOutside, IsOwnSlot, IsInputSlot, own_events_outside, inputs_outside}
use Rattle.plan_network.proofs.Apart.{external_apart}
use Rattle.plan_network.proofs.Scheduled.{IsAction, schedules_actions}

-- ---- slots are there

slot_there : (d : Draft) (number slot : ℕ) (f : Federate) → slice_get d.federates number ≡ Some f → slot < slot_count f.slots
    → slot < slots_of (slice_get d.federates number)
slot_there d number slot f is below = subst (λ o. slot < slots_of o) (sym is) below

connected : (d : Draft) (programs : List Behaviour) (inputs : List Input) (c : Connection) → IsWired d c → IsConnected (network_of d programs inputs) c
connected d programs inputs c w =
    let input : c.slot < first_timer w.to.slots = w.no_timer in
    record {
      source = slice_get_within d.federates c.source w.from w.from_is;
      port = subst (λ o. c.port < ports_of o) (sym w.from_is) w.port;
      target = slice_get_within d.federates c.target w.to w.to_is;
      slot = slot_there d c.target c.slot w.to w.to_is (omega arith);
      delay = w.delay;
    }

-- ---- external events

abbrev IsExternalSlot : Slots → ℕ → Type 0
IsExternalSlot s slot = IsOwnSlot s slot ⊎ IsInputSlot s slot

own_or_input : (d : Draft) (inputs : List Input) → IsLegal d → AreInputsOf d inputs → All (IsOutside IsExternalSlot d) (external_of d inputs)
own_or_input d inputs legal are =
    All-append (IsOutside IsExternalSlot d) (own_events_from d.stop 0 d.federates) (input_events d inputs)
    (All-weaker (IsOutside IsOwnSlot d) (IsOutside IsExternalSlot d)
    (λ e own. record { federate = own.federate; federate_is = own.federate_is; slot = inl own.slot; tag = own.tag; in_time = own.in_time })
    (own_events_from d.stop 0 d.federates) (own_events_outside d legal))
    (All-weaker (IsOutside IsInputSlot d) (IsOutside IsExternalSlot d)
    (λ e input. record { federate = input.federate; federate_is = input.federate_is; slot = inr input.slot; tag = input.tag; in_time = input.in_time })
    (input_events d inputs) (inputs_outside d inputs are))

external_slot_below : (s : Slots) (slot : ℕ) → IsExternalSlot s slot → slot < slot_count s
external_slot_below s slot (inl (inl startup)) = omega arith
external_slot_below s slot (inl (inr timer)) = let low : slot < first_action s = timer.1 in omega arith
external_slot_below s slot (inr input) = input.1

external_is : (d : Draft) (programs : List Behaviour) (inputs : List Input) (e : Event)
    → IsOutside IsExternalSlot d e → IsExternal (network_of d programs inputs) e
external_is d programs inputs e out = record {
  reactor = slice_get_within d.federates e.reactor out.federate out.federate_is;
  slot = slot_there d e.reactor e.slot out.federate out.federate_is (external_slot_below out.federate.slots e.slot out.slot);
  tag = out.tag;
  in_time = out.in_time;
}

no_external_input : (s : Slots) (slot : ℕ) → 1 ≤ slot → slot < first_timer s → IsExternalSlot s slot → ⊥
no_external_input s slot low high (inl (inl startup)) = omega arith
no_external_input s slot low high (inl (inr timer)) = let past : first_timer s ≤ slot = timer.0 in omega arith
no_external_input s slot low high (inr input) = let past : first_physical s ≤ slot = input.0 in omega arith

no_external_action : (s : Slots) (slot : ℕ) → first_action s ≤ slot → slot < first_physical s → IsExternalSlot s slot → ⊥
no_external_action s slot low high (inl (inl startup)) = omega arith
no_external_action s slot low high (inl (inr timer)) = let before : slot < first_action s = timer.1 in omega arith
no_external_action s slot low high (inr input) = let past : first_physical s ≤ slot = input.0 in omega arith

-- no external event is for an input that a connection reaches
port_apart : (d : Draft) (c : Connection) (e : Event) → IsWired d c → IsOutside IsExternalSlot d e → e.reactor ≡ c.target → e.slot ≢ c.slot
port_apart d c e w out reactors slots =
    let same : out.federate ≡ w.to = same_federate d e.reactor c.target out.federate w.to reactors out.federate_is w.to_is in
    let here : IsExternalSlot w.to.slots c.slot
    = subst (λ k. IsExternalSlot w.to.slots k) slots (subst (λ (f : Federate). IsExternalSlot f.slots e.slot) same out.slot) in
    no_external_input w.to.slots c.slot w.input w.no_timer here

-- ---- ranks

rises : (d : Draft) → IsLegal d → All (λ c. c.delay ≡ origin → rank_of d c.source < rank_of d c.target) (connections_of d)
rises d legal k c within none =
    rank_rises d (get_or (connections_of d) k c) legal (Contains-get_or (connections_of d) k c within) (ap (λ (g : LogicalTime). is_same g origin) none)

-- ---- schedulings

-- a federate's slots, and those of its program
own_slots : (d : Draft) (programs : List Behaviour) → AreProgramsOf d programs → (number : ℕ) (b : Behaviour) → slice_get programs number ≡ Some b
    → (f : Federate) × (slice_get d.federates number ≡ Some f) × (f.slots ≡ b.slots) × IsWellFormed b
own_slots d programs are number b b_is =
    found (slice_get d.federates number) refl
    (subst (λ o. MatchOption o (Unit {0}) (λ y. IsSomeAnd (slice_get d.federates number) (λ x. (x.slots ≡ y.slots) × IsWellFormed y))) b_is
    (AllZip-right (λ (x : Federate) (y : Behaviour). (x.slots ≡ y.slots) × IsWellFormed y) d.federates programs are number))
  where
    found : (o : Option Federate) → slice_get d.federates number ≡ o → IsSomeAnd o (λ x. (x.slots ≡ b.slots) × IsWellFormed b)
        → (f : Federate) × (slice_get d.federates number ≡ Some f) × (f.slots ≡ b.slots) × IsWellFormed b
    found None is has = absurd has
    found (Some f) is has = (f, is, has.0, has.1)

own : (d : Draft) (programs : List Behaviour) (inputs : List Input) → IsLegal d → AreInputsOf d inputs
    → (number : ℕ) (f : Federate) (b : Behaviour) → slice_get d.federates number ≡ Some f → f.slots ≡ b.slots
    → (s : Scheduling) → IsAction b s → IsOwn (network_of d programs inputs) number s
own d programs inputs legal are number f b f_is same s action =
    let low : first_action f.slots ≤ s.slot = subst (λ t. first_action t ≤ s.slot) (sym same) action.action in
    let high : s.slot < first_physical f.slots = subst (λ t. s.slot < first_physical t) (sym same) action.no_physical in
    record {
      slot = slot_there d number s.slot f f_is (omega arith);
      delay = some_delay action.delay;
      later = after_is_some s.delay action.delay;
      no_port =
          All-weaker (IsWired d) (λ c. c.target ≡ number → c.slot ≢ s.slot)
          (λ c w target slots.
          let one : w.to ≡ f = same_federate d c.target number w.to f target w.to_is f_is in
          let input : c.slot < first_timer f.slots = subst (λ (g : Federate). c.slot < first_timer g.slots) one w.no_timer in
          omega arith)
          (connections_of d) (all_wired d legal);
      not_external =
          All-weaker (IsOutside IsExternalSlot d) (λ e. e.reactor ≡ number → e.slot ≢ s.slot)
          (λ e out reactor slots.
          let one : out.federate ≡ f = same_federate d e.reactor number out.federate f reactor out.federate_is f_is in
          no_external_action f.slots s.slot low high
          (subst (λ k. IsExternalSlot f.slots k) slots (subst (λ (g : Federate). IsExternalSlot g.slots e.slot) one out.slot)))
          (external_of d inputs) (own_or_input d inputs legal are);
    }

schedulings : (d : Draft) (programs : List Behaviour) (inputs : List Input) → IsLegal d → AreProgramsOf d programs → AreInputsOf d inputs
    → (number : ℕ) (states : List ℤ) (present : ℕ → Option ℤ)
    → All (IsOwn (network_of d programs inputs) number) (effect_by (slice_get programs number) states present).schedulings
schedulings d programs inputs legal programs_are are number states present = by_program (slice_get programs number) refl
  where
    by_program : (o : Option Behaviour) → slice_get programs number ≡ o
        → All (IsOwn (network_of d programs inputs) number) (effect_by o states present).schedulings
    by_program None is = All-nil (IsOwn (network_of d programs inputs) number)
    by_program (Some b) is =
        let f : (f : Federate) × (slice_get d.federates number ≡ Some f) × (f.slots ≡ b.slots) × IsWellFormed b
        = own_slots d programs programs_are number b is in
        All-weaker (IsAction b) (IsOwn (network_of d programs inputs) number) (own d programs inputs legal are number f.0 b f.1 f.2)
        (effect_by (Some b) states present).schedulings (schedules_actions b states present f.3)

-- ---- the network

pub gives_lawful : (d : Draft) (programs : List Behaviour) (inputs : List Input)
    → IsLegal d → AreProgramsOf d programs → AreInputsOf d inputs → IsLawful (network_of d programs inputs)
gives_lawful d programs inputs legal programs_are are = record {
  some_reactor = legal.some_federate;
  few_reactors = legal.few_federates;
  stop = record { time = legal.stop; microstep = omega arith };
  connected = All-weaker (IsWired d) (IsConnected (network_of d programs inputs)) (connected d programs inputs) (connections_of d) (all_wired d legal);
  one_source = legal.one_source;
  ports_apart = λ k c within j e inside.
      port_apart d (get_or (connections_of d) k c) (get_or (external_of d inputs) j e)
      (all_wired d legal k c within) (own_or_input d inputs legal are j e inside);
  external =
      All-weaker (IsOutside IsExternalSlot d) (IsExternal (network_of d programs inputs)) (external_is d programs inputs)
      (external_of d inputs) (own_or_input d inputs legal are);
  external_apart = external_apart d inputs legal are;
  ranks = λ i below. before_by-lt (level_of d) (federate_count d) i below;
  ranks_apart = λ i j i_below j_below same. before_by-injective (level_of d) (federate_count d) i j i_below j_below same;
  ranks_rise = rises d legal;
  schedulings = schedulings d programs inputs legal programs_are are;
}

pub gives_lawful_with : (d : Draft) (programs : List Behaviour) (inputs : List Input)
    → IsLegal d → AreProgramsOf d programs → AreInputsOf d inputs → IsLawfulWith (network_of d programs inputs) (least_of d)
gives_lawful_with d programs inputs legal programs_are are = record {
  lawful = gives_lawful d programs inputs legal programs_are are;
  least = λ i j. least d i j legal;
  facts = record {
    direct = direct d legal;
    onward = λ j. onward d j legal;
  };
}
