-- A turn that is prepared is the turn of the definition, and a federate that has taken it is one.
use Rattle.std.proofs.Common.{◌≡◌, ℕ, ◌+◌, ◌<◌, ℤ, Bool, true, false, IsTrue, nat_eq, if◌then◌else◌, List, [], ◌∷◌, ◌++◌, map, filter, length, slice_get, MatchOption, IsSomeAnd, Option, None, Some, refl, sym, ap, subst, ◌∙◌}
use Rattle.std.specs.List.{AllByRecursion}
use Rattle.std.proofs.lemmas.Bool.{eqb-true}
use Rattle.std.proofs.lemmas.Slice.Zip.{AllZip-right}
use Rattle.tag.specs.LogicalTime.{LogicalTime, IsFinite, is_at_most, is_before, is_reached}
use Rattle.tag.proofs.Order.{finite_is_logical, finite_is_not_forever}
use Rattle.tag.proofs.SumLaws.{sum_later}
use Rattle.network.specs.Connection.{Connection}
use Rattle.network.specs.Event.{Entry, listed, value_at}
use Rattle.network.specs.Network.{Network, Scheduling, Effect}
use Rattle.network.specs.Undivided.{Row}
use Rattle.network.specs.Undone.{PendingEvent, put_all, look, first_tag, drop_up_to}
use Rattle.network.specs.Lawful.{IsLawful, IsConnected, IsOwn}
use Rattle.network_laws.proofs.Lists.{each, each_more, each_append}
use Rattle.signal.specs.declared.signal.Signal.TheVariants.{Ltc}
use Rattle.protocol.specs.Outcome.{Nothing, Done, IfDone}
use Rattle.protocol.specs.Federate.{Federate, effect_of, scheduled_at, scheduled_by, message_over, messages_from, turn_at, advance_to, federate_advances}
use Rattle.protocol.specs.KeptAlone.{IsFederate, IsStillToRun}
use Rattle.protocol_laws.proofs.FederateAlone.{advance_leaves}
use Rattle.plan.specs.declared.draft.Draft.{Draft}
use Rattle.plan.specs.declared.draft.Federate as declared
use Rattle.plan.specs.declared.input.Input.{Input}
use Rattle.plan.specs.Federation.{connections_of, stop_of}
use Rattle.plan_slots.specs.Numbering.{slot_count}
use Rattle.reactor_program.specs.Behaviour.{Behaviour, IsWellFormed}
use Rattle.plan_network.specs.Network.{network_of, slots_of, ports_of, effect_by}
use Rattle.reactor.specs.Turn.{Reactor, Turn}
use Rattle.plan_network.proofs.LawfulNetwork.{gives_lawful}
use Rattle.reactor_agenda.specs.Agenda.{Agenda, in_time}
use Rattle.reactor_agenda.proofs.Filtered.{all_filter, filter_twice}
use Rattle.node_cores.specs.FederateCore.{to_coordinator}
use Rattle.federate.specs.declared.outlet.Outlet.{Outlet}
use Rattle.federate.specs.declared.prepared.Prepared.{Prepared}
use Rattle.federate.specs.Outlets.{outlet_if, outlets_from, messages_by}
use Rattle.federate.specs.Turn.{due_if, due_in, effect_at, IsPrepared}
use Rattle.federate.specs.Invariant.{IsKept, federate_by_parts}
use Rattle.reactor_agenda.proofs.Listed.{listed_value}
use Rattle.federate.proofs.Outlets.{messages_are}

-- ---- what is due

granted_if : (b : Bool) (g tag : LogicalTime) → (if b then Some g else None) ≡ Some tag → (g ≡ tag) × (b ≡ true)
granted_if true g tag e = let same : g ≡ tag = cc in (same, refl)
granted_if false g tag e = absurd cc

pub due_parts : (granted o : Option LogicalTime) (tag : LogicalTime) → due_if granted o ≡ Some tag → (o ≡ Some tag) × (is_reached granted tag ≡ true)
due_parts granted None tag e = absurd cc
due_parts granted (Some g) tag e =
    let h = granted_if (is_reached granted g) g tag e in
    (ap (λ x. Some x) h.0, ap (is_reached granted) (sym h.0) ∙ h.1)

pub advances_due : (n : Network) (j : ℕ) (f : Federate) (tag : LogicalTime) → due_in f ≡ Some tag → federate_advances n j f ≡ Done (turn_at n j f tag)
advances_due n j f tag due =
    let h = due_parts f.granted (first_tag f.undone) tag due in
    ap (advance_to n j f) h.0 ∙ ap (λ b. if b then Done (turn_at n j f tag) else Nothing) h.1

first_finite : (n : Network) (j : ℕ) (completed : Option LogicalTime) (u : List PendingEvent) (tag : LogicalTime) → first_tag u ≡ Some tag → AllByRecursion (IsStillToRun n j completed) u → IsFinite tag
first_finite n j completed [] tag e a = absurd cc
first_finite n j completed (x ∷ rest) tag e a = let same : x.tag ≡ tag = cc in subst IsFinite same a.0.finite

-- ---- what a turn schedules is later

scheduled_later : (n : Network) (j : ℕ) (g : LogicalTime) → IsFinite g → (ss : List Scheduling) → AllByRecursion (IsOwn n j) ss → AllByRecursion (λ e. IsTrue (is_before g e.tag)) (map (scheduled_at g) ss)
scheduled_later n j g finite [] a = tt
scheduled_later n j g finite (s ∷ rest) a =
    (sum_later g s.delay (finite_is_logical g finite) (finite_is_not_forever g finite) a.0.later, scheduled_later n j g finite rest a.1)

-- ---- messages go by the ports that are there

abbrev IsPortBelow : ℕ → Outlet → Type 0
IsPortBelow ports o = o.connection.port < ports

ports_if : (n : Network) (j number : ℕ) (c : Connection) (b : Bool) → nat_eq c.source j ≡ b → IsConnected n c →
    AllByRecursion (IsPortBelow (n.ports j)) (if b then record { number = number; connection = c } ∷ [] else [])
ports_if n j number c true is there = let P : ℕ → Type 0 = λ k. c.port < n.ports k in (subst P (eqb-true c.source j is) there.port, tt)
ports_if n j number c false is there = tt

ports_below : (n : Network) (j number : ℕ) (cs : List Connection) → AllByRecursion (IsConnected n) cs → AllByRecursion (IsPortBelow (n.ports j)) (outlets_from j number cs)
ports_below n j number [] a = tt
ports_below n j number (c ∷ rest) a =
    each_append (IsPortBelow (n.ports j)) (outlet_if j number c) (outlets_from j (number + 1) rest)
    (ports_if n j number c (nat_eq c.source j) refl a.0) (ports_below n j (number + 1) rest a.1)

messages_agree : (n : Network) (tag : LogicalTime) (ports : ℕ) (outputs : ℕ → Option ℤ) (outlets : List Outlet) → AllByRecursion (IsPortBelow ports) outlets →
    messages_by n tag (value_at (listed ports outputs)) outlets ≡ messages_by n tag outputs outlets
messages_agree n tag ports outputs [] a = refl
messages_agree n tag ports outputs (o ∷ rest) a =
    ap (λ v. message_over n tag o.number o.connection v ++ messages_by n tag (value_at (listed ports outputs)) rest) (listed_value ports outputs o.connection.port a.0)
    ∙ ap (λ more. message_over n tag o.number o.connection (outputs o.connection.port) ++ more) (messages_agree n tag ports outputs rest a.1)

-- ---- a federate that keeps what it should, and the turn that it prepares

module _ (d : Draft) (programs : List Behaviour) (inputs : List Input) (j : ℕ) (r : Reactor) (outlets : List Outlet) (a : Agenda)
    (granted completed announced : Option LogicalTime) (rows : List Row) where
  abbrev n : Network
  n = network_of d programs inputs

  abbrev f : Federate
  f = federate_by_parts r a granted completed announced rows

  abbrev pub Keeps : Type 0
  Keeps = IsKept d programs inputs j r.behaviour a.stop outlets f

  lawful : Keeps → IsLawful n
  lawful k = gives_lawful d programs inputs k.legal k.programs_fit k.inputs_fit

  abbrev IsDeclared : Type 0
  IsDeclared = (fd : declared.Federate) × (slice_get d.federates j ≡ Some fd) × (fd.slots ≡ r.behaviour.slots)

  -- the reactor's slots are those of the federate
  is_declared : Keeps → IsDeclared
  is_declared k =
      found (slice_get d.federates j) refl
      (subst (λ o. MatchOption o (Unit {0}) (λ y. IsSomeAnd (slice_get d.federates j) (λ x. (x.slots ≡ y.slots) × IsWellFormed y))) k.program_is
      (AllZip-right (λ (x : declared.Federate) (y : Behaviour). (x.slots ≡ y.slots) × IsWellFormed y) d.federates programs k.programs_fit j))
    where
      found : (o : Option declared.Federate) → slice_get d.federates j ≡ o → IsSomeAnd o (λ x. (x.slots ≡ r.behaviour.slots) × IsWellFormed r.behaviour) → IsDeclared
      found None is has = absurd has
      found (Some fd) is has = (fd, is, has.0)

  slots_are : Keeps → n.slots j ≡ slot_count r.behaviour.slots
  slots_are k = let h = is_declared k in ap slots_of h.1 ∙ ap slot_count h.2

  ports_are : Keeps → n.ports j ≡ length r.behaviour.slots.outputs
  ports_are k = let h = is_declared k in ap ports_of h.1 ∙ ap (λ s. length s.outputs) h.2

  still : Keeps → AllByRecursion (IsStillToRun n j completed) a.undone
  still k = each (IsStillToRun n j completed) a.undone k.alone.undone

  -- all that is undone is for slots of the reactor
  pub slots_below : Keeps → AllByRecursion (λ e. e.slot < slot_count r.behaviour.slots) a.undone
  slots_below k =
      each_more (IsStillToRun n j completed) (λ e. e.slot < slot_count r.behaviour.slots)
      (λ e h. (let P : ℕ → Type 0 = λ count. e.slot < count in subst P (slots_are k) h.slot)) a.undone (still k)

  module _ (tag : LogicalTime) where
    effect_is : Keeps → effect_of n j f tag ≡ effect_at r a.undone tag
    effect_is k = ap (λ o. effect_by o r.states (look a.undone tag)) k.program_is

    abbrev in_stop : PendingEvent → Bool
    in_stop e = is_at_most e.tag (stop_of d)

    module _ (p : Prepared) where
      abbrev pub Prepares : Type 0
      Prepares = IsPrepared d r a.undone outlets tag p

      scheduled_are : Keeps → Prepares → p.scheduled.items ≡ scheduled_by n tag (effect_of n j f tag)
      scheduled_are k is = is.scheduled ∙ ap (λ (e : Effect). filter in_stop (map (scheduled_at tag) e.schedulings)) (sym (effect_is k))

      pub all_later : Keeps → Prepares → due_in f ≡ Some tag → AllByRecursion (λ e. IsTrue (is_before tag e.tag)) p.scheduled.items
      all_later k is due =
          let finite = first_finite n j completed a.undone tag (due_parts granted (first_tag a.undone) tag due).0 (still k) in
          let ss = (effect_of n j f tag).schedulings in
          let own : AllByRecursion (IsOwn n j) ss = each (IsOwn n j) ss ((lawful k).schedulings j r.states (look a.undone tag)) in
          subst (AllByRecursion (λ e. IsTrue (is_before tag e.tag))) (sym (scheduled_are k is))
          (all_filter (λ e. IsTrue (is_before tag e.tag)) in_stop (map (scheduled_at tag) ss) (scheduled_later n j tag finite ss own))

      -- what it sends
      pub posts_are : Keeps → Prepares → p.posts.items ≡ map to_coordinator (turn_at n j f tag).sent
      posts_are k is =
          let outputs : ℕ → Option ℤ = (effect_at r a.undone tag).outputs in
          let ports : ℕ = length r.behaviour.slots.outputs in
          let below : AllByRecursion (IsPortBelow ports) (outlets_from j 0 (connections_of d)) =
          (let P : ℕ → Type 0 = λ count. AllByRecursion (IsPortBelow count) (outlets_from j 0 (connections_of d)) in
          subst P (ports_are k) (ports_below n j 0 (connections_of d) (each (IsConnected n) (connections_of d) (lawful k).connected))) in
          let same : messages_by n tag (value_at (listed ports outputs)) outlets ≡ messages_from n j tag (effect_of n j f tag).outputs 0 (connections_of d) =
          ap (messages_by n tag (value_at (listed ports outputs))) k.outlets_are
          ∙ messages_agree n tag ports outputs (outlets_from j 0 (connections_of d)) below
          ∙ messages_are n j tag outputs 0 (connections_of d)
          ∙ ap (λ (e : Effect). messages_from n j tag e.outputs 0 (connections_of d)) (sym (effect_is k)) in
          is.posts ∙ ap (λ xs. map to_coordinator (xs ++ Ltc tag ∷ [])) same

      abbrev made : List ℤ → List PendingEvent → Row → Federate
      made states undone row = record {
        states = states;
        undone = undone;
        granted = granted;
        completed = Some tag;
        announced = None;
        rows = rows ++ row ∷ [];
      }

      -- what stands then
      pub after_is : Keeps → Prepares →
          record {
            states = p.turn.states;
            undone = put_all (in_time a.stop p.scheduled.items) (drop_up_to tag a.undone);
            granted = granted;
            completed = Some tag;
            announced = None;
            rows = rows ++ record { reactor = j; tag = tag; inputs = p.present.items; outputs = p.turn.outputs } ∷ [];
          } ≡ (turn_at n j f tag).after
      after_is k is =
          let e : Effect = effect_of n j f tag in
          let states : p.turn.states ≡ e.states = ap (λ (t : Turn). t.states) is.turn ∙ ap (λ (x : Effect). x.states) (sym (effect_is k)) in
          let kept : in_time a.stop p.scheduled.items ≡ scheduled_by n tag e =
          ap (λ s. in_time s p.scheduled.items) k.stop_is ∙ ap (in_time (stop_of d)) (scheduled_are k is)
          ∙ filter_twice in_stop (map (scheduled_at tag) e.schedulings) in
          let undone : put_all (in_time a.stop p.scheduled.items) (drop_up_to tag a.undone) ≡ put_all (scheduled_by n tag e) (drop_up_to tag a.undone) =
          ap (λ es. put_all es (drop_up_to tag a.undone)) kept in
          let row_of : List Entry → List Entry → Row = λ inputs outputs. record { reactor = j; tag = tag; inputs = inputs; outputs = outputs } in
          let inputs_are : p.present.items ≡ listed (n.slots j) (look a.undone tag) = is.present ∙ ap (λ count. listed count (look a.undone tag)) (sym (slots_are k)) in
          let outputs_are : p.turn.outputs ≡ listed (n.ports j) e.outputs =
          ap (λ (t : Turn). t.outputs) is.turn
          ∙ ap (λ (x : Effect). listed (length r.behaviour.slots.outputs) x.outputs) (sym (effect_is k))
          ∙ ap (λ count. listed count e.outputs) (sym (ports_are k)) in
          ap (λ s. made s (put_all (in_time a.stop p.scheduled.items) (drop_up_to tag a.undone)) (row_of p.present.items p.turn.outputs)) states
          ∙ ap (λ u. made e.states u (row_of p.present.items p.turn.outputs)) undone
          ∙ ap (λ i. made e.states (put_all (scheduled_by n tag e) (drop_up_to tag a.undone)) (row_of i p.turn.outputs)) inputs_are
          ∙ ap (λ o. made e.states (put_all (scheduled_by n tag e) (drop_up_to tag a.undone)) (row_of (listed (n.slots j) (look a.undone tag)) o)) outputs_are

      -- it is a federate then
      pub still_alone : Keeps → due_in f ≡ Some tag → IsFederate n j (turn_at n j f tag).after
      still_alone k due =
          subst (λ o. IfDone o (λ made. IsFederate n j made.after)) (advances_due n j f tag due) (advance_leaves n j f (lawful k) k.alone)

      -- with the reactor, the agenda and the rows that took it
      module _ (s : Reactor) (b : Agenda) (more : List Row) where
        abbrev pub Takes : Type 0
        Takes =
            (s ≡ record { behaviour = r.behaviour; states = p.turn.states })
            × (b.undone ≡ put_all (in_time a.stop p.scheduled.items) (drop_up_to tag a.undone))
            × (more ≡ rows ++ record { reactor = j; tag = tag; inputs = p.present.items; outputs = p.turn.outputs } ∷ [])

        pub stands : Keeps → Prepares → Takes → federate_by_parts s b granted (Some tag) None more ≡ (turn_at n j f tag).after
        stands k is t =
            let with_rows : List ℤ → List PendingEvent → List Row → Federate = λ states undone rows. record {
              states = states;
              undone = undone;
              granted = granted;
              completed = Some tag;
              announced = None;
              rows = rows;
            } in
            ap (λ x. with_rows x b.undone more) (ap (λ (x : Reactor). x.states) t.0)
            ∙ ap (λ x. with_rows p.turn.states x more) t.1
            ∙ ap (λ x. with_rows p.turn.states (put_all (in_time a.stop p.scheduled.items) (drop_up_to tag a.undone)) x) t.2
            ∙ after_is k is

        pub keeps_on : Keeps → Prepares → due_in f ≡ Some tag → Takes → b.stop ≡ a.stop →
            IsKept d programs inputs j s.behaviour b.stop outlets (federate_by_parts s b granted (Some tag) None more)
        keeps_on k is due t stop = record {
          legal = k.legal;
          programs_fit = k.programs_fit;
          inputs_fit = k.inputs_fit;
          there = k.there;
          program_is = k.program_is ∙ ap (λ (x : Reactor). Some x.behaviour) (sym t.0);
          stop_is = stop ∙ k.stop_is;
          outlets_are = k.outlets_are;
          alone = subst (IsFederate n j) (sym (stands k is t)) (still_alone k due);
        }
