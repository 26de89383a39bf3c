-- Laws of machines with disks: what the disks keep, and what each process has.
use Rattle.std.proofs.Common.{◌≡◌, ◌≢◌, inl, inr, ℕ, zero, suc, Bool, if◌then◌else◌, List, [], ◌∷◌, ◌++◌, take, drop}
use Rattle.std.proofs.Common.{Option, None, Some, refl, sym, ◌∙◌, ap, subst}
use Rattle.std.specs.Prelude.{IsSome}
use Rattle.std.proofs.lemmas.List.{take-append-drop}
use Rattle.node.specs.declared.event.Event.{Event}
use Rattle.node.specs.declared.node_id.NodeId.{NodeId}
use Rattle.world_stations.specs.declared.step.Step.{Step}
use Rattle.world_stations.specs.World.{Occurrence}
use Rattle.world_disks.specs.Machine.{Machine, StepsAreLocal, after_steps, AreEvents}
use Rattle.world_disks.specs.Disks.{PendingStep, Disks, Move, nothing_pending, steps_of, events_of, with_made}
use Rattle.world_disks.specs.Disks.{moved, after_moves, live_station, event_at, events_at, replay}
use Rattle.world_disks.specs.Disks.Move.{Live, Keep, Crash}
use Rattle.world_disks.proofs.Pending.{same_or_other, same_as_itself, same_as_no_other}
use Rattle.world_disks.proofs.Pending.{pending_here, pending_elsewhere, all_pending}

-- an item is there
is_some : {X : Type 0} (o : Option X) (x : X) → o ≡ Some x → IsSome o
is_some o x e = subst IsSome (sym e) refl

module _ {World Station : Type 0} (m : Machine World Station) where
  -- steps, moves and events, one after the other
  steps_both : (w : World) (xs ys : List Step) → after_steps m w (xs ++ ys) ≡ after_steps m (after_steps m w xs) ys
  steps_both w [] ys = refl
  steps_both w (x ∷ xs) ys = steps_both (m.after w x) xs ys

  pub moves_both : (d : Disks World) (xs ys : List Move) →
      after_moves m d (xs ++ ys) ≡ after_moves m (after_moves m d xs) ys
  moves_both d [] ys = refl
  moves_both d (x ∷ xs) ys = moves_both (moved m d x) xs ys

  are_events_both : (w : World) (xs ys : List Step) → AreEvents m w xs → AreEvents m (after_steps m w xs) ys →
      AreEvents m w (xs ++ ys)
  are_events_both w [] ys before after = after
  are_events_both w (x ∷ xs) ys before after = (before.0, are_events_both (m.after w x) xs ys before.1 after)

  events_both : (s : Station) (xs ys : List PendingStep) →
      replay m s (events_of (xs ++ ys)) ≡ replay m (replay m s (events_of xs)) (events_of ys)
  events_both s [] ys = refl
  events_both s (x ∷ xs) ys = events_both (m.stepped s x.event) xs ys

  replay_both : (s : Station) (xs ys : List Event) → replay m s (xs ++ ys) ≡ replay m (replay m s xs) ys
  replay_both s [] ys = refl
  replay_both s (x ∷ xs) ys = replay_both (m.stepped s x) xs ys

  -- each of these steps is its event at this node in this world
  abbrev AreReady : World → NodeId → List PendingStep → Type 0
  AreReady w node [] = Unit {0}
  AreReady w node (x ∷ xs) =
      (m.occurrence w x.step ≡ Some (record { node = node; event = x.event })) × AreReady w node xs

  -- so is all that is pending
  abbrev IsReady : Disks World → Type 0
  IsReady d = (node : NodeId) → AreReady d.world node (d.pending node)

  first_ready : (w : World) (node : NodeId) (count : ℕ) (xs : List PendingStep) → AreReady w node xs →
      AreReady w node (take count xs)
  first_ready w node zero xs ready = tt
  first_ready w node (suc count) [] ready = tt
  first_ready w node (suc count) (x ∷ xs) ready = (ready.0, first_ready w node count xs ready.1)

  rest_ready : (w : World) (node : NodeId) (count : ℕ) (xs : List PendingStep) → AreReady w node xs →
      AreReady w node (drop count xs)
  rest_ready w node zero xs ready = ready
  rest_ready w node (suc count) [] ready = tt
  rest_ready w node (suc count) (x ∷ xs) ready = rest_ready w node count xs ready.1

  one_more_ready : (w : World) (node : NodeId) (xs : List PendingStep) (x : PendingStep) → AreReady w node xs →
      m.occurrence w x.step ≡ Some (record { node = node; event = x.event }) → AreReady w node (xs ++ x ∷ [])
  one_more_ready w node [] x ready is = (is, tt)
  one_more_ready w node (y ∷ xs) x ready is = (ready.0, one_more_ready w node xs x ready.1 is)

  -- where a process makes a step, what is pending stays ready
  live_ready : (d : Disks World) (step : Step) → IsReady d → IsReady (moved m d (Live step))
  live_ready d step ready = by_event (m.occurrence d.world step) refl
    where
      by_event : (o : Option Occurrence) → m.occurrence d.world step ≡ o → IsReady (with_made d step o)
      by_event None is = ready
      by_event (Some o) is =
          let more : PendingStep = record { step = step; event = o.event } in
          all_pending (AreReady d.world) d.pending o.node (d.pending o.node ++ more ∷ [])
          (one_more_ready d.world o.node (d.pending o.node) more (ready o.node) is) ready

  live_world : (d : Disks World) (step : Step) (o : Option Occurrence) → (with_made d step o).world ≡ d.world
  live_world d step None = refl
  live_world d step (Some o) = refl

  -- the process that makes a step goes on as its station does
  pub makes_own : (d : Disks World) (step : Step) (o : Occurrence) → m.occurrence d.world step ≡ Some o →
      live_station m (moved m d (Live step)) o.node ≡ m.stepped (live_station m d o.node) o.event
  makes_own d step o is =
      let more : PendingStep = record { step = step; event = o.event } in
      let s = m.station d.world o.node in
      ap (λ (x : Option Occurrence). live_station m (with_made d step x) o.node) is
      ∙ ap (λ xs. replay m s (events_of xs)) (pending_here d.pending o.node (d.pending o.node ++ more ∷ []))
      ∙ events_both s (d.pending o.node) (more ∷ [])

  -- the others stay as they were
  pub makes_no_other : (d : Disks World) (step : Step) (o : Occurrence) (other : NodeId) →
      m.occurrence d.world step ≡ Some o → other ≢ o.node →
      live_station m (moved m d (Live step)) other ≡ live_station m d other
  makes_no_other d step o other is apart =
      let more : PendingStep = record { step = step; event = o.event } in
      ap (λ (x : Option Occurrence). live_station m (with_made d step x) other) is
      ∙ ap (λ xs. replay m (m.station d.world other) (events_of xs))
      (pending_elsewhere d.pending o.node other (d.pending o.node ++ more ∷ []) apart)

  -- so do all where the step is no event
  pub makes_none : (d : Disks World) (step : Step) → m.occurrence d.world step ≡ None → moved m d (Live step) ≡ d
  makes_none d step is = ap (λ (x : Option Occurrence). with_made d step x) is

  -- a kill takes a process back to what its disk keeps
  pub crashes_go_back : (d : Disks World) (node : NodeId) →
      live_station m (moved m d (Crash node)) node ≡ m.station d.world node
  crashes_go_back d node = ap (λ xs. replay m (m.station d.world node) (events_of xs)) (pending_here d.pending node [])

  -- the others stay as they were
  pub crashes_spare_others : (d : Disks World) (node other : NodeId) → other ≢ node →
      live_station m (moved m d (Crash node)) other ≡ live_station m d other
  crashes_spare_others d node other apart =
      ap (λ xs. replay m (m.station d.world other) (events_of xs)) (pending_elsewhere d.pending node other [] apart)

  crash_ready : (d : Disks World) (node : NodeId) → IsReady d → IsReady (moved m d (Crash node))
  crash_ready d node ready = all_pending (AreReady d.world) d.pending node [] tt ready

  module _ (local : StepsAreLocal m) where
    stay_ready : (w : World) (other : Step) (node : NodeId) (xs : List PendingStep) → AreReady w node xs →
        AreReady (m.after w other) node xs
    stay_ready w other node [] ready = tt
    stay_ready w other node (x ∷ xs) ready = (
      local.stays w x.step other (record { node = node; event = x.event }) ready.0,
      stay_ready w other node xs ready.1,
    )

    stay_ready_all : (w : World) (kept : List PendingStep) (node : NodeId) (xs : List PendingStep) →
        AreReady w node xs → AreReady (after_steps m w (steps_of kept)) node xs
    stay_ready_all w [] node xs ready = ready
    stay_ready_all w (x ∷ kept) node xs ready =
        stay_ready_all (m.after w x.step) kept node xs (stay_ready w x.step node xs ready)

    -- what a step is stays so, whatever is kept
    stays_so : (w : World) (kept : List PendingStep) (step : Step) (o : Occurrence) →
        m.occurrence w step ≡ Some o → m.occurrence (after_steps m w (steps_of kept)) step ≡ Some o
    stays_so w [] step o is = is
    stays_so w (x ∷ kept) step o is = stays_so (m.after w x.step) kept step o (local.stays w step x.step o is)

    -- steps that a node keeps leave it where its process is
    own_station : (w : World) (node : NodeId) (xs : List PendingStep) → AreReady w node xs →
        m.station (after_steps m w (steps_of xs)) node ≡ replay m (m.station w node) (events_of xs)
    own_station w node [] ready = refl
    own_station w node (x ∷ xs) ready =
        own_station (m.after w x.step) node xs (stay_ready w x.step node xs ready.1)
        ∙ ap (λ s. replay m s (events_of xs))
        (local.own w x.step (record { node = node; event = x.event }) ready.0)

    -- and all others where they were
    other_station : (w : World) (node other : NodeId) (xs : List PendingStep) → AreReady w node xs →
        other ≢ node → m.station (after_steps m w (steps_of xs)) other ≡ m.station w other
    other_station w node other [] ready apart = refl
    other_station w node other (x ∷ xs) ready apart =
        other_station (m.after w x.step) node other xs (stay_ready w x.step node xs ready.1) apart
        ∙ local.others w x.step (record { node = node; event = x.event }) other ready.0 apart

    -- they are events as they are kept
    kept_events : (w : World) (node : NodeId) (xs : List PendingStep) → AreReady w node xs →
        AreEvents m w (steps_of xs)
    kept_events w node [] ready = tt
    kept_events w node (x ∷ xs) ready = (
      is_some (m.occurrence w x.step) (record { node = node; event = x.event }) ready.0,
      kept_events (m.after w x.step) node xs (stay_ready w x.step node xs ready.1),
    )

    -- to keep steps changes no process
    unseen_from : (d : Disks World) (node : NodeId) (count : ℕ) (other : NodeId) → IsReady d →
        live_station m (moved m d (Keep node count)) other ≡ live_station m d other
    unseen_from d node count other ready =
        elim (same_or_other other node) [
          | inl same ↦
              subst (λ (n : NodeId). live_station m (moved m d (Keep node count)) n ≡ live_station m d n)
              (sym same) at_own
          | inr apart ↦
              ap (λ xs. replay m (m.station (after_steps m d.world (steps_of first)) other) (events_of xs))
              (pending_elsewhere d.pending node other rest apart)
              ∙ ap (λ s. replay m s (events_of (d.pending other))) (other_station d.world node other first begins apart)
        ]
      where
        first : List PendingStep
        first = take count (d.pending node)

        rest : List PendingStep
        rest = drop count (d.pending node)

        begins : AreReady d.world node first
        begins = first_ready d.world node count (d.pending node) (ready node)

        at_own : live_station m (moved m d (Keep node count)) node ≡ live_station m d node
        at_own =
            ap (λ xs. replay m (m.station (after_steps m d.world (steps_of first)) node) (events_of xs))
            (pending_here d.pending node rest)
            ∙ ap (λ s. replay m s (events_of rest)) (own_station d.world node first begins)
            ∙ sym (events_both (m.station d.world node) first rest)
            ∙ ap (λ xs. replay m (m.station d.world node) (events_of xs)) (take-append-drop count (d.pending node))

    keep_ready : (d : Disks World) (node : NodeId) (count : ℕ) → IsReady d → IsReady (moved m d (Keep node count))
    keep_ready d node count ready =
        let first = take count (d.pending node) in
        let rest = drop count (d.pending node) in
        all_pending (AreReady (after_steps m d.world (steps_of first))) d.pending node rest
        (stay_ready_all d.world first node rest (rest_ready d.world node count (d.pending node) (ready node)))
        (λ other. stay_ready_all d.world first other (d.pending other) (ready other))

    -- after any moves all that is pending is ready
    all_ready : (d : Disks World) (moves : List Move) → IsReady d → IsReady (after_moves m d moves)
    all_ready d [] ready = ready
    all_ready d (Live step ∷ moves) ready = all_ready (moved m d (Live step)) moves (live_ready d step ready)
    all_ready d (Keep node count ∷ moves) ready =
        all_ready (moved m d (Keep node count)) moves (keep_ready d node count ready)
    all_ready d (Crash node ∷ moves) ready = all_ready (moved m d (Crash node)) moves (crash_ready d node ready)

    ready_after : (w : World) (moves : List Move) → IsReady (after_moves m (nothing_pending w) moves)
    ready_after w moves = all_ready (nothing_pending w) moves (λ node. tt)

    pub keeping_is_unseen : (w : World) (moves : List Move) (node : NodeId) (count : ℕ) (other : NodeId) →
        live_station m (moved m (after_moves m (nothing_pending w) moves) (Keep node count)) other
        ≡ live_station m (after_moves m (nothing_pending w) moves) other
    keeping_is_unseen w moves node count other =
        unseen_from (after_moves m (nothing_pending w) moves) node count other (ready_after w moves)

    -- the world that disks keep is the one after some steps, each of them an event
    kept_from : (d : Disks World) (moves : List Move) → IsReady d →
        (steps : List Step) × AreEvents m d.world steps
        × ((after_moves m d moves).world ≡ after_steps m d.world steps)
    kept_from d [] ready = ([], tt, refl)
    kept_from d (Live step ∷ moves) ready =
        let rest = kept_from (moved m d (Live step)) moves (live_ready d step ready) in
        let same = live_world d step (m.occurrence d.world step) in (
          rest.0,
          subst (λ (w : World). AreEvents m w rest.0) same rest.1,
          rest.2 ∙ ap (λ (w : World). after_steps m w rest.0) same,
        )
    kept_from d (Keep node count ∷ moves) ready =
        let kept = take count (d.pending node) in
        let rest = kept_from (moved m d (Keep node count)) moves (keep_ready d node count ready) in (
          steps_of kept ++ rest.0,
          are_events_both d.world (steps_of kept) rest.0
              (kept_events d.world node kept (first_ready d.world node count (d.pending node) (ready node))) rest.1,
          rest.2 ∙ sym (steps_both d.world (steps_of kept) rest.0),
        )
    kept_from d (Crash node ∷ moves) ready = kept_from (moved m d (Crash node)) moves (crash_ready d node ready)

    pub keeps_a_world : (w : World) (moves : List Move) →
        (steps : List Step) × AreEvents m w steps
        × ((after_moves m (nothing_pending w) moves).world ≡ after_steps m w steps)
    keeps_a_world w moves = kept_from (nothing_pending w) moves (λ node. tt)

    -- the world in which a node has kept all that its process has made
    pub record IsCaughtUp (w : World) (d : Disks World) (node : NodeId) : Type 0 where
      pub steps : List Step
      pub events : AreEvents m w steps
      -- its station is its process's
      pub own : live_station m d node ≡ m.station (after_steps m w steps) node
      -- all others are those of the world that disks keep
      pub others : (other : NodeId) → other ≢ node →
          m.station (after_steps m w steps) other ≡ m.station d.world other
      -- each step is the event there that it is in the world that disks keep
      pub stays : (step : Step) (o : Occurrence) → m.occurrence d.world step ≡ Some o →
          m.occurrence (after_steps m w steps) step ≡ Some o

    pub catches_up : (w : World) (moves : List Move) (node : NodeId) →
        IsCaughtUp w (after_moves m (nothing_pending w) moves) node
    catches_up w moves node =
        let d = after_moves m (nothing_pending w) moves in
        let xs = d.pending node in
        let ready = ready_after w moves node in
        let kept = keeps_a_world w moves in
        let there : after_steps m d.world (steps_of xs) ≡ after_steps m w (kept.0 ++ steps_of xs) =
        ap (λ (v : World). after_steps m v (steps_of xs)) kept.2
        ∙ sym (steps_both w kept.0 (steps_of xs)) in
        record {
          steps = kept.0 ++ steps_of xs;
          events = are_events_both w kept.0 (steps_of xs) kept.1
              (subst (λ (v : World). AreEvents m v (steps_of xs)) kept.2 (kept_events d.world node xs ready));
          own = sym (own_station d.world node xs ready) ∙ ap (λ (v : World). m.station v node) there;
          others = λ other apart.
              ap (λ (v : World). m.station v other) (sym there) ∙ other_station d.world node other xs ready apart;
          stays = λ step o is.
              ap (λ (v : World). m.occurrence v step) (sym there) ∙ stays_so d.world xs step o is;
        }

    -- what a process has is its node's station after some steps, each of them an event
    pub live_is_a_station : (w : World) (moves : List Move) (node : NodeId) →
        (steps : List Step) × AreEvents m w steps
        × (live_station m (after_moves m (nothing_pending w) moves) node ≡ m.station (after_steps m w steps) node)
    live_is_a_station w moves node = let up = catches_up w moves node in (up.steps, up.events, up.own)

    -- by one step a node's station takes what the step is there
    one_replayed : (w : World) (step : Step) (node : NodeId) → IsSome (m.occurrence w step) →
        m.station (m.after w step) node ≡ replay m (m.station w node) (event_at node (m.occurrence w step))
    one_replayed w step node some = by_event (m.occurrence w step) refl some
      where
        by_event : (o : Option Occurrence) → m.occurrence w step ≡ o → IsSome o →
            m.station (m.after w step) node ≡ replay m (m.station w node) (event_at node o)
        by_event None is some = cc
        by_event (Some o) is some =
            elim (same_or_other node o.node) [
              | inl same ↦
                  subst (λ (n : NodeId). m.station (m.after w step) n
                  ≡ replay m (m.station w n) (event_at n (Some o))) (sym same)
                  (local.own w step o is
                  ∙ ap (λ (b : Bool). replay m (m.station w o.node) (if b then o.event ∷ [] else []))
                  (sym (same_as_itself o.node)))
              | inr apart ↦
                  local.others w step o node is apart
                  ∙ ap (λ (b : Bool). replay m (m.station w node) (if b then o.event ∷ [] else []))
                  (sym (same_as_no_other node o.node apart))
            ]

    -- so it is the replay of its journal
    pub stations_are_replays : (w : World) (steps : List Step) (node : NodeId) → AreEvents m w steps →
        m.station (after_steps m w steps) node ≡ replay m (m.station w node) (events_at m node w steps)
    stations_are_replays w [] node events = refl
    stations_are_replays w (step ∷ steps) node events =
        let first = event_at node (m.occurrence w step) in
        let rest = events_at m node (m.after w step) steps in
        stations_are_replays (m.after w step) steps node events.1
        ∙ ap (λ s. replay m s rest) (one_replayed w step node events.0)
        ∙ sym (replay_both (m.station w node) first rest)
