-- A world in which nothing more can be done, taken or acknowledged is stuck.
use Rattle.std.proofs.Common.{◌≡◌, ℕ, zero, suc, ◌-◌, ◌^◌, ◌<◌, ◌≤◌, ◌⊎◌, inl, inr, Bool, true, false, List, [], ◌∷◌, length, slice_get, refl, sym, ap, subst, ◌∙◌, arith, Option, None, Some, IfSome, not, ◌&&◌, if◌then◌else◌}
use Rattle.std.specs.Prelude.{All, nat_lt}
use Rattle.std.specs.List.{list_any}
use Rattle.std.proofs.lemmas.Bool.{cases_lt, or_parts, lt-ltb}
use Rattle.std.proofs.lemmas.Bool.Decides.{nat_tests}
use Rattle.network.specs.Tables.{IsLawfulWith}
use Rattle.signal.specs.declared.signal.Signal.{Signal}
use Rattle.link.specs.Image.{Image, room_left}
use Rattle.plan.specs.declared.draft.Draft.{Draft}
use Rattle.plan.specs.declared.input.Input.{Input}
use Rattle.plan.specs.Federation.{federate_count}
use Rattle.plan.specs.Least.{least_of}
use Rattle.plan.specs.Legal.{IsLegal}
use Rattle.reactor_program.specs.Behaviour.{Behaviour}
use Rattle.plan_network.specs.Network.{network_of}
use Rattle.protocol.specs.Outcome as machine
use Rattle.protocol.specs.Federate.{Stepped, federate_accepts, federate_announces, federate_advances}
use Rattle.protocol.specs.Machine.{Move}
use Rattle.node.specs.declared.event.Event.{Event}
use Rattle.node.specs.declared.event.Event.TheVariants as event
use Rattle.node.specs.declared.node_id.NodeId.TheVariants.{Federate}
use Rattle.node.specs.Mail.{lacks, lacks_room}
use Rattle.node.specs.Core.{Made, ending_of}
use Rattle.node.specs.Step.{Station, acts, unsent, step_of}
use Rattle.node_cores.specs.FederateCore as of_federate
use Rattle.node_cores.specs.FederateCore.{FederateNode, federate_core}
use Rattle.node_cores.specs.CoordinatorCore.{coordinator_core}
use Rattle.world_stations.specs.declared.dir.Dir.{Dir}
use Rattle.world_stations.specs.declared.dir.Dir.TheVariants.{Up, Down}
use Rattle.world_stations.specs.declared.step.Step.{Step}
use Rattle.world_stations.specs.declared.step.Step.TheVariants.{Announce, Advance}
use Rattle.world_stations.specs.declared.outcome.Outcome.TheVariants as outcome
use Rattle.world_stations.specs.World.{frames_in, federate_of, outcome_of, Occurrence, happens, if_there, at_federate, applied, after_steps}
use Rattle.world_stations.specs.Taken.{own_end, sender}
use Rattle.world_stations.specs.Kept.{is_forget, IsSettled, KeepsNothing}
use Rattle.world_stations.specs.Federation.{Federation, IsStuck, step_in, world_after}
use Rattle.world_stations.proofs.Shown.{nothing_beyond}
use Rattle.world_stations.proofs.Site.{node_with}
use Rattle.world_stations.proofs.Moves.{done_of}
use Rattle.world_stations.proofs.Members.{accepts_as}
use Rattle.world_stations.proofs.Steps.{members_after}
use Rattle.world_stations.proofs.Worlds.{listed_so}
use Rattle.world_stations.proofs.Emptied.{shows_at_the_ends}
use Rattle.world_progress.specs.Fuel.{fuel_of}
use Rattle.world_progress.specs.Rounds.{Playing}
use Rattle.world_progress.proofs.Sums.{sum_at_most}
use Rattle.world_progress.proofs.Sent.{accept_sends}
use Rattle.world_progress.proofs.Reached.{Reached, Next, next, ahead, acked, acknowledged_of_link, taken_of_link, initial_reached}
use Rattle.world_progress.proofs.Facing.{side_out, direction, own, IsSame, kept_same}
use Rattle.world_progress.proofs.Fitting.{coordinator_fits, federate_fits, if_done}
use Rattle.world_progress.proofs.Happening.{taken_by_coordinator, taken_by_federate}
use Rattle.world_progress.proofs.Speaking.{room_at_coordinator, nothing_announced, nothing_advanced}
use Rattle.world_progress.proofs.Settling.{Takes, settles}

-- where one of two is so for each number, one of them is so for all
collect : (count : ℕ) (K : ℕ → Type 0) (F : Type 0) → ((j : ℕ) → j < count → K j ⊎ F) → ((j : ℕ) → j < count → K j) ⊎ F
collect zero K F h = inl (λ j l. absurd (omega arith))
collect (suc count) K F h = elim (collect count K F (λ j l. h j (omega arith))) [
  | inr f ↦ inr f
  | inl all ↦ elim (h count (omega arith)) [
    | inr f ↦ inr f
    | inl last ↦ inl (λ j l. elim (cases_lt j count) [
      | inl less ↦ all j less
      | inr beyond ↦ let same : count ≡ j = omega arith in subst K same last
    ])
  ]
]

-- what becomes of an event at a federate
pub event_of_federate : (w : Federation) (j : ℕ) (s : Station FederateNode) (e : Event) → slice_get w.federates j ≡ Some s → j < length w.federates → (happens coordinator_core federate_core w (if_there w j (record { node = Federate j; event = e }))).outcome ≡ outcome_of (step_of federate_core false s e).answer
event_of_federate w j s e there below =
    ap (λ (b : Bool). (happens coordinator_core federate_core w (if b then Some (record { node = Federate j; event = e }) else None)).outcome) (lt-ltb j (length w.federates) below) ∙
    ap (λ (o : Option (Station FederateNode)). (at_federate federate_core w j e o).outcome) there

-- an end always has room for nothing
room_for_none : (e : Image) (count : ℕ) → count ≤ 0 → lacks e count ≡ false
room_for_none e count few = second_false (not e.closed) (nat_lt (room_left e) count) (none_below (room_left e) count few)
  where
    none_below : (a b : ℕ) → b ≤ 0 → nat_lt a b ≡ false
    none_below a b h = grind (arith, nat_tests)

    second_false : (a b : Bool) → b ≡ false → (a && b) ≡ false
    second_false true b e = e
    second_false false b e = refl

empty_of : (kept : List Signal) → length kept ≡ 0 → kept ≡ []
empty_of [] e = refl
empty_of (signal ∷ rest) e = absurd (omega arith)

module _ (d : Draft) (programs : List Behaviour) (inputs : List Input) (legal : IsLegal d) (lawful : IsLawfulWith (network_of d programs inputs) (least_of d)) (small : fuel_of (network_of d programs inputs) < 2 ^ 63) where
  -- a federate takes its next signal, as it sends nothing then
  takes_down_at : (v : Federation) (s : Reached d programs inputs v) (j : ℕ) → j < federate_count d → Takes d programs inputs v s (Down j)
  takes_down_at v s j below w r same place n signal found in_turn harmless =
      let at = r.run.shown.each j below in
      taken_by_federate d programs inputs w r j place 1 n signal at.station at.there below found in_turn (λ m does. room m does) harmless
    where
      room : (m : Made FederateNode) → federate_core.accept (r.run.shown.each j below).station.node 0 signal ≡ machine.Done m → lacks_room (r.run.shown.each j below).station.ends m.sent ≡ false
      room m does =
          let at = r.run.shown.each j below in
          let f = (members_after d programs inputs r.moves j).federate in
          let node = node_with d programs inputs j (members_after d programs inputs r.moves j).federate in
          let mine = own d programs inputs w r j below at.station at.there in
          let done = done_of (of_federate.made_by (node_with d programs inputs j (members_after d programs inputs r.moves j).federate)) (federate_accepts (network_of d programs inputs) j (members_after d programs inputs r.moves j).federate signal) m
          (accepts_as d programs inputs j (members_after d programs inputs r.moves j) at.station.node 0 signal (machine.Done m) mine.node does) in
          let made : Stepped = done.0 in
          let none = if_done (federate_accepts (network_of d programs inputs) j (members_after d programs inputs r.moves j).federate signal) made (λ x. length x.sent ≡ 0) done.1 (accept_sends (network_of d programs inputs) j (members_after d programs inputs r.moves j).federate signal) in
          let fits = federate_fits at.station.ends (node_with d programs inputs j (members_after d programs inputs r.moves j).federate) made 0 (omega arith) (λ p e count at_peer few. room_for_none e count few) in
          let P : Made FederateNode → Type 0 = λ x. lacks_room at.station.ends x.sent ≡ false in
          subst P (sym done.2) fits

  -- the coordinator takes its next signal, where its ends keep nothing
  takes_up_at : (v : Federation) (s : Reached d programs inputs v) → ((j : ℕ) → j < federate_count d → length (s.links j).first.end.kept ≡ 0) → (j : ℕ) → j < federate_count d → Takes d programs inputs v s (Up j)
  takes_up_at v s none j below w r same place n signal found in_turn harmless =
      taken_by_coordinator d programs inputs w r j place 1 n signal below found in_turn
      (λ m does. coordinator_fits d programs inputs w.coordinator.node w.coordinator.ends j signal m r.run.draft does
      (room_at_coordinator d programs inputs w r small (λ k l. kept_same d programs inputs v s w r (Down k) l same ∙ none k l))) harmless

  -- a world whose ends keep nothing, and whose federates have nothing to announce or to run, is stuck
  settled_at : (w : Federation) (s : Reached d programs inputs w) → ((j : ℕ) → j < federate_count d → length (s.links j).first.end.kept ≡ 0) → ((j : ℕ) → j < federate_count d → length (s.links j).second.end.kept ≡ 0) → (dir : Dir) → All (IsSettled w dir) (frames_in w dir)
  settled_at w s at_coordinator others =
      let forgot : list_any is_forget (world_after d programs inputs s.steps).steps ≡ false = ap (list_any is_forget) (listed_so d programs inputs s.steps) ∙ s.unforgot in
      let P : Federation → Type 0 = λ x. (dir : Dir) → All (IsSettled x dir) (frames_in x dir) in
      let Q : Federation → Type 0 = λ x. KeepsNothing x in
      subst P (sym s.is) ((shows_at_the_ends d programs inputs s.steps lawful forgot).1 (subst Q s.is keeps_nothing))
    where
      kept_none : (dir : Dir) → federate_of dir < federate_count d → length (side_out dir s.links).end.kept ≡ 0
      kept_none (Up j) below = others j below
      kept_none (Down j) below = at_coordinator j below

      no_sender : (dir : Dir) → federate_count d ≤ federate_of dir → sender w dir ≡ None
      no_sender (Up j) beyond = ap own_end (nothing_beyond w.federates j (let size = s.run.shown.federates in omega arith))
      no_sender (Down j) beyond = nothing_beyond w.coordinator.ends j (let size = s.run.shown.ends in omega arith)

      keeps_nothing : KeepsNothing w
      keeps_nothing dir =
          let I : Option Image → Type 0 = λ o. IfSome o (λ e. e.kept ≡ []) in
          elim (cases_lt (federate_of dir) (federate_count d)) [
            | inl below ↦ (let at = direction d programs inputs w s dir below in subst I (sym at.sending) (empty_of (side_out dir s.links).end.kept (kept_none dir below)))
            | inr beyond ↦ subst I (sym (no_sender dir beyond)) tt
          ]

  not_there : (w : Federation) (s : Reached d programs inputs w) (j : ℕ) (o : Occurrence) → federate_count d ≤ j → (happens coordinator_core federate_core w (if_there w j o)).outcome ≡ outcome.Nothing
  not_there w s j o beyond = ap (λ (b : Bool). (happens coordinator_core federate_core w (if b then Some o else None)).outcome) (none_there j (length w.federates) (let size = s.run.shown.federates in omega arith))
    where
      none_there : (a b : ℕ) → b ≤ a → nat_lt a b ≡ false
      none_there a b h = grind (arith, nat_tests)

  silent_where : (w : Federation) (s : Reached d programs inputs w) (j : ℕ) (below : j < federate_count d) (o : machine.Outcome (Made FederateNode)) → o ≡ machine.Nothing → outcome_of (acts (s.run.shown.each j below).station (ending_of (unsent (s.run.shown.each j below).station) o)).answer ≡ outcome.Nothing
  silent_where w s j below o is = ap (λ (x : machine.Outcome (Made FederateNode)). outcome_of (acts (s.run.shown.each j below).station (ending_of (unsent (s.run.shown.each j below).station) x)).answer) is

  is_stuck : (w : Federation) (s : Reached d programs inputs w) → ((j : ℕ) → j < federate_count d → length (s.links j).first.end.kept ≡ 0) → ((j : ℕ) → j < federate_count d → length (s.links j).second.end.kept ≡ 0)
      → ((j : ℕ) → j < federate_count d → federate_announces (members_after d programs inputs s.moves j).federate ≡ machine.Nothing) → ((j : ℕ) → j < federate_count d → federate_advances (network_of d programs inputs) j (members_after d programs inputs s.moves j).federate ≡ machine.Nothing) → IsStuck w
  is_stuck w s at_coordinator others told run =
      record {
        kept = ap (λ (x : Federation). list_any is_forget x.steps) s.is ∙ ap (list_any is_forget) (listed_so d programs inputs s.steps) ∙ s.unforgot;
        settled = settled_at w s at_coordinator others;
        announced = λ j. elim (cases_lt j (federate_count d)) [
          | inl below ↦ announced_at j below
          | inr beyond ↦ not_there w s j (record { node = Federate j; event = event.Announce }) beyond
        ];
        advanced = λ j. elim (cases_lt j (federate_count d)) [
          | inl below ↦ advanced_at j below
          | inr beyond ↦ not_there w s j (record { node = Federate j; event = event.Advance }) beyond
        ];
      }
    where
      announced_at : (j : ℕ) → j < federate_count d → (applied coordinator_core federate_core w (Announce j)).outcome ≡ outcome.Nothing
      announced_at j below =
          let at = s.run.shown.each j below in
          let size = s.run.shown.federates in
          let mine = own d programs inputs w s j below at.station at.there in
          let A : FederateNode → Type 0 = λ x. of_federate.announces x ≡ machine.Nothing in
          let none = subst A (sym mine.node) (ap (machine.with_made (of_federate.made_by (node_with d programs inputs j (members_after d programs inputs s.moves j).federate))) (told j below)) in
          event_of_federate w j at.station event.Announce at.there (omega arith) ∙ silent_where w s j below (of_federate.announces at.station.node) none

      advanced_at : (j : ℕ) → j < federate_count d → (applied coordinator_core federate_core w (Advance j)).outcome ≡ outcome.Nothing
      advanced_at j below =
          let at = s.run.shown.each j below in
          let size = s.run.shown.federates in
          let mine = own d programs inputs w s j below at.station at.there in
          let A : FederateNode → Type 0 = λ x. of_federate.advances x ≡ machine.Nothing in
          let none = subst A (sym mine.node) (ap (machine.with_made (of_federate.made_by (node_with d programs inputs j (members_after d programs inputs s.moves j).federate))) (run j below)) in
          event_of_federate w j at.station event.Advance at.there (omega arith) ∙ silent_where w s j below (of_federate.advances at.station.node) none

  -- what shows at a step that changes nothing
  abbrev pub Shows : (w : Federation) → Reached d programs inputs w → Type 0 → Step → Type 0
  Shows w s K key =
      (p : Playing) (r : Reached d programs inputs p.world) → IsSame d programs inputs w s p.world r → (x : Next d programs inputs p.world r key) → IsSame d programs inputs w s (step_in p.world key).world x.now → K

  -- where each direction is settled and each federate is asked, or this is so, the world is stuck, or this is so
  pub stuck_unless : (w : Federation) (s : Reached d programs inputs w) (F : Type 0)
      → ((dir : Dir) → federate_of dir < federate_count d → Takes d programs inputs w s dir → (length (side_out dir s.links).end.kept ≡ 0) ⊎ F)
      → ((j : ℕ) → j < federate_count d → (K : Type 0) → Shows w s K (Announce j) → K ⊎ F)
      → ((j : ℕ) → j < federate_count d → (K : Type 0) → Shows w s K (Advance j) → K ⊎ F) → IsStuck w ⊎ F
  stuck_unless w s F settles announces advances = elim (collect (federate_count d) (λ j. length (s.links j).first.end.kept ≡ 0) F (λ j l. settles (Down j) l (takes_down_at w s j l))) [
    | inr f ↦ inr f
    | inl at_coordinator ↦ elim (collect (federate_count d) (λ j. length (s.links j).second.end.kept ≡ 0) F (λ j l. settles (Up j) l (takes_up_at w s at_coordinator j l))) [
      | inr f ↦ inr f
      | inl others ↦ elim (collect (federate_count d) (λ j. federate_announces (members_after d programs inputs s.moves j).federate ≡ machine.Nothing) F
          (λ j l. announces j l (federate_announces (members_after d programs inputs s.moves j).federate ≡ machine.Nothing)
          (λ q r same x stays. (
          let P : List Move → Type 0 = λ y. federate_announces (members_after d programs inputs y j).federate ≡ machine.Nothing in
          subst P same.moves (nothing_announced d programs inputs q.world r small j l (kept_same d programs inputs w s q.world r (Up j) l same ∙ others j l) x (stays.moves ∙ sym same.moves)))))) [
            | inr f ↦ inr f
            | inl told ↦ elim (collect (federate_count d) (λ j. federate_advances (network_of d programs inputs) j (members_after d programs inputs s.moves j).federate ≡ machine.Nothing) F
                (λ j l. advances j l (federate_advances (network_of d programs inputs) j (members_after d programs inputs s.moves j).federate ≡ machine.Nothing)
                (λ q r same x stays. (
                let P : List Move → Type 0 = λ y. federate_advances (network_of d programs inputs) j (members_after d programs inputs y j).federate ≡ machine.Nothing in
                subst P same.moves (nothing_advanced d programs inputs q.world r legal small j l (kept_same d programs inputs w s q.world r (Up j) l same ∙ others j l) x (stays.moves ∙ sym same.moves)))))) [
                  | inr f ↦ inr f
                  | inl run ↦ inl (is_stuck w s at_coordinator others told run)
                ]
          ]
    ]
  ]

  -- no more is acknowledged than was taken
  pub acked_within : (w : Federation) (r : Reached d programs inputs w) → acked d programs inputs w r ≤ ahead d programs inputs w r
  acked_within w r =
      let each = sum_at_most (federate_count d) (λ j. acknowledged_of_link (r.links j)) (λ j. taken_of_link (r.links j))
      (λ j l. (let up = direction d programs inputs w r (Up j) l in let down = direction d programs inputs w r (Down j) l in omega (arith, up.linked.out.acknowledged_taken, down.linked.out.acknowledged_taken))) in
      omega arith

-- a world after steps by which nobody forgets
reached_after : (d : Draft) (programs : List Behaviour) (inputs : List Input) → IsLawfulWith (network_of d programs inputs) (least_of d) → (steps : List Step) (w : Federation) → Reached d programs inputs w → list_any is_forget steps ≡ false → Reached d programs inputs (after_steps coordinator_core federate_core w steps)
reached_after d programs inputs lawful [] w r none = r
reached_after d programs inputs lawful (step ∷ rest) w r none =
    let both = or_parts (is_forget step) (list_any is_forget rest) none in
    reached_after d programs inputs lawful rest (step_in w step).world (next d programs inputs lawful w r step both.0).now both.1

pub reached_steps : (d : Draft) (programs : List Behaviour) (inputs : List Input) → IsLawfulWith (network_of d programs inputs) (least_of d) → (steps : List Step) → list_any is_forget steps ≡ false → Reached d programs inputs (world_after d programs inputs steps)
reached_steps d programs inputs lawful steps none = reached_after d programs inputs lawful steps _ (initial_reached d programs inputs) none
