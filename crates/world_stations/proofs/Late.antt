-- At no step does a federate take a message at a tag that it ran before, or at an earlier one.
use Rattle.std.proofs.Common.{◌≡◌, ℕ, ◌<◌, inl, inr, Bool, true, false, not, ◌&&◌, IsTrue, List, [], ◌∷◌, ◌++◌, map, set, slice_get, refl, sym, ap, subst, ◌∙◌, Option, None, Some, if◌then◌else◌}
use Rattle.std.specs.Prelude.{nat_eq, nat_lt}
use Rattle.std.specs.List.{AllByRecursion}
use Rattle.std.proofs.lemmas.Bool.{cases_lt}
use Rattle.std.proofs.lemmas.List.{reverse-append}
use Rattle.tag.specs.LogicalTime.{LogicalTime, is_before, is_at_most, is_past}
use Rattle.tag.proofs.Order.{before_transitive}
use Rattle.network.specs.Connection.{Connection}
use Rattle.network.specs.Network.{Network}
use Rattle.network.specs.Tables.{IsLawfulWith}
use Rattle.network.specs.Undivided.{Row}
use Rattle.network.specs.Undone.{put}
use Rattle.network_laws.specs.History.{Turn, turn_of_row, history_of}
use Rattle.network_laws.proofs.Lists.{from_each, each_more}
use Rattle.network_laws.proofs.Meet.{IsRising}
use Rattle.signal.specs.declared.signal.Signal.{Signal}
use Rattle.signal.specs.declared.signal.Signal.TheVariants.{Net, Ltc, Tag, Msg}
use Rattle.link.specs.Image.{Image}
use Rattle.plan.specs.declared.draft.Draft.{Draft}
use Rattle.plan.specs.declared.input.Input.{Input}
use Rattle.plan.specs.Federation.{federate_count}
use Rattle.plan.specs.Least.{least_of}
use Rattle.reactor_program.specs.Behaviour.{Behaviour}
use Rattle.plan_network.specs.Network.{network_of}
use Rattle.protocol.specs.declared.refusal.Refusal.{Refusal}
use Rattle.protocol.specs.declared.refusal.Refusal.TheVariants.{Late, WrongSignal}
use Rattle.protocol.specs.Outcome.{Refused, Nothing, Done}
use Rattle.protocol.specs.Federate.{Federate, Stepped, accept_message, federate_accepts}
use Rattle.protocol.specs.Machine.{Member, Move}
use Rattle.protocol_laws.proofs.Eligibility.{lawful_is_wired}
use Rattle.protocol_laws.proofs.SafeGrants.{widest_rule_is_safe}
use Rattle.protocol_laws.proofs.Replay.{newest_tag, IsReplayed, moves_replay}
use Rattle.node.specs.declared.event.Event.{Event}
use Rattle.node.specs.Step.{Station, step_of}
use Rattle.network.proofs.Items.{get_set_here, get_set_other}
use Rattle.node_cores.specs.FederateCore as of_federate
use Rattle.node_cores.specs.FederateCore.{FederateNode, federate_core}
use Rattle.node_cores.specs.CoordinatorCore.{CoordinatorNode, coordinator_core}
use Rattle.link_laws.specs.Link.{Side, Link, Act, replaced}
use Rattle.world_stations.specs.declared.dir.Dir.TheVariants.{Down}
use Rattle.world_stations.specs.declared.step.Step.{Step}
use Rattle.world_stations.specs.World.{Applied, after_federate, forgotten, blank_next, does}
use Rattle.world_stations.specs.Taken.{own_end, receiver, number_taken, brought_by, newly_taken}
use Rattle.world_stations.specs.Federation.{Federation, world_after, step_in, rows_at, rows_in, IsLaterThan, TakesNothingLate}
use Rattle.world_stations.proofs.Course.{acted, TakesNone, Comes, quiet, takes, notes, says, declines, cannot, IsCourse}
use Rattle.world_stations.proofs.Shown.{Brings, nowhere, happened_at_coordinator, happened_at_federate, lost as loses_all, happened, same_or_not}
use Rattle.world_stations.proofs.Quiet.{TookNothing}
use Rattle.world_stations.proofs.Site.{node_with, keeps, loses}
use Rattle.world_stations.proofs.Moves.{done_of, nothing_of, federate_answers, rule_of}
use Rattle.world_stations.proofs.Runs.{IsRun}
use Rattle.world_stations.proofs.Members.{handed_at, never_handed, own_ends, accepts_as}
use Rattle.world_stations.proofs.Steps.{members_after}
use Rattle.world_stations.proofs.Worlds.{stands, step_goes}
use Rattle.world_stations.proofs.Taking.{acts_take_nothing, quiet_none, not_below}
use Rattle.world_stations.proofs.InOrder.{New, own_is, new_replaced, none_beyond_down, brings_as}
use Rattle.protocol_laws.proofs.Tests.{both_left}

-- what is past the newest tag is past all
rows_before : (h : List Turn) (completed : Option LogicalTime) (tag : LogicalTime) → completed ≡ newest_tag h → IsRising h → is_past completed tag ≡ true → AllByRecursion (λ t. IsTrue (is_before t.tag tag)) h
rows_before [] completed tag e r p = tt
rows_before (x ∷ xs) completed tag e r p =
    let P : Option LogicalTime → Type 0 = λ o. is_past o tag ≡ true in
    let here : IsTrue (is_before x.tag tag) = subst P e p in
    (here, each_more (λ y. IsTrue (is_before y.tag x.tag)) (λ y. IsTrue (is_before y.tag tag)) (λ y b. before_transitive y.tag x.tag tag b here) xs r.0)

last_of : (P : Turn → Type 0) (xs : List Turn) (x : Turn) → AllByRecursion P (xs ++ x ∷ []) → AllByRecursion P xs × P x
last_of P [] x a = (tt, a.0)
last_of P (y ∷ ys) x a = let rest = last_of P ys x a.1 in ((a.0, rest.0), rest.1)

to_rows : (P : Turn → Type 0) (rows : List Row) → AllByRecursion P (history_of rows) → AllByRecursion (λ row. P (turn_of_row row)) rows
to_rows P [] a = tt
to_rows P (row ∷ rest) a =
    let is : history_of (row ∷ rest) ≡ history_of rest ++ turn_of_row row ∷ [] = reverse-append (turn_of_row row ∷ []) (map turn_of_row rest) in
    let Q : List Turn → Type 0 = λ x. AllByRecursion P x in
    let both = last_of P (history_of rest) (turn_of_row row) (subst Q is a) in
    (both.1, to_rows P rest both.0)

-- a message that is taken is past what was completed
both_passed : (a b : Bool) (r q : Refusal) (m made : Stepped) → (if not a then Refused r else if not b then Refused q else Done m) ≡ Done made → b ≡ true
both_passed true true r q m made e = refl
both_passed true false r q m made e = cc
both_passed false b r q m made e = cc

message_past : (n : Network) (j : ℕ) (f : Federate) (o : Option Connection) (tag : LogicalTime) (v : _) (made : Stepped) → accept_message n j f o tag v ≡ Done made → is_past f.completed tag ≡ true
message_past n j f None tag v made e = cc
message_past n j f (Some c) tag v made e =
    both_left (is_past f.completed tag) (is_past f.granted tag)
    (both_passed (nat_eq c.target j && is_at_most tag n.stop) (is_past f.completed tag && is_past f.granted tag) WrongSignal Late (record { after = record f { undone = put (record { tag = tag; slot = c.slot; value = v }) f.undone }; sent = [] }) made e)

taken_later : (n : Network) (j : ℕ) (f : Federate) (signal : Signal) (made : Stepped) → IsReplayed n j f → federate_accepts n j f signal ≡ Done made → IsLaterThan f.rows signal
taken_later n j f (Net tag) made r e = tt
taken_later n j f (Ltc tag) made r e = tt
taken_later n j f (Tag tag) made r e = tt
taken_later n j f (Msg k tag v) made r e =
    from_each (λ row. IsTrue (is_before row.tag tag)) f.rows
    (to_rows (λ t. IsTrue (is_before t.tag tag)) f.rows (rows_before (history_of f.rows) f.completed tag r.newest r.rising (message_past n j f (slice_get n.connections k) tag v made e)))

-- what is new of nothing
nothing_new : (a b : ℕ) (brought : List Signal) → b ≡ a → (if nat_lt a b then brought else []) ≡ []
nothing_new a b brought e = ap (λ (c : Bool). if c then brought else []) (not_below a b e)

some_new : (P : Signal → Type 0) (b : Bool) (brought : List Signal) → AllByRecursion P brought → AllByRecursion P (if b then brought else [])
some_new P true brought a = a
some_new P false brought a = tt

same_number : (i : ℕ) (s after : Side) → TookNothing s after → number_taken i (Some after.end) ≡ number_taken i (Some s.end)
same_number i s after n =
    ap (λ (x : ℕ). if nat_eq x i then after.end.taken else 0) n.incarnation ∙ ap (λ (x : ℕ). if nat_eq s.end.incarnation i then x else 0) n.taken

-- at the federate itself
late_at_own : (d : Draft) (programs : List Behaviour) (inputs : List Input) (w : Federation) (links : ℕ → Link) (moves : List Move) (step : Step) (j i : ℕ) (s : Station FederateNode) (e : Event) (place : ℕ) (c : IsCourse federate_core false s e (λ p. (links j).first.sent) place (step_of federate_core false s e))
    → IsLawfulWith (network_of d programs inputs) (least_of d) → j < federate_count d → slice_get w.federates j ≡ Some s → Comes s (λ p. (links j).first.sent) place e → Brings w step e → IsRun d programs inputs w links (members_after d programs inputs moves)
    → AllByRecursion (IsLaterThan (rows_in w j)) (New i (Some (links j).second.end) (Some (acted (links j).second (links j).first.sent (c.acts 0)).end) (brought_by w step))
late_at_own d programs inputs w links moves step j i s e place c lawful below there comes brings run =
    let n = network_of d programs inputs in
    let rule = rule_of d programs inputs in
    let members = members_after d programs inputs moves in
    let site = run.site j below s there in
    let ends = own_ends d programs inputs w links members j s below there run in
    let P : List Signal → Type 0 = λ x. AllByRecursion (IsLaterThan (rows_in w j)) x in
    let side = (links j).second in
    let after = acted (links j).second (links j).first.sent (c.acts 0) in
    let none = (λ (q : AllByRecursion TakesNone (c.acts 0)). subst P (sym (nothing_new (number_taken i (Some (links j).second.end)) (number_taken i (Some (acted (links j).second (links j).first.sent (c.acts 0)).end)) (brought_by w step)
    (same_number i (links j).second (acted (links j).second (links j).first.sent (c.acts 0)) (acts_take_nothing (links j).second (links j).first.sent (c.acts 0) q)))) tt) in
    let A : List Act → Type 0 = λ x. AllByRecursion TakesNone x in
    let found : slice_get s.ends 0 ≡ Some (links j).second.end = ap (λ (x : List Image). slice_get x 0) ends in
    elim c.kind [
      | quiet node harmless acts ↦ none (quiet_none false (links j).second.end.incarnation (c.acts 0) (acts 0 (links j).second.end found))
      | takes q m handed node harmless acts ↦
          elim site.own [
            | keeps is opened not_lost node_is queue frames ↦
                let done = done_of (of_federate.made_by (node_with d programs inputs j (members j).federate)) (federate_accepts n j (members j).federate handed.signal) m (accepts_as d programs inputs j (members j) s.node q handed.signal (Done m) node_is handed.node) in
                let safe = widest_rule_is_safe n (least_of d) (lawful_is_wired n lawful.lawful) in
                let replayed = moves_replay n (least_of d) (λ k. rule_of d programs inputs) moves lawful.lawful lawful.facts (λ k. safe) j in
                let later = taken_later n j (members j).federate handed.signal done.0 replayed done.1 in
                let rows : rows_in w j ≡ (members j).federate.rows = ap rows_at there ∙ ap (λ (v : FederateNode). v.federate.rows) node_is in
                let R : List Row → Type 0 = λ x. IsLaterThan x handed.signal in
                some_new (IsLaterThan (rows_in w j)) (nat_lt (number_taken i (Some (links j).second.end)) (number_taken i (Some (acted (links j).second (links j).first.sent (c.acts 0)).end))) (brought_by w step)
                (subst P (sym (brings_as w step e brings q _ handed.is_event)) (subst R (sym rows) later, tt))
            | loses later lost ↦ absurd (never_handed d programs inputs j (links j) (members j) s.node place handed.incarnation handed.number handed.signal q site later (handed_at w (links j) s e place q (Done m) ends comes handed))
          ]
      | notes q handed acts ↦
          elim site.own [
            | keeps is opened not_lost node_is queue frames ↦
                absurd (federate_answers n j (members j).federate handed.signal (nothing_of (of_federate.made_by (node_with d programs inputs j (members j).federate)) _ (accepts_as d programs inputs j (members j) s.node q handed.signal Nothing node_is handed.node)))
            | loses later lost ↦ absurd (never_handed d programs inputs j (links j) (members j) s.node place handed.incarnation handed.number handed.signal q site later (handed_at w (links j) s e place q Nothing ends comes handed))
          ]
      | says m speaks node harmless acts ↦ none (subst A (sym (acts 0)) (tt, tt))
      | declines q refusal handed acts ↦ none (acts 0)
      | cannot refusal speaks acts ↦ none (acts 0)
    ]

-- where a federate's end stays as it was nothing is new
still_new : (w after : Federation) (step : Step) (j i : ℕ) → receiver after (Down j) ≡ receiver w (Down j) → newly_taken w after (Down j) i step ≡ []
still_new w after step j i e = nothing_new (number_taken i (receiver w (Down j))) (number_taken i (receiver after (Down j))) (brought_by w step) (ap (number_taken i) e)

-- the federate's own step
late_here : (d : Draft) (programs : List Behaviour) (inputs : List Input) (w : Federation) (links : ℕ → Link) (moves : List Move) (step : Step) (j k i : ℕ) (s : Station FederateNode) (e : Event) (place : ℕ) (c : IsCourse federate_core false s e (λ p. (links k).first.sent) place (step_of federate_core false s e))
    → IsLawfulWith (network_of d programs inputs) (least_of d) → k ≡ j → k < federate_count d → slice_get w.federates k ≡ Some s → Comes s (λ p. (links k).first.sent) place e → Brings w step e → IsRun d programs inputs w links (members_after d programs inputs moves) → receiver w (Down j) ≡ Some (links j).second.end
    → AllByRecursion (IsLaterThan (rows_in w j)) (newly_taken w (after_federate w k (step_of federate_core false s e)).world (Down j) i step)
late_here d programs inputs w links moves step j k i s e place c lawful same below there comes brings run own =
    let made = step_of federate_core false s e in
    let members = members_after d programs inputs moves in
    let ends = own_ends d programs inputs w links members k s below there run in
    let found : slice_get s.ends 0 ≡ Some (links k).second.end = ap (λ (x : List Image). slice_get x 0) ends in
    let seen = c.seen 0 (links k).second found in
    let before : receiver w (Down k) ≡ Some (links k).second.end = own_is w (federate_count d) links k run.shown below in
    let then_so : receiver (after_federate w k made).world (Down k) ≡ Some (acted (links k).second (links k).first.sent (c.acts 0)).end = ap own_end (get_set_here w.federates k s made.station there) ∙ seen.end in
    let is : newly_taken w (after_federate w k made).world (Down k) i step ≡ New i (Some (links k).second.end) (Some (acted (links k).second (links k).first.sent (c.acts 0)).end) (brought_by w step) =
    ap (λ (o : Option Image). New i o (receiver (after_federate w k made).world (Down k)) (brought_by w step)) before ∙ ap (λ (o : Option Image). New i (Some (links k).second.end) o (brought_by w step)) then_so in
    let P : List Signal → Type 0 = λ x. AllByRecursion (IsLaterThan (rows_in w k)) x in
    let J : ℕ → Type 0 = λ x. AllByRecursion (IsLaterThan (rows_in w x)) (newly_taken w (after_federate w k made).world (Down x) i step) in
    subst J same (subst P (sym is) (late_at_own d programs inputs w links moves step k i s e place c lawful below there comes brings run))

-- the federate forgets all
late_lost : (d : Draft) (programs : List Behaviour) (inputs : List Input) (w : Federation) (links : ℕ → Link) (members : ℕ → Member) (step : Step) (j k i : ℕ) (s : Station FederateNode) → k ≡ j → k < federate_count d → slice_get w.federates k ≡ Some s → IsRun d programs inputs w links members → receiver w (Down j) ≡ Some (links j).second.end
    → newly_taken w (record w { federates = set w.federates k (forgotten federate_core s) }) (Down j) i step ≡ []
late_lost d programs inputs w links members step j k i s same below there run own =
    let after : Federation = record w { federates = set w.federates k (forgotten federate_core s) } in
    let ends = own_ends d programs inputs w links members k s below there run in
    let before : receiver w (Down k) ≡ Some (links k).second.end = own_is w (federate_count d) links k run.shown below in
    let then_so : receiver after (Down k) ≡ Some (replaced (links k).second).end = ap own_end (get_set_here w.federates k s (forgotten federate_core s) there) ∙ ap (λ (x : List Image). slice_get (map blank_next x) 0) ends in
    let J : ℕ → Type 0 = λ x. newly_taken w after (Down x) i step ≡ [] in
    subst J same
    (ap (λ (o : Option Image). New i o (receiver after (Down k)) (brought_by w step)) before ∙ ap (λ (o : Option Image). New i (Some (links k).second.end) o (brought_by w step)) then_so ∙
    new_replaced i (links k).second (brought_by w step))

late_step : (d : Draft) (programs : List Behaviour) (inputs : List Input) (w : Federation) (links : ℕ → Link) (moves : List Move) (step : Step) (j i : ℕ) → IsLawfulWith (network_of d programs inputs) (least_of d) → j < federate_count d → IsRun d programs inputs w links (members_after d programs inputs moves)
    → AllByRecursion (IsLaterThan (rows_in w j)) (newly_taken w (does coordinator_core federate_core w step).world (Down j) i step)
late_step d programs inputs w links moves step j i lawful below run =
    let members = members_after d programs inputs moves in
    let held = (λ (k : ℕ) (l : k < federate_count d). (let at = run.shown.each k l in (run.site k l at.station at.there).held)) in
    let P : List Signal → Type 0 = λ x. AllByRecursion (IsLaterThan (rows_in w j)) x in
    let G : Applied CoordinatorNode FederateNode → Type 0 = λ x. AllByRecursion (IsLaterThan (rows_in w j)) (newly_taken w x.world (Down j) i step) in
    let own = own_is w (federate_count d) links j run.shown below in
    elim (happened coordinator_core federate_core w (federate_count d) links step run.shown held) [
      | nowhere is ↦ subst G (sym is) (subst P (sym (still_new w w step j i refl)) tt)
      | happened_at_coordinator e place comes c brings is ↦ subst G (sym is) (subst P (sym (nothing_new (number_taken i (receiver w (Down j))) (number_taken i (receiver w (Down j))) (brought_by w step) refl)) tt)
      | happened_at_federate k s e place there_is there comes c brings is ↦
          subst G (sym is)
          (elim (same_or_not k j) [
            | inl here ↦ late_here d programs inputs w links moves step j k i s e place c lawful (sym here) there_is there comes brings run own
            | inr apart ↦ subst P (sym (still_new w (after_federate w k (step_of federate_core false s e)).world step j i (ap own_end (get_set_other w.federates k j (step_of federate_core false s e).station apart)))) tt
          ])
      | loses_all k s there_is there is_step is ↦
          subst G (sym is)
          (elim (same_or_not k j) [
            | inl here ↦ subst P (sym (late_lost d programs inputs w links members step j k i s (sym here) there_is there run own)) tt
            | inr apart ↦ subst P (sym (still_new w (record w { federates = set w.federates k (forgotten federate_core s) }) step j i (ap own_end (get_set_other w.federates k j (forgotten federate_core s) apart)))) tt
          ])
    ]

pub nothing_late : (d : Draft) (programs : List Behaviour) (inputs : List Input) (steps : List Step) (j : ℕ) → IsLawfulWith (network_of d programs inputs) (least_of d) → TakesNothingLate d programs inputs steps j
nothing_late d programs inputs steps j lawful =
    λ before after step i e. (
    let w = world_after d programs inputs before in
    let g = (stands d programs inputs before lawful).stands in
    let next = step_goes d programs inputs (world_after d programs inputs before) g.links g.moves step lawful g.run in
    from_each (IsLaterThan (rows_in (world_after d programs inputs before) j)) (newly_taken (world_after d programs inputs before) (step_in (world_after d programs inputs before) step).world (Down j) i step)
    (elim (cases_lt j (federate_count d)) [
      | inl below ↦ late_step d programs inputs (world_after d programs inputs before) g.links g.moves step j i lawful below g.run
      | inr beyond ↦
          (let P : List Signal → Type 0 = λ x. AllByRecursion (IsLaterThan (rows_in (world_after d programs inputs before) j)) x in
          subst P (sym (none_beyond_down (world_after d programs inputs before) (step_in (world_after d programs inputs before) step).world (federate_count d) g.links next.links j i step g.run.shown next.run.shown beyond)) tt)
    ]))
