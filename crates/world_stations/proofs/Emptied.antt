-- Where nobody forgot, every signal sent was taken and its acknowledgement came exactly where no end keeps a signal.
use Rattle.std.proofs.Common.{◌≡◌, ℕ, ◌-◌, ◌<◌, ◌≤◌, inl, inr, Bool, false, List, [], ◌∷◌, length, drop, sym, ap, subst, ◌∙◌, arith, Option, None, Some, IfSome, ◌↔◌, if◌then◌else◌}
use Rattle.std.specs.Prelude.{All}
use Rattle.std.specs.List.{list_any, AllByRecursion}
use Rattle.std.proofs.lemmas.Bool.{cases_lt, eq-eqb}
use Rattle.network_laws.proofs.Lists.{each, from_each}
use Rattle.network.specs.Tables.{IsLawfulWith}
use Rattle.signal.specs.declared.frame.Frame.{Frame}
use Rattle.signal.specs.declared.frame.Frame.TheVariants.{Hello, Data, Ack, Refuse}
use Rattle.link.specs.Image.{Image}
use Rattle.plan.specs.declared.draft.Draft.{Draft}
use Rattle.plan.specs.declared.input.Input.{Input}
use Rattle.plan.specs.Federation.{federate_count}
use Rattle.plan.specs.Least.{least_of}
use Rattle.reactor_program.specs.Behaviour.{Behaviour}
use Rattle.plan_network.specs.Network.{network_of}
use Rattle.link_laws.specs.Direction.{offered_in, IsGenuine}
use Rattle.link_laws.specs.Link.{Side}
use Rattle.link_laws.proofs.Places.{length_of_rest, get_below}
use Rattle.link_laws.proofs.Ways.{AreGenuine}
use Rattle.link_laws.proofs.Forgotten.{AreOf, IsOf}
use Rattle.link_laws.proofs.Carried.{IsLinked, linked_back}
use Rattle.world_stations.specs.declared.dir.Dir.{Dir}
use Rattle.world_stations.specs.declared.dir.Dir.TheVariants.{Up, Down}
use Rattle.world_stations.specs.declared.step.Step.{Step}
use Rattle.world_stations.specs.World.{frames_in}
use Rattle.world_stations.specs.Taken.{receiver, sender, own_end, number_taken, number_acknowledged}
use Rattle.world_stations.specs.Kept.{is_forget, IsSettled, KeepsNothing}
use Rattle.world_stations.specs.Federation.{Federation, world_after}
use Rattle.world_stations.proofs.Shown.{got, none_beyond, nothing_beyond}
use Rattle.world_stations.proofs.Site.{kept_linked}
use Rattle.world_stations.proofs.Worlds.{stands}
use Rattle.world_stations.proofs.InOrder.{own_is}
use Rattle.world_stations.proofs.Rows.{Below, few_offered, none_left, own_number, kept_at, all_kept}

own_acknowledged : (e : Image) → e.incarnation ≡ 1 → number_acknowledged 1 (Some e) ≡ e.acknowledged
own_acknowledged e is = ap (λ (b : Bool). if b then e.acknowledged else 0) (eq-eqb e.incarnation 1 is)

-- a direction, from one side to the other, as it stands in a world
record IsDirection (w : Federation) (dir : Dir) (s r : Side) : Type 0 where
  frames : frames_in w dir ≡ s.sent
  sending : sender w dir ≡ Some s.end
  receiving : receiver w dir ≡ Some r.end
  linked : IsLinked 1 s r
  own : AreOf 1 s.sent

-- where nothing is kept each frame is settled
settled_frame : (w : Federation) (dir : Dir) (s r : Side) (frame : Frame) → IsDirection w dir s r → s.end.kept ≡ [] → IsOf 1 frame → IsGenuine 1 (offered_in 1 s.sent) s.end.taken frame → IsSettled w dir frame
settled_frame w dir s r (Hello hello) d e of genuine = tt
settled_frame w dir s r (Data k n signal) d e of genuine =
    let l = d.linked in
    let at = genuine of in
    let below = get_below (offered_in 1 s.sent) (n - 1) signal at.1 in
    let a = l.out.acknowledged_taken in
    let b = l.out.taken_offered in
    let rest = length_of_rest s.end.acknowledged (offered_in 1 s.sent) (omega arith) in
    let none : length (drop s.end.acknowledged (offered_in 1 s.sent)) ≡ 0 = ap length (sym l.out.kept_is ∙ e) in
    let acknowledged : n ≤ s.end.acknowledged = omega arith in
    let taken : n ≤ r.end.taken = omega arith in
    let T : ℕ → Type 0 = λ x. n ≤ x in
    let P : ℕ → Type 0 = λ x. (n ≤ number_taken x (receiver w dir)) × (n ≤ number_acknowledged x (sender w dir)) in
    subst P (sym of)
    (subst T (sym (ap (number_taken 1) d.receiving ∙ own_number r.end l.there)) taken, subst T (sym (ap (number_acknowledged 1) d.sending ∙ own_acknowledged s.end l.here)) acknowledged)
settled_frame w dir s r (Ack k n) d e of genuine = tt
settled_frame w dir s r (Refuse k n) d e of genuine = tt

settled_frames : (w : Federation) (dir : Dir) (s r : Side) (frames : List Frame) → IsDirection w dir s r → s.end.kept ≡ [] → AreOf 1 frames → AreGenuine 1 (offered_in 1 s.sent) s.end.taken frames → AllByRecursion (IsSettled w dir) frames
settled_frames w dir s r [] d e of genuine = tt
settled_frames w dir s r (frame ∷ rest) d e of genuine = (settled_frame w dir s r frame d e of.0 genuine.0, settled_frames w dir s r rest d e of.1 genuine.1)

-- where each frame is settled nothing is kept
acknowledged_below : (w : Federation) (dir : Dir) (most : ℕ) → number_acknowledged 1 (sender w dir) ≡ most → (frames : List Frame) → AllByRecursion (IsSettled w dir) frames → AllByRecursion (Below 1 most) frames
acknowledged_below w dir most is [] h = tt
acknowledged_below w dir most is (frame ∷ rest) h = (one frame h.0, acknowledged_below w dir most is rest h.1)
  where
    one : (frame : Frame) → IsSettled w dir frame → Below 1 most frame
    one (Hello hello) h = tt
    one (Data k n signal) h =
        λ e. (
        let P : ℕ → Type 0 = λ x. n ≤ number_acknowledged x (sender w dir) in
        let Q : ℕ → Type 0 = λ x. n ≤ x in
        subst Q is (subst P e h.1))
    one (Ack k n) h = tt
    one (Refuse k n) h = tt

direction_shows : (w : Federation) (dir : Dir) (s r : Side) → IsDirection w dir s r → All (IsSettled w dir) (frames_in w dir) ↔ IfSome (sender w dir) (λ e. e.kept ≡ [])
direction_shows w dir s r d =
    let I : Option Image → Type 0 = λ o. IfSome o (λ e. e.kept ≡ []) in
    let F : List Frame → Type 0 = λ x. All (IsSettled w dir) x in
    let R : List Frame → Type 0 = λ x. AllByRecursion (IsSettled w dir) x in (
      (λ settled. subst I (sym d.sending)
          (d.linked.out.kept_is ∙
          none_left s.end.acknowledged (offered_in 1 s.sent)
          (few_offered 1 s.end.acknowledged [] s.sent (omega arith)
          (acknowledged_below w dir s.end.acknowledged (ap (number_acknowledged 1) d.sending ∙ own_acknowledged s.end d.linked.here) s.sent (subst R d.frames (each (IsSettled w dir) (frames_in w dir) settled)))))),
      (λ keeps. subst F (sym d.frames) (from_each (IsSettled w dir) s.sent (settled_frames w dir s r s.sent d (subst I d.sending keeps) d.own d.linked.out.genuine))),
    )

-- the directions of a federate
up_direction : (d : Draft) (programs : List Behaviour) (inputs : List Input) (steps : List Step) (lawful : IsLawfulWith (network_of d programs inputs) (least_of d)) → list_any is_forget (world_after d programs inputs steps).steps ≡ false → (j : ℕ) → j < federate_count d
    → IsDirection (world_after d programs inputs steps) (Up j) ((stands d programs inputs steps lawful).stands.links j).second ((stands d programs inputs steps lawful).stands.links j).first
up_direction d programs inputs steps lawful none j below =
    let g = (stands d programs inputs steps lawful).stands in
    let k = kept_at d programs inputs steps lawful j below (all_kept d programs inputs steps none j) in
    let at = g.run.shown.each j below in
    let held = (g.run.site j below at.station at.there).held in
    record {
      frames = got (world_after d programs inputs steps).up j (g.links j).second.sent [] at.up;
      sending = own_is (world_after d programs inputs steps) (federate_count d) g.links j g.run.shown below;
      receiving = at.first;
      linked = linked_back 1 (g.links j).first (g.links j).second (kept_linked (g.links j) held k.incarnation);
      own = k.frames;
    }

down_direction : (d : Draft) (programs : List Behaviour) (inputs : List Input) (steps : List Step) (lawful : IsLawfulWith (network_of d programs inputs) (least_of d)) → list_any is_forget (world_after d programs inputs steps).steps ≡ false → (j : ℕ) → j < federate_count d
    → IsDirection (world_after d programs inputs steps) (Down j) ((stands d programs inputs steps lawful).stands.links j).first ((stands d programs inputs steps lawful).stands.links j).second
down_direction d programs inputs steps lawful none j below =
    let g = (stands d programs inputs steps lawful).stands in
    let k = kept_at d programs inputs steps lawful j below (all_kept d programs inputs steps none j) in
    let at = g.run.shown.each j below in
    let held = (g.run.site j below at.station at.there).held in
    record {
      frames = got (world_after d programs inputs steps).down j (g.links j).first.sent [] at.down;
      sending = at.first;
      receiving = own_is (world_after d programs inputs steps) (federate_count d) g.links j g.run.shown below;
      linked = kept_linked (g.links j) held k.incarnation;
      own = held.own;
    }

-- a direction that isn't there
no_direction : (w : Federation) (dir : Dir) → frames_in w dir ≡ [] → sender w dir ≡ None → All (IsSettled w dir) (frames_in w dir) ↔ IfSome (sender w dir) (λ e. e.kept ≡ [])
no_direction w dir frames sending =
    let I : Option Image → Type 0 = λ o. IfSome o (λ e. e.kept ≡ []) in
    let F : List Frame → Type 0 = λ x. All (IsSettled w dir) x in
    ((λ settled. subst I (sym sending) tt), (λ keeps. subst F (sym frames) (from_each (IsSettled w dir) [] tt)))

each_direction : (d : Draft) (programs : List Behaviour) (inputs : List Input) (steps : List Step) → IsLawfulWith (network_of d programs inputs) (least_of d) → list_any is_forget (world_after d programs inputs steps).steps ≡ false → (dir : Dir)
    → All (IsSettled (world_after d programs inputs steps) dir) (frames_in (world_after d programs inputs steps) dir) ↔ IfSome (sender (world_after d programs inputs steps) dir) (λ e. e.kept ≡ [])
each_direction d programs inputs steps lawful none (Up j) =
    let g = (stands d programs inputs steps lawful).stands in
    let shown = g.run.shown in
    elim (cases_lt j (federate_count d)) [
      | inl below ↦ direction_shows (world_after d programs inputs steps) (Up j) (g.links j).second (g.links j).first (up_direction d programs inputs steps lawful none j below)
      | inr beyond ↦
          no_direction (world_after d programs inputs steps) (Up j) (none_beyond (world_after d programs inputs steps).up j [] (let size = shown.ups in omega arith))
          (ap own_end (nothing_beyond (world_after d programs inputs steps).federates j (let size = shown.federates in omega arith)))
    ]
each_direction d programs inputs steps lawful none (Down j) =
    let g = (stands d programs inputs steps lawful).stands in
    let shown = g.run.shown in
    elim (cases_lt j (federate_count d)) [
      | inl below ↦ direction_shows (world_after d programs inputs steps) (Down j) (g.links j).first (g.links j).second (down_direction d programs inputs steps lawful none j below)
      | inr beyond ↦
          no_direction (world_after d programs inputs steps) (Down j) (none_beyond (world_after d programs inputs steps).down j [] (let size = shown.downs in omega arith))
          (nothing_beyond (world_after d programs inputs steps).coordinator.ends j (let size = shown.ends in omega arith))
    ]

pub shows_at_the_ends : (d : Draft) (programs : List Behaviour) (inputs : List Input) (steps : List Step) → IsLawfulWith (network_of d programs inputs) (least_of d) → list_any is_forget (world_after d programs inputs steps).steps ≡ false
    → ((dir : Dir) → All (IsSettled (world_after d programs inputs steps) dir) (frames_in (world_after d programs inputs steps) dir)) ↔ KeepsNothing (world_after d programs inputs steps)
shows_at_the_ends d programs inputs steps lawful none = (
  (λ settled dir. (each_direction d programs inputs steps lawful none dir).0 (settled dir)),
  (λ keeps dir. (each_direction d programs inputs steps lawful none dir).1 (keeps dir)),
)
