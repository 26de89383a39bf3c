-- What a document says stands against each fault of its shape.
use Rattle.std.proofs.Common.{◌≡◌, ℕ, ◌≤◌, zero, suc, List, [], ◌∷◌, map, length, Some, IsTrue, codes, sym, ap, subst, inl, inr, ◌⊎◌, arith}
use Rattle.std.specs.Prelude.{slice_get}
use Rattle.std.specs.List.{AllZip}
use Rattle.std.proofs.lemmas.List.{length-map}
use Rattle.std.proofs.lemmas.List.Elements.{All-contains}
use Rattle.plan_slots.specs.declared.slots.Slots.{Slots}
use Rattle.plan_slots.specs.declared.slots.Timer.{Timer}
use Rattle.plan.specs.declared.draft.Federate.{Federate}
use Rattle.plan.specs.declared.draft.ConnectionDraft.{ConnectionDraft}
use Rattle.plan.specs.declared.draft.Draft.{Draft}
use Rattle.reactor_program.specs.declared.program.State.{State}
use Rattle.reactor_program.specs.declared.reaction_draft.ReactionDraft.{ReactionDraft}
use Rattle.toml.specs.Data.{Data, string, table, Members}
use Rattle.loadfed_tables.specs.declared.fault.TableFault.{TableFault}
use Rattle.loadfed_tables.specs.Tables.{keys_in, is_among, HasOnly, SaysArray, SaysTables, SaysEach}
use Rattle.loadfed.specs.Shape.{SaysTimer, SaysState, SaysReaction, ProgramDraft, SaysProgram, SaysSlots, SaysFederate, SaysConnection, SaysFederates, SaysFederation}
use Rattle.loadfed_tables.specs.TableFaults.{HasUnknownKey}
use Rattle.loadfed.specs.ShapeFaults.{HasTooMany, HasTablesFault, HasTimerFault, HasStateFault, HasReactionFault, HasStatesFault, HasReactionsFault, HasSlotsFault, HasFederateFault, HasConnectionFault, HasShapeFault}
use Rattle.loadfed_tables.proofs.OneReading.{one_array}
use Rattle.loadfed.proofs.OneReading.{zip_length}

pub none_unknown : (known : List (List ℕ)) (m : Members) (fault : TableFault) → HasOnly known m → HasUnknownKey known m fault → ⊥
none_unknown known m fault only h =
    let yes : IsTrue (is_among known h.key) = All-contains (λ key. IsTrue (is_among known key)) (keys_in m) h.key only h.there in
    let no = h.unknown in
    cc

none_too_many : (key : List ℕ) (most : ℕ) (m : Members) (fault : TableFault) (entries : List Data) → SaysArray key m entries → length entries ≤ most
    → HasTooMany key most m fault → ⊥
none_too_many key most m fault entries says few h =
    let same : length h.entries ≡ length entries = ap length (one_array key m h.entries entries h.there says) in
    let many = h.many in
    omega arith

pub zip_at : {X : Type 0} (R : Members → X → Type 0) (ts : List Members) (xs : List X) (place : ℕ) (inner : Members)
    → AllZip R ts xs → slice_get (map table ts) place ≡ Some (table inner) → (x : X) × R inner x
zip_at R [] xs place inner h e = let no : ⊥ = cc in absurd no
zip_at R (t ∷ ts) [] place inner h e = absurd h
zip_at R (t ∷ ts) (x ∷ xs) zero inner h e = let same : t ≡ inner = cc in (x, subst (λ v. R v x) same h.0)
zip_at R (t ∷ ts) (x ∷ xs) (suc place) inner h e = zip_at R ts xs place inner h.1 e

entry_at : (key : List ℕ) (m : Members) (entries : List Data) (ts : List Members) (place : ℕ) (inner : Members) → SaysArray key m entries → SaysTables key m ts
    → slice_get entries place ≡ Some (table inner) → slice_get (map table ts) place ≡ Some (table inner)
entry_at key m entries ts place inner h k e = subst (λ v. slice_get v place ≡ Some (table inner)) (one_array key m entries (map table ts) h k) e

pub none_in_tables : {X : Type 0} (R : Members → X → Type 0) (Has : Members → TableFault → Type 0) (fault : TableFault)
    → ((inner : Members) (x : X) → R inner x → Has inner fault → ⊥)
    → (key : List ℕ) (m : Members) (xs : List X) → SaysEach R key m xs → HasTablesFault Has key m fault → ⊥
none_in_tables R Has fault none key m xs says (inl h) = h.nothing says.tables says.there
none_in_tables R Has fault none key m xs says (inr h) =
    let z = zip_at R says.tables xs h.place h.inner says.each (entry_at key m h.entries says.tables h.place h.inner h.there says.there h.entry_is) in
    none h.inner z.0 z.1 h.inside

none_timer : (fault : TableFault) (m : Members) (t : Timer) → SaysTimer m t → HasTimerFault m fault → ⊥
none_timer fault m t s (inl h) = none_unknown _ m fault s.keys h
none_timer fault m t s (inr (inl h)) = h.nothing t.name s.name_is
none_timer fault m t s (inr (inr (inl h))) = h.nothing t.offset s.offset_is
none_timer fault m t s (inr (inr (inr h))) = h.nothing t.period s.period_is

none_state : (fault : TableFault) (m : Members) (x : State) → SaysState m x → HasStateFault m fault → ⊥
none_state fault m x s (inl h) = none_unknown _ m fault s.keys h
none_state fault m x s (inr (inl h)) = h.nothing x.name s.name_is
none_state fault m x s (inr (inr h)) = h.nothing x.value s.value_is

none_reaction : (fault : TableFault) (m : Members) (r : ReactionDraft) → SaysReaction m r → HasReactionFault m fault → ⊥
none_reaction fault m r s (inl h) = none_unknown _ m fault s.keys h
none_reaction fault m r s (inr (inl h)) = h.nothing r.triggers s.triggers_are
none_reaction fault m r s (inr (inr (inl h))) = h.nothing r.body s.body_is
none_reaction fault m r s (inr (inr (inr h))) =
    let few : length (map string r.body) ≤ 256 = subst (λ n. n ≤ 256) (sym (length-map r.body string)) s.few_lines in
    none_too_many (codes "body") 256 m fault (map string r.body) s.body_is few h

none_too_many_of : {X : Type 0} (R : Members → X → Type 0) (key : List ℕ) (most : ℕ) (m : Members) (fault : TableFault) (xs : List X) → SaysEach R key m xs → length xs ≤ most
    → HasTooMany key most m fault → ⊥
none_too_many_of R key most m fault xs says few h =
    let tables : length (map table says.tables) ≡ length says.tables = length-map says.tables table in
    let one_each : length says.tables ≡ length xs = zip_length R says.tables xs says.each in
    let small : length (map table says.tables) ≤ most = omega arith in
    none_too_many key most m fault (map table says.tables) says.there small h

none_program : (fault : TableFault) (m : Members) (p : ProgramDraft) → SaysProgram m p → HasStatesFault m fault ⊎ HasReactionsFault m fault → ⊥
none_program fault m p s (inl (inl h)) = none_too_many_of SaysState (codes "state") 64 m fault p.states s.states_are s.few_states h
none_program fault m p s (inl (inr h)) = none_in_tables SaysState HasStateFault fault (none_state fault) (codes "state") m p.states s.states_are h
none_program fault m p s (inr (inl h)) = none_too_many_of SaysReaction (codes "reaction") 64 m fault p.reactions s.reactions_are s.few_reactions h
none_program fault m p s (inr (inr h)) = none_in_tables SaysReaction HasReactionFault fault (none_reaction fault) (codes "reaction") m p.reactions s.reactions_are h

none_slots : (fault : TableFault) (m : Members) (rs : List ReactionDraft) (x : Slots) → SaysSlots rs m x → HasSlotsFault m fault → ⊥
none_slots fault m rs x s (inl h) = h.nothing x.inputs s.inputs_are
none_slots fault m rs x s (inr (inl h)) = h.nothing x.outputs s.outputs_are
none_slots fault m rs x s (inr (inr (inl h))) = none_in_tables SaysTimer HasTimerFault fault (none_timer fault) (codes "timers") m x.timers s.timers_are h
none_slots fault m rs x s (inr (inr (inr (inl h)))) = h.nothing x.actions s.actions_are
none_slots fault m rs x s (inr (inr (inr (inr h)))) = h.nothing x.physical s.physical_are

none_federate : (fault : TableFault) (m : Members) (f : Federate) (p : ProgramDraft) → SaysFederate m f → SaysProgram m p → HasFederateFault m fault → ⊥
none_federate fault m f p s q (inl h) = none_unknown _ m fault s.keys h
none_federate fault m f p s q (inr (inl h)) = h.nothing f.name s.name_is
none_federate fault m f p s q (inr (inr (inl h))) = none_slots fault m s.reactions f.slots s.slots_are h
none_federate fault m f p s q (inr (inr (inr h))) = none_program fault m p q h

none_connection : (fault : TableFault) (m : Members) (c : ConnectionDraft) → SaysConnection m c → HasConnectionFault m fault → ⊥
none_connection fault m c s (inl h) = none_unknown _ m fault s.keys h
none_connection fault m c s (inr (inl h)) = h.nothing c.from s.from_is
none_connection fault m c s (inr (inr (inl h))) = h.nothing c.to s.to_is
none_connection fault m c s (inr (inr (inr h))) = h.nothing c.after s.after_is

none_in_federates : (fault : TableFault) (m : Members) (fs : List Federate) (ps : List ProgramDraft) → SaysFederates m fs ps
    → HasTablesFault HasFederateFault (codes "federate") m fault → ⊥
none_in_federates fault m fs ps s (inl h) = h.nothing s.tables s.there
none_in_federates fault m fs ps s (inr h) =
    let here = entry_at (codes "federate") m h.entries s.tables h.place h.inner h.there s.there h.entry_is in
    let f = zip_at SaysFederate s.tables fs h.place h.inner s.each_federate here in
    let p = zip_at SaysProgram s.tables ps h.place h.inner s.each_program here in
    none_federate fault h.inner f.0 p.0 f.1 p.1 h.inside

-- a document that says a federation has no fault of shape
pub no_shape_fault : (fault : TableFault) (m : Members) (d : Draft) (ps : List ProgramDraft) → SaysFederation m d ps → HasShapeFault m fault → ⊥
no_shape_fault fault m d ps s (inl h) = none_unknown _ m fault s.keys h
no_shape_fault fault m d ps s (inr (inl h)) = h.nothing d.stop s.stop_is
no_shape_fault fault m d ps s (inr (inr (inl h))) = none_in_federates fault m d.federates ps s.federates_are h
no_shape_fault fault m d ps s (inr (inr (inr h))) =
    none_in_tables SaysConnection HasConnectionFault fault (none_connection fault) (codes "connection") m d.connections s.connections_are h
