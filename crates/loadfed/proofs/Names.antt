-- What a document says of federates and programs is ready to be read.
use Rattle.std.proofs.Common.{ℕ, ◌≤◌, List, [], ◌∷◌, ◌++◌, length, IsTrue, codes}
use Rattle.std.specs.Prelude.{All}
use Rattle.std.specs.List.{AllZip}
use Rattle.std.proofs.lemmas.List.Elements.{All-append, All-map, All-nil, All-cons}
use Rattle.plan_slots.specs.declared.slots.Slots.{Slots}
use Rattle.plan_slots.specs.declared.slots.Timer.{Timer}
use Rattle.plan.specs.declared.draft.Federate.{Federate}
use Rattle.plan_slots.specs.Numbering.{timer_names, all_names}
use Rattle.reactor_program.specs.declared.reaction_draft.ReactionDraft.{ReactionDraft}
use Rattle.plan_names.specs.Spelling.{is_name}
use Rattle.toml.specs.Data.{Members}
use Rattle.loadfed_tables.specs.Tables.{SaysEach}
use Rattle.loadfed.specs.Shape.{SaysTimer, SaysState, SaysReaction, ProgramDraft, SaysProgram, SaysSlots, SaysFederate, SaysFederates}
use Rattle.loadfed.specs.Ready.{IsReady, AreReady}

abbrev IsName : List ℕ → Type 0
IsName name = IsTrue (is_name name)

all_of_zip : {X : Type 0} (R : Members → X → Type 0) (P : X → Type 0) → ((t : Members) (x : X) → R t x → P x) → (ts : List Members) (xs : List X) → AllZip R ts xs → All P xs
all_of_zip R P of [] [] h = All-nil P
all_of_zip R P of [] (x ∷ xs) h = absurd h
all_of_zip R P of (t ∷ ts) [] h = absurd h
all_of_zip R P of (t ∷ ts) (x ∷ xs) h = All-cons P x xs (of t x h.0) (all_of_zip R P of ts xs h.1)

timers_named : (m : Members) (ts : List Timer) → SaysEach SaysTimer (codes "timers") m ts → All IsName (timer_names ts)
timers_named m ts h = All-map IsName (λ t. t.name) ts (all_of_zip SaysTimer (λ t. IsName t.name) (λ m t s. s.name_is.1) h.tables ts h.each)

slots_named : (rs : List ReactionDraft) (m : Members) (s : Slots) → SaysSlots rs m s → All IsName (all_names s)
slots_named rs m s h =
    All-append IsName (s.inputs ++ s.outputs ++ timer_names s.timers ++ s.actions) s.physical
    (All-append IsName (s.inputs ++ s.outputs ++ timer_names s.timers) s.actions
    (All-append IsName (s.inputs ++ s.outputs) (timer_names s.timers)
    (All-append IsName s.inputs s.outputs h.inputs_are.1 h.outputs_are.1) (timers_named m s.timers h.timers_are))
    h.actions_are.1)
    h.physical_are.1

ready : (m : Members) (f : Federate) (p : ProgramDraft) → SaysFederate m f → SaysProgram m p → IsReady f p
ready m f p s h = record {
  slots_named = slots_named s.reactions m f.slots s.slots_are;
  states_named =
      All-map IsName (λ x. x.name) p.states (all_of_zip SaysState (λ x. IsName x.name) (λ t x says. says.name_is.1) h.states_are.tables p.states h.states_are.each);
  few_states = h.few_states;
  few_reactions = h.few_reactions;
  few_lines = all_of_zip SaysReaction (λ r. length r.body ≤ 256) (λ t r says. says.few_lines) h.reactions_are.tables p.reactions h.reactions_are.each;
}

zips_ready : (ts : List Members) (fs : List Federate) (ps : List ProgramDraft) → AllZip SaysFederate ts fs → AllZip SaysProgram ts ps → AllZip IsReady fs ps
zips_ready [] [] [] h k = tt
zips_ready [] [] (p ∷ ps) h k = absurd k
zips_ready [] (f ∷ fs) ps h k = absurd h
zips_ready (t ∷ ts) [] ps h k = absurd h
zips_ready (t ∷ ts) (f ∷ fs) [] h k = absurd k
zips_ready (t ∷ ts) (f ∷ fs) (p ∷ ps) h k = (ready t f p h.0 k.0, zips_ready ts fs ps h.1 k.1)

pub all_ready : (m : Members) (fs : List Federate) (ps : List ProgramDraft) → SaysFederates m fs ps → AreReady fs ps
all_ready m fs ps h = zips_ready h.tables fs ps h.each_federate h.each_program
