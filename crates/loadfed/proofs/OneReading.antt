-- A table says one thing: two readings of it are the same.
use Rattle.std.proofs.Common.{◌≡◌, ℕ, suc, ◌≤◌, ℤ, List, [], ◌∷◌, map, length, Option, Bool, codes, refl, sym, ap, ◌∙◌, subst, arith, Vec, Global}
use Rattle.std.specs.Prelude.{Result, Ok, Err, IfOk}
use Rattle.std.proofs.lemmas.List.{length-map}
use Rattle.std.specs.List.{AllZip}
use Rattle.plan_slots.specs.declared.slots.Slots.{Slots}
use Rattle.plan_slots.specs.declared.slots.Timer.{Timer}
use Rattle.plan.specs.declared.draft.Federate.{Federate}
use Rattle.plan_names.specs.declared.port.PortName.{PortName}
use Rattle.plan.specs.declared.draft.ConnectionDraft.{ConnectionDraft}
use Rattle.plan.specs.declared.draft.Draft.{Draft}
use Rattle.reactor_program.specs.declared.program.State.{State}
use Rattle.reactor_program.specs.declared.reaction_draft.ReactionDraft.{ReactionDraft}
use Rattle.toml.specs.Data.{table, Members}
use Rattle.toml.specs.View.{view}
use Rattle.toml.specs.declared.value.Value.{Value}
use Rattle.loadfed_tables.specs.declared.fault.TableFault.{TableFault}
use Rattle.loadfed_tables.specs.Tables.{SaysArray, SaysTables, SaysEach}
use Rattle.loadfed.specs.Shape.{SaysTimer, SaysState, SaysReaction, ProgramDraft, SaysProgram, wants_startup, SaysSlots, SaysFederate, SaysConnection, SaysFederates, SaysFederation}
use Rattle.loadfed_tables.proofs.OneReading.{one_text, one_number, one_duration, one_after, one_duration_or_zero, one_array, one_texts, one_tables, one_port}

one_zip : {X : Type 0} (R : Members → X → Type 0) → ((m : Members) (x y : X) → R m x → R m y → x ≡ y) → (ts : List Members) (xs ys : List X)
    → AllZip R ts xs → AllZip R ts ys → xs ≡ ys
one_zip R one [] [] [] h k = refl
one_zip R one [] [] (y ∷ ys) h k = absurd k
one_zip R one [] (x ∷ xs) ys h k = absurd h
one_zip R one (t ∷ ts) [] ys h k = absurd h
one_zip R one (t ∷ ts) (x ∷ xs) [] h k = absurd k
one_zip R one (t ∷ ts) (x ∷ xs) (y ∷ ys) h k = ap (λ v. v ∷ xs) (one t x y h.0 k.0) ∙ ap (λ v. y ∷ v) (one_zip R one ts xs ys h.1 k.1)

one_zip_of : {X : Type 0} (R : Members → X → Type 0) → ((m : Members) (x y : X) → R m x → R m y → x ≡ y) → (key : List ℕ) (m : Members)
    (ts us : List Members) (xs ys : List X) → SaysTables key m ts → SaysTables key m us → AllZip R ts xs → AllZip R us ys → xs ≡ ys
one_zip_of R one key m ts us xs ys h k a b =
    let same : us ≡ ts = one_tables key m us ts k h in
    one_zip R one ts xs ys a (subst (λ t. AllZip R t ys) same b)

pub one_each : {X : Type 0} (R : Members → X → Type 0) → ((m : Members) (x y : X) → R m x → R m y → x ≡ y) → (key : List ℕ) (m : Members)
    (xs ys : List X) → SaysEach R key m xs → SaysEach R key m ys → xs ≡ ys
one_each R one key m xs ys h k = one_zip_of R one key m h.tables k.tables xs ys h.there k.there h.each k.each

pub zip_length : {X : Type 0} (R : Members → X → Type 0) (ts : List Members) (xs : List X) → AllZip R ts xs → length ts ≡ length xs
zip_length R [] [] h = refl
zip_length R [] (x ∷ xs) h = absurd h
zip_length R (t ∷ ts) [] h = absurd h
zip_length R (t ∷ ts) (x ∷ xs) h = ap suc (zip_length R ts xs h.1)

few_read : {X : Type 0} (R : Members → X → Type 0) (key : List ℕ) (m : Members) (values : List Value) (xs : List X) (most : ℕ)
    → length values ≤ most → SaysArray key m (map view values) → SaysEach R key m xs → length xs ≤ most
few_read R key m values xs most few held says =
    let same : length (map view values) ≡ length (map table says.tables) = ap length (one_array key m (map view values) (map table says.tables) held says.there) in
    let zipped : length says.tables ≡ length xs = zip_length R says.tables xs says.each in
    omega (arith, length-map values view, length-map says.tables table)

-- as many are read as there are entries
pub each_few : {X : Type 0} {most : ℕ} (R : Members → X → Type 0) (key : List ℕ) (m : Members) (values : List Value) (r : Result (Vec X Global) TableFault)
    → length values ≤ most → SaysArray key m (map view values) → IfOk r (λ each. SaysEach R key m each.items) → IfOk r (λ each. length each.items ≤ most)
each_few {X} {most} R key m values (Ok each) few held says = few_read R key m values each.items most few held says
each_few R key m values (Err fault) few held says = says

abbrev timer_with : List ℕ → ℕ → ℕ → Timer
timer_with n o p = record { name = n; offset = o; period = p }

one_timer : (m : Members) (t u : Timer) → SaysTimer m t → SaysTimer m u → t ≡ u
one_timer m t u h k =
    ap (λ x. timer_with x t.offset t.period) (one_text (codes "name") m t.name u.name h.name_is.0 k.name_is.0)
    ∙ ap (λ x. timer_with u.name x t.period) (one_duration_or_zero (codes "offset") m t.offset u.offset h.offset_is k.offset_is)
    ∙ ap (λ x. timer_with u.name u.offset x) (one_duration_or_zero (codes "period") m t.period u.period h.period_is k.period_is)

abbrev state_with : List ℕ → ℤ → State
state_with n v = record { name = n; value = v }

one_state : (m : Members) (s t : State) → SaysState m s → SaysState m t → s ≡ t
one_state m s t h k =
    ap (λ x. state_with x s.value) (one_text (codes "name") m s.name t.name h.name_is.0 k.name_is.0)
    ∙ ap (λ x. state_with t.name x) (one_number (codes "value") m s.value t.value h.value_is k.value_is)

abbrev reaction_with : List (List ℕ) → List (List ℕ) → ReactionDraft
reaction_with t b = record { triggers = t; body = b }

one_reaction : (m : Members) (r q : ReactionDraft) → SaysReaction m r → SaysReaction m q → r ≡ q
one_reaction m r q h k =
    ap (λ x. reaction_with x r.body) (one_texts (codes "triggers") m r.triggers q.triggers h.triggers_are.0 k.triggers_are.0)
    ∙ ap (λ x. reaction_with q.triggers x) (one_texts (codes "body") m r.body q.body h.body_is k.body_is)

abbrev program_with : List State → List ReactionDraft → ProgramDraft
program_with s r = record { states = s; reactions = r }

one_program : (m : Members) (p q : ProgramDraft) → SaysProgram m p → SaysProgram m q → p ≡ q
one_program m p q h k =
    ap (λ x. program_with x p.reactions) (one_each SaysState one_state (codes "state") m p.states q.states h.states_are k.states_are)
    ∙ ap (λ x. program_with q.states x) (one_each SaysReaction one_reaction (codes "reaction") m p.reactions q.reactions h.reactions_are k.reactions_are)

abbrev slots_with : Bool → List (List ℕ) → List (List ℕ) → List Timer → List (List ℕ) → List (List ℕ) → Slots
slots_with b i o t a p = record { startup = b; inputs = i; outputs = o; timers = t; actions = a; physical = p }

one_slots : (rs qs : List ReactionDraft) (m : Members) (s t : Slots) → rs ≡ qs → SaysSlots rs m s → SaysSlots qs m t → s ≡ t
one_slots rs qs m s t e h k =
    ap (λ x. slots_with x s.inputs s.outputs s.timers s.actions s.physical) (h.startup_is ∙ ap wants_startup e ∙ sym k.startup_is)
    ∙ ap (λ x. slots_with t.startup x s.outputs s.timers s.actions s.physical) (one_texts (codes "inputs") m s.inputs t.inputs h.inputs_are.0 k.inputs_are.0)
    ∙ ap (λ x. slots_with t.startup t.inputs x s.timers s.actions s.physical) (one_texts (codes "outputs") m s.outputs t.outputs h.outputs_are.0 k.outputs_are.0)
    ∙ ap (λ x. slots_with t.startup t.inputs t.outputs x s.actions s.physical) (one_each SaysTimer one_timer (codes "timers") m s.timers t.timers h.timers_are k.timers_are)
    ∙ ap (λ x. slots_with t.startup t.inputs t.outputs t.timers x s.physical) (one_texts (codes "actions") m s.actions t.actions h.actions_are.0 k.actions_are.0)
    ∙ ap (λ x. slots_with t.startup t.inputs t.outputs t.timers t.actions x) (one_texts (codes "physical") m s.physical t.physical h.physical_are.0 k.physical_are.0)

abbrev federate_with : List ℕ → Slots → Federate
federate_with n s = record { name = n; slots = s }

one_federate : (m : Members) (f g : Federate) → SaysFederate m f → SaysFederate m g → f ≡ g
one_federate m f g h k =
    let rs = one_each SaysReaction one_reaction (codes "reaction") m h.reactions k.reactions h.reactions_are k.reactions_are in
    ap (λ x. federate_with x f.slots) (one_text (codes "name") m f.name g.name h.name_is.0.0 k.name_is.0.0)
    ∙ ap (λ x. federate_with g.name x) (one_slots h.reactions k.reactions m f.slots g.slots rs h.slots_are k.slots_are)

abbrev connection_with : PortName → PortName → Option ℕ → ConnectionDraft
connection_with f t a = record { from = f; to = t; after = a }

one_connection : (m : Members) (c e : ConnectionDraft) → SaysConnection m c → SaysConnection m e → c ≡ e
one_connection m c e h k =
    ap (λ x. connection_with x c.to c.after) (one_port (codes "from") m c.from e.from h.from_is k.from_is)
    ∙ ap (λ x. connection_with e.from x c.after) (one_port (codes "to") m c.to e.to h.to_is k.to_is)
    ∙ ap (λ x. connection_with e.from e.to x) (one_after (codes "after") m c.after e.after h.after_is k.after_is)

abbrev draft_with : ℕ → List Federate → List ConnectionDraft → Draft
draft_with s f c = record { stop = s; federates = f; connections = c }

one_federates : (m : Members) (fs gs : List Federate) (ps qs : List ProgramDraft) → SaysFederates m fs ps → SaysFederates m gs qs → fs ≡ gs
one_federates m fs gs ps qs h k =
    one_zip_of SaysFederate one_federate (codes "federate") m h.tables k.tables fs gs h.there k.there h.each_federate k.each_federate

-- a document says one list of program drafts
pub one_program_list : (m : Members) (fs gs : List Federate) (ps qs : List ProgramDraft) → SaysFederates m fs ps → SaysFederates m gs qs → ps ≡ qs
one_program_list m fs gs ps qs h k =
    one_zip_of SaysProgram one_program (codes "federate") m h.tables k.tables ps qs h.there k.there h.each_program k.each_program

-- and one draft
pub one_draft : (m : Members) (d e : Draft) (ps qs : List ProgramDraft) → SaysFederation m d ps → SaysFederation m e qs → d ≡ e
one_draft m d e ps qs h k =
    ap (λ x. draft_with x d.federates d.connections) (one_duration (codes "stop") m d.stop e.stop h.stop_is k.stop_is)
    ∙ ap (λ x. draft_with e.stop x d.connections)
    (one_federates m d.federates e.federates ps qs h.federates_are k.federates_are)
    ∙ ap (λ x. draft_with e.stop e.federates x)
    (one_each SaysConnection one_connection (codes "connection") m d.connections e.connections h.connections_are k.connections_are)
