-- An input file says one list of inputs, and what it says meets no fault.
use Rattle.std.specs.Prelude.{◌≤◌, length, AllPairs, IfOk, IfErr}
use Rattle.std.proofs.Common.{Result, Ok, Err, ◌≡◌, ◌⊎◌, inl, inr, ℕ, ℤ, List, codes, ap, ◌∙◌, refl, sym, subst, arith}
use Rattle.toml.specs.Data.{Members}
use Rattle.plan.specs.declared.draft.Draft.{Draft}
use Rattle.plan.specs.declared.input.Input.{Input}
use Rattle.plan.specs.declared.input.TheConstants.{MOST_INPUTS}
use Rattle.plan.specs.declared.input_fault.InputFault.{InputFault}
use Rattle.plan.specs.declared.input_fault.InputFault.TheVariants as input_fault
use Rattle.plan.specs.External.{AreForDifferentActions, AreInputsOf}
use Rattle.loadfed_tables.specs.declared.fault.TableFault.{TableFault}
use Rattle.loadfed_tables.specs.declared.fault.TableFault.TheVariants as table_fault
use Rattle.loadfed.specs.declared.fault.LoadFault.{LoadFault}
use Rattle.loadfed.specs.declared.fault.LoadFault.TheVariants.{Memory}
use Rattle.loadfed_tables.specs.Documents.{IsDocument}
use Rattle.loadfed.specs.Errors.{fault_of_table, fault_of_inputs}
use Rattle.loadfed.specs.declared.recorded.TheConstants.{MOST_INPUT_BYTES}
use Rattle.loadfed.specs.InputShape.{SaysInput, SaysInputs, HasInputFault, HasInputsFault, SaysInputFile, AreKnown, IsFaultOfInputs, unknown_action, repeated_input, too_many, HasInputFileFault, out_of_memory, too_long, no_document, wrong_shape, no_inputs, IsInputLoading}
use Rattle.loadfed_tables.proofs.OneReading.{one_text, one_number, one_duration, one_microstep}
use Rattle.loadfed.proofs.OneReading.{one_each}
use Rattle.loadfed.proofs.NoFault.{none_unknown, none_in_tables}
use Rattle.loadfed.proofs.Accepted.{one_document}

abbrev input_with : List ℕ → List ℕ → ℕ → ℕ → ℤ → Input
input_with f a t m v = record { federate = f; action = a; tag = record { time = t; microstep = m }; value = v }

one_input : (m : Members) (i j : Input) → SaysInput m i → SaysInput m j → i ≡ j
one_input m i j h k =
    ap (λ x. input_with x i.action i.tag.time i.tag.microstep i.value) (one_text (codes "federate") m i.federate j.federate h.federate_is k.federate_is)
    ∙ ap (λ x. input_with j.federate x i.tag.time i.tag.microstep i.value) (one_text (codes "action") m i.action j.action h.action_is k.action_is)
    ∙ ap (λ x. input_with j.federate j.action x i.tag.microstep i.value) (one_duration (codes "time") m i.tag.time j.tag.time h.time_is k.time_is)
    ∙ ap (λ x. input_with j.federate j.action j.tag.time x i.value) (one_microstep (codes "micro") m i.tag.microstep j.tag.microstep h.microstep_is k.microstep_is)
    ∙ ap (λ x. input_with j.federate j.action j.tag.time j.tag.microstep x) (one_number (codes "value") m i.value j.value h.value_is k.value_is)

none_input : (fault : TableFault) (m : Members) (i : Input) → SaysInput m i → HasInputFault m fault → ⊥
none_input fault m i s (inl h) = none_unknown _ m fault s.keys h
none_input fault m i s (inr (inl h)) = h.nothing i.federate s.federate_is
none_input fault m i s (inr (inr (inl h))) = h.nothing i.action s.action_is
none_input fault m i s (inr (inr (inr (inl h)))) = h.nothing i.tag.time s.time_is
none_input fault m i s (inr (inr (inr (inr (inl h))))) = h.nothing i.tag.microstep s.microstep_is
none_input fault m i s (inr (inr (inr (inr (inr h))))) = h.nothing i.value s.value_is

none_inputs : (fault : TableFault) (m : Members) (is : List Input) → SaysInputs m is → HasInputsFault m fault → ⊥
none_inputs fault m is s (inl h) = none_unknown _ m fault s.keys h
none_inputs fault m is s (inr h) = none_in_tables SaysInput HasInputFault fault (none_input fault) (codes "input") m is s.inputs_are h

pub same_inputs : (bytes : List ℕ) (is js : List Input) → SaysInputFile bytes is → SaysInputFile bytes js → is ≡ js
same_inputs bytes is js h k =
    let same = one_document bytes k.file h.file k.document h.document in
    let says = subst (λ m. SaysInputs m js) same k.says in
    one_each SaysInput one_input (codes "input") h.file is js h.says.inputs_are says.inputs_are

none_of_inputs : (d : Draft) (is : List Input) (fault : LoadFault) → AreInputsOf d is → IsFaultOfInputs d is fault → ⊥
none_of_inputs d is fault a (unknown_action told unknown) = unknown a.known
none_of_inputs d is fault a (repeated_input told known repeated) = repeated a.apart
none_of_inputs d is fault a (too_many told known apart many) = many a.few

-- what stands against an input file of the federation is want of memory
only_memory : (d : Draft) (bytes : List ℕ) (is : List Input) (fault : LoadFault) → SaysInputFile bytes is → AreInputsOf d is → HasInputFileFault d bytes fault → fault ≡ Memory
only_memory d bytes is fault file all (out_of_memory memory few) = memory
only_memory d bytes is fault file all (too_long h) =
    let few = file.few in
    let long = h.long in
    let no : ⊥ = omega arith in
    absurd no
only_memory d bytes is fault file all (no_document h) = absurd (h.none file.file file.document)
only_memory d bytes is fault file all (wrong_shape h) =
    let same = one_document bytes h.file file.file h.document file.document in
    absurd (none_inputs h.wrong file.file is file.says (subst (λ m. HasInputsFault m h.wrong) same h.stands))
only_memory d bytes is fault file all (no_inputs h) =
    absurd (none_of_inputs d is fault all (subst (λ x. IsFaultOfInputs d x fault) (same_inputs bytes h.inputs is h.declared file) h.refused))

pub inputs_accepted : (d : Draft) (bytes : List ℕ) (r : Result (List Input) LoadFault) → IsInputLoading d bytes r → (is : List Input) → SaysInputFile bytes is → AreInputsOf d is
    → IfErr r (λ fault. fault ≡ Memory)
inputs_accepted d bytes (Ok x) h is file all = tt
inputs_accepted d bytes (Err fault) h is file all = only_memory d bytes is fault file all h

-- a fault of recorded inputs, which isn't want of memory, stands against them
pub inputs_told : (d : Draft) (is : List Input) (reason : InputFault) → (reason ≡ input_fault.UnknownAction → ¬ (AreKnown d is))
    → (reason ≡ input_fault.RepeatedInput → AreKnown d is × ¬ (AllPairs AreForDifferentActions is))
    → (reason ≡ input_fault.OverLimit → AreKnown d is × AllPairs AreForDifferentActions is × ¬ (length is ≤ MOST_INPUTS))
    → (fault_of_inputs reason ≡ Memory) ⊎ IsFaultOfInputs d is (fault_of_inputs reason)
inputs_told d is input_fault.UnknownAction unknown repeated over = inr (unknown_action refl (unknown refl))
inputs_told d is input_fault.RepeatedInput unknown repeated over = let h = repeated refl in inr (repeated_input refl h.0 h.1)
inputs_told d is input_fault.OverLimit unknown repeated over = let h = over refl in inr (too_many refl h.0 h.1 h.2)
inputs_told d is input_fault.Memory unknown repeated over = inl refl

-- an input file that isn't too long, and is no document
pub input_table_told : (d : Draft) (bytes : List ℕ) (fault : TableFault) → length bytes ≤ MOST_INPUT_BYTES
    → (fault ≡ table_fault.Memory) ⊎ ((fault ≡ table_fault.NotToml) × ((file : Members) → ¬ (IsDocument bytes file))) → HasInputFileFault d bytes (fault_of_table fault)
input_table_told d bytes fault few (inl memory) = out_of_memory (ap fault_of_table memory) few
input_table_told d bytes fault few (inr h) = no_document (record { few = few; told = ap fault_of_table h.0; none = h.1 })

pub input_shape_told : (d : Draft) (bytes : List ℕ) (m file : Members) (fault : TableFault) → m ≡ file → length bytes ≤ MOST_INPUT_BYTES → IsDocument bytes file
    → (fault ≡ table_fault.Memory) ⊎ HasInputsFault m fault → HasInputFileFault d bytes (fault_of_table fault)
input_shape_told d bytes m file fault same few document (inl memory) = out_of_memory (ap fault_of_table memory) few
input_shape_told d bytes m file fault same few document (inr h) =
    wrong_shape (record { few = few; file = file; document = document; wrong = fault; told = refl; stands = subst (λ x. HasInputsFault x fault) same h })

-- what a document's inputs are loaded as
pub checked_told : (d : Draft) (bytes : List ℕ) (m file : Members) (is : List Input) (r : Result (List Input) LoadFault)
    → m ≡ file → length bytes ≤ MOST_INPUT_BYTES → IsDocument bytes file → SaysInputs m is
    → IfOk r (λ checked. checked ≡ is) → IfOk r (AreInputsOf d) → IfErr r (λ fault. (fault ≡ Memory) ⊎ IsFaultOfInputs d is fault) → IsInputLoading d bytes r
checked_told d bytes m file is (Ok checked) same few document says checks known refused =
    let declared : SaysInputFile bytes is = record { few = few; file = file; document = document; says = subst (λ x. SaysInputs x is) same says } in
    (subst (SaysInputFile bytes) (sym checks) declared, known)
checked_told d bytes m file is (Err fault) same few document says checks known (inl memory) = out_of_memory memory few
checked_told d bytes m file is (Err fault) same few document says checks known (inr h) =
    no_inputs (record {
      inputs = is;
      declared = record { few = few; file = file; document = document; says = subst (λ x. SaysInputs x is) same says };
      refused = h;
    })
