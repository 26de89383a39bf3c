-- A report agrees with the loader.
use Rattle.std.proofs.Common.{◌≡◌, ℕ, List, Option, None, Some, Result, Ok, Err, refl, subst, sym, inl, inr}
use Rattle.std.specs.Prelude.{◌≢◌, ◌⊎◌, IfOk, IsSome, MatchOption}
use Rattle.plan.specs.declared.draft.Draft.{Draft}
use Rattle.plan.specs.declared.input.Input.{Input}
use Rattle.plan.specs.External.{AreInputsOf}
use Rattle.reactor_program.specs.Behaviour.{Behaviour}
use Rattle.loadfed.specs.declared.fault.LoadFault.{LoadFault}
use Rattle.loadfed.specs.declared.fault.LoadFault.TheVariants.{UnknownAction, RepeatedInput, OverLimit, Memory}
use Rattle.loadfed_tables.specs.declared.fault.TableFault.{TableFault}
use Rattle.loadfed_tables.specs.declared.fault.TableFault.TheVariants as table_fault
use Rattle.loadfed.specs.Errors.{fault_of_table}
use Rattle.loadfed.specs.Loaded.{IsFederationFile, HasLoadFault}
use Rattle.loadfed.specs.InputShape.{SaysInputFile, HasInputFileFault, IsFaultOfInputs, out_of_memory, too_long, no_document, wrong_shape, no_inputs, unknown_action, repeated_input, too_many}
use Rattle.loadfed.proofs.Accepted.{one_federation_draft}
use Rattle.loadfed.proofs.InputReadings.{same_inputs, inputs_accepted}
use Rattle.fedrun_lint_findings.specs.declared.refusal.Refusal.{Refusal}
use Rattle.fedrun_lint.specs.declared.report.Report.{Report}
use Rattle.fedrun_lint.specs.Reports.{IsFirst, IsRefused, AreRecorded, AreRefused, RecordsNone, AgreesOnInputs, RecordsSome, HasShapeFault, of_length, of_text, of_tables, of_count, IsRefusedForShape, AgreesOnShape, IsReportOfTaken, IsReportOfRefused, IsReport}
use Rattle.fedrun_lint.specs.Answered.{IsReportOn, AreTaken, AreRight}

taken_alone : (federation inputs : List ℕ) (d : Draft) (programs : List Behaviour) (refused more : Option Refusal) → refused ≡ None
    → IsFederationFile federation d programs → AgreesOnInputs d inputs more → MatchOption refused (IsReportOfTaken federation inputs more) (IsReportOfRefused federation inputs more)
taken_alone federation inputs d programs None more is file agrees = record { draft = d; programs = programs; taken = file; agrees = agrees }
taken_alone federation inputs d programs (Some r) more is file agrees = let no : ⊥ = cc in absurd no

-- the report of a federation that is taken
pub of_taken : {E : Type 0} (federation inputs : List ℕ) (d : Draft) (programs : List Behaviour) (r : Result Report E) → IsFederationFile federation d programs
    → IfOk r (λ report. report.federation ≡ None) → IfOk r (λ report. AgreesOnInputs d inputs report.inputs) → IfOk r (IsReport federation inputs)
of_taken federation inputs d programs (Ok report) file is agrees = taken_alone federation inputs d programs report.federation report.inputs is file agrees
of_taken federation inputs d programs (Err e) file is agrees = tt

-- a refusal of a federation file whose first fault is this one
pub federation_refused : (federation : List ℕ) (fault : LoadFault) (refusal : Refusal) → refusal.first.fault ≡ fault → HasLoadFault federation fault → fault ≢ Memory
    → ((d : Draft) (programs : List Behaviour) → IsFederationFile federation d programs → fault ≡ Memory) → IsRefused federation refusal
federation_refused federation fault refusal first stands other only =
    record {
      first = subst (HasLoadFault federation) (sym first) stands;
      not_memory = subst (λ x. x ≢ Memory) (sym first) other;
      none = λ d programs file. other (only d programs file);
    }

refused_alone : (federation inputs : List ℕ) (fault : LoadFault) (refused more : Option Refusal) → IsFirst fault refused → HasLoadFault federation fault → fault ≢ Memory
    → ((d : Draft) (programs : List Behaviour) → IsFederationFile federation d programs → fault ≡ Memory) → AgreesOnShape inputs more
    → MatchOption refused (IsReportOfTaken federation inputs more) (IsReportOfRefused federation inputs more)
refused_alone federation inputs fault None more first stands other only agrees = absurd first
refused_alone federation inputs fault (Some r) more first stands other only agrees =
    record { refused = federation_refused federation fault r first stands other only; agrees = agrees }

-- the report of a file that is refused as a federation
pub of_refused : {E : Type 0} (federation inputs : List ℕ) (fault : LoadFault) (r : Result Report E) → HasLoadFault federation fault → fault ≢ Memory
    → ((d : Draft) (programs : List Behaviour) → IsFederationFile federation d programs → fault ≡ Memory)
    → IfOk r (λ report. IsFirst fault report.federation) → IfOk r (λ report. AgreesOnShape inputs report.inputs) → IfOk r (IsReport federation inputs)
of_refused federation inputs fault (Ok report) stands other only first agrees =
    refused_alone federation inputs fault report.federation report.inputs first stands other only agrees
of_refused federation inputs fault (Err e) stands other only first agrees = tt

-- a refusal of recorded inputs whose first fault is this one
pub inputs_refused : (d : Draft) (bytes : List ℕ) (fault : LoadFault) (refusal : Refusal) → refusal.first.fault ≡ fault → HasInputFileFault d bytes fault → fault ≢ Memory
    → ((inputs : List Input) → SaysInputFile bytes inputs → AreInputsOf d inputs → fault ≡ Memory) → AreRefused d bytes refusal
inputs_refused d bytes fault refusal first stands other only =
    record {
      first = subst (HasInputFileFault d bytes) (sym first) stands;
      not_memory = subst (λ x. x ≢ Memory) (sym first) other;
      none = λ inputs says are. other (only inputs says are);
    }

fault_stands_everywhere : (d e : Draft) (bytes : List ℕ) (fault : LoadFault) (inputs : List Input) → HasInputFileFault d bytes fault → fault ≢ UnknownAction → fault ≢ RepeatedInput
    → SaysInputFile bytes inputs → AreInputsOf e inputs → fault ≡ Memory
fault_stands_everywhere d e bytes fault inputs (out_of_memory memory few) known apart says are = memory
fault_stands_everywhere d e bytes fault inputs (too_long h) known apart says are = inputs_accepted e bytes (Err fault) (too_long h) inputs says are
fault_stands_everywhere d e bytes fault inputs (no_document h) known apart says are = inputs_accepted e bytes (Err fault) (no_document h) inputs says are
fault_stands_everywhere d e bytes fault inputs (wrong_shape h) known apart says are = inputs_accepted e bytes (Err fault) (wrong_shape h) inputs says are
fault_stands_everywhere d e bytes fault inputs (no_inputs h) known apart says are =
    let refused : IsFaultOfInputs d inputs fault = subst (λ x. IsFaultOfInputs d x fault) (same_inputs bytes h.inputs inputs h.declared says) h.refused in
    elim refused [
      | unknown_action told unknown ↦ absurd (known told)
      | repeated_input told all repeated ↦ absurd (apart told)
      | too_many told all single many ↦ absurd (many are.few)
    ]

-- a file of recorded inputs with a fault that isn't of its federation records inputs of none
records_none : (d : Draft) (bytes : List ℕ) (fault : LoadFault) → HasInputFileFault d bytes fault → fault ≢ Memory → fault ≢ UnknownAction → fault ≢ RepeatedInput → RecordsNone bytes
records_none d bytes fault stands other known apart =
    λ e inputs says are. other (fault_stands_everywhere d e bytes fault inputs stands known apart says are)

-- what is answered of inputs whose actions aren't there, or have two at one tag, isn't answered of tables
no_table_fault : (wrong : TableFault) (fault : LoadFault) → fault ≡ fault_of_table wrong → (fault ≡ UnknownAction) ⊎ (fault ≡ RepeatedInput) → ⊥
no_table_fault table_fault.NotToml fault told (inl unknown) = cc
no_table_fault table_fault.NotToml fault told (inr repeated) = cc
no_table_fault (table_fault.WrongShape key) fault told (inl unknown) = cc
no_table_fault (table_fault.WrongShape key) fault told (inr repeated) = cc
no_table_fault table_fault.OverLimit fault told (inl unknown) = cc
no_table_fault table_fault.OverLimit fault told (inr repeated) = cc
no_table_fault table_fault.Memory fault told (inl unknown) = cc
no_table_fault table_fault.Memory fault told (inr repeated) = cc

-- a file of which that is answered records inputs
pub records_some : (d : Draft) (bytes : List ℕ) (fault : LoadFault) → HasInputFileFault d bytes fault → (fault ≡ UnknownAction) ⊎ (fault ≡ RepeatedInput) → RecordsSome bytes
records_some d bytes fault (out_of_memory memory few) is = absurd (no_table_fault table_fault.Memory fault memory is)
records_some d bytes fault (too_long h) is = absurd (no_table_fault table_fault.OverLimit fault h.told is)
records_some d bytes fault (no_document h) is = absurd (no_table_fault table_fault.NotToml fault h.told is)
records_some d bytes fault (wrong_shape h) is = absurd (no_table_fault h.wrong fault h.told is)
records_some d bytes fault (no_inputs h) is = record { inputs = h.inputs; says = h.declared }

-- and so does one whose inputs are taken
pub taken_are_some : (d : Draft) (bytes : List ℕ) (inputs : List Input) → SaysInputFile bytes inputs × AreInputsOf d inputs → RecordsSome bytes
taken_are_some d bytes inputs is = record { inputs = inputs; says = is.0 }

-- any other fault is one of the shape
shape_fault : (d : Draft) (bytes : List ℕ) (fault : LoadFault) → HasInputFileFault d bytes fault → fault ≢ Memory → fault ≢ UnknownAction → fault ≢ RepeatedInput → HasShapeFault bytes fault
shape_fault d bytes fault (out_of_memory memory few) other known apart = absurd (other memory)
shape_fault d bytes fault (too_long h) other known apart = of_length h
shape_fault d bytes fault (no_document h) other known apart = of_text h
shape_fault d bytes fault (wrong_shape h) other known apart = of_tables h
shape_fault d bytes fault (no_inputs h) other known apart =
    elim h.refused [
      | unknown_action told unknown ↦ absurd (known told)
      | repeated_input told all repeated ↦ absurd (apart told)
      | too_many told all single many ↦ of_count told h.inputs h.declared many
    ]

-- a refusal of recorded inputs for their shape, whose first fault is this one
pub shape_refused : (d : Draft) (bytes : List ℕ) (fault : LoadFault) (refusal : Refusal) → refusal.first.fault ≡ fault → HasInputFileFault d bytes fault → fault ≢ Memory → fault ≢ UnknownAction
    → fault ≢ RepeatedInput → IsRefusedForShape bytes refusal
shape_refused d bytes fault refusal first stands other known apart =
    record {
      first = subst (HasShapeFault bytes) (sym first) (shape_fault d bytes fault stands other known apart);
      not_memory = subst (λ x. x ≢ Memory) (sym first) other;
      none = records_none d bytes fault stands other known apart;
    }

-- what is refused isn't right, of two files that aren't too long
wrong_of_both : (federation inputs : List ℕ) (refused more : Option Refusal) → MatchOption refused (IsReportOfTaken federation inputs more) (IsReportOfRefused federation inputs more)
    → IsSome refused ⊎ IsSome more → AreTaken federation inputs → ⊥
wrong_of_both federation inputs (Some r) more is some right = is.refused.none right.draft right.programs right.taken
wrong_of_both federation inputs None (Some r) is some right =
    let same : right.draft ≡ is.draft = one_federation_draft federation right.draft is.draft right.programs is.programs right.taken is.taken in
    let recorded : AreRecorded is.draft inputs = subst (λ d. AreRecorded d inputs) same right.recorded in
    is.agrees.none recorded.0 recorded.1 recorded.2
wrong_of_both federation inputs None None is (inl some) right = cc
wrong_of_both federation inputs None None is (inr some) right = cc

-- and what isn't right is refused
refused_of_both : (federation inputs : List ℕ) (refused more : Option Refusal) → MatchOption refused (IsReportOfTaken federation inputs more) (IsReportOfRefused federation inputs more)
    → (AreTaken federation inputs → ⊥) → IsSome refused ⊎ IsSome more
refused_of_both federation inputs (Some r) more is wrong = inl refl
refused_of_both federation inputs None (Some r) is wrong = inr refl
refused_of_both federation inputs None None is wrong =
    absurd (wrong (record { draft = is.draft; programs = is.programs; taken = is.taken; recorded = is.agrees }))

-- where there is a first fault, something is refused
pub refused_first : (fault : LoadFault) (refused : Option Refusal) → IsFirst fault refused → IsSome refused
refused_first fault None first = absurd first
refused_first fault (Some r) first = refl

-- what is refused isn't right
pub wrong_where_refused : (federation inputs : Option (List ℕ)) (report : Report) → IsReportOn federation inputs report
    → IsSome report.federation ⊎ IsSome report.inputs → AreRight federation inputs → ⊥
wrong_where_refused None inputs report is some right = right
wrong_where_refused (Some federation) None report is some right = right
wrong_where_refused (Some federation) (Some inputs) report is some right = wrong_of_both federation inputs report.federation report.inputs is some right

-- and what isn't right is refused
pub refused_where_wrong : (federation inputs : Option (List ℕ)) (report : Report) → IsReportOn federation inputs report
    → (AreRight federation inputs → ⊥) → IsSome report.federation ⊎ IsSome report.inputs
refused_where_wrong None inputs report is wrong = inl (refused_first OverLimit report.federation is.0)
refused_where_wrong (Some federation) None report is wrong = inr (refused_first OverLimit report.inputs is.1)
refused_where_wrong (Some federation) (Some inputs) report is wrong = refused_of_both federation inputs report.federation report.inputs is wrong
