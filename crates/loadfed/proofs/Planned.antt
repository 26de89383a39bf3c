-- How faults of the plan and of programs are printed.
use Rattle.std.proofs.Common.{◌≡◌, ◌⊎◌, inl, inr, ℕ, ◌≤◌, length, Some, ap, subst, sym, List, Result, Ok, Err, refl}
use Rattle.std.specs.Prelude.{◌≢◌, slice_get, IfOk, OnOk, IfErr}
use Rattle.toml.specs.Data.{Members}
use Rattle.plan.specs.Legal.{IsLegal}
use Rattle.plan.specs.declared.draft.Federate.{Federate}
use Rattle.plan.specs.declared.draft.Draft.{Draft}
use Rattle.plan.specs.declared.plan_fault.PlanFault.{PlanFault}
use Rattle.plan.specs.declared.plan_fault.PlanFault.TheVariants as plan_fault
use Rattle.plan.specs.Faults.{StandsIn}
use Rattle.plan.specs.Legal.{IsLegal}
use Rattle.reactor_program.specs.declared.program_fault.ProgramFault.{ProgramFault}
use Rattle.reactor_program.specs.declared.program_fault.ProgramFault.TheVariants as program_fault
use Rattle.reactor_program.specs.Behaviour.{Behaviour}
use Rattle.reactor_programs.specs.Programs.{AreProgramsOf}
use Rattle.reactor_program.specs.Spelled.{SpellsProgram, IsFaultOf}
use Rattle.loadfed_tables.specs.declared.fault.TableFault.{TableFault}
use Rattle.loadfed_tables.specs.declared.fault.TableFault.TheVariants as table_fault
use Rattle.loadfed.specs.declared.fault.LoadFault.{LoadFault}
use Rattle.loadfed.specs.declared.fault.LoadFault.TheVariants.{Plan, Program, Memory}
use Rattle.loadfed.specs.Errors.{fault_of_table, fault_of_plan}
use Rattle.loadfed.specs.Shape.{ProgramDraft, SaysFederation}
use Rattle.loadfed_tables.specs.Documents.{IsDocument}
use Rattle.loadfed.specs.declared.federation.TheConstants.{MOST_BYTES}
use Rattle.loadfed.specs.Loaded.{SpellPrograms, SaysDraft, IsFederationFile, IsPlanFault, IsProgramFault, IsFaultAmong, HasLoadFault, out_of_memory, no_document, wrong_shape, illegal_plan, no_program, IsLoading}
use Rattle.loadfed.specs.ShapeFaults.{HasShapeFault}

stands : (d : Draft) (reason : PlanFault) → StandsIn d reason → reason ≢ plan_fault.Memory → (IsLegal d → reason ≡ plan_fault.Memory) → IsPlanFault d (Plan reason)
stands d reason there other only = record { reason = reason; told = refl; not_memory = other; stands = there; illegal = λ h. other (only h) }

-- a fault of the plan, which isn't want of memory, stands against a plan
pub plan_told : (d : Draft) (reason : PlanFault) → StandsIn d reason → (IsLegal d → reason ≡ plan_fault.Memory)
    → (fault_of_plan reason ≡ Memory) ⊎ IsPlanFault d (fault_of_plan reason)
plan_told d plan_fault.NoFederate there only = inr (stands d plan_fault.NoFederate there (λ e. cc) only)
plan_told d (plan_fault.UnknownName p) there only = inr (stands d (plan_fault.UnknownName p) there (λ e. cc) only)
plan_told d (plan_fault.TwoSources p) there only = inr (stands d (plan_fault.TwoSources p) there (λ e. cc) only)
plan_told d plan_fault.OverLimit there only = inr (stands d plan_fault.OverLimit there (λ e. cc) only)
plan_told d plan_fault.BadTimer there only = inr (stands d plan_fault.BadTimer there (λ e. cc) only)
plan_told d plan_fault.Memory there only = inl refl
plan_told d (plan_fault.RepeatedName name) there only = inr (stands d (plan_fault.RepeatedName name) there (λ e. cc) only)
plan_told d (plan_fault.ZeroDelayCycle names) there only = inr (stands d (plan_fault.ZeroDelayCycle names) there (λ e. cc) only)

fails : (f : Federate) (p : ProgramDraft) (reason : ProgramFault) (fault : LoadFault) → reason ≢ program_fault.Memory → fault ≡ Program f.name reason
    → IsFaultOf f.slots p.states p.reactions reason
    → ((b : Behaviour) → SpellsProgram f.slots p.states p.reactions b → reason ≡ program_fault.Memory) → IsProgramFault f p fault
fails f p reason fault other told there only = record { reason = reason; told = told; not_memory = other; stands = there; unspelled = λ b says. other (only b says) }

-- a fault of a program, which isn't want of memory
pub program_told : (f : Federate) (p : ProgramDraft) (reason : ProgramFault) (fault : LoadFault) → IsFaultOf f.slots p.states p.reactions reason
    → ((b : Behaviour) → SpellsProgram f.slots p.states p.reactions b → reason ≡ program_fault.Memory)
    → (fault ≡ Memory) ⊎ (fault ≡ Program f.name reason) → (reason ≡ program_fault.Memory → fault ≡ Memory)
    → (fault ≡ Memory) ⊎ IsProgramFault f p fault
program_told f p reason fault there only (inl memory) none = inl memory
program_told f p program_fault.Memory fault there only (inr told) none = inl (none refl)
program_told f p (program_fault.BadLine r l) fault there only (inr told) none = inr (fails f p (program_fault.BadLine r l) fault (λ e. cc) told there only)
program_told f p (program_fault.UnknownOperand r l) fault there only (inr told) none = inr (fails f p (program_fault.UnknownOperand r l) fault (λ e. cc) told there only)
program_told f p program_fault.RepeatedState fault there only (inr told) none = inr (fails f p program_fault.RepeatedState fault (λ e. cc) told there only)

pub among_told : (fs : List Federate) (ps : List ProgramDraft) (i : ℕ) (f : Federate) (p : ProgramDraft) (fault : LoadFault) → slice_get fs i ≡ Some f → slice_get ps i ≡ Some p
    → (fault ≡ Memory) ⊎ IsProgramFault f p fault → (fault ≡ Memory) ⊎ IsFaultAmong fs ps fault
among_told fs ps i f p fault here there (inl memory) = inl memory
among_told fs ps i f p fault here there (inr h) = inr (record { place = i; federate = f; program = p; federate_is = here; program_is = there; refused = h })

pub among_legal : (d e : Draft) (ps : List ProgramDraft) (fault : LoadFault) → e ≡ d → IsLegal d → (fault ≡ Memory) ⊎ IsFaultAmong e.federates ps fault
    → (fault ≡ Memory) ⊎ (IsPlanFault d fault ⊎ (IsLegal d × IsFaultAmong d.federates ps fault))
among_legal d e ps fault same legal (inl memory) = inl memory
among_legal d e ps fault same legal (inr h) = inr (inr (legal, subst (λ x. IsFaultAmong x.federates ps fault) same h))

-- a file that isn't too long, and is no document
pub table_told : (bytes : List ℕ) (fault : TableFault) → length bytes ≤ MOST_BYTES
    → (fault ≡ table_fault.Memory) ⊎ ((fault ≡ table_fault.NotToml) × ((file : Members) → ¬ (IsDocument bytes file))) → HasLoadFault bytes (fault_of_table fault)
table_told bytes fault few (inl memory) = out_of_memory (ap fault_of_table memory) few
table_told bytes fault few (inr h) = no_document (record { few = few; told = ap fault_of_table h.0; none = h.1 })

pub shape_told : (bytes : List ℕ) (m file : Members) (fault : TableFault) → m ≡ file → length bytes ≤ MOST_BYTES → IsDocument bytes file
    → (fault ≡ table_fault.Memory) ⊎ HasShapeFault m fault → HasLoadFault bytes (fault_of_table fault)
shape_told bytes m file fault same few document (inl memory) = out_of_memory (ap fault_of_table memory) few
shape_told bytes m file fault same few document (inr h) =
    wrong_shape (record { few = few; file = file; document = document; wrong = fault; told = refl; stands = subst (λ x. HasShapeFault x fault) same h })

-- what a document's draft is loaded as
pub loaded_told : (bytes : List ℕ) (m file : Members) (d : Draft) (drafts : List ProgramDraft) (r : Result (Draft × List Behaviour) LoadFault)
    → m ≡ file → length bytes ≤ MOST_BYTES → IsDocument bytes file → SaysFederation m d drafts
    → IfOk r (λ loaded. loaded.0 ≡ d) → OnOk r (IsLegal d) → IfOk r (λ loaded. SpellPrograms d.federates drafts loaded.1) → IfOk r (λ loaded. AreProgramsOf loaded.0 loaded.1)
    → IfErr r (λ fault. (fault ≡ Memory) ⊎ (IsPlanFault d fault ⊎ (IsLegal d × IsFaultAmong d.federates drafts fault))) → IsLoading bytes r
loaded_told bytes m file d drafts (Ok loaded) same few document says plan legal spelled programs refused =
    let declared : SaysDraft bytes d drafts = record { few = few; file = file; document = document; says = subst (λ x. SaysFederation x d drafts) same says } in
    (subst (λ x. IsFederationFile bytes x loaded.1) (sym plan) (record { drafts = drafts; declared = declared; legal = legal; spelled = spelled }), programs)
loaded_told bytes m file d drafts (Err fault) same few document says plan legal spelled programs (inl memory) = out_of_memory memory few
loaded_told bytes m file d drafts (Err fault) same few document says plan legal spelled programs (inr (inl h)) =
    let declared : SaysDraft bytes d drafts = record { few = few; file = file; document = document; says = subst (λ x. SaysFederation x d drafts) same says } in
    illegal_plan (record { draft = d; drafts = drafts; declared = declared; refused = h })
loaded_told bytes m file d drafts (Err fault) same few document says plan legal spelled programs (inr (inr h)) =
    let declared : SaysDraft bytes d drafts = record { few = few; file = file; document = document; says = subst (λ x. SaysFederation x d drafts) same says } in
    no_program (record { draft = d; drafts = drafts; declared = declared; legal = h.0; among = h.1 })
