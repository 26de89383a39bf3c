-- What a federation file's bytes are, and what stands against them, stage by stage.
use Rattle.std.specs.Prelude.{◌≡◌, ◌≢◌, ℕ, ◌<◌, ◌≤◌, List, [], ◌∷◌, length, slice_get, Some, Result, MatchResult}
use Rattle.toml.specs.Data.{Members}
use Rattle.plan.specs.declared.draft.Federate.{Federate}
use Rattle.plan.specs.declared.draft.Draft.{Draft}
use Rattle.plan.specs.declared.plan_fault.PlanFault.{PlanFault}
use Rattle.plan.specs.declared.plan_fault.PlanFault.TheVariants as plan_fault
use Rattle.plan.specs.Legal.{IsLegal}
use Rattle.plan.specs.Faults.{StandsIn}
use Rattle.reactor_program.specs.declared.program_fault.ProgramFault.{ProgramFault}
use Rattle.reactor_program.specs.declared.program_fault.ProgramFault.TheVariants as program_fault
use Rattle.reactor_program.specs.Behaviour.{Behaviour}
use Rattle.reactor_programs.specs.Programs.{AreProgramsOf}
use Rattle.reactor_program.specs.Spelled.{SpellsProgram, IsFaultOf}
use Rattle.loadfed_tables.specs.declared.fault.TableFault.{TableFault}
use Rattle.loadfed.specs.declared.fault.LoadFault.{LoadFault}
use Rattle.loadfed.specs.declared.fault.LoadFault.TheVariants.{NotToml, Plan, Program, OverLimit, Memory}
use Rattle.loadfed_tables.specs.Documents.{IsDocument}
use Rattle.loadfed.specs.declared.federation.TheConstants.{MOST_BYTES}
use Rattle.loadfed.specs.Errors.{fault_of_table}
use Rattle.loadfed.specs.Shape.{ProgramDraft, SaysFederation}
use Rattle.loadfed.specs.ShapeFaults.{HasShapeFault}

-- each program is what its federate's states and reactions spell
abbrev pub SpellPrograms : List Federate → List ProgramDraft → List Behaviour → Type 0
SpellPrograms [] [] [] = Unit {0}
SpellPrograms (f ∷ federates) (p ∷ drafts) (b ∷ programs) =
    SpellsProgram f.slots p.states p.reactions b × SpellPrograms federates drafts programs
SpellPrograms _ _ _ = ⊥

-- a file that isn't too long declares this draft, and these programs
pub record SaysDraft (bytes : List ℕ) (d : Draft) (drafts : List ProgramDraft) : Type 0 where
  pub few : length bytes ≤ MOST_BYTES
  pub file : Members
  pub document : IsDocument bytes file
  pub says : SaysFederation file d drafts

-- a file that is a federation with these programs
pub record IsFederationFile (bytes : List ℕ) (d : Draft) (programs : List Behaviour) : Type 0 where
  pub drafts : List ProgramDraft
  pub declared : SaysDraft bytes d drafts
  pub legal : IsLegal d
  pub spelled : SpellPrograms d.federates drafts programs

-- more bytes than there may be
pub record IsTooLong (most : ℕ) (bytes : List ℕ) (fault : LoadFault) : Type 0 where
  pub told : fault ≡ OverLimit
  pub long : most < length bytes

-- few enough, but no TOML document
pub record IsNoDocument (most : ℕ) (bytes : List ℕ) (fault : LoadFault) : Type 0 where
  pub few : length bytes ≤ most
  pub told : fault ≡ NotToml
  pub none : (file : Members) → IsDocument bytes file → ⊥

-- a document with a fault in its tables
pub record HasFileFault (Has : Members → TableFault → Type 0) (most : ℕ) (bytes : List ℕ)
    (fault : LoadFault) : Type 0 where
  pub few : length bytes ≤ most
  pub file : Members
  pub document : IsDocument bytes file
  pub wrong : TableFault
  pub told : fault ≡ fault_of_table wrong
  pub stands : Has file wrong

-- the draft isn't legal, for this reason, which isn't want of memory
pub record IsPlanFault (d : Draft) (fault : LoadFault) : Type 0 where
  pub reason : PlanFault
  pub told : fault ≡ Plan reason
  pub not_memory : reason ≢ plan_fault.Memory
  pub stands : StandsIn d reason
  pub illegal : ¬ IsLegal d

-- the file declares a draft that isn't legal, for this reason
pub record HasPlanFault (bytes : List ℕ) (fault : LoadFault) : Type 0 where
  pub draft : Draft
  pub drafts : List ProgramDraft
  pub declared : SaysDraft bytes draft drafts
  pub refused : IsPlanFault draft fault

-- a federate's states and reactions spell no program, for this reason, which isn't want of memory
pub record IsProgramFault (f : Federate) (p : ProgramDraft) (fault : LoadFault) : Type 0 where
  pub reason : ProgramFault
  pub told : fault ≡ Program f.name reason
  pub not_memory : reason ≢ program_fault.Memory
  pub stands : IsFaultOf f.slots p.states p.reactions reason
  pub unspelled : (b : Behaviour) → ¬ (SpellsProgram f.slots p.states p.reactions b)

-- one of these federates has states and reactions that spell no program, for this reason
pub record IsFaultAmong (federates : List Federate) (drafts : List ProgramDraft) (fault : LoadFault) : Type 0 where
  pub place : ℕ
  pub federate : Federate
  pub program : ProgramDraft
  pub federate_is : slice_get federates place ≡ Some federate
  pub program_is : slice_get drafts place ≡ Some program
  pub refused : IsProgramFault federate program fault

-- the file declares a legal draft, of which one federate's states and reactions spell no program, for this reason
pub record HasProgramFault (bytes : List ℕ) (fault : LoadFault) : Type 0 where
  pub draft : Draft
  pub drafts : List ProgramDraft
  pub declared : SaysDraft bytes draft drafts
  pub legal : IsLegal draft
  pub among : IsFaultAmong draft.federates drafts fault

-- what stands against a federation file; each stage says that those before it found no fault
pub data HasLoadFault (bytes : List ℕ) (fault : LoadFault) : Type 0 where
  -- there was no memory for a file that isn't too long
  out_of_memory : fault ≡ Memory → length bytes ≤ MOST_BYTES → HasLoadFault bytes fault
  -- it has more bytes than it may have
  too_long : IsTooLong MOST_BYTES bytes fault → HasLoadFault bytes fault
  -- it is no TOML document
  no_document : IsNoDocument MOST_BYTES bytes fault → HasLoadFault bytes fault
  -- its tables don't declare a federation
  wrong_shape : HasFileFault HasShapeFault MOST_BYTES bytes fault → HasLoadFault bytes fault
  -- the federation that it declares isn't legal
  illegal_plan : HasPlanFault bytes fault → HasLoadFault bytes fault
  -- the federation is legal, and what one of its federates declares is no program
  no_program : HasProgramFault bytes fault → HasLoadFault bytes fault

-- what loading a federation file answers: the federation that it is, with its programs, or why it is none
abbrev pub IsLoading : List ℕ → Result (Draft × List Behaviour) LoadFault → Type 0
IsLoading bytes result =
    MatchResult result (λ loaded. IsFederationFile bytes loaded.0 loaded.1 × AreProgramsOf loaded.0 loaded.1)
    (HasLoadFault bytes)
