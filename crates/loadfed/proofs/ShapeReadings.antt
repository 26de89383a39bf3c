-- What readings of keys say of the parts of a federation.
use Rattle.std.proofs.Common.{◌≡◌, ℕ, List, [], ◌∷◌, map, length, codes, refl, ◌∙◌, arith, Vec, Global}
use Rattle.std.specs.List.{AllZip}
use Rattle.plan.specs.declared.draft.Federate.{Federate}
use Rattle.toml.specs.Data.{Members}
use Rattle.loadfed_tables.specs.declared.fault.TableFault.{TableFault}
use Rattle.loadfed_tables.specs.Tables.{SaysName, SaysTexts, SaysEach}
use Rattle.loadfed.specs.declared.federation_shape.FederateShape.{FederateShape}
use Rattle.std.specs.Prelude.{Result, Ok, Err, IfOk}
use Rattle.loadfed.specs.Shape.{SaysTriggers, SaysFederateName, ProgramDraft, SaysProgram, SaysFederate, SaysFederates}
use Rattle.loadfed_tables.proofs.OneReading.{one_text, one_texts}

pub texts_of_triggers : (m : Members) (ts : List (List ℕ)) → SaysTriggers m ts → (us : List (List ℕ)) × SaysTexts (codes "triggers") m us
texts_of_triggers m ts h = (ts, h.0)

pub no_triggers : (m : Members) (ts : List (List ℕ)) → SaysTexts (codes "triggers") m ts → ts ≡ [] → (us : List (List ℕ)) → SaysTriggers m us → ⊥
no_triggers m ts says empty us h = h.1 (one_texts (codes "triggers") m us ts h.0 says ∙ empty)

pub name_of_federate : (m : Members) (name : List ℕ) → SaysFederateName m name → (n : List ℕ) × SaysName (codes "name") m n
name_of_federate m name h = (name, h.0)

pub no_federate_name : (m : Members) (name : List ℕ) → SaysName (codes "name") m name → name ≡ codes "coordinator" → (n : List ℕ) → SaysFederateName m n → ⊥
no_federate_name m name says is n h = h.1 (one_text (codes "name") m n name h.0.0 says.0 ∙ is)

-- a federate with its program
abbrev pub SaysShape : Members → FederateShape → Type 0
SaysShape members shape = SaysFederate members shape.federate × SaysProgram members shape.program

each_federate : (tables : List Members) (shapes : List FederateShape) → AllZip SaysShape tables shapes → AllZip SaysFederate tables (map (λ s. s.federate) shapes)
each_federate [] [] h = tt
each_federate [] (s ∷ shapes) h = absurd h
each_federate (t ∷ tables) [] h = absurd h
each_federate (t ∷ tables) (s ∷ shapes) h = (h.0.0, each_federate tables shapes h.1)

each_program : (tables : List Members) (shapes : List FederateShape) → AllZip SaysShape tables shapes → AllZip SaysProgram tables (map (λ s. s.program) shapes)
each_program [] [] h = tt
each_program [] (s ∷ shapes) h = absurd h
each_program (t ∷ tables) [] h = absurd h
each_program (t ∷ tables) (s ∷ shapes) h = (h.0.1, each_program tables shapes h.1)

says_federates : (m : Members) (shapes : List FederateShape) → SaysEach SaysShape (codes "federate") m shapes
    → SaysFederates m (map (λ s. s.federate) shapes) (map (λ s. s.program) shapes)
says_federates m shapes says = record {
  tables = says.tables;
  there = says.there;
  each_federate = each_federate says.tables shapes says.each;
  each_program = each_program says.tables shapes says.each;
}

-- federates, parted from their programs
pub federates_parted : (m : Members) (shapes : List FederateShape) (r : Result (List Federate × Vec ProgramDraft Global) TableFault)
    → SaysEach SaysShape (codes "federate") m shapes
    → IfOk r (λ made. (made.0 ≡ map (λ s. s.federate) shapes) × (made.1.items ≡ map (λ s. s.program) shapes))
    → IfOk r (λ made. SaysFederates m made.0 made.1.items)
federates_parted m shapes (Ok made) says parts = rw (parts.0, parts.1) (says_federates m shapes says)
federates_parted m shapes (Err fault) says parts = parts
