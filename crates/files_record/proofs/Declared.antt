-- Federations that a file declares.
use Rattle.std.proofs.Common.{ℕ, List, [], ◌∷◌, IsTrue}
use Rattle.std.specs.Prelude.{All}
use Rattle.std.specs.List.{AllZip}
use Rattle.std.proofs.lemmas.List.Elements.{All-cons, All-nil}
use Rattle.toml.specs.Data.{Members}
use Rattle.plan_names.specs.Spelling.{is_name}
use Rattle.plan.specs.declared.draft.Draft.{Draft}
use Rattle.plan.specs.declared.draft.Federate.{Federate}
use Rattle.reactor_program.specs.Behaviour.{Behaviour}
use Rattle.loadfed.specs.Shape.{SaysFederate}
use Rattle.loadfed.specs.Loaded.{IsFederationFile}
use Rattle.files_record.specs.ReadAgain.{IsNamed}

all_named : (tables : List Members) (federates : List Federate) → AllZip SaysFederate tables federates → All (λ f. IsTrue (is_name f.name)) federates
all_named [] [] says = All-nil (λ (f : Federate). IsTrue (is_name f.name))
all_named [] (f ∷ federates) says = absurd says
all_named (table ∷ tables) [] says = absurd says
all_named (table ∷ tables) (f ∷ federates) says =
    All-cons (λ (g : Federate). IsTrue (is_name g.name)) f federates says.0.name_is.0.1 (all_named tables federates says.1)

pub declared_named : (bytes : List ℕ) (d : Draft) (programs : List Behaviour) → IsFederationFile bytes d programs → IsNamed d
declared_named bytes d programs file =
    let federates = file.declared.says.federates_are in
    record { legal = file.legal; federates_named = all_named federates.tables d.federates federates.each_federate }
