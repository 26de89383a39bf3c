-- What a source becomes.
use Rattle.std.specs.Prelude.{◌≡◌, ℕ, ◌⊎◌, List, []}
use Rattle.toml.specs.Data.{Members}
use Rattle.plan.specs.declared.draft.Draft.{Draft}
use Rattle.reactor_program.specs.Behaviour.{Behaviour}
use Rattle.loadfed_tables.specs.Documents.{IsDocument}
use Rattle.loadfed.specs.Loaded.{IsFederationFile}
use Rattle.expand_source.specs.declared.part.Given.{Given}
use Rattle.expand_documents.specs.Documents.{IsExpansionOf}
use Rattle.expand_federation.specs.Bodies.{IsWithBodies}

-- a text is a federation file
abbrev pub IsFederationText : List ℕ → Type 0
IsFederationText text = (d : Draft) × (programs : List Behaviour) × IsFederationFile text d programs

-- the text's document is what the source's becomes with these values of its parameters: first its federates and
-- connections, as often as each stands there, with all braces filled, and then their bodies
pub record IsMadeOf (source : List ℕ) (given : List Given) (text : List ℕ) : Type 0 where
  pub before : Members
  pub filled : Members
  pub after : Members
  pub source_is : IsDocument source before
  pub expanded : IsExpansionOf given before filled
  pub with_bodies : IsWithBodies filled after
  pub text_is : IsDocument text after

-- what a source becomes with these values of its parameters: a federation file, and itself where it is one already
pub record IsFederationOf (source : List ℕ) (given : List Given) (text : List ℕ) : Type 0 where
  pub taken : IsFederationText text
  pub own : (d : Draft) (programs : List Behaviour) → IsFederationFile source d programs → text ≡ source
  pub made : ((text ≡ source) × (given ≡ [])) ⊎ IsMadeOf source given text
