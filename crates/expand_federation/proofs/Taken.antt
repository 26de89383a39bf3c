-- What becomes of a source, whether it is a federation file or not.
use Rattle.std.proofs.Common.{◌≡◌, ℕ, List, [], ◌∷◌, length, refl, sym, subst, inl, inr, arith}
use Rattle.std.specs.Prelude.{◌≢◌, Result, Ok, Err, IfOk, IfErr, OnOk}
use Rattle.toml.specs.Data.{Members}
use Rattle.plan.specs.declared.draft.Draft.{Draft}
use Rattle.reactor_program.specs.Behaviour.{Behaviour}
use Rattle.loadfed_tables.specs.Documents.{IsDocument}
use Rattle.loadfed.specs.Loaded.{IsFederationFile}
use Rattle.loadfed.specs.declared.fault.LoadFault.{LoadFault}
use Rattle.loadfed.specs.declared.fault.LoadFault.TheVariants as load_fault
use Rattle.expand_source.specs.declared.part.Given.{Given}
use Rattle.expand_documents.specs.Documents.{IsExpansionOf}
use Rattle.expand_federation.specs.declared.fault.ExpandFault.{ExpandFault}
use Rattle.expand_federation.specs.declared.fault.ExpandFault.TheVariants as expand_fault
use Rattle.expand_federation.specs.declared.federation.Federation.{Federation}
use Rattle.expand_federation.specs.Bodies.{IsWithBodies}
use Rattle.expand_federation.specs.Made.{IsFederationText, IsMadeOf, IsFederationOf}

pub of_own : (source : List ℕ) (given : List Given) (text : List ℕ) (d : Draft) (programs : List Behaviour) → IsFederationFile source d programs → text ≡ source → given ≡ []
    → IsFederationOf source given text
of_own source given text d programs file same none = record {
  taken = subst IsFederationText (sym same) (d, programs, file);
  own = λ _ _ _. same;
  made = inl (same, none);
}

pub of_other : (source : List ℕ) (given : List Given) (text : List ℕ) (fault : LoadFault) → fault ≢ load_fault.Memory
    → ((d : Draft) (programs : List Behaviour) → IsFederationFile source d programs → fault ≡ load_fault.Memory)
    → IsMadeOf source given text → IsFederationText text → IsFederationOf source given text
of_other source given text fault other only made taken = record {
  taken = taken;
  own = λ d programs file. absurd (other (only d programs file));
  made = inr made;
}

-- what is answered of a federation file
pub own_answered : {E : Type 0} (source : List ℕ) (given : List Given) (d : Draft) (programs : List Behaviour) (r : Result Federation E) → IsFederationFile source d programs
    → IfOk r (λ made. made.text.items ≡ source) → OnOk r (given ≡ []) → IfOk r (λ made. IsFederationOf source given made.text.items)
own_answered source given d programs (Ok made) file same none = of_own source given made.text.items d programs file same none
own_answered source given d programs (Err e) file same none = tt

-- without values only memory lacks
pub own_accepted : {X : Type 0} (given : List Given) (r : Result X ExpandFault) → IfErr r (λ fault. given ≡ [] → fault ≡ expand_fault.Memory) → given ≡ []
    → IfErr r (λ fault. fault ≡ expand_fault.Memory)
own_accepted given (Ok x) refused none = tt
own_accepted given (Err fault) refused none = refused none

pub none_given : (given : List Given) → length given ≡ 0 → given ≡ []
none_given [] none = refl
none_given (one ∷ given) none = absurd (omega arith)

-- a federation file isn't refused but for want of memory
pub other_accepted : {X : Type 0} (fault : LoadFault) (r : Result X ExpandFault) → fault ≡ load_fault.Memory → fault ≢ load_fault.Memory → IfErr r (λ fault. fault ≡ expand_fault.Memory)
other_accepted fault r lacks other = absurd (other lacks)

-- what is answered of a source that was refused as one, but for want of memory
pub other_answered : {E : Type 0} (source : List ℕ) (given : List Given) (fault : LoadFault) (r : Result Federation E)
    → ((d : Draft) (programs : List Behaviour) → IsFederationFile source d programs → fault ≡ load_fault.Memory) → fault ≢ load_fault.Memory
    → IfOk r (λ made. IsMadeOf source given made.text.items) → IfOk r (λ made. IsFederationText made.text.items)
    → IfOk r (λ made. IsFederationOf source given made.text.items)
other_answered source given fault (Ok federation) only other made taken = of_other source given federation.text.items fault other only made taken
other_answered source given fault (Err e) only other made taken = tt

-- a text whose document was compared with the source's, with both handed on as they are
pub made_of : {X E : Type 0} (r : Result X E) (source : List ℕ) (given : List Given) (text : List ℕ) (before filled after : Members) → IsDocument source before
    → IsExpansionOf given before filled → IsDocument text after → OnOk r (IsWithBodies filled after) → OnOk r (IsMadeOf source given text)
made_of (Ok x) source given text before filled after source_is expanded text_is with_bodies = record {
  before = before;
  filled = filled;
  after = after;
  source_is = source_is;
  expanded = expanded;
  with_bodies = with_bodies;
  text_is = text_is;
}
made_of (Err e) source given text before filled after source_is expanded text_is with_bodies = tt

-- a text that was loaded as a slice
pub taken_of : (slice text : List ℕ) (d : Draft) (programs : List Behaviour) → slice ≡ text → IsFederationFile slice d programs → IsFederationText text
taken_of slice text d programs same file = subst IsFederationText same (d, programs, file)
