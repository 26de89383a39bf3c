-- Files that are saved one after the other.
use Rattle.std.proofs.Common.{◌≡◌, ℕ, ◌+◌, ◌≤◌, List, [], ◌∷◌, ◌++◌, Option, None, Some, refl, subst, add-one, ap, ◌∙◌, arith}
use Rattle.std.specs.Prelude.{◌≢◌, Result, Ok, Err, OnOk, IfErr}
use Rattle.plan.specs.declared.draft.Draft.{Draft}
use Rattle.reactor_program.specs.Behaviour.{Behaviour}
use Rattle.loadfed.specs.Loaded.{IsFederationFile}
use Rattle.files_saving.specs.Contents.{Contents, KnownOf}
use Rattle.files_saving.specs.Saved.{IsCreated}
use Rattle.fedrun_words.specs.declared.fault.Fault.{Fault}
use Rattle.fedrun_files.specs.Contents.{AreBytesOf}
use Rattle.expand_source.specs.declared.part.Given.{Given}
use Rattle.expand_federation.specs.Made.{IsFederationText, IsFederationOf}
use Rattle.fedrun_expand.specs.declared.fault.ExpandFailure.{ExpandFailure}
use Rattle.fedrun_expand.specs.declared.words.EachRequest.{EachRequest}
use Rattle.fedrun_expand.specs.Faults.{status_of}
use Rattle.fedrun_expand.specs.Saved.{comment_text, file_name, value_at, IsUnmarked, IsFileFor, IsNamedFile, IsOneSaved, AreSaved, SavesFile, SavesEach}

-- a text behind its comment, which was loaded as a slice
pub file_for : (source made slice rest text bytes : List ℕ) (values : List Given) (d : Draft) (programs : List Behaviour) → IsFederationOf source values made → slice ≡ made
    → IsUnmarked slice rest → text ≡ comment_text values ++ rest → bytes ≡ text → IsFederationFile bytes d programs → IsFileFor source values text
file_for source made slice rest text bytes values d programs is same bare written lent file =
    (made, rest, is, subst (λ m. IsUnmarked m rest) same bare, written, subst IsFederationText lent (d, programs, file))

-- the file for values that are handed on as a slice
pub named_for : (source : List ℕ) (given values slice : List Given) (each : EachRequest) (k : ℕ) (value : Given) (name text : List ℕ) → values ≡ given ++ value_at each k ∷ [] → slice ≡ values
    → value ≡ value_at each k → name ≡ file_name each.folder.now value → IsFileFor source slice text → IsNamedFile source given each k name text
named_for source given values slice each k value name text are same is named file =
    (named ∙ ap (file_name each.folder.now) is, subst (λ vs. IsFileFor source vs text) (same ∙ are) file)

-- none is saved yet
pub none_saved : (source : List ℕ) (given : List Given) (each : EachRequest) (before : Option Contents) → KnownOf before before (AreSaved source given each 0)
none_saved source given each None = tt
none_saved source given each (Some before) = refl

-- one more
pub one_more_saved : (source : List ℕ) (given : List Given) (each : EachRequest) (k : ℕ) (before between after : Option Contents) → KnownOf before between (AreSaved source given each k)
    → KnownOf between after (IsOneSaved source given each k) → KnownOf before after (AreSaved source given each (k + 1))
one_more_saved source given each k None between after so_far this = tt
one_more_saved source given each k (Some before) None after so_far this = absurd so_far
one_more_saved source given each k (Some before) (Some between) None so_far this = absurd this
one_more_saved source given each k (Some before) (Some between) (Some after) so_far this = rw add-one (between, so_far, this)

pub all_saved : (source : List ℕ) (given : List Given) (each : EachRequest) (k : ℕ) (before after : Option Contents) → k ≤ each.range.count → each.range.count ≤ k
    → KnownOf before after (AreSaved source given each k) → KnownOf before after (AreSaved source given each each.range.count)
all_saved source given each k before after most least h =
    let all : k ≡ each.range.count = omega arith in
    subst (λ n. KnownOf before after (AreSaved source given each n)) all h

-- a file that was made is that for a value
named_created : (source : List ℕ) (given : List Given) (each : EachRequest) (k : ℕ) (name text : List ℕ) (before after : Option Contents) → IsNamedFile source given each k name text
    → KnownOf before after (IsCreated name text) → KnownOf before after (IsOneSaved source given each k)
named_created source given each k name text None after named made = tt
named_created source given each k name text (Some before) None named made = absurd made
named_created source given each k name text (Some before) (Some after) named made = (name, text, named, made)

pub one_saved : {X E : Type 0} (r : Result X E) (source : List ℕ) (given : List Given) (each : EachRequest) (k : ℕ) (name text : List ℕ) (before after : Option Contents)
    → IsNamedFile source given each k name text → OnOk r (KnownOf before after (IsCreated name text)) → OnOk r (KnownOf before after (IsOneSaved source given each k))
one_saved (Ok x) source given each k name text before after named made = named_created source given each k name text before after named made
one_saved (Err e) source given each k name text before after named made = tt

-- the source's bytes, handed on as a slice
pub file_saved : {X E : Type 0} (r : Result X E) (known : Option (List ℕ)) (bytes slice : List ℕ) (given : List Given) (each : EachRequest) (before after : Option Contents)
    → AreBytesOf known bytes → slice ≡ bytes → OnOk r (KnownOf before after (AreSaved slice given each each.range.count)) → OnOk r (SavesFile known given each before after)
file_saved (Ok x) known bytes slice given each before after are same saved =
    (bytes, are, subst (λ b. KnownOf before after (AreSaved b given each each.range.count)) same saved)
file_saved (Err e) known bytes slice given each before after are same saved = tt

-- what comes once something is saved has status 3
pub saved_late : {X : Type 0} (P : Type 0) (r : Result X (Fault ExpandFailure)) → IfErr r (λ fault. status_of fault ≡ 3) → IfErr r (λ fault. status_of fault ≢ 3 → P)
saved_late P (Ok x) is = tt
saved_late P (Err fault) is = λ other. absurd (other is)

pub some_saved : {X E : Type 0} (r : Result X E) (contents : List ℕ → Option (List ℕ)) (name : List ℕ) (given : List Given) (each : EachRequest) (before after : Option Contents)
    → OnOk r (SavesFile (contents name) given each before after) → OnOk r (SavesEach contents before after)
some_saved (Ok x) contents name given each before after saved = (name, given, each, saved)
some_saved (Err e) contents name given each before after saved = tt
