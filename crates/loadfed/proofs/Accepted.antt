-- A file is one federation at most, and is then refused only for want of memory.
use Rattle.std.proofs.Common.{◌≡◌, ℕ, zero, suc, Result, Ok, Err, List, [], ◌∷◌, Some, refl, sym, ap, ◌∙◌, subst, arith}
use Rattle.std.specs.Prelude.{slice_get, IfErr}
use Rattle.toml.specs.Data.{Members}
use Rattle.plan.specs.declared.draft.Federate.{Federate}
use Rattle.plan.specs.declared.draft.Draft.{Draft}
use Rattle.plan.specs.Legal.{IsLegal}
use Rattle.reactor_program.specs.Behaviour.{Behaviour}
use Rattle.reactor_program.specs.Spelled.{SpellsProgram}
use Rattle.reactor_program.proofs.OneReading.{one_program}
use Rattle.loadfed.specs.declared.fault.LoadFault.{LoadFault}
use Rattle.loadfed.specs.declared.fault.LoadFault.TheVariants.{Memory}
use Rattle.loadfed.specs.Shape.{ProgramDraft, SaysFederation}
use Rattle.loadfed.specs.ShapeFaults.{HasShapeFault}
use Rattle.loadfed_tables.specs.Documents.{IsDocument}
use Rattle.loadfed.specs.Loaded.{SpellPrograms, SaysDraft, IsFederationFile, IsFaultAmong, HasLoadFault, out_of_memory, too_long, no_document, wrong_shape, illegal_plan, no_program, IsLoading}
use Rattle.loadfed.proofs.OneReading.{one_draft, one_program_list}
use Rattle.loadfed.proofs.NoFault.{no_shape_fault}

pub one_document : (bytes : List ℕ) (m n : Members) → IsDocument bytes m → IsDocument bytes n → m ≡ n
one_document bytes m n h k = let e : Some m ≡ Some n = sym h.parsed ∙ k.parsed in cc

same_file : (bytes : List ℕ) (d e : Draft) (ps qs : List ProgramDraft) (h : SaysDraft bytes d ps) (k : SaysDraft bytes e qs) → SaysFederation h.file e qs
same_file bytes d e ps qs h k = subst (λ m. SaysFederation m e qs) (one_document bytes k.file h.file k.document h.document) k.says

pub same_draft : (bytes : List ℕ) (d e : Draft) (ps qs : List ProgramDraft) → SaysDraft bytes d ps → SaysDraft bytes e qs → d ≡ e
same_draft bytes d e ps qs h k = one_draft h.file d e ps qs h.says (same_file bytes d e ps qs h k)

pub same_programs : (bytes : List ℕ) (d e : Draft) (ps qs : List ProgramDraft) → SaysDraft bytes d ps → SaysDraft bytes e qs → ps ≡ qs
same_programs bytes d e ps qs h k =
    one_program_list h.file d.federates e.federates ps qs h.says.federates_are (same_file bytes d e ps qs h k).federates_are

one_spelled : (fs : List Federate) (ps : List ProgramDraft) (bs cs : List Behaviour) → SpellPrograms fs ps bs → SpellPrograms fs ps cs → bs ≡ cs
one_spelled [] [] [] [] h k = refl
one_spelled [] [] [] (c ∷ cs) h k = absurd k
one_spelled [] [] (b ∷ bs) cs h k = absurd h
one_spelled [] (p ∷ ps) bs cs h k = absurd h
one_spelled (f ∷ fs) [] bs cs h k = absurd h
one_spelled (f ∷ fs) (p ∷ ps) [] cs h k = absurd h
one_spelled (f ∷ fs) (p ∷ ps) (b ∷ bs) [] h k = absurd k
one_spelled (f ∷ fs) (p ∷ ps) (b ∷ bs) (c ∷ cs) h k =
    ap (λ x. x ∷ bs) (one_program f.slots p.states p.reactions b c h.0 k.0) ∙ ap (λ rest. c ∷ rest) (one_spelled fs ps bs cs h.1 k.1)

-- the programs, where the file is that of another draft too
spelled_too : (bytes : List ℕ) (d e : Draft) (ps qs : List ProgramDraft) (bs : List Behaviour) → SaysDraft bytes d ps → SaysDraft bytes e qs
    → SpellPrograms d.federates ps bs → SpellPrograms e.federates qs bs
spelled_too bytes d e ps qs bs h k spelled =
    subst (λ x. SpellPrograms e.federates x bs) (same_programs bytes d e ps qs h k)
    (subst (λ x. SpellPrograms x.federates ps bs) (same_draft bytes d e ps qs h k) spelled)

pub one_federation_draft : (bytes : List ℕ) (d e : Draft) (bs cs : List Behaviour) → IsFederationFile bytes d bs → IsFederationFile bytes e cs → d ≡ e
one_federation_draft bytes d e bs cs h k = same_draft bytes d e h.drafts k.drafts h.declared k.declared

pub one_federation_programs : (bytes : List ℕ) (d e : Draft) (bs cs : List Behaviour) → IsFederationFile bytes d bs → IsFederationFile bytes e cs → bs ≡ cs
one_federation_programs bytes d e bs cs h k =
    one_spelled e.federates k.drafts bs cs (spelled_too bytes d e h.drafts k.drafts bs h.declared k.declared h.spelled) k.spelled

spelled_at : (fs : List Federate) (ps : List ProgramDraft) (bs : List Behaviour) (i : ℕ) (f : Federate) (p : ProgramDraft) → SpellPrograms fs ps bs
    → slice_get fs i ≡ Some f → slice_get ps i ≡ Some p → (b : Behaviour) × SpellsProgram f.slots p.states p.reactions b
spelled_at [] ps bs i f p h here there = let no : ⊥ = cc in absurd no
spelled_at (g ∷ fs) [] bs i f p h here there = absurd h
spelled_at (g ∷ fs) (q ∷ ps) [] i f p h here there = absurd h
spelled_at (g ∷ fs) (q ∷ ps) (b ∷ bs) zero f p h here there =
    let same_f : g ≡ f = cc in
    let same_p : q ≡ p = cc in
    let P : Federate → Type 0 = λ x. SpellsProgram x.slots q.states q.reactions b in
    let Q : ProgramDraft → Type 0 = λ x. SpellsProgram f.slots x.states x.reactions b in
    (b, subst Q same_p (subst P same_f h.0))
spelled_at (g ∷ fs) (q ∷ ps) (b ∷ bs) (suc i) f p h here there = spelled_at fs ps bs i f p h.1 here there

none_among : (fs : List Federate) (ps : List ProgramDraft) (bs : List Behaviour) (fault : LoadFault) → SpellPrograms fs ps bs → IsFaultAmong fs ps fault → ⊥
none_among fs ps bs fault h k =
    let z = spelled_at fs ps bs k.place k.federate k.program h k.federate_is k.program_is in
    k.refused.unspelled z.0 z.1

-- what stands against a federation file is want of memory
only_memory : (bytes : List ℕ) (d : Draft) (bs : List Behaviour) (fault : LoadFault) → IsFederationFile bytes d bs → HasLoadFault bytes fault → fault ≡ Memory
only_memory bytes d bs fault file (out_of_memory memory few) = memory
only_memory bytes d bs fault file (too_long h) =
    let few = file.declared.few in
    let long = h.long in
    let no : ⊥ = omega arith in
    absurd no
only_memory bytes d bs fault file (no_document h) = absurd (h.none file.declared.file file.declared.document)
only_memory bytes d bs fault file (wrong_shape h) =
    let same = one_document bytes h.file file.declared.file h.document file.declared.document in
    absurd (no_shape_fault h.wrong file.declared.file d file.drafts file.declared.says (subst (λ m. HasShapeFault m h.wrong) same h.stands))
only_memory bytes d bs fault file (illegal_plan h) =
    let same = same_draft bytes d h.draft file.drafts h.drafts file.declared h.declared in
    absurd (h.refused.illegal (subst IsLegal same file.legal))
only_memory bytes d bs fault file (no_program h) =
    let spelled = spelled_too bytes d h.draft file.drafts h.drafts bs file.declared h.declared file.spelled in
    absurd (none_among h.draft.federates h.drafts bs fault spelled h.among)

pub accepted : (bytes : List ℕ) (r : Result (Draft × List Behaviour) LoadFault) → IsLoading bytes r → (d : Draft) (bs : List Behaviour) → IsFederationFile bytes d bs
    → IfErr r (λ fault. fault ≡ Memory)
accepted bytes (Ok x) h d bs file = tt
accepted bytes (Err fault) h d bs file = only_memory bytes d bs fault file h
