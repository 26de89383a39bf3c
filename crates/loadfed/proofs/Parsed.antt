-- Programs read one by one: what is so far, and one more.
use Rattle.std.proofs.Common.{◌≡◌, ℕ, zero, suc, ◌+◌, ◌<◌, ◌≤◌, List, [], ◌∷◌, ◌++◌, length, get_or, take, drop, Some, refl, sym, ap, ◌∙◌, subst, add-one, arith}
use Rattle.std.specs.Prelude.{slice_get}
use Rattle.std.proofs.lemmas.List.{take_all}
use Rattle.std.proofs.lemmas.List.Elements.{All-get_or}
use Rattle.plan.specs.declared.draft.Federate.{Federate}
use Rattle.plan.specs.declared.draft.Draft.{Draft}
use Rattle.plan_slots.specs.Limits.{IsWithinLimits}
use Rattle.plan.specs.Legal.{IsLegal}
use Rattle.plan.specs.Naming.{AreDistinct}
use Rattle.plan_slots.specs.Numbering.{all_names}
use Rattle.reactor_program.specs.Behaviour.{Behaviour}
use Rattle.reactor_programs.specs.Programs.{HaveSlotsOf}
use Rattle.reactor_program.specs.Spelled.{SpellsProgram, IsReadable}
use Rattle.loadfed.specs.Shape.{ProgramDraft}
use Rattle.loadfed.specs.Ready.{IsReady, AreReady}
use Rattle.loadfed.specs.Loaded.{SpellPrograms}

-- programs for the first i federates, and what is left of the drafts
pub record AreParsed (fs : List Federate) (ps : List ProgramDraft) (i : ℕ) (rest : List ProgramDraft) (bs : List Behaviour) : Type 0 where
  pub so_far : SpellPrograms (take i fs) (take i ps) bs
  pub rest_is : rest ≡ drop i ps

spell_more : (fs : List Federate) (ps : List ProgramDraft) (i : ℕ) (bs : List Behaviour) (f : Federate) (p : ProgramDraft) (b : Behaviour) (rest : List ProgramDraft)
    → SpellPrograms (take i fs) (take i ps) bs → drop i ps ≡ p ∷ rest → i < length fs → f ≡ get_or fs i f → SpellsProgram f.slots p.states p.reactions b
    → SpellPrograms (take (suc i) fs) (take (suc i) ps) (bs ++ b ∷ [])
spell_more [] ps i bs f p b rest h left low is says = absurd (omega arith)
spell_more (g ∷ fs) [] zero bs f p b rest h left low is says = let no : ⊥ = cc in absurd no
spell_more (g ∷ fs) [] (suc i) bs f p b rest h left low is says = let no : ⊥ = cc in absurd no
spell_more (g ∷ fs) (q ∷ ps) zero (c ∷ bs) f p b rest h left low is says = absurd h
spell_more (g ∷ fs) (q ∷ ps) zero [] f p b rest h left low is says =
    let same : p ≡ q = cc in
    let P : Federate → Type 0 = λ x. SpellsProgram x.slots p.states p.reactions b in
    let Q : ProgramDraft → Type 0 = λ x. SpellsProgram g.slots x.states x.reactions b in
    (subst Q same (subst P is says), tt)
spell_more (g ∷ fs) (q ∷ ps) (suc i) [] f p b rest h left low is says = absurd h
spell_more (g ∷ fs) (q ∷ ps) (suc i) (c ∷ bs) f p b rest h left low is says = (h.0, spell_more fs ps i bs f p b rest h.1 left (omega arith) is says)

drop_step : (ps rest : List ProgramDraft) (i : ℕ) (p : ProgramDraft) → drop i ps ≡ p ∷ rest → drop (suc i) ps ≡ rest
drop_step [] rest zero p e = let no : ⊥ = cc in absurd no
drop_step [] rest (suc i) p e = let no : ⊥ = cc in absurd no
drop_step (q ∷ ps) rest zero p e = cc
drop_step (q ∷ ps) rest (suc i) p e = drop_step ps rest i p e

pub parsed_more : (fs : List Federate) (ps : List ProgramDraft) (i : ℕ) (left rest : List ProgramDraft) (bs : List Behaviour) (f : Federate) (p : ProgramDraft) (b : Behaviour)
    → AreParsed fs ps i left bs → left ≡ p ∷ rest → i < length fs → f ≡ get_or fs i f → SpellsProgram f.slots p.states p.reactions b
    → AreParsed fs ps (i + 1) rest (bs ++ b ∷ [])
parsed_more fs ps i left rest bs f p b h e low is says =
    let here : drop i ps ≡ p ∷ rest = sym h.rest_is ∙ e in
    rw add-one (record { so_far = spell_more fs ps i bs f p b rest h.so_far here low is says; rest_is = sym (drop_step ps rest i p here) })

pub parsed_none : (fs : List Federate) (ps : List ProgramDraft) → AreParsed fs ps 0 ps []
parsed_none fs ps = record { so_far = tt; rest_is = refl }

ready_length : (fs : List Federate) (ps : List ProgramDraft) → AreReady fs ps → length fs ≡ length ps
ready_length [] [] h = refl
ready_length [] (p ∷ ps) h = absurd h
ready_length (f ∷ fs) [] h = absurd h
ready_length (f ∷ fs) (p ∷ ps) h = ap suc (ready_length fs ps h.1)

pub same_count : (fs : List Federate) (ps : List ProgramDraft) → AreReady fs ps → length ps ≡ length fs
same_count fs ps h = sym (ready_length fs ps h)

pub parsed_all : (fs : List Federate) (ps : List ProgramDraft) (i : ℕ) (left : List ProgramDraft) (bs : List Behaviour) → AreReady fs ps → AreParsed fs ps i left bs → length fs ≤ i
    → SpellPrograms fs ps bs
parsed_all fs ps i left bs ready h all =
    let count = ready_length fs ps ready in
    let more : length ps ≤ i = omega arith in
    let P : List Federate → Type 0 = λ x. SpellPrograms x (take i ps) bs in
    let Q : List ProgramDraft → Type 0 = λ x. SpellPrograms fs x bs in
    subst Q (take_all i ps more) (subst P (take_all i fs all) h.so_far)

ready_at : (fs : List Federate) (ps rest : List ProgramDraft) (i : ℕ) (f : Federate) (p : ProgramDraft) → AreReady fs ps → drop i ps ≡ p ∷ rest → i < length fs → f ≡ get_or fs i f
    → IsReady f p
ready_at [] ps rest i f p h e low is = absurd (omega arith)
ready_at (g ∷ fs) [] rest i f p h e low is = absurd h
ready_at (g ∷ fs) (q ∷ ps) rest zero f p h e low is =
    let same : q ≡ p = cc in
    subst (λ x. IsReady f x) same (subst (λ x. IsReady x q) (sym is) h.0)
ready_at (g ∷ fs) (q ∷ ps) rest (suc i) f p h e low is = ready_at fs ps rest i f p h.1 e (omega arith) is

-- what is asked before a program is read
pub readable : (d : Draft) (ps left rest : List ProgramDraft) (bs : List Behaviour) (i : ℕ) (f : Federate) (p : ProgramDraft) → IsLegal d → AreReady d.federates ps
    → AreParsed d.federates ps i left bs → left ≡ p ∷ rest → i < length d.federates → f ≡ get_or d.federates i f → IsReadable f.slots p.states p.reactions
readable d ps left rest bs i f p legal all h e low is =
    let r = ready_at d.federates ps rest i f p all (sym h.rest_is ∙ e) low is in
    let few : IsWithinLimits f.slots = subst (λ x. IsWithinLimits x.slots) (sym is) (All-get_or (λ x. IsWithinLimits x.slots) d.federates i f low legal.few_slots) in
    let apart : AreDistinct (all_names f.slots) =
    subst (λ x. AreDistinct (all_names x.slots)) (sym is) (All-get_or (λ x. AreDistinct (all_names x.slots)) d.federates i f low legal.slots_apart) in
    record {
      few_slots = few;
      few_states = r.few_states;
      few_reactions = r.few_reactions;
      few_lines = r.few_lines;
      slots_named = r.slots_named;
      states_named = r.states_named;
      slots_apart = apart;
    }

pub federate_at : (fs : List Federate) (i : ℕ) (f : Federate) → i < length fs → f ≡ get_or fs i f → slice_get fs i ≡ Some f
federate_at [] i f low is = absurd (omega arith)
federate_at (g ∷ fs) zero f low is = ap (λ x. Some x) (sym is)
federate_at (g ∷ fs) (suc i) f low is = federate_at fs i f (omega arith) is

program_of_drop : (ps rest : List ProgramDraft) (i : ℕ) (p : ProgramDraft) → drop i ps ≡ p ∷ rest → slice_get ps i ≡ Some p
program_of_drop [] rest zero p e = let no : ⊥ = cc in absurd no
program_of_drop [] rest (suc i) p e = let no : ⊥ = cc in absurd no
program_of_drop (q ∷ ps) rest zero p e = let same : q ≡ p = cc in ap (λ x. Some x) same
program_of_drop (q ∷ ps) rest (suc i) p e = program_of_drop ps rest i p e

pub program_at : (fs : List Federate) (ps left rest : List ProgramDraft) (bs : List Behaviour) (i : ℕ) (p : ProgramDraft) → AreParsed fs ps i left bs → left ≡ p ∷ rest
    → slice_get ps i ≡ Some p
program_at fs ps left rest bs i p h e = program_of_drop ps rest i p (sym h.rest_is ∙ e)

-- the programs have their federates' slots
pub have_slots : (fs : List Federate) (ps : List ProgramDraft) (bs : List Behaviour) → SpellPrograms fs ps bs → HaveSlotsOf fs bs
have_slots [] [] [] h = tt
have_slots [] [] (b ∷ bs) h = absurd h
have_slots [] (p ∷ ps) bs h = absurd h
have_slots (f ∷ fs) [] bs h = absurd h
have_slots (f ∷ fs) (p ∷ ps) [] h = absurd h
have_slots (f ∷ fs) (p ∷ ps) (b ∷ bs) h = (sym h.0.slots, have_slots fs ps bs h.1)
