-- Documents with their bodies expanded, table by table.
use Rattle.std.proofs.Common.{◌≡◌, ℕ, ◌≤◌, ◌-◌, List, [], ◌∷◌, ◌++◌, map, length, get_or, take, drop, codes, Bor, refl, sym, subst, arith}
use Rattle.std.specs.Prelude.{Result, Ok, Err, OnOk, All}
use Rattle.std.proofs.lemmas.List.Elements.{All-cons}
use Rattle.toml.specs.Data.{Members}
use Rattle.plan_names.proofs.First.{uncons}
use Rattle.loadfed_tables.specs.Tables.{SaysTexts}
use Rattle.expand_bodies.specs.declared.names.BodyNames.{BodyNames}
use Rattle.expand_bodies.specs.Expanded.{IsExpanded}
use Rattle.expand_documents.specs.Entries.{without}
use Rattle.expand_federation.specs.Bodies.{AreNamesOf, IsScratchState, HasScratchStates, IsReactionWithBody, HasBodies, IsFederateWithBodies}
use Rattle.expand_federation.proofs.Arrays.{Table, members_in}

-- a reaction, of which both bodies were read, and one expanded
pub reaction_of : (names : BodyNames) (before after section other : Members) (lines slice texts expected : List (List ℕ)) → section ≡ before → other ≡ after → slice ≡ lines → expected ≡ texts
    → without (codes "body" ∷ []) after ≡ without (codes "body" ∷ []) before → SaysTexts (codes "body") section lines → SaysTexts (codes "body") other texts
    → IsExpanded names slice expected → IsReactionWithBody names before after
reaction_of names before after section other lines slice texts expected same one lent made rest lines_are texts_are expanded = record {
  lines = lines;
  texts = texts;
  rest = rest;
  lines_are = subst (λ (m : Members). SaysTexts (codes "body") m lines) same lines_are;
  texts_are = subst (λ (m : Members). SaysTexts (codes "body") m texts) one texts_are;
  expanded = subst (λ (ls : List (List ℕ)). IsExpanded names ls texts) lent (subst (λ (ts : List (List ℕ)). IsExpanded names slice ts) made expanded);
}

-- a federate
pub federate_of : {X E : Type 0} (r : Result X E) (names : BodyNames) (before after section : Members) → section ≡ before
    → without (codes "state" ∷ codes "reaction" ∷ []) after ≡ without (codes "state" ∷ codes "reaction" ∷ []) before → AreNamesOf section names
    → HasScratchStates names.states before after → OnOk r (HasBodies names before after) → OnOk r (IsFederateWithBodies before after)
federate_of (Ok x) names before after section same rest named states reactions = record {
  names = names;
  names_are = subst (λ m. AreNamesOf m names) same named;
  rest = rest;
  states_are = states;
  reactions_are = reactions;
}
federate_of (Err e) names before after section same rest named states reactions = tt

-- one more scratch state
pub scratch_more : {X E : Type 0} (r : Result X E) (own : List (List ℕ)) (states : List (Bor Table)) (state : Bor Table) → 1 ≤ length states → state ≡ get_or states 0 state
    → IsScratchState own (members_in state) → OnOk r (All (IsScratchState own) (map members_in (take (length states - 1) (drop 1 states))))
    → OnOk r (All (IsScratchState own) (map members_in states))
scratch_more (Ok x) own states state some is here rest =
    subst (λ (s : List (Bor Table)). All (IsScratchState own) (map members_in s)) (sym (uncons states state some is))
    (All-cons (IsScratchState own) (members_in state) (map members_in (take (length states - 1) (drop 1 states))) here rest)
scratch_more (Err e) own states state some is here rest = tt

-- states, of which the first are those of before, and the rest scratch states
abbrev pub IsParted : List (List ℕ) → List Members → List Members → Type 0
IsParted own states all = (scratch : List Members) × (all ≡ states ++ scratch) × All (IsScratchState own) scratch

-- where none of before is left, all are scratch states
pub parted_none : {X E : Type 0} (r : Result X E) (own : List (List ℕ)) (states all : List (Bor Table)) → length states ≡ 0 → OnOk r (All (IsScratchState own) (map members_in all))
    → OnOk r (IsParted own (map members_in states) (map members_in all))
parted_none (Ok x) own [] all none scratch = (map members_in all, refl, scratch)
parted_none (Ok x) own (state ∷ states) all none scratch = absurd (omega arith)
parted_none (Err e) own states all none scratch = tt
