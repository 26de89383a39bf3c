-- The members of a table, one after another.
use Rattle.std.proofs.Common.{◌≡◌, ℕ, true, false, List, [], ◌∷◌, ◌++◌, string_bytes, refl, sym, ap, ◌∙◌, subst}
use Rattle.toml.specs.Data.{Members, no_members, member}
use Rattle.toml.specs.View.{view, members_view}
use Rattle.toml.proofs.Views.{Entry as TableEntry}
use Rattle.loadfed_tables.specs.Tables.{is_among}
use Rattle.expand_documents.specs.declared.entries.Entry.{Entry}
use Rattle.expand_documents.specs.Entries.{members_of_entries, without}

-- entries in front of members
abbrev pub before : List Entry → Members → Members
before [] members = members
before (entry ∷ entries) members = member entry.key.now (view entry.value.now) (before entries members)

pub one_entry_more : (entries : List Entry) (entry : Entry) (members : Members)
    → before (entries ++ entry ∷ []) members ≡ before entries (member entry.key.now (view entry.value.now) members)
one_entry_more [] entry more = refl
one_entry_more (first ∷ entries) entry more =
    ap (member first.key.now (view first.value.now)) (one_entry_more entries entry more)

pub all_entries : (entries : List Entry) → before entries no_members ≡ members_of_entries entries
all_entries [] = refl
all_entries (first ∷ entries) = ap (member first.key.now (view first.value.now)) (all_entries entries)

-- a member that stays, and one that is left out
pub one_kept : (keys : List (List ℕ)) (entry : TableEntry) (rest : List TableEntry) → is_among keys (string_bytes entry.0) ≡ false
    → without keys (members_view (entry ∷ rest)) ≡ member (string_bytes entry.0) (view entry.1) (without keys (members_view rest))
one_kept keys entry rest stays = rw stays refl

pub one_left_out : (keys : List (List ℕ)) (entry : TableEntry) (rest : List TableEntry) → is_among keys (string_bytes entry.0) ≡ true
    → without keys (members_view (entry ∷ rest)) ≡ without keys (members_view rest)
one_left_out keys entry rest goes = rw goes refl

-- what is so once a member was taken
pub kept : (keys : List (List ℕ)) (all : Members) (entries new : List Entry) (entry : Entry) (taken : TableEntry) (now rest : List TableEntry)
    → all ≡ before entries (without keys (members_view now)) → now ≡ taken ∷ rest → new ≡ entries ++ entry ∷ [] → entry.key.now ≡ string_bytes taken.0 → entry.value.now ≡ taken.1
    → is_among keys entry.key.now ≡ false → all ≡ before new (without keys (members_view rest))
kept keys all entries new entry taken now rest so_far step pushed key value is_kept =
    let left = without keys (members_view rest) in
    let stays : is_among keys (string_bytes taken.0) ≡ false = subst (λ k. is_among keys k ≡ false) key is_kept in
    so_far ∙ ap (λ es. before entries (without keys (members_view es))) step ∙ ap (before entries) (one_kept keys taken rest stays)
    ∙ ap (λ k. before entries (member k (view taken.1) left)) (sym key) ∙ ap (λ v. before entries (member entry.key.now (view v) left)) (sym value)
    ∙ sym (one_entry_more entries entry left) ∙ ap (λ es. before es left) (sym pushed)

pub all_taken : (keys : List (List ℕ)) (all : Members) (entries : List Entry) (now : List TableEntry) → all ≡ before entries (without keys (members_view now)) → now ≡ []
    → members_of_entries entries ≡ all
all_taken keys all entries now so_far none =
    sym (so_far ∙ ap (λ es. before entries (without keys (members_view es))) none ∙ all_entries entries)

pub nothing_left_out : (members : Members) → without [] members ≡ members
nothing_left_out no_members = refl
nothing_left_out (member key value members) = ap (member key value) (nothing_left_out members)

-- a table of which nothing is left out
pub all_of_a_table : (members made : Members) → made ≡ without [] members → made ≡ members
all_of_a_table members made is = is ∙ nothing_left_out members
