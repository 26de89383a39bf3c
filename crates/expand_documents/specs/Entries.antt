-- The members of a table, in a list, and some of them left out.
use Rattle.std.specs.Prelude.{ℕ, if◌then◌else◌, List, [], ◌∷◌}
use Rattle.toml.specs.Data.{Members, no_members, member}
use Rattle.toml.specs.View.{view}
use Rattle.loadfed_tables.specs.Tables.{is_among}
use Rattle.expand_documents.specs.declared.entries.Entry.{Entry}

-- the members that entries are
abbrev pub members_of_entries : List Entry → Members
members_of_entries [] = no_members
members_of_entries (entry ∷ entries) = member entry.key.now (view entry.value.now) (members_of_entries entries)

-- a table without what stands at these keys
abbrev pub without : List (List ℕ) → Members → Members
without keys no_members = no_members
without keys (member key value members) =
    if is_among keys key then without keys members else member key value (without keys members)
