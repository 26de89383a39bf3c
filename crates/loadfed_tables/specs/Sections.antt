-- The members of a table that is being read.
use Rattle.toml.specs.Data.{Members}
use Rattle.toml.specs.View.{table_view}
use Rattle.loadfed_tables.specs.declared.section.Section.{Section}

-- the members of a section's table
abbrev pub members_of : Section → Members
members_of s = table_view s.table.now
