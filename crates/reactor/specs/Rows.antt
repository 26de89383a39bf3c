-- Rows in flat room: of each row where its entries stand among those of all.
use Rattle.std.specs.Prelude.{ℕ, ◌≤◌, List, slice_range}
use Rattle.network.specs.Event.{Entry}
use Rattle.network.specs.Undivided.{Row}
use Rattle.reactor.specs.declared.rows.Span.{Span}

-- the row whose entries stand there
abbrev pub row_in : List Entry → Span → Row
row_in entries s =
    record {
      reactor = s.federate;
      tag = s.tag;
      inputs = slice_range entries s.inputs s.outputs;
      outputs = slice_range entries s.outputs s.end;
    }

-- they stand among this many entries
pub record IsSpanIn (count : ℕ) (s : Span) : Type 0 where
  pub inputs : s.inputs ≤ s.outputs
  pub outputs : s.outputs ≤ s.end
  pub end : s.end ≤ count
