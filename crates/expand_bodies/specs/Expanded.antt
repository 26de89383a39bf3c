-- What a body becomes.
use Rattle.std.specs.Prelude.{◌≡◌, ℕ, ◌⊎◌, List, length, map, All, None}
use Rattle.plan_names.specs.Naming.{place_of, AreDistinct}
use Rattle.reactor_program.specs.declared.program.Line.{Line}
use Rattle.expand_bodies.specs.declared.block.Block.{Block}
use Rattle.expand_bodies.specs.declared.names.BodyNames.{BodyNames}
use Rattle.expand_bodies.specs.Lines.{block_lines}
use Rattle.expand_bodies.specs.Reading.{ReadsBody}
use Rattle.expand_bodies.specs.Printing.{printed_line}

-- names of scratch states: none of them has the name of one of these states, nor that of another
pub record AreScratchNames (states scratch : List (List ℕ)) : Type 0 where
  pub unused : All (λ name. place_of states name ≡ None) scratch
  pub distinct : AreDistinct scratch

-- lines as texts, with names of scratch states
abbrev pub ArePrinted : BodyNames → List Line → List (List ℕ) → Type 0
ArePrinted names lines texts =
    (scratch : List (List ℕ)) × AreScratchNames names.states scratch × (texts ≡ map (printed_line names scratch) lines)

-- the lines as they are, or those of the block that they are read as
abbrev pub IsExpanded : BodyNames → List (List ℕ) → List (List ℕ) → Type 0
IsExpanded names lines texts =
    (texts ≡ lines)
    ⊎ ((block : Block) × ReadsBody names lines block
    × ArePrinted names (block_lines (length names.states) None block) texts)
