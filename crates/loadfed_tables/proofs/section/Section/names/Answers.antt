use Rattle.std.proofs.Common.{◌≡◌, true, IsTrue}
use Rattle.std.specs.Prelude.{All}
use Rattle.plan_names.specs.Spelling.{is_name}
use Rattle.loadfed_tables.specs.Sections.{members_of}
use Rattle.loadfed_tables.proofs.Refusals.{told}
use Rattle.loadfed_tables.proofs.KeyReadings.{no_names}
use Rattle.loadfed_tables.proofs.section.Section.names.Goals as goal

pub returns-else-are_names-clause-refused : goal.returns-else-are_names-clause-refused
returns-else-are_names-clause-refused c =
    let none : All (λ name. IsTrue (is_name name)) c.in_ok-names.names → ⊥ = λ h.
    (let yes : c.are_names.result ≡ true = c.are_names.ensures.1 (rw c.as_slice.ensures h) in
    let other = c.if-are_names.false in
    cc) in
    told _ _ _ (no_names c.args.key.now (members_of c.args.self.now) c.in_ok-names.names c.in_ok-names.ensures.ok none) c.wrong_shape.ensures
