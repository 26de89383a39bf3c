use Rattle.std.proofs.Common.{ap, sym, ◌∙◌}
use Rattle.std.specs.Option.{option_map}
use Rattle.toml.specs.Data.{integer}
use Rattle.toml.specs.View.{view}
use Rattle.toml.specs.declared.value.Value.{Value}
use Rattle.std.proofs.Common.{Bor}
use Rattle.loadfed_tables.specs.Sections.{members_of}
use Rattle.loadfed_tables.proofs.Refusals.{told}
use Rattle.loadfed_tables.proofs.KeyReadings.{other_kind}
use Rattle.loadfed_tables.proofs.section.Section.number.Goals as goal

pub returns-in-None-clause-ok : goal.returns-in-None-clause-ok
returns-in-None-clause-ok c = sym c.value.ensures ∙ ap (option_map (λ (value : Bor Value). view value.now)) c.in-None.is

pub returns-in-None-as_number-clause-refused : goal.returns-in-None-as_number-clause-refused
returns-in-None-as_number-clause-refused c =
    told _ _ _ (other_kind integer c.args.key.now (members_of c.args.self.now) (view c.in-Some.value.now)
    (sym c.value.ensures ∙ ap (option_map (λ (value : Bor Value). view value.now)) c.in-Some.is) c.in-None-as_number.ensures)
    c.wrong_shape.ensures
