use Rattle.std.proofs.lemmas.Result.{err_from_is_err_and}
use Rattle.loadfed_tables.proofs.Refusals.{weaker, told}
use Rattle.loadfed_tables.proofs.KeyReadings.{text_of_duration, no_duration, time_made}
use Rattle.loadfed_tables.specs.Sections.{members_of}
use Rattle.loadfed_tables.proofs.section.Section.duration.Goals as goal

pub returns-in_err-text-clause-refused : goal.returns-in_err-text-clause-refused
returns-in_err-text-clause-refused c =
    let p = err_from_is_err_and c.from_residual.result c.from_residual.ensures.1 in
    rw (p.1, p.2) (weaker _ _ _ _ (text_of_duration c.args.key.now (members_of c.args.self.now)) c.in_err-text.ensures.refused)

pub returns-in-Err-clause-refused : goal.returns-in-Err-clause-refused
returns-in-Err-clause-refused c =
    let says = rw c.in-Some.is at c.in_ok-text.ensures.ok in
    told _ _ _ (no_duration c.args.key.now (members_of c.args.self.now) c.in-Some.text.now c.parse_duration.result c.in-Err.field-0 says c.in-Err.is c.parse_duration.ensures.exact) c.wrong_shape.ensures

pub returns-in-Ok-clause-ok : goal.returns-in-Ok-clause-ok
returns-in-Ok-clause-ok c =
    let says = rw c.in-Some.is at c.in_ok-text.ensures.ok in
    time_made c.args.key.now (members_of c.args.self.now) c.in-Some.text.now c.in-Ok.nanoseconds c.new.result says c.in-Ok.ensures.ok
    c.new.ensures.in_range.1 c.new.ensures.value
