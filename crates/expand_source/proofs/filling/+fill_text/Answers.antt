use Rattle.std.proofs.Common.{rules, ◌≡◌, ◌++◌}
use Rattle.expand_source.specs.Expansion.{IsNextHole, IsNumber}
use Rattle.expand_source.specs.Filling.{Appends}
use Rattle.expand_source.proofs.Braces.{answered, hole_filled}
use Rattle.expand_source.proofs.filling.+fill_text.Goals as goal

pub returns-in_ok-fill_number-in-Some : goal.returns-in_ok-fill_number-in-Some
returns-in_ok-fill_number-in-Some t c =
    let front = c.in-Some.hole.front.now in
    let expression = c.in-Some.hole.expression.now in
    let rest = c.in-Some.hole.rest.now in
    let hole : IsNextHole c.args.template.now front expression rest = search rules in
    let first : c.extend_from_slice-in-Some.new.self.items ≡ c.args.text.now.items ++ front = search rules in
    let number : Appends c.extend_from_slice-in-Some.new.self.items c.fill_number.new.text.items (IsNumber c.args.names.now expression) = search rules in
    answered c.fill_text.result
    (hole_filled c.args.names.now c.args.template.now front expression rest c.args.text.now.items c.extend_from_slice-in-Some.new.self.items c.fill_number.new.text.items c.fill_text.new.text.items
    hole first number)
    c.fill_text.ensures
