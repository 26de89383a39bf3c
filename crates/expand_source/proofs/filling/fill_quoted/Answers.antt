use Rattle.std.proofs.Common.{rules, ◌≡◌, true, false}
use Rattle.expand_source.specs.Expansion.{is_alone, IsNextHole}
use Rattle.expand_source.proofs.Braces.{answered, quoted_number, quoted_filled}
use Rattle.expand_source.proofs.filling.fill_quoted.Goals as goal

pub returns-then-is_alone : goal.returns-then-is_alone
returns-then-is_alone c =
    let front = c.in-Some.hole.front.now in
    let expression = c.in-Some.hole.expression.now in
    let rest = c.in-Some.hole.rest.now in
    let hole : IsNextHole c.args.quoted.now front expression rest = search rules in
    let alone : is_alone front rest ≡ true = search rules in
    answered c.fill_number.result (quoted_number c.args.names.now c.args.quoted.now front expression rest c.args.text.now.items c.fill_number.new.text.items hole alone) c.fill_number.ensures

pub returns-else-is_alone : goal.returns-else-is_alone
returns-else-is_alone c =
    let front = c.in-Some.hole.front.now in
    let expression = c.in-Some.hole.expression.now in
    let rest = c.in-Some.hole.rest.now in
    let hole : IsNextHole c.args.quoted.now front expression rest = search rules in
    let alone : is_alone front rest ≡ false = search rules in
    answered c.fill_text.result (quoted_filled c.args.names.now c.args.quoted.now front expression rest c.args.text.now.items c.fill_text.new.text.items hole alone) c.fill_text.ensures
