use Rattle.std.proofs.Common.{◌≡◌, true, false, rules}
use Rattle.expand_source.specs.Expansion.{IsNextHole}
use Rattle.expand_documents.specs.Filled.{is_whole}
use Rattle.expand_documents.proofs.Found.{number_alone, text_filled}
use Rattle.expand_documents.proofs.filled.want_text_filled.Goals as goal

pub returns-in_ok-want_value-in-Some : goal.returns-in_ok-want_value-in-Some
returns-in_ok-want_value-in-Some c =
    let front = c.in-Some.hole.front.now in
    let expression = c.in-Some.hole.expression.now in
    let rest = c.in-Some.hole.rest.now in
    let hole : IsNextHole c.args.text.now front expression rest = search rules in
    let whole : is_whole front rest ≡ true = search rules in
    number_alone c.args.names.now c.args.text.now front expression rest _ hole whole c.in_ok-want_value-in-Some.ensures

pub returns-in_ok-want_filling-in-Some : goal.returns-in_ok-want_filling-in-Some
returns-in_ok-want_filling-in-Some c =
    let front = c.in-Some.hole.front.now in
    let expression = c.in-Some.hole.expression.now in
    let rest = c.in-Some.hole.rest.now in
    let hole : IsNextHole c.args.text.now front expression rest = search rules in
    let whole : is_whole front rest ≡ false = search rules in
    text_filled c.args.names.now c.args.text.now front expression rest _ hole whole c.in_ok-want_filling-in-Some.ensures
