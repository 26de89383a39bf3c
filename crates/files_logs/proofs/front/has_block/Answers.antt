use Rattle.std.proofs.Common.{◌≡◌, true, false, length, sym, ap, ◌∙◌, arith}
use Rattle.std.proofs.lemmas.Bool.Decides.{nat_tests}
use Rattle.std.proofs.lemmas.List.{nil_from_length}
use Rattle.files_logs.specs.Front.{begins_block, has_block}
use Rattle.files_logs.proofs.Beginnings.{first_block, later_block}
use Rattle.files_logs.proofs.front.has_block.Goals as goal

pub returns-then-begins_block : goal.returns-then-begins_block
returns-then-begins_block c =
    let here : begins_block c.loop-rest.rest.now ≡ true = sym c.begins_block.ensures ∙ c.if-begins_block.true in
    sym (first_block c.loop-rest.rest.now here) ∙ c.loop-rest.invariant

pub loop-rest-preserved : goal.loop-rest-preserved
loop-rest-preserved c =
    let other : begins_block c.loop-rest.rest.now ≡ false = sym c.begins_block.ensures ∙ c.if-begins_block.false in
    ap has_block c.split_at.ensures.back ∙ later_block c.loop-rest.rest.now other ∙ c.loop-rest.invariant

pub returns : goal.returns
returns c =
    let empty : length c.loop-rest.rest.now ≡ 0 = grind (arith, nat_tests) in
    sym (ap has_block (nil_from_length c.loop-rest.rest.now empty)) ∙ c.loop-rest.invariant
