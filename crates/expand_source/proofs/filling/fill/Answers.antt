use Rattle.expand_source.proofs.Braces.{filled_more}
use Rattle.expand_source.proofs.filling.fill.Goals as goal

pub loop-token-preserved : goal.loop-token-preserved
loop-token-preserved c =
    filled_more c.args.names.now c.args.template.now c.loop-token.token-index _ c.args.text.now.items c.loop-token.text.items c.fill_placed.new.text.items
    c.loop-token-test.true c.loop-token.invariant c.in_ok-fill_placed.ensures
