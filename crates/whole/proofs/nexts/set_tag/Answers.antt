use Rattle.std.proofs.Common.{◌<◌, ◌/◌, ◌*◌, ◌+◌, length, refl, subst, arith}
use Rattle.whole.specs.Next.{IsFirstAmong}
use Rattle.whole.proofs.Firsts.{here, set_firsts}
use Rattle.whole.proofs.nexts.set_tag.Goals as goal

pub returns-clause-firsts : goal.returns-clause-firsts
returns-clause-firsts c =
    let cover = c.requires.firsts.cover in
    let low = c.requires.there in
    let block = c.args.federate / 8 in
    let there : block < length c.args.firsts.now = omega arith in
    let was = here c.args.nexts.now c.args.federate c.index-nexts-federate.result low c.index-nexts-federate.is in
    let found = c.requires.firsts.each block c.index-firsts-block.result (here c.args.firsts.now block c.index-firsts-block.result there c.index-firsts-block.is) in
    let first = subst (λ x. IsFirstAmong c.args.nexts.now (block * 8) (block * 8 + 8) x) c.index-firsts-block.is found in
    set_firsts c.args.nexts.now c.args.firsts.now c.args.federate block _ c.first_after.result refl there c.requires.firsts
    (c.first_after.ensures c.args.nexts.now c.args.federate low refl was refl first)
