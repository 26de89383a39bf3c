use Rattle.expand_source.proofs.Copies.{copy_made}
use Rattle.expand_source.proofs.copying.add_copy.Goals as goal

pub returns : goal.returns
returns c =
    copy_made c.args.part.now c.args.k c.in_ok-names.names.items c.as_slice.result.now c.as_slice-2.result.now c.args.text.now.items c.fill.new.text.items
    c.as_slice.ensures.value c.as_slice-2.ensures.value c.in_ok-names.ensures c.in_ok-fill.ensures
