use Rattle.std.proofs.Common.{◌≡◌, length, ap}
use Rattle.expand_bodies.proofs.Read.{body_read, body_named}
use Rattle.expand_bodies.proofs.reading.read_body.Goals as goal

pub returns-in-Last : goal.returns-in-Last
returns-in-Last c =
    let free : length c.as_slice.result.now ≡ length c.args.names.now.states = ap length c.as_slice.ensures in
    body_named c.args.names.now c.args.lines.now c.in_ok-block.field-0.block _
    (body_read c.args.names.now _ (length c.as_slice.result.now) _ _ _ c.in_ok-block.field-0.ending c.in-Last.is c.in_ok-block.ensures.read (cc c.in-Ok.ensures) free) (cc c.in_ok-body.ensures)
