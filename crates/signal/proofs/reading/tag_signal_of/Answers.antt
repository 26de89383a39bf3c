use Rattle.std.proofs.Common.{rules}
use Rattle.signal.specs.Signal.{tag_bytes}
use Rattle.signal.proofs.Parts.{tag_parts}
use Rattle.signal.proofs.reading.tag_signal_of.Goals as goal

pub returns-then-bytes-eq-NET_KIND-clause-spelled : goal.returns-then-bytes-eq-NET_KIND-clause-spelled
returns-then-bytes-eq-NET_KIND-clause-spelled c =
    (c.in_ok-tag.ensures.found.0, tag_parts c.args.bytes.now (tag_bytes c.in_ok-tag.tag) 1 (search rules) (search rules) c.in_ok-tag.ensures.found.1)

pub returns-then-bytes-eq-LTC_KIND-clause-spelled : goal.returns-then-bytes-eq-LTC_KIND-clause-spelled
returns-then-bytes-eq-LTC_KIND-clause-spelled c =
    (c.in_ok-tag-2.ensures.found.0, tag_parts c.args.bytes.now (tag_bytes c.in_ok-tag-2.tag) 2 (search rules) (search rules) c.in_ok-tag-2.ensures.found.1)
