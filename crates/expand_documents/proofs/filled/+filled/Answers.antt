use Rattle.std.proofs.Common.{◌≡◌, ◌<◌, length, get_or, rules}
use Rattle.expand_documents.proofs.Fillings.{one_member_more}
use Rattle.expand_documents.proofs.filled.+filled.Goals as goal

pub want_members_filled-loop-place-preserved : goal.want_members_filled-loop-place-preserved
want_members_filled-loop-place-preserved t c =
    let i = c.loop-place.place in
    let entry = c.index-entries-place.result in
    let other = c.in-Some.other.now in
    let low_made : i < length c.args.made.now = search rules in
    let is_made : other ≡ get_or c.args.made.now i other = search rules in
    let key : entry.key.now ≡ other.key.now = search rules in
    one_member_more c.args.names.now c.args.entries.now c.args.made.now i entry other c.loop-place-test.true c.index-entries-place.is low_made is_made c.loop-place.invariant key
    c.in_ok-want_filled.ensures
