use Rattle.std.proofs.Common.{◌≡◌, length, sym, ap, ◌∙◌, arith}
use Rattle.std.proofs.lemmas.Bool.Decides.{nat_tests}
use Rattle.signal.specs.Frame.{framed}
use Rattle.signal.specs.Stream.{Stream, fed}
use Rattle.files_reports.proofs.Frames.{gave_frame, gave_fault, came_as_written, part_of_came, part_of_other_version, part_of_nothing, part_of_batch}
use Rattle.files_reports.proofs.journals.frame_in.Goals as goal

pub returns-then-is_empty-clause-given : goal.returns-then-is_empty-clause-given
returns-then-is_empty-clause-given c =
    let empty : length c.args.body.now ≡ 0 = grind (arith, nat_tests) in
    part_of_nothing c.args.body.now empty

pub returns-then-body-eq-BATCH_KIND-clause-given : goal.returns-then-body-eq-BATCH_KIND-clause-given
returns-then-body-eq-BATCH_KIND-clause-given c = part_of_batch c.args.body.now c.if-body-eq-BATCH_KIND.true

pub returns-then-version-eq-FIRST_VERSION-clause-given : goal.returns-then-version-eq-FIRST_VERSION-clause-given
returns-then-version-eq-FIRST_VERSION-clause-given c =
    let body = c.args.body.now in
    let all = c.in_ok-feed_framed.ensures ∙ ap (λ (s : Stream). fed s (framed body)) c.new-reader.ensures in
    let gave = gave_frame body c.in-Ok-Some.frame c.feed_framed.new.reader c.next.new.self c.requires all c.if-body-eq-BATCH_KIND.false (rw c.in-Ok-Some.field-0-is at c.in-Ok-Some.ensures.gives) in
    part_of_came (framed body) c.in-Ok-Some.frame c.next.new.self.version gave (sym c.version.ensures ∙ c.if-version-eq-FIRST_VERSION.true)

pub returns-then-version-eq-FIRST_VERSION-clause-taken : goal.returns-then-version-eq-FIRST_VERSION-clause-taken
returns-then-version-eq-FIRST_VERSION-clause-taken c =
    let body = c.args.body.now in
    let all = c.in_ok-feed_framed.ensures ∙ ap (λ (s : Stream). fed s (framed body)) c.new-reader.ensures in
    let gave = gave_frame body c.in-Ok-Some.frame c.feed_framed.new.reader c.next.new.self c.requires all c.if-body-eq-BATCH_KIND.false (rw c.in-Ok-Some.field-0-is at c.in-Ok-Some.ensures.gives) in
    came_as_written (framed body) c.in-Ok-Some.frame c.next.new.self.version gave (sym c.version.ensures ∙ c.if-version-eq-FIRST_VERSION.true)

pub returns-in-Ok-Some-clause-given : goal.returns-in-Ok-Some-clause-given
returns-in-Ok-Some-clause-given c =
    let body = c.args.body.now in
    let all = c.in_ok-feed_framed.ensures ∙ ap (λ (s : Stream). fed s (framed body)) c.new-reader.ensures in
    let gave = gave_frame body c.in-Ok-Some.frame c.feed_framed.new.reader c.next.new.self c.requires all c.if-body-eq-BATCH_KIND.false (rw c.in-Ok-Some.field-0-is at c.in-Ok-Some.ensures.gives) in
    part_of_other_version (framed body) c.in-Ok-Some.frame c.next.new.self.version gave (λ one. c.if-version-eq-FIRST_VERSION.false (c.version.ensures ∙ one))

pub returns-clause-given : goal.returns-clause-given
returns-clause-given c =
    let body = c.args.body.now in
    let all = c.in_ok-feed_framed.ensures ∙ ap (λ (s : Stream). fed s (framed body)) c.new-reader.ensures in
    gave_fault body c.in-Err.field-0 c.feed_framed.new.reader c.next.new.self c.requires all c.in-Err.ensures.gives
