use Rattle.std.proofs.Common.{◌≡◌, ◌<◌, ◌++◌, false, drop, sym, ap, ◌∙◌, arith}
use Rattle.std.proofs.lemmas.Bool.{false≢true}
use Rattle.std.proofs.lemmas.Bool.Decides.{nat_tests}
use Rattle.std.proofs.lemmas.List.{drop-drop}
use Rattle.files_logs.specs.Blocks.{size_bytes}
use Rattle.files_logs.specs.Front.{is_size}
use Rattle.files_logs.proofs.Fronts.{front_short}
use Rattle.files_logs.proofs.Found.{sized, no_size, unsized_stop, end_stop, block_stop, whole_block, if_ok, if_err}
use Rattle.files_logs.proofs.front.block_at.Goals as goal

pub returns-then-bytes-lt-SIZE_SIZE-clause-stop : goal.returns-then-bytes-lt-SIZE_SIZE-clause-stop
returns-then-bytes-lt-SIZE_SIZE-clause-stop c = front_short c.args.before c.args.bytes.now c.if-bytes-lt-SIZE_SIZE.true

pub returns-then-not-is_size-clause-stop : goal.returns-then-not-is_size-clause-stop
returns-then-not-is_size-clause-stop c =
    let wrong : is_size c.args.before c.args.bytes.now ≡ false =
    no_size c.args.before c.take_four-size.result.0 c.take_four-check.result.0 c.args.bytes.now c.take_four-size.result.1.now
    c.take_four-size.ensures.value c.take_four-size.ensures.rest c.take_four-check.ensures.value (λ both. false≢true (sym c.if-not-is_size.true ∙ c.is_size.ensures.1 both)) in
    let behind : c.take_four-check.result.1.now ≡ drop 8 c.args.bytes.now =
    c.take_four-check.ensures.rest ∙ ap (λ b. drop 4 b) c.take_four-size.ensures.rest ∙ drop-drop 4 4 c.args.bytes.now in
    unsized_stop c.args.before c.args.bytes.now c.take_four-check.result.1.now c.unsized_tail.result (omega (arith, c.if-bytes-lt-SIZE_SIZE.false)) wrong behind c.unsized_tail.ensures

pub returns-then-size-eq0-clause-stop : goal.returns-then-size-eq0-clause-stop
returns-then-size-eq0-clause-stop c =
    let right = c.is_size.ensures.0 c.if-not-is_size.false in
    let behind = c.take_four-check.result.1.now in
    let begins : c.args.bytes.now ≡ size_bytes c.args.before c.take_four-size.result.0 ++ behind =
    sized c.args.before c.take_four-size.result.0 c.take_four-check.result.0 c.args.bytes.now c.take_four-size.result.1.now behind
    c.take_four-size.ensures.parts c.take_four-check.ensures.parts right.1 in
    end_stop c.args.before c.args.bytes.now behind c.end_behind.result (begins ∙ ap (λ n. size_bytes c.args.before n ++ behind) c.if-size-eq0.true) c.end_behind.ensures

pub returns-clause-whole : goal.returns-clause-whole
returns-clause-whole c =
    let right = c.is_size.ensures.0 c.if-not-is_size.false in
    let size = c.take_four-size.result.0 in
    let behind = c.take_four-check.result.1.now in
    let some : 0 < size = grind (arith, nat_tests) in
    let begins : c.args.bytes.now ≡ size_bytes c.args.before size ++ behind =
    sized c.args.before size c.take_four-check.result.0 c.args.bytes.now c.take_four-size.result.1.now behind c.take_four-size.ensures.parts c.take_four-check.ensures.parts right.1 in
    if_ok c.block_behind.result _ _ (λ x h. whole_block c.args.before size c.args.bytes.now behind x.0.now x.1.now begins some right.0 h) c.block_behind.ensures.whole

pub returns-clause-stop : goal.returns-clause-stop
returns-clause-stop c =
    let right = c.is_size.ensures.0 c.if-not-is_size.false in
    let size = c.take_four-size.result.0 in
    let behind = c.take_four-check.result.1.now in
    let some : 0 < size = grind (arith, nat_tests) in
    let begins : c.args.bytes.now ≡ size_bytes c.args.before size ++ behind =
    sized c.args.before size c.take_four-check.result.0 c.args.bytes.now c.take_four-size.result.1.now behind c.take_four-size.ensures.parts c.take_four-check.ensures.parts right.1 in
    if_err c.block_behind.result _ _ (λ stop h. block_stop c.args.before size c.args.bytes.now behind stop begins some right.0 h) c.block_behind.ensures.stop
