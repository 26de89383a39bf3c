use Rattle.std.proofs.Common.{◌≡◌, ℕ, List, ◌++◌, ◌∙◌, sym, ap}
use Rattle.files_keeping.specs.Disk.{HasTail}
use Rattle.files_keeping.proofs.Moments.{begins, goes_on}
use Rattle.files_keeping.proofs.Fronts.{no_tail, tail_behind}
use Rattle.files_keeping.proofs.kept_log.append_synced.Goals as goal

pub returns-in_err-append-clause-any_moment : goal.returns-in_err-append-clause-any_moment
returns-in_err-append-clause-any_moment g c known =
    let m = g.D.Device.moment in
    let l = g.D.Device.left in
    let old = c.args.device.now in
    let T = g.D.Device.tears in
    let kept = g.D.Device.synced old in
    let bytes = c.args.bytes.now in
    let only = (c.requires.settled known).only in
    let IsSo : List ℕ → Type 0 = λ left. HasTail T kept bytes left in
    let after_append : (left : List ℕ) → g.D.Device.leaves c.append.new.self left → IsSo left = λ left now.
    let from = c.append.ensures.leaves known left now in tail_behind T kept bytes from.0 left (only from.0 from.1) from.2 in
    let begun = begins m l old (g.D.Device.leaves old) IsSo (λ left since. g.met.D.Device.now_alone old left known since) (λ left now. no_tail T kept bytes left (g.met.D.Device.none_is_left bytes) (only left now)) in
    goes_on m l old old c.append.new.self IsSo _ begun (c.append.ensures.time known) after_append

pub returns-in_err-sync-clause-any_moment : goal.returns-in_err-sync-clause-any_moment
returns-in_err-sync-clause-any_moment g c known =
    let m = g.D.Device.moment in
    let l = g.D.Device.left in
    let old = c.args.device.now in
    let T = g.D.Device.tears in
    let kept = g.D.Device.synced old in
    let bytes = c.args.bytes.now in
    let only = (c.requires.settled known).only in
    let IsSo : List ℕ → Type 0 = λ left. HasTail T kept bytes left in
    let after_append : (left : List ℕ) → g.D.Device.leaves c.append.new.self left → IsSo left = λ left now.
    let from = c.append.ensures.leaves known left now in tail_behind T kept bytes from.0 left (only from.0 from.1) from.2 in
    let begun = begins m l old (g.D.Device.leaves old) IsSo (λ left since. g.met.D.Device.now_alone old left known since) (λ left now. no_tail T kept bytes left (g.met.D.Device.none_is_left bytes) (only left now)) in
    let appended = goes_on m l old old c.append.new.self IsSo _ begun (c.append.ensures.time known) after_append in
    goes_on m l old c.append.new.self c.sync.new.self IsSo _ appended (c.sync.ensures.time known) (λ left now. after_append left (c.sync.ensures.leaves known left now))

pub returns-clause-any_moment : goal.returns-clause-any_moment
returns-clause-any_moment g c known =
    let m = g.D.Device.moment in
    let l = g.D.Device.left in
    let old = c.args.device.now in
    let T = g.D.Device.tears in
    let kept = g.D.Device.synced old in
    let bytes = c.args.bytes.now in
    let only = (c.requires.settled known).only in
    let IsSo : List ℕ → Type 0 = λ left. HasTail T kept bytes left in
    let after_append : (left : List ℕ) → g.D.Device.leaves c.append.new.self left → IsSo left = λ left now.
    let from = c.append.ensures.leaves known left now in tail_behind T kept bytes from.0 left (only from.0 from.1) from.2 in
    let begun = begins m l old (g.D.Device.leaves old) IsSo (λ left since. g.met.D.Device.now_alone old left known since) (λ left now. no_tail T kept bytes left (g.met.D.Device.none_is_left bytes) (only left now)) in
    let appended = goes_on m l old old c.append.new.self IsSo _ begun (c.append.ensures.time known) after_append in
    goes_on m l old c.append.new.self c.sync.new.self IsSo _ appended (c.sync.ensures.time known) (λ left now. after_append left (c.sync.ensures.leaves known left now))
