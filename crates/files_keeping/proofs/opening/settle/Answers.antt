use Rattle.std.proofs.Common.{ℕ, List}
use Rattle.files_keeping.specs.Disk.{IsCut}
use Rattle.files_keeping.proofs.Moments.{begins, goes_on}
use Rattle.files_keeping.proofs.Fronts.{not_cut}
use Rattle.files_keeping.proofs.opening.settle.Goals as goal

pub returns-in_err-sync_folder-clause-any_moment : goal.returns-in_err-sync_folder-clause-any_moment
returns-in_err-sync_folder-clause-any_moment g c known =
    let m = g.D.Device.moment in
    let l = g.D.Device.left in
    let old = c.args.device.now in
    let IsSo : List ℕ → Type 0 = λ left. (was : List ℕ) × g.D.Device.leaves old was × IsCut c.args.whole was left in
    let here : (left : List ℕ) → g.D.Device.leaves old left → IsSo left = λ left now. (left, now, not_cut c.args.whole left) in
    let begun = begins m l old (g.D.Device.leaves old) IsSo (λ left since. g.met.D.Device.now_alone old left known since) here in
    goes_on m l old old c.sync_folder.new.self IsSo _ begun (c.sync_folder.ensures.time known) (λ left now. here left (c.sync_folder.ensures.leaves known left now))

pub returns-in_err-cut-clause-any_moment : goal.returns-in_err-cut-clause-any_moment
returns-in_err-cut-clause-any_moment g c known =
    let m = g.D.Device.moment in
    let l = g.D.Device.left in
    let old = c.args.device.now in
    let IsSo : List ℕ → Type 0 = λ left. (was : List ℕ) × g.D.Device.leaves old was × IsCut c.args.whole was left in
    let here : (left : List ℕ) → g.D.Device.leaves old left → IsSo left = λ left now. (left, now, not_cut c.args.whole left) in
    let after_cut : (left : List ℕ) → g.D.Device.leaves c.cut.new.self left → IsSo left = λ left now.
    let from = c.cut.ensures.leaves known left now in (from.0, c.sync_folder.ensures.leaves known from.0 from.1, from.2) in
    let begun = begins m l old (g.D.Device.leaves old) IsSo (λ left since. g.met.D.Device.now_alone old left known since) here in
    let named = goes_on m l old old c.sync_folder.new.self IsSo _ begun (c.sync_folder.ensures.time known) (λ left now. here left (c.sync_folder.ensures.leaves known left now)) in
    goes_on m l old c.sync_folder.new.self c.cut.new.self IsSo _ named (c.cut.ensures.time known) after_cut

pub returns-in_err-sync-clause-any_moment : goal.returns-in_err-sync-clause-any_moment
returns-in_err-sync-clause-any_moment g c known =
    let m = g.D.Device.moment in
    let l = g.D.Device.left in
    let old = c.args.device.now in
    let IsSo : List ℕ → Type 0 = λ left. (was : List ℕ) × g.D.Device.leaves old was × IsCut c.args.whole was left in
    let here : (left : List ℕ) → g.D.Device.leaves old left → IsSo left = λ left now. (left, now, not_cut c.args.whole left) in
    let after_cut : (left : List ℕ) → g.D.Device.leaves c.cut.new.self left → IsSo left = λ left now.
    let from = c.cut.ensures.leaves known left now in (from.0, c.sync_folder.ensures.leaves known from.0 from.1, from.2) in
    let begun = begins m l old (g.D.Device.leaves old) IsSo (λ left since. g.met.D.Device.now_alone old left known since) here in
    let named = goes_on m l old old c.sync_folder.new.self IsSo _ begun (c.sync_folder.ensures.time known) (λ left now. here left (c.sync_folder.ensures.leaves known left now)) in
    let cut = goes_on m l old c.sync_folder.new.self c.cut.new.self IsSo _ named (c.cut.ensures.time known) after_cut in
    goes_on m l old c.cut.new.self c.sync.new.self IsSo _ cut (c.sync.ensures.time known) (λ left now. after_cut left (c.sync.ensures.leaves known left now))

pub returns-clause-any_moment : goal.returns-clause-any_moment
returns-clause-any_moment g c known =
    let m = g.D.Device.moment in
    let l = g.D.Device.left in
    let old = c.args.device.now in
    let IsSo : List ℕ → Type 0 = λ left. (was : List ℕ) × g.D.Device.leaves old was × IsCut c.args.whole was left in
    let here : (left : List ℕ) → g.D.Device.leaves old left → IsSo left = λ left now. (left, now, not_cut c.args.whole left) in
    let after_cut : (left : List ℕ) → g.D.Device.leaves c.cut.new.self left → IsSo left = λ left now.
    let from = c.cut.ensures.leaves known left now in (from.0, c.sync_folder.ensures.leaves known from.0 from.1, from.2) in
    let begun = begins m l old (g.D.Device.leaves old) IsSo (λ left since. g.met.D.Device.now_alone old left known since) here in
    let named = goes_on m l old old c.sync_folder.new.self IsSo _ begun (c.sync_folder.ensures.time known) (λ left now. here left (c.sync_folder.ensures.leaves known left now)) in
    let cut = goes_on m l old c.sync_folder.new.self c.cut.new.self IsSo _ named (c.cut.ensures.time known) after_cut in
    goes_on m l old c.cut.new.self c.sync.new.self IsSo _ cut (c.sync.ensures.time known) (λ left now. after_cut left (c.sync.ensures.leaves known left now))
