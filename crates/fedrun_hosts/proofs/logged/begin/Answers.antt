use Rattle.std.proofs.Common.{◌≡◌, ◌↔◌, ◌∙◌, ℕ, true, IsTrue, List, IsSome, IfSome, rules, sym, subst}
use Rattle.files_saving.specs.Saved.{temporary_name}
use Rattle.fedrun_hosts.proofs.Named.{had_end}
use Rattle.fedrun_hosts.proofs.logged.begin.Goals as goal

pub returns-in-Ok-only_name : goal.returns-in-Ok-only_name
returns-in-Ok-only_name g c =
    let known = g.V.Device.is_known in
    let Holds = g.L.LogDisk.holds c.args.logs.now in
    let name = c.args.node.now.report.now in
    let before = g.D.Disk.contents c.args.disk.now in
    let part = c.as_str-part.result.now in
    let beside = c.as_slice-beside.result.now in
    let is_part : part ≡ temporary_name name = c.as_str-part.ensures.value ∙ c.in-Ok.ensures.named in
    let parts : c.as_str.result.now ≡ part = c.as_str.ensures.value ∙ sym c.as_str-part.ensures.value in
    let same_beside : c.in-Ok-lock_file.file.bytes.items ≡ beside = search rules in
    let held : IsTrue known → Holds part beside =
    λ k. subst (λ (t : List ℕ). Holds t beside) parts (subst (λ (b : List ℕ). Holds c.as_str.result.now b) same_beside (c.in-Ok-lock_file.ensures.held k)) in
    let there : IfSome before (λ files. IsTrue true ↔ IsSome (files name)) = search rules in
    had_end known Holds (g.L.LogDisk.holds c.lock_file.new.logs) c.args.head.now part name beside before (g.D.Disk.contents c.exists.new.self) (g.D.Disk.contents c.only_name.new.disk) c.in-Ok-only_name.log
    is_part c.lock_file.ensures.same held c.exists.ensures.same there c.only_name.ensures.others c.in-Ok-only_name.ensures.ended

pub returns-in-Ok-begin_log : goal.returns-in-Ok-begin_log
returns-in-Ok-begin_log g c =
    let known = g.V.Device.is_known in
    let Holds = g.L.LogDisk.holds c.args.logs.now in
    let name = c.args.node.now.report.now in
    let bytes = c.as_slice.result.now in
    let is_part : c.as_str.result.now ≡ temporary_name name = c.as_str.ensures.value ∙ c.in-Ok.ensures.named in
    let same : c.in-Ok-lock_file.file.bytes.items ≡ bytes = search rules in
    let held : IsTrue known → Holds (temporary_name name) bytes =
    λ k. subst (λ (t : List ℕ). Holds t bytes) is_part (subst (λ (b : List ℕ). Holds c.as_str.result.now b) same (c.in-Ok-lock_file.ensures.held k)) in
    (record { bytes = bytes; held = held; begun = c.in-Ok-begin_log.ensures.begun; whole = c.in-Ok-begin_log.ensures.whole }, c.exists.ensures.same)
