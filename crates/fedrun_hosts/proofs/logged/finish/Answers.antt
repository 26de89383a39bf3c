use Rattle.std.proofs.Common.{◌≡◌, ◌∙◌, ℕ, Bool, false, List, IsTrue, rules, sym, ap, subst}
use Rattle.fedrun_hosts.specs.EndedLogs.{IsEndedLog, with_end}
use Rattle.fedrun_hosts.proofs.Named.{if_ok_at, on_ok_at}
use Rattle.fedrun_hosts.proofs.logged.finish.Goals as goal
use Rattle.fedrun_hosts.proofs.logged.finish.Goals.{then-is_ended, else-is_ended}

pub returns-in-Ok-name_log-clause-ended : goal.returns-in-Ok-name_log-clause-ended
returns-in-Ok-name_log-clause-ended g c =
    let known = g.V.Device.is_known in
    let sum = c.args.file.sum in
    let kept = g.V.Device.synced c.args.file.log.device in
    let bytes = c.in-Ok.bytes in
    let are : IsTrue known → bytes.items ≡ with_end c.args.is_ended sum kept =
    elim c.if-is_ended.branch [
      | then-is_ended w ↦
          let at : IsTrue known → bytes.items ≡ kept = if_ok_at (λ b. IsTrue known → b.items ≡ kept) w.bytes-ended.result bytes (search rules) w.bytes-ended.ensures.bytes in
          λ k. at k ∙ sym (ap (λ (e : Bool). with_end e sum kept) w.if-is_ended.true)
      | else-is_ended w ↦
          let device = w.end-ended.new.self.log.device in
          let at : IsTrue known → bytes.items ≡ g.V.Device.synced device = if_ok_at (λ b. IsTrue known → b.items ≡ g.V.Device.synced device) w.end-ended.result bytes (search rules) w.end-ended.ensures.bytes in
          let closed : IsTrue known → g.V.Device.synced device ≡ with_end false sum kept = on_ok_at w.end-ended.result bytes (search rules) w.end-ended.ensures.kept in
          λ k. at k ∙ closed k ∙ sym (ap (λ (e : Bool). with_end e sum kept) w.if-is_ended.false)
    ] in
    (bytes.items, are, subst (λ (b : List ℕ). IsEndedLog c.args.head.now b c.in-Some.log) c.as_slice.ensures.value c.in-Some.ensures)
