use Rattle.std.proofs.Common.{◌≡◌, true, rules}
use Rattle.fedrun_files.proofs.Results.{on_ok_always}
use Rattle.fedrun_hosts.proofs.Named.{not_both}
use Rattle.fedrun_hosts.proofs.join.go_on.Goals as goal
use Rattle.fedrun_hosts.proofs.join.go_on.Goals.{then-is_told, else-is_told+in-Ok}

pub returns-in-Ok-finish : goal.returns-in-Ok-finish
returns-in-Ok-finish g c =
    let file = c.if-is_told.file in
    let as_opened : c.args.opened.is_told ≡ true → file ≡ c.args.opened.file =
    elim c.if-is_told.branch [ then-is_told w ↦ λ told. search rules | else-is_told+in-Ok w ↦ λ told. absurd (not_both told w.if-is_told.false) ] in
    on_ok_always c.say_finished.result
    (c.in-Ok-finish.field-0, record { file = file; as_opened = as_opened; ends = c.in-Ok-finish.ensures.ended; named = c.in-Ok-finish.ensures.named })
