use Rattle.std.proofs.Common.{◌≡◌, ℕ, ◌-◌, Bool, List, [], length, refl, sym, ap, subst, ◌∙◌}
use Rattle.std.specs.Prelude.{if◌then◌else◌}
use Rattle.std.proofs.lemmas.Result.{err_from_is_err_and}
use Rattle.node.specs.declared.event.Event.{Event}
use Rattle.files_logs.specs.Parts.{IsEnd}
use Rattle.files_logs.proofs.Found.{IsFound, found_behind, found_read, found_fault}
use Rattle.files_logs.proofs.read.read_behind.Goals.{then-is_ended, else-is_ended}
use Rattle.files_logs.proofs.read.read_behind.Goals as goal

pub returns-in_err-is_ended-clause-fault : goal.returns-in_err-is_ended-clause-fault
returns-in_err-is_ended-clause-fault c =
    let head = c.args.head.now in
    let bytes = c.args.bytes.now in
    let end = c.in_ok-end.end in
    let place = length bytes - end.left in
    let read : IsEnd c.sum_in.result c.split_at.result.1.now [] c.read_blocks.new.journal end =
    subst (λ (old : List Event). IsEnd c.sum_in.result c.split_at.result.1.now old c.read_blocks.new.journal end) c.new-journal.ensures c.in_ok-end.ensures.read in
    let found : IsFound head bytes end c.read_blocks.new.journal place =
    found_behind head bytes c.split_at.result.0.now c.split_at.result.1.now c.sum_in.result end c.read_blocks.new.journal place c.requires c.split_at.ensures.front c.split_at.ensures.back c.sum_in.ensures read refl in
    let p = err_from_is_err_and c.from_residual-in_err-is_ended.result c.from_residual-in_err-is_ended.ensures.1 in
    rw (p.1, p.2) (found_fault head bytes end c.read_blocks.new.journal place c.in_err-is_ended.field-0.0 found c.in_err-is_ended.ensures.fault)

pub returns-clause-read : goal.returns-clause-read
returns-clause-read c =
    let head = c.args.head.now in
    let bytes = c.args.bytes.now in
    let end = c.in_ok-end.end in
    let place = length bytes - end.left in
    let read : IsEnd c.sum_in.result c.split_at.result.1.now [] c.read_blocks.new.journal end =
    subst (λ (old : List Event). IsEnd c.sum_in.result c.split_at.result.1.now old c.read_blocks.new.journal end) c.new-journal.ensures c.in_ok-end.ensures.read in
    let found : IsFound head bytes end c.read_blocks.new.journal place =
    found_behind head bytes c.split_at.result.0.now c.split_at.result.1.now c.sum_in.result end c.read_blocks.new.journal place c.requires c.split_at.ensures.front c.split_at.ensures.back c.sum_in.ensures read refl in
    let ended = c.in_ok-is_ended.is_ended in
    let size : c.if-is_ended.result ≡ (if ended then length bytes else place) = elim c.if-is_ended.branch [
      | then-is_ended w ↦ w.result-is ∙ ap (λ (b : Bool). if b then length bytes else place) (sym w.if-is_ended.true)
      | else-is_ended w ↦ w.result-is ∙ ap (λ (b : Bool). if b then length bytes else place) (sym w.if-is_ended.false)
    ] in
    found_read head bytes end c.read_blocks.new.journal place
    (record { who = head.who; journal = c.read_blocks.new.journal; is_told = end.is_told; is_ended = ended; whole = c.if-is_ended.result; sum = end.sum })
    found ended c.in_ok-is_ended.ensures.ended refl refl refl refl size refl
