use Rattle.fedrun_expand.proofs.Files.{file_for}
use Rattle.fedrun_expand.proofs.saving.file_text.Goals as goal

pub returns-in-Ok : goal.returns-in-Ok
returns-in-Ok c =
    file_for c.args.source.now c.in_ok-made.made.items c.as_slice.result.now c.unmarked.result.now c.in_ok-text.text.items c.as_slice-2.result.now c.args.values.now _ _ c.in_ok-made.ensures.ok
    c.as_slice.ensures.value c.unmarked.ensures c.in_ok-text.ensures c.as_slice-2.ensures.value c.in-Ok.ensures.outcome.0
