use Rattle.std.proofs.Common.{rules, ◌≡◌}
use Rattle.std.specs.Prelude.{string_bytes}
use Rattle.fedrun_expand.specs.Saved.{file_name}
use Rattle.fedrun_expand.proofs.Files.{named_for}
use Rattle.fedrun_expand.proofs.saving.named_file.Goals as goal

pub returns : goal.returns
returns c =
    let named : string_bytes c.in_ok-name.name ≡ file_name c.args.each.folder.now c.in_ok-value.value = search rules in
    named_for c.args.source.now c.args.given.now c.in_ok-values.values.items c.as_slice.result.now c.args.each c.args.k c.in_ok-value.value (string_bytes c.in_ok-name.name) c.in_ok-text.text.items
    c.in_ok-values.ensures c.as_slice.ensures.value c.in_ok-value.ensures named c.in_ok-text.ensures
