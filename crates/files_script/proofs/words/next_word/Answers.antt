use Rattle.std.proofs.Common.{◌<◌, length, arith}
use Rattle.std.proofs.lemmas.Grind.{common_steps}
use Rattle.files_script.proofs.Forms.{only_word, more_words}
use Rattle.files_script.proofs.words.next_word.Goals as goal

pub returns-in-len1-up : goal.returns-in-len1-up
returns-in-len1-up c =
    let some : 0 < length c.split_at.result.1.now = grind (arith, common_steps) in
    more_words c.args.text.now c.split_at.result.0.now c.split_at.result.1.now (cc) (cc) some

pub returns-in-empty : goal.returns-in-empty
returns-in-empty c =
    only_word c.args.text.now c.split_at.result.0.now c.split_at.result.1.now (cc) (cc) c.in-empty.len_below
