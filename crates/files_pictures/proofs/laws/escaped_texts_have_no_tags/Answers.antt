use Rattle.std.specs.Str.{chars}
use Rattle.files_pictures.specs.Escaped.{escaped}
use Rattle.files_pictures.proofs.Harmless.{letters_harmless}
use Rattle.files_pictures.proofs.laws.escaped_texts_have_no_tags.Goals as goal

pub returns : goal.returns
unfolding escaped
returns c = λ text. letters_harmless (chars text)
