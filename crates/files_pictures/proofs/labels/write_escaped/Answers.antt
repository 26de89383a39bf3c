use Rattle.std.proofs.Common.{◌≡◌, ℕ, List, map, sym, subst, ◌∙◌}
use Rattle.std.specs.Io.KnownBytes.{Appends}
use Rattle.std.specs.List.{flat_map}
use Rattle.std.specs.Str.{chars}
use Rattle.std.proofs.lemmas.Iterator.{YieldsList-from_chars}
use Rattle.std.proofs.lemmas.Iterator.Consumers.{YieldsList-end}
use Rattle.std.proofs.lemmas.List.{map-id}
use Rattle.files_pictures.specs.Escaped.{escaped, escaped_letter}
use Rattle.files_pictures.proofs.Texts.{pushed_more}
use Rattle.files_pictures.proofs.labels.write_escaped.Goals as goal

pub loop-letter-preserved : goal.loop-letter-preserved
loop-letter-preserved g c =
    pushed_more escaped_letter c.loop-letter.yielded c.in-Some.letter
    (g.W.Write.contents c.args.out.now) (g.W.Write.contents c.loop-letter.out) (g.W.Write.contents c.write_letter.new.out)
    c.loop-letter.invariant c.in_ok-write_letter.ensures

pub returns : goal.returns
unfolding escaped
returns g c =
    let t = YieldsList-end (YieldsList-from_chars c.args.text.now c.utf8.text cc) c.loop-letter.yielded _ c.loop-letter.yielded_by _ _ c.in-None.is c.next.ensures.steps in
    let all : c.loop-letter.yielded ≡ chars c.args.text.now = sym (map-id c.loop-letter.yielded) ∙ t.0 in
    subst (λ (letters : List ℕ). Appends (g.W.Write.contents c.args.out.now) (g.W.Write.contents c.loop-letter.out) (flat_map escaped_letter letters)) all
    c.loop-letter.invariant
