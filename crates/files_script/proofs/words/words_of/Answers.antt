use Rattle.std.proofs.Common.{◌≡◌, ◌∷◌, rules}
use Rattle.files_script.specs.Words.{words_of}
use Rattle.files_script.proofs.Forms.{five_words}
use Rattle.files_script.proofs.words.words_of.Goals as goal

pub returns-in-Some-rest-3 : goal.returns-in-Some-rest-3
returns-in-Some-rest-3 c =
    let line = c.args.line.now in
    let first = c.in-Some.rest.now in
    let second = c.in-Some-rest.rest.now in
    let third = c.in-Some-rest-2.rest.now in
    let fourth = c.in-Some-rest-3.field-0.now in
    let one : words_of line ≡ c.next_word.result.0.now ∷ words_of first = search rules in
    let two : words_of first ≡ c.next_word-2.result.0.now ∷ words_of second = search rules in
    let three : words_of second ≡ c.next_word-3.result.0.now ∷ words_of third = search rules in
    let four : words_of third ≡ c.next_word-4.result.0.now ∷ words_of fourth = search rules in
    five_words line first second third fourth c.next_word.result.0.now c.next_word-2.result.0.now c.next_word-3.result.0.now c.next_word-4.result.0.now one two
    three four
