use Rattle.std.proofs.Common.{◌≡◌, codes}
use Rattle.expand_bodies.proofs.Fronts.{word_is, let_form, else_form, end_form, scheduled_is, when_is}
use Rattle.expand_bodies.proofs.form.form_of.Goals as goal

pub returns-in-Some-Let : goal.returns-in-Some-Let
returns-in-Some-Let c =
    let word : c.next_word.result.0.now ≡ codes "let" = rw c.in-Some-Let.field-0-is at c.in-Some-Let.ensures in
    let_form c.args.text.now c.next_word.result.0.now c.next_word.result.1.now c.binding.result word c.next_word.ensures.parts c.binding.ensures

pub returns-in-Some-If : goal.returns-in-Some-If
returns-in-Some-If c =
    let word : c.next_word.result.0.now ≡ codes "if" = rw c.in-Some-If.field-0-is at c.in-Some-If.ensures in
    word_is c.args.text.now c.next_word.result.0.now (codes "if") c.next_word.result.1.now word c.next_word.ensures.parts

pub returns-in-Some-Elif : goal.returns-in-Some-Elif
returns-in-Some-Elif c =
    let word : c.next_word.result.0.now ≡ codes "elif" = rw c.in-Some-Elif.field-0-is at c.in-Some-Elif.ensures in
    word_is c.args.text.now c.next_word.result.0.now (codes "elif") c.next_word.result.1.now word c.next_word.ensures.parts

pub returns-in-Some-Else : goal.returns-in-Some-Else
returns-in-Some-Else c =
    let word : c.next_word.result.0.now ≡ codes "else" = rw c.in-Some-Else.field-0-is at c.in-Some-Else.ensures in
    else_form c.args.text.now c.next_word.result.0.now c.next_word.result.1.now c.alone.result word c.next_word.ensures.parts c.alone.ensures

pub returns-in-Some-End : goal.returns-in-Some-End
returns-in-Some-End c =
    let word : c.next_word.result.0.now ≡ codes "end" = rw c.in-Some-End.field-0-is at c.in-Some-End.ensures in
    end_form c.args.text.now c.next_word.result.0.now c.next_word.result.1.now c.alone-in-Some-End.result word c.next_word.ensures.parts c.alone-in-Some-End.ensures

pub returns-in_ok-condition-in-Some-When : goal.returns-in_ok-condition-in-Some-When
returns-in_ok-condition-in-Some-When c =
    let word : c.next_word.result.0.now ≡ codes "when" = rw c.in-Some-When.field-0-is at c.in-Some-When.ensures in
    when_is c.args.text.now c.next_word.result.0.now c.next_word.result.1.now _ _ word c.next_word.ensures.parts c.in_ok-condition-in-Some-When.ensures

pub returns-in-Some-Schedule : goal.returns-in-Some-Schedule
returns-in-Some-Schedule c =
    let word : c.next_word.result.0.now ≡ codes "schedule" = rw c.in-Some-Schedule.field-0-is at c.in-Some-Schedule.ensures in
    scheduled_is c.args.text.now c.next_word.result.0.now c.next_word.result.1.now c.schedule.result word c.next_word.ensures.parts c.schedule.ensures
