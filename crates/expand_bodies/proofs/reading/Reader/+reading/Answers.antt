use Rattle.std.proofs.Common.{rules, ◌≡◌, ℕ, List, ◌∷◌, codes, length, refl, sym, ap, ◌∙◌}
use Rattle.std.specs.Borrow.{Bor}
use Rattle.expand_bodies.specs.declared.names.BodyNames.{BodyNames}
use Rattle.expand_bodies.specs.Forms.{IsWordBefore, IsAlone, IsLetLine, IsWhenLine, IsStatement}
use Rattle.expand_bodies.specs.Reading.{IsIf, ReadsBlock, unboxed}
use Rattle.expand_bodies.specs.declared.block.Block.{Block}
use Rattle.expand_bodies.specs.declared.block.Block.TheVariants.{End}
use Rattle.expand_bodies.specs.declared.reading.Ending.TheVariants as ending
use Rattle.expand_bodies.proofs.Read.{ended_read, elif_read, else_read, end_read, statement_read, guarded_read, let_read, branching_read, known_let_read, state_let_read, one_branch_read, two_branches_read, more_branches_read, if_named, names_again, value_good, deed_good, name_good, part_read, new_moved_to, as_named}
use Rattle.expand_bodies.proofs.reading.Reader.+reading.Goals as goal

pub statements-returns-in_default-clause-read : goal.statements-returns-in_default-clause-read
statements-returns-in_default-clause-read t c = ended_read _ _ _ _ _ c.in_default.ensures.taken

pub statements-returns-in-Ok-Elif-clause-read : goal.statements-returns-in-Ok-Elif-clause-read
statements-returns-in-Ok-Elif-clause-read t c =
    let same : c.as_bytes.result.now ≡ c.in-Some.text.now = cc in
    let form : IsWordBefore c.as_bytes.result.now (codes "elif") c.in-Ok-Elif.condition.now = rw c.in-Ok-Elif.field-0-is at c.in-Ok-Elif.ensures in
    elif_read _ _ _ _ _ _ _ _ _ _ c.in-Some.ensures.taken same form c.ended.ensures

pub statements-returns-in-Ok-Else-clause-read : goal.statements-returns-in-Ok-Else-clause-read
statements-returns-in-Ok-Else-clause-read t c =
    let same : c.as_bytes.result.now ≡ c.in-Some.text.now = cc in
    let form : IsAlone c.as_bytes.result.now (codes "else") = rw c.in-Ok-Else.field-0-is at c.in-Ok-Else.ensures in
    else_read _ _ _ _ _ _ _ _ _ c.in-Some.ensures.taken same form c.ended-in-Ok-Else.ensures

pub statements-returns-in-Ok-End-clause-read : goal.statements-returns-in-Ok-End-clause-read
statements-returns-in-Ok-End-clause-read t c =
    let same : c.as_bytes.result.now ≡ c.in-Some.text.now = cc in
    let form : IsAlone c.as_bytes.result.now (codes "end") = rw c.in-Ok-End.field-0-is at c.in-Ok-End.ensures in
    end_read _ _ _ _ _ _ _ _ _ c.in-Some.ensures.taken same form c.ended-in-Ok-End.ensures

pub statements-returns-in-Ok-Let-clause-read : goal.statements-returns-in-Ok-Let-clause-read
statements-returns-in-Ok-Let-clause-read t c =
    let same : c.as_bytes.result.now ≡ c.in-Some.text.now = cc in
    let form : IsLetLine c.as_bytes.result.now c.in-Ok-Let.name.now c.in-Ok-Let.value.now = rw c.in-Ok-Let.field-0-is at c.in-Ok-Let.ensures in
    let names : c.take.new.self.names.now ≡ c.args.self.now.names.now = ap (λ (names : Bor BodyNames). names.now) c.take.ensures.same.0 in
    let operands : c.take.new.self.operands.items ≡ c.args.self.now.operands.items = cc in
    part_read c.args.self.now.names.now c.args.self.now.operands.items c.args.free c.args.self.now.rest.now c.bind.new.self.rest.now
    (λ block ends. (line : List ℕ) → IsLetLine line c.in-Ok-Let.name.now c.in-Ok-Let.value.now → ReadsBlock c.take.new.self.names.now c.take.new.self.operands.items c.args.free (line ∷ c.take.new.self.rest.now) block ends c.bind.new.self.rest.now)
    c.bind.result c.bind.ensures.read
    (λ block ends h. let_read _ _ _ _ _ _ c.take.new.self.rest.now _ c.in-Some.text.now c.as_bytes.result.now c.in-Ok-Let.name.now c.in-Ok-Let.value.now block ends names operands c.in-Some.ensures.taken same form h)

pub statements-returns-in_ok-branches-in-Ok-If-clause-read : goal.statements-returns-in_ok-branches-in-Ok-If-clause-read
statements-returns-in_ok-branches-in-Ok-If-clause-read t c =
    let same : c.as_bytes.result.now ≡ c.in-Some.text.now = cc in
    let form : IsWordBefore c.as_bytes.result.now (codes "if") c.in-Ok-If.condition.now = rw c.in-Ok-If.field-0-is at c.in-Ok-If.ensures in
    let names : c.take.new.self.names.now ≡ c.args.self.now.names.now = ap (λ (names : Bor BodyNames). names.now) c.take.ensures.same.0 in
    let operands : c.take.new.self.operands.items ≡ c.args.self.now.operands.items = cc in
    let names2 : c.branches.new.self.names.now ≡ c.take.new.self.names.now = ap (λ (names : Bor BodyNames). names.now) c.in_ok-branches-in-Ok-If.ensures.same.0 in
    let asked = value_good c.take.new.self.operands.items c.take.new.self.names.now.readable c.in-Ok-If.condition.now c.read.result c.in_ok-condition-in-Ok-If.condition c.in_ok-condition-in-Ok-If.ensures c.read.ensures in
    let b = c.in_ok-branches-in-Ok-If.branches in
    part_read c.args.self.now.names.now c.args.self.now.operands.items c.args.free c.args.self.now.rest.now c.followed.new.self.rest.now
    (λ block ends. (rest : Block) × ReadsBlock c.branches.new.self.names.now c.branches.new.self.operands.items c.args.free c.branches.new.self.rest.now rest ends c.followed.new.self.rest.now × IsIf block b.condition b.first.value (unboxed b.second) rest)
    c.followed.result c.followed.ensures.read
    (λ block ends h. branching_read _ c.take.new.self.names.now c.branches.new.self.names.now _ c.take.new.self.operands.items c.branches.new.self.operands.items _ _ c.take.new.self.rest.now c.branches.new.self.rest.now _ c.in-Some.text.now c.as_bytes.result.now c.in-Ok-If.condition.now
    c.in_ok-condition-in-Ok-If.condition b.condition b.first.value (unboxed b.second) block ends names operands names2 c.in_ok-branches-in-Ok-If.ensures.same.1 c.in-Some.ensures.taken same form asked c.in_ok-branches-in-Ok-If.ensures.read h)

pub statements-returns-in_ok-rest-in-Ok-When-clause-read : goal.statements-returns-in_ok-rest-in-Ok-When-clause-read
statements-returns-in_ok-rest-in-Ok-When-clause-read t c =
    let same : c.as_bytes.result.now ≡ c.in-Some.text.now = cc in
    let form : IsWhenLine c.as_bytes.result.now c.in-Ok-When.condition.now c.in-Ok-When.deed = rw c.in-Ok-When.field-0-is at c.in-Ok-When.ensures in
    let names : c.take.new.self.names.now ≡ c.args.self.now.names.now = ap (λ (names : Bor BodyNames). names.now) c.take.ensures.same.0 in
    let operands : c.take.new.self.operands.items ≡ c.args.self.now.operands.items = cc in
    let asked = value_good c.take.new.self.operands.items c.take.new.self.names.now.readable c.in-Ok-When.condition.now c.read-in-Ok-When.result c.in_ok-condition-in-Ok-When.condition c.in_ok-condition-in-Ok-When.ensures c.read-in-Ok-When.ensures in
    let deed = deed_good c.take.new.self.names.now c.take.new.self.operands.items c.in-Ok-When.deed c.deed.result c.in_ok-target-in-Ok-When.target c.in_ok-target-in-Ok-When.value c.in_ok-target-in-Ok-When.ensures c.deed.ensures in
    guarded_read _ c.take.new.self.names.now _ c.take.new.self.operands.items _ _ c.take.new.self.rest.now _ c.in-Some.text.now c.as_bytes.result.now c.in-Ok-When.condition.now c.in-Ok-When.deed c.in_ok-condition-in-Ok-When.condition c.in_ok-target-in-Ok-When.target
    c.in_ok-target-in-Ok-When.value c.in_ok-block-in-Ok-When.block _ _ names operands c.in-Some.ensures.taken same form asked deed (as_named _ _ _ _ _ c.in_ok-block-in-Ok-When.field-0.block _ c.in_ok-block-in-Ok-When.field-0.ending _ c.in_ok-block-in-Ok-When.ensures.read (cc) (cc)) (refl, refl, refl, (cc c.in_ok-rest-in-Ok-When.ensures))

pub statements-returns-in_ok-rest-in-Ok-Plain-clause-read : goal.statements-returns-in_ok-rest-in-Ok-Plain-clause-read
statements-returns-in_ok-rest-in-Ok-Plain-clause-read t c =
    let same : c.as_bytes.result.now ≡ c.in-Some.text.now = cc in
    let form : IsStatement c.as_bytes.result.now c.in-Ok-Plain.deed = rw c.in-Ok-Plain.field-0-is at c.in-Ok-Plain.ensures in
    let names : c.take.new.self.names.now ≡ c.args.self.now.names.now = ap (λ (names : Bor BodyNames). names.now) c.take.ensures.same.0 in
    let operands : c.take.new.self.operands.items ≡ c.args.self.now.operands.items = cc in
    let deed = deed_good c.take.new.self.names.now c.take.new.self.operands.items c.in-Ok-Plain.deed c.deed-in-Ok-Plain.result c.in_ok-target-in-Ok-Plain.target c.in_ok-target-in-Ok-Plain.value c.in_ok-target-in-Ok-Plain.ensures c.deed-in-Ok-Plain.ensures in
    statement_read _ c.take.new.self.names.now _ c.take.new.self.operands.items _ _ c.take.new.self.rest.now _ c.in-Some.text.now c.as_bytes.result.now c.in-Ok-Plain.deed c.in_ok-target-in-Ok-Plain.target c.in_ok-target-in-Ok-Plain.value c.in_ok-block-in-Ok-Plain.block _ _ names
    operands c.in-Some.ensures.taken same form deed (as_named _ _ _ _ _ c.in_ok-block-in-Ok-Plain.field-0.block _ c.in_ok-block-in-Ok-Plain.field-0.ending _ c.in_ok-block-in-Ok-Plain.ensures.read (cc) (cc)) (refl, refl, (cc c.in_ok-rest-in-Ok-Plain.ensures))

pub bind-returns-in-Some-clause-same : goal.bind-returns-in-Some-clause-same
bind-returns-in-Some-clause-same t c =
    let count : c.len-count.result ≡ length c.args.self.now.operands.items = search rules in
    (c.forget_names.ensures.same.0 ∙ c.in_ok-part.ensures.same.0 ∙ c.push_name.ensures.same.0, names_again _ _ _ _ _ _ count c.in_ok-push_name.ensures.added c.in_ok-part.ensures.same.1 c.forget_names.ensures.kept)

pub bind-returns-in-Some-clause-read : goal.bind-returns-in-Some-clause-read
bind-returns-in-Some-clause-read t c = λ line is.
    let names : c.push_name.new.self.names.now ≡ c.args.self.now.names.now = ap (λ (names : Bor BodyNames). names.now) c.push_name.ensures.same.0 in
    let lines : c.push_name.new.self.rest.now ≡ c.args.self.now.rest.now = ap (λ (rest : Bor (List (List ℕ))). rest.now) c.push_name.ensures.same.1 in
    let new : c.forget_names.new.self.rest.now ≡ c.statements.new.self.rest.now = ap (λ (rest : Bor (List (List ℕ))). rest.now) c.forget_names.ensures.same.1 in
    let named = name_good c.args.self.now.operands.items c.args.name.now c.in_ok-name.name c.new_name.result c.in_ok-name.ensures c.new_name.ensures in
    let value = value_good c.args.self.now.operands.items c.args.self.now.names.now.readable c.args.value.now c.read.result c.in_ok-value.value c.in_ok-value.ensures c.read.ensures in
    new_moved_to _ _ _ _ _ _ _ _ new
    (known_let_read _ c.push_name.new.self.names.now _ c.push_name.new.self.operands.items _ _ c.push_name.new.self.rest.now c.statements.new.self.rest.now c.args.name.now c.args.value.now c.in_ok-name.name c.in_ok-value.value c.in-Some.operand _ _ names lines
    c.in_ok-push_name.ensures.added named value (sym c.unchanging.ensures ∙ c.in-Some.is) c.in_ok-part.ensures.read line is)

pub bind-returns-clause-same : goal.bind-returns-clause-same
bind-returns-clause-same t c =
    let count : c.len-count.result ≡ length c.args.self.now.operands.items = search rules in
    (c.forget_names-2.ensures.same.0 ∙ c.in_ok-block.ensures.same.0 ∙ c.push_name-2.ensures.same.0, names_again _ _ _ _ _ _ count c.in_ok-push_name-2.ensures.added c.in_ok-block.ensures.same.1 c.forget_names-2.ensures.kept)

pub bind-returns-clause-read : goal.bind-returns-clause-read
bind-returns-clause-read t c = λ line is.
    let names : c.push_name-2.new.self.names.now ≡ c.args.self.now.names.now = ap (λ (names : Bor BodyNames). names.now) c.push_name-2.ensures.same.0 in
    let lines : c.push_name-2.new.self.rest.now ≡ c.args.self.now.rest.now = ap (λ (rest : Bor (List (List ℕ))). rest.now) c.push_name-2.ensures.same.1 in
    let new : c.forget_names-2.new.self.rest.now ≡ c.statements-2.new.self.rest.now = ap (λ (rest : Bor (List (List ℕ))). rest.now) c.forget_names-2.ensures.same.1 in
    let named = name_good c.args.self.now.operands.items c.args.name.now c.in_ok-name.name c.new_name.result c.in_ok-name.ensures c.new_name.ensures in
    let value = value_good c.args.self.now.operands.items c.args.self.now.names.now.readable c.args.value.now c.read.result c.in_ok-value.value c.in_ok-value.ensures c.read.ensures in
    state_let_read _ c.push_name-2.new.self.names.now _ c.push_name-2.new.self.operands.items _ c.in_ok-next.next _ c.push_name-2.new.self.rest.now c.statements-2.new.self.rest.now _ c.args.name.now c.args.value.now c.in_ok-name.name c.in_ok-value.value c.in_ok-block.block _ _ new names lines
    c.in_ok-push_name-2.ensures.added c.in_ok-next.ensures named value (sym c.unchanging.ensures ∙ c.in_default.is) (as_named _ _ _ _ _ c.in_ok-block.field-0.block _ c.in_ok-block.field-0.ending _ c.in_ok-block.ensures.read (cc) (cc)) (refl, (cc c.in_ok-rest.ensures)) line is

pub branches-returns-in-End-clause-read : goal.branches-returns-in-End-clause-read
branches-returns-in-End-clause-read t c =
    let read = as_named _ _ _ _ _ c.in_ok-block.field-0.block c.in_ok-first.first.value c.in_ok-block.field-0.ending _ c.in_ok-block.ensures.read (cc c.in_ok-first.ensures) (cc) in
    (refl, one_branch_read _ _ _ c.in_ok-next.next _ _ _ c.in_ok-block.field-0.ending c.in_ok-next.ensures c.in-End.is read)

pub branches-returns-in_ok-second-in-Else-clause-read : goal.branches-returns-in_ok-second-in-Else-clause-read
branches-returns-in_ok-second-in-Else-clause-read t c =
    let names : c.statements.new.self.names.now ≡ c.args.self.now.names.now = ap (λ (names : Bor BodyNames). names.now) c.in_ok-block.ensures.same.0 in
    let read = as_named _ _ _ _ _ c.in_ok-block.field-0.block c.in_ok-first.first.value c.in_ok-block.field-0.ending _ c.in_ok-block.ensures.read (cc c.in_ok-first.ensures) (cc) in (
      refl,
      two_branches_read _ c.statements.new.self.names.now _ c.statements.new.self.operands.items _ c.in_ok-next.next _ c.statements.new.self.rest.now _ _ _ c.in_ok-block.field-0.ending names c.in_ok-block.ensures.same.1 c.in_ok-next.ensures c.in-Else.is read c.in_ok-second-in-Else.ensures.read,
    )

pub branches-returns-in_ok-second-in-Elif-clause-read : goal.branches-returns-in_ok-second-in-Elif-clause-read
branches-returns-in_ok-second-in-Elif-clause-read t c =
    let names : c.statements.new.self.names.now ≡ c.args.self.now.names.now = ap (λ (names : Bor BodyNames). names.now) c.in_ok-block.ensures.same.0 in
    let inner = c.in_ok-inner-in-Elif.inner in
    let begins = if_named c.joined.result c.in_ok-second-in-Elif.second.value inner.condition inner.first.value (unboxed inner.second) c.in_ok-rest-in-Elif.rest.value End (cc c.in_ok-second-in-Elif.ensures) (cc c.in_ok-rest-in-Elif.ensures) c.joined.ensures in
    let other = value_good c.statements.new.self.operands.items c.statements.new.self.names.now.readable c.in-Elif.other.now c.read.result c.in_ok-other-in-Elif.other c.in_ok-other-in-Elif.ensures c.read.ensures in
    let read = as_named _ _ _ _ _ c.in_ok-block.field-0.block c.in_ok-first.first.value c.in_ok-block.field-0.ending _ c.in_ok-block.ensures.read (cc c.in_ok-first.ensures) (cc) in (
      refl,
      more_branches_read _ c.statements.new.self.names.now _ c.statements.new.self.operands.items _ c.in_ok-next.next _ c.statements.new.self.rest.now _ _ c.in_ok-block.field-0.ending c.in-Elif.other c.in_ok-other-in-Elif.other inner.condition inner.first.value (unboxed inner.second) _ names
          c.in_ok-block.ensures.same.1 c.in_ok-next.ensures c.in-Elif.is read other c.in_ok-inner-in-Elif.ensures.read begins,
    )

pub followed-returns-clause-read : goal.followed-returns-clause-read
followed-returns-clause-read t c =
    let read = as_named _ _ _ _ _ c.in_ok-block.field-0.block c.in_ok-rest.rest.value c.in_ok-block.field-0.ending _ c.in_ok-block.ensures.read (cc c.in_ok-rest.ensures) (cc) in
    (c.in_ok-rest.rest.value, read, c.joined-block.ensures)

pub last_branch-returns-in-End-clause-read : goal.last_branch-returns-in-End-clause-read
last_branch-returns-in-End-clause-read t c =
    as_named _ _ _ _ _ c.in_ok-block.field-0.block c.in_ok-second.second.value c.in_ok-block.field-0.ending ending.End c.in_ok-block.ensures.read (cc c.in_ok-second.ensures) (sym c.in-End.is)
