use Rattle.std.proofs.Common.{◌≡◌, ◌+◌, ℕ, Option, OnOk, refl, sym, subst}
use Rattle.fedrun_frames.specs.Making.{ListsRounds, ListsClosing}
use Rattle.fedrun_frames.proofs.making.close.Goals as goal

pub returns-in-Some : goal.returns-in-Some
returns-in-Some c =
    let s = c.args.script.now in
    let v = c.args.player.now in
    let before = c.args.made.now.items in
    let after = c.make_closing_rounds.new.made.items in
    let result = c.make_closing_rounds.result in
    let last : c.line_after.result ≡ s.last_line + 1 = c.line_after.ensures in
    subst (λ (closing : Option ℕ). OnOk result (ListsClosing s closing v before after)) (sym c.in-Some.is)
    (subst (λ (line : ℕ). OnOk result (ListsRounds line c.in-Some.most v before after)) last c.make_closing_rounds.ensures)

pub returns-in-None : goal.returns-in-None
returns-in-None c =
    let s = c.args.script.now in
    let made = c.args.made.now.items in
    subst (λ (closing : Option ℕ). ListsClosing s closing c.args.player.now made made) (sym c.in-None.is) refl
