use Rattle.std.proofs.Common.{◌≡◌, [], false, arith, subst, sym}
use Rattle.std.proofs.lemmas.List.{nil_from_length}
use Rattle.node.specs.Mail.{lacks_room}
use Rattle.node.specs.Box.{IsReady}
use Rattle.node.proofs.Ends.{no_posts}
use Rattle.node.proofs.outbox.Outbox.reserve_all.Goals as goal

pub returns-then-is_empty-clause-answer : goal.returns-then-is_empty-clause-answer
returns-then-is_empty-clause-answer c _ =
    let empty : c.args.posts.now ≡ [] = nil_from_length c.args.posts.now (grind (arith, c.is_empty.ensures, c.if-is_empty.true)) in
    let room : lacks_room c.args.self.now.mail.ends c.args.posts.now ≡ false =
    subst (λ posts. lacks_room c.args.self.now.mail.ends posts ≡ false) (sym empty) (no_posts 0 c.args.self.now.mail.ends) in
    grind (arith, room)

pub returns-then-is_empty-clause-ready : goal.returns-then-is_empty-clause-ready
returns-then-is_empty-clause-ready c =
    let empty : c.args.posts.now ≡ [] = nil_from_length c.args.posts.now (grind (arith, c.is_empty.ensures, c.if-is_empty.true)) in
    subst (λ posts. IsReady c.args.self.now posts) (sym empty) (record {
      room = no_posts 0 c.args.self.now.mail.ends;
      memory = λ p e found unclosed. omega arith;
      places = omega arith;
    })
