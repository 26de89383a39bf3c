use Rattle.std.proofs.Common.{◌≡◌, false, map, [], refl, rules, arith}
use Rattle.std.proofs.lemmas.Grind.{common_steps}
use Rattle.loadfed_tables.specs.Tables.{is_among}
use Rattle.toml.proofs.Views.{Entry as TableEntry}
use Rattle.expand_documents.proofs.Members.{kept, all_taken}
use Rattle.expand_documents.proofs.entries.entries.Goals as goal

pub loop-key-preserved-in-Continue-1 : goal.loop-key-preserved-in-Continue-1
loop-key-preserved-in-Continue-1 c =
    let keys = map (λ k. k.now) c.args.left_out.now in
    let taken : TableEntry = (c.in-Some.key.now, c.in-Some.value.now) in
    let kept_so : is_among keys c.as_str-key.result.now ≡ false = search rules in
    kept keys _ c.loop-key.entries.items c.push.new.self.items (record { key = c.as_str-key.result; value = c.in-Some.value }) taken c.loop-key.key-iterator c.next.new.self
    c.loop-key.invariant c.in-Some.ensures.steps c.in_ok-push.ensures.items c.as_str-key.ensures.value refl kept_so

pub returns : goal.returns
returns c =
    let none : c.loop-key.key-iterator ≡ [] = grind (arith, common_steps) in
    all_taken (map (λ k. k.now) c.args.left_out.now) _ c.loop-key.entries.items c.loop-key.key-iterator c.loop-key.invariant none
