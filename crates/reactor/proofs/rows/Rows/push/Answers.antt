use Rattle.std.proofs.Common.{◌≡◌, ◌∙◌, ◌++◌, ◌∷◌, [], length, ap, rules}
use Rattle.reactor.specs.declared.rows.Span.{Span}
use Rattle.network.specs.Undivided.{Row}
use Rattle.reactor.proofs.FlatRows.{pushed}
use Rattle.reactor.proofs.rows.Rows.push.Goals as goal

pub returns-clause-ok : goal.returns-clause-ok
returns-clause-ok c =
    let entries = c.self.inside.entries.items in
    let inputs = c.args.inputs.now in
    let outputs = c.args.outputs.now in
    let span : Span = record {
      federate = c.args.federate;
      tag = c.args.tag;
      inputs = c.len-first.result;
      outputs = c.len-middle.result;
      end = c.len.result;
    } in
    let row : Row = record { reactor = c.args.federate; tag = c.args.tag; inputs = inputs; outputs = outputs } in
    let with_inputs : c.append.new.to.items ≡ entries ++ inputs = search rules in
    let with_outputs : c.append-2.new.to.items ≡ (entries ++ inputs) ++ outputs = search rules in
    let spans : c.push_reserved.new.self.items ≡ c.self.inside.spans.items ++ span ∷ [] = search rules in
    let first : c.len-first.result ≡ length entries = search rules in
    let middle : c.len-middle.result ≡ length (entries ++ inputs) = search rules in
    let last : c.len.result ≡ length ((entries ++ inputs) ++ outputs) = search rules in
    rw (with_outputs, spans)
    (pushed entries inputs outputs c.self.inside.spans.items span c.self.invariant first middle last ∙
    ap (λ rows. rows ++ row ∷ []) c.self.view_is)
