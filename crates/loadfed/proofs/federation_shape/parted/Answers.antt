use Rattle.std.proofs.Common.{◌≡◌, ◌∷◌, [], ◌++◌, List, map, length, sym, ap, ◌∙◌, append_assoc, append-nil, arith}
use Rattle.std.specs.Vec.Iter.{into_iter_items}
use Rattle.std.proofs.lemmas.List.{map-append}
use Rattle.loadfed.specs.declared.federation_shape.FederateShape.{FederateShape}
use Rattle.std.proofs.lemmas.List.{nil_from_length}
use Rattle.loadfed.proofs.federation_shape.parted.Goals as goal

pub loop-shape-preserved : goal.loop-shape-preserved
loop-shape-preserved c =
    let at = c.loop-shape in
    let x = c.in-Some.shape in
    let steps : into_iter_items at.shape-iterator ≡ x ∷ into_iter_items c.next.new.self = c.in-Some.ensures.steps.0 in
    let left : List FederateShape = into_iter_items c.next.new.self in
    let moved : at.yielded ++ x ∷ left ≡ (at.yielded ++ x ∷ []) ++ left = sym {A = List FederateShape} (append_assoc at.yielded (x ∷ []) left) in (
      map-append (λ (s : FederateShape). s.federate) at.yielded (x ∷ []) ∙ ap (λ fs. fs ++ x.federate ∷ []) at.invariant.0 ∙ sym c.in_ok-push.ensures.items,
      map-append (λ (s : FederateShape). s.program) at.yielded (x ∷ []) ∙ ap (λ ps. ps ++ x.program ∷ []) at.invariant.1 ∙ sym c.in_ok-push-2.ensures.items,
      at.invariant.2 ∙ (ap (λ xs. at.yielded ++ xs) steps ∙ moved),
      let was = at.invariant.3 in
          let gone = c.in-Some.ensures.steps.1 in
          let short = ap length steps in
          omega arith,
    )

pub returns-clause-ok : goal.returns-clause-ok
returns-clause-ok c =
    let at = c.loop-shape in
    let none = c.in-None.ensures.steps in
    let empty : into_iter_items at.shape-iterator ≡ [] = nil_from_length _ (sym at.invariant.3 ∙ none.0) in
    let all : at.yielded ≡ c.args.shapes.items
    = sym (append-nil at.yielded) ∙ sym (ap (λ xs. at.yielded ++ xs) empty) ∙ sym at.invariant.2 in (
      c.new.ensures ∙ sym at.invariant.0 ∙ ap (map (λ (s : FederateShape). s.federate)) all,
      sym at.invariant.1 ∙ ap (map (λ (s : FederateShape). s.program)) all,
    )
