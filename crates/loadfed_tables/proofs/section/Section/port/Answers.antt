use Rattle.std.proofs.Common.{◌≡◌, ℕ, ◌++◌, ◌∷◌, List, None, lit<, rules}
use Rattle.loadfed_tables.proofs.Dots.{HasNoDot}
use Rattle.std.proofs.lemmas.Str.Pattern.{split_parts, split_after}
use Rattle.std.proofs.lemmas.Result.{err_from_is_err_and}
use Rattle.loadfed_tables.specs.Sections.{members_of}
use Rattle.loadfed_tables.proofs.Refusals.{weaker, told}
use Rattle.loadfed_tables.proofs.Ports.{text_of_port, no_port, front_told, back_told, port_read}
use Rattle.loadfed_tables.proofs.section.Section.port.Goals as goal

pub returns-in_err-text-clause-refused : goal.returns-in_err-text-clause-refused
returns-in_err-text-clause-refused c =
    let p = err_from_is_err_and c.from_residual.result c.from_residual.ensures.1 in
    rw (p.1, p.2) (weaker _ _ _ _ (text_of_port c.args.key.now (members_of c.args.self.now)) c.in_err-text.ensures.refused)

pub returns-in_err-federate-clause-refused : goal.returns-in_err-federate-clause-refused
returns-in_err-federate-clause-refused c =
    let p = err_from_is_err_and c.from_residual-in_err-federate.result c.from_residual-in_err-federate.ensures.1 in
    let cut : (xs ys : List ℕ) → c.in_ok-text.text.now ≡ xs ++ (46 ∷ ys) → HasNoDot xs → (c.in-Some.front.now ≡ xs) × (c.in-Some.back.now ≡ ys) =
    λ xs ys same none. rw c.in-Some.is at (split_after 46 c.in_ok-text.text.now xs ys c.split_once.result c.split_once.ensures.cases (lit< tt) same none) in
    rw (p.1, p.2) (front_told c.args.key.now (members_of c.args.self.now) c.in_ok-text.text.now c.in-Some.front.now c.in-Some.back.now _ c.in_ok-text.ensures.ok cut c.in_err-federate.ensures.refused)

pub returns-in_err-port-clause-refused : goal.returns-in_err-port-clause-refused
returns-in_err-port-clause-refused c =
    let p = err_from_is_err_and c.from_residual-in_err-port.result c.from_residual-in_err-port.ensures.1 in
    let cut : (xs ys : List ℕ) → c.in_ok-text.text.now ≡ xs ++ (46 ∷ ys) → HasNoDot xs → (c.in-Some.front.now ≡ xs) × (c.in-Some.back.now ≡ ys) =
    λ xs ys same none. rw c.in-Some.is at (split_after 46 c.in_ok-text.text.now xs ys c.split_once.result c.split_once.ensures.cases (lit< tt) same none) in
    rw (p.1, p.2) (back_told c.args.key.now (members_of c.args.self.now) c.in_ok-text.text.now c.in-Some.front.now c.in-Some.back.now _ c.in_ok-text.ensures.ok cut c.in_err-port.ensures.refused)

pub returns-in_default-clause-refused : goal.returns-in_default-clause-refused
returns-in_default-clause-refused c =
    let gone : c.split_once.result ≡ None = search rules in
    told _ _ _ (no_port c.args.key.now (members_of c.args.self.now) c.in_ok-text.text.now c.in_ok-text.ensures.ok
    (rw gone at (split_parts 46 c.in_ok-text.text.now c.split_once.result c.split_once.ensures.cases (lit< tt)))) c.wrong_shape.ensures

pub returns-clause-ok : goal.returns-clause-ok
returns-clause-ok c =
    let parts = rw c.in-Some.is at (split_parts 46 c.in_ok-text.text.now c.split_once.result c.split_once.ensures.cases (lit< tt)) in
    port_read c.args.key.now (members_of c.args.self.now) c.in_ok-text.text.now c.in-Some.front.now c.in-Some.back.now c.in_ok-federate.federate c.in_ok-port.port
    c.in_ok-text.ensures.ok parts.0 c.in_ok-federate.ensures.copy c.in_ok-port.ensures.copy c.in_ok-federate.ensures.named c.in_ok-port.ensures.named
