use Rattle.std.proofs.lemmas.Result.{err_from_is_err_and}
use Rattle.loadfed.proofs.connection_shape.connections_shape.Goals as goal

pub returns-in_err-connections-clause-refused : goal.returns-in_err-connections-clause-refused
returns-in_err-connections-clause-refused c =
    let p = err_from_is_err_and c.from_residual.result c.from_residual.ensures.1 in
    rw (p.1, p.2) c.in_err-connections.ensures.refused

pub returns-clause-ok : goal.returns-clause-ok
returns-clause-ok c = rw c.new.ensures c.in_ok-connections.ensures.ok
