use Rattle.network_laws.specs.Consistent.{Where}
use Rattle.network_laws.proofs.WholeTrace.{agrees_with_whole, rows_are_a_prefix}
use Rattle.network_laws.proofs.agreement.consistent_traces_follow_the_undivided_program.Goals as goal

pub returns : goal.returns
returns c = record {
  history = λ n L T s. agrees_with_whole n L T (Where s);
  rows = λ n L T s. rows_are_a_prefix n L T (Where s);
}
