use Rattle.vd_elaborate.proofs.Exact.{exact_statements, exact_weights, exact_nesting, exact_cells}
use Rattle.vd_elaborate.proofs.anf_wellformed.law.counts_are_exact.Goals as goal

pub returns : goal.returns
returns c = record {
  statements = exact_statements;
  weights = exact_weights;
  nesting = exact_nesting;
  cells = exact_cells;
}
