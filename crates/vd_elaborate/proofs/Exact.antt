-- What a source without faults counts is what its let-normal form has.
use Rattle.std.proofs.Common.{◌≡◌, ◌+◌, Ok, arith}
use Rattle.vd_core.specs.declared.source.Source.{Source}
use Rattle.vd_core.specs.Facts.{statement_count, weight_sum, nesting, cell_count}
use Rattle.vd_elaborate.specs.Normal.{normal_form}
use Rattle.vd_resolve.specs.Rules.{source_check}
use Rattle.vd_resolve.specs.Sizes.{source_size}
use Rattle.vd_elaborate.specs.Calls.{inlined_calls}
use Rattle.vd_elaborate.proofs.SourceFits.{main_fits}

pub exact_statements : (source : Source) → source_check source ≡ Ok tt → (source_size source).statements ≡ statement_count (normal_form source).body + inlined_calls source
exact_statements source checked = let same = (main_fits source checked).statements in omega arith

pub exact_weights : (source : Source) → source_check source ≡ Ok tt → (source_size source).weights ≡ weight_sum (normal_form source).body
exact_weights source checked = let same = (main_fits source checked).weights in omega arith

pub exact_nesting : (source : Source) → source_check source ≡ Ok tt → (source_size source).nesting ≡ nesting (normal_form source).body
exact_nesting source checked = let same = (main_fits source checked).nesting in omega arith

pub exact_cells : (source : Source) → source_check source ≡ Ok tt → (source_size source).cells ≡ cell_count (normal_form source).body
exact_cells source checked = let same = (main_fits source checked).cells in omega arith
