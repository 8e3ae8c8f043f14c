-- The let-normal form of a resolved source keeps all facts.
use Rattle.std.proofs.Common.{◌≡◌, suc, List, [], ◌∷◌, length, refl, ap, arith}
use Rattle.vd_core.specs.declared.source.Ident.{Ident}
use Rattle.vd_core.specs.declared.source.Host.{Host}
use Rattle.vd_core.specs.declared.source.Source.{Source}
use Rattle.vd_core.specs.Named.{HasNames}
use Rattle.vd_core.specs.Facts.{WithinLimits, IsWellMade}
use Rattle.vd_semantics.specs.SourceMeaning.{host_names}
use Rattle.vd_elaborate.specs.Normal.{normal_form}
use Rattle.vd_resolve.specs.Rules.{source_check}
use Rattle.vd_resolve.specs.Limits.{limits_check, IsResolved}
use Rattle.vd_resolve.specs.Sizes.{source_size}
use Rattle.vd_elaborate.proofs.AnfWellformedSteps.{passed}
use Rattle.vd_elaborate.proofs.Distinct.{idents}
use Rattle.vd_elaborate.proofs.Labels.{label_for_each}
use Rattle.vd_elaborate.proofs.Order.{slots_in_order}
use Rattle.vd_elaborate.proofs.Seeing.{made_before}
use Rattle.vd_elaborate.proofs.Operands.{operands_fit_all}
use Rattle.vd_elaborate.proofs.Turns.{turns_in_loops}
use Rattle.vd_elaborate.proofs.Resolved.{resolved_limited}
use Rattle.vd_elaborate.proofs.Declared.{shifts_fit_all, hosts_declared, principals_declared, principals_are_names, hosts_are_names}
use Rattle.vd_elaborate.proofs.Exact.{exact_statements, exact_weights, exact_nesting, exact_cells}

idents_length : (xs : List Ident) → length (idents xs) ≡ length xs
idents_length [] = refl
idents_length (x ∷ xs) = ap suc (idents_length xs)

hosts_length : (hs : List Host) → length (host_names hs) ≡ length hs
hosts_length [] = refl
hosts_length (h ∷ hs) = ap suc (hosts_length hs)

pub within_limits : (source : Source) → IsResolved source → HasNames source → WithinLimits (normal_form source)
within_limits source resolved named =
    let checked = passed (source_check source) (λ done. limits_check (length source.principals) (length source.hosts) (source_size source)) tt resolved in
    let limits = resolved_limited source resolved in
    let principals = idents_length source.principals in
    let hosts = hosts_length source.hosts in
    let l1 = limits.principals in
    let l2 = limits.hosts in
    let l3 = limits.nesting in
    let l4 = limits.statements in
    let l5 = limits.weights in
    let l6 = limits.cells in
    let f3 = exact_nesting source checked.1 in
    let f4 = exact_statements source checked.1 in
    let f5 = exact_weights source checked.1 in
    let f6 = exact_cells source checked.1 in
    let n1 = named.some_principal in
    let n2 = named.some_host in
    record {
      some_principal = omega arith;
      principals = omega arith;
      some_host = omega arith;
      hosts = omega arith;
      statements = omega arith;
      loops = omega arith;
      weights = omega arith;
      cells = omega arith;
    }

pub well_made : (source : Source) → IsResolved source → HasNames source → IsWellMade (normal_form source)
well_made source resolved named = record {
  in_order = slots_in_order source;
  made_before = made_before source;
  operands = operands_fit_all source;
  shifts = shifts_fit_all source resolved;
  turns = turns_in_loops source;
  principals = principals_are_names source resolved named;
  hosts = hosts_are_names source resolved named;
  known_hosts = hosts_declared source resolved;
  known_principals = principals_declared source resolved;
  labels = label_for_each source;
  limits = within_limits source resolved named;
}
