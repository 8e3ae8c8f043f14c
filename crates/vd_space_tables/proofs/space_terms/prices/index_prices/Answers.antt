use Rattle.std.proofs.Common.{◌≡◌, ℕ, List, Option, length, ap, arith, sym, subst, ◌∙◌}
use Rattle.vd_space.specs.Costs.{moves_to, hosts_at}
use Rattle.vd_space.specs.Validity.{protocols}
use Rattle.vd_space_prefix.specs.Transfers.{ArePrices, by_place}
use Rattle.vd_space_prefix.proofs.Front.{grows}
use Rattle.vd_space_tables.proofs.Cells.{tells_small}
use Rattle.vd_space_tables.proofs.Few.{few_protocols}
use Rattle.vd_space_tables.proofs.space_terms.prices.index_prices.Goals as goal

pub overflow_cast-array : goal.overflow_cast-array
overflow_cast-array c =
    let few = few_protocols (length c.args.problem.now.hosts) c.requires.labelled.few_hosts in
    let same = ap length c.requires.all in
    omega (arith, few, same)

pub loop-array-preserved : goal.loop-array-preserved
loop-array-preserved c =
    let problem = c.args.problem.now in
    grows (λ p. by_place (length (protocols problem)) (λ q. moves_to problem q (hosts_at problem p))) c.loop-array.array c.loop-array.prices c.push.new.self c.in_ok-prices_of_array.field-0 c.loop-array.invariant c.in_ok-prices_of_array.ensures c.in_ok-push.ensures.ok

pub returns-clause-small : goal.returns-clause-small
returns-clause-small c =
    let problem = c.args.problem.now in
    let same = ap length c.requires.all in
    let all : c.loop-array.array ≡ length (protocols problem) = omega (arith, same) in
    let line : ℕ → List (Option ℕ) = λ p. by_place (length (protocols problem)) (λ q. moves_to problem q (hosts_at problem p)) in
    subst ArePrices (sym (c.loop-array.invariant ∙ ap (λ n. by_place n line) all)) (tells_small problem c.requires.labelled)
