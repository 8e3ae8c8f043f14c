use Rattle.std.proofs.Common.{◌≡◌, ◌^◌, ap, arith}
use Rattle.vd_formula.proofs.Implies.{few_sets}
use Rattle.vd_formula.proofs.formula.Formula.at.Goals as goal

pub overflow_shr-result : goal.overflow_shr-result
overflow_shr-result c =
    let names : c.self.inside.names ≡ c.args.self.now.names = ap (λ t. t.names) c.self.view_is in
    let same : 2 ^ c.self.inside.names ≡ 2 ^ c.args.self.now.names = ap (λ n. 2 ^ n) names in
    omega (arith, few_sets c.self.inside.names c.self.invariant.few_names, same, c.requires, c.from.ensures)
