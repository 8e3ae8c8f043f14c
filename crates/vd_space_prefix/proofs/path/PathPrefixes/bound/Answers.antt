use Rattle.std.proofs.Common.{◌∙◌, sym, subst, arith, take, get_or, pos}
use Rattle.std.proofs.lemmas.Bool.{ltb-true}
use Rattle.vd_space_prefix.specs.declared.tables.Sums.{Sums}
use Rattle.vd_space_prefix.specs.Tables.{AreSumsOf}
use Rattle.vd_space_prefix.proofs.Greater.{max_sum}
use Rattle.vd_space_prefix.proofs.path.PathPrefixes.bound.Goals as goal

abbrev none : Sums
none = record { low = pos 0; shifted = pos 0; common = pos 0 }

pub overflow_add-result : goal.overflow_add-result
overflow_add-result c =
    let path = c.args.self.now in
    let prefix = take path.depth path.room in
    let known = path.kept.sums path.depth none (ltb-true path.depth path.valid (sym (path.kept.validity path.depth (omega arith)) ∙ c.requires)) in
    let are = subst (λ list. AreSumsOf path.problem.now path.tables.now.shifts prefix (get_or list path.depth none)) (sym c.as_slice.ensures) known in
    (max_sum path.problem.now path.tables.now.shifts prefix (get_or c.as_slice.result.now path.depth none) c.max.result are (path.tabled.small prefix path.kept.listed) c.max.ensures.value).0

pub returns : goal.returns
returns c =
    let path = c.args.self.now in
    let prefix = take path.depth path.room in
    let known = path.kept.sums path.depth none (ltb-true path.depth path.valid (sym (path.kept.validity path.depth (omega arith)) ∙ c.requires)) in
    let are = subst (λ list. AreSumsOf path.problem.now path.tables.now.shifts prefix (get_or list path.depth none)) (sym c.as_slice.ensures) known in
    (max_sum path.problem.now path.tables.now.shifts prefix (get_or c.as_slice.result.now path.depth none) c.max.result are (path.tabled.small prefix path.kept.listed) c.max.ensures.value).1
