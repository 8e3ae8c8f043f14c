use Rattle.std.proofs.Common.{◌≤◌, length, sym, ap, ap₂, ◌∙◌, subst, ◌+ℤ◌}
use Rattle.vd_space.specs.Growth.{guard_names}
use Rattle.vd_space_prefix.specs.declared.naming.Naming.{Naming}
use Rattle.vd_space_prefix.specs.Steps.{changes}
use Rattle.vd_space_prefix.specs.Guards.{guard_changes}
use Rattle.vd_space_prefix.specs.Naming.{all_at}
use Rattle.vd_space_prefix.specs.Tables.{common_part}
use Rattle.vd_space_prefix.proofs.Choices.{listed_after, common_grows, guards_named, small_sum_turned}
use Rattle.vd_space_prefix.proofs.tables.grown_common.Goals as goal

pub growth_of_guards-guards-requires-clause-numbers : goal.growth_of_guards-guards-requires-clause-numbers
growth_of_guards-guards-requires-clause-numbers c =
    let before = c.args.before.now in
    let problem = c.args.problem.now in
    let tables = c.args.tables.now in
    let guards_are = c.as_slice-6.ensures ∙ ap (λ (n : Naming). n.guards) c.naming_of-naming.ensures in
    record {
      few = subst (λ numbers. length numbers ≤ 2048) (sym guards_are) (c.requires.tables.few (length before)).guards;
      named = ap (all_at (guard_names (length before)) problem.guards) guards_are ∙ guards_named problem tables before c.args.choice c.args.after.now c.requires.tables c.requires.step;
    }

pub overflow_add-result-2 : goal.overflow_add-result-2
overflow_add-result-2 c =
    let before = c.args.before.now in
    let after = c.args.after.now in
    let problem = c.args.problem.now in
    let tables = c.args.tables.now in
    let step = common_grows problem tables before c.args.choice after c.requires.tables c.requires.step in
    let indexes_are = c.as_slice-3.ensures ∙ ap (λ (n : Naming). n.indexes) c.naming_of-naming.ensures in
    let guards_are = c.as_slice-6.ensures ∙ ap (λ (n : Naming). n.guards) c.naming_of-naming.ensures in
    let indexes = c.growth_of-indexes.ensures.growth ∙ (λ i. changes (c.as_slice.ensures i) (c.as_slice-2.ensures i) (indexes_are i) before after) in
    let guards = c.growth_of_guards-guards.ensures.growth ∙ (λ i. guard_changes problem (c.as_slice-5.ensures i) (guards_are i) before after) in
    let first = (c.requires.tables.small before c.requires.step.listed).common in
    let second = (c.requires.tables.small after (listed_after c.args.problem.now before c.args.choice after c.requires.step)).common in
    let sum = small_sum_turned c.args.common c.growth_of-indexes.result c.growth_of_guards-guards.result (common_part problem before) (common_part problem after) c.requires.common (ap₂ (λ a b. a +ℤ b) indexes guards ∙ step) first second c.growth_of-indexes.ensures.within c.growth_of_guards-guards.ensures.within in
    sum.0

pub returns : goal.returns
returns c =
    let before = c.args.before.now in
    let after = c.args.after.now in
    let problem = c.args.problem.now in
    let tables = c.args.tables.now in
    let step = common_grows problem tables before c.args.choice after c.requires.tables c.requires.step in
    let indexes_are = c.as_slice-3.ensures ∙ ap (λ (n : Naming). n.indexes) c.naming_of-naming.ensures in
    let guards_are = c.as_slice-6.ensures ∙ ap (λ (n : Naming). n.guards) c.naming_of-naming.ensures in
    let indexes = c.growth_of-indexes.ensures.growth ∙ (λ i. changes (c.as_slice.ensures i) (c.as_slice-2.ensures i) (indexes_are i) before after) in
    let guards = c.growth_of_guards-guards.ensures.growth ∙ (λ i. guard_changes problem (c.as_slice-5.ensures i) (guards_are i) before after) in
    let first = (c.requires.tables.small before c.requires.step.listed).common in
    let second = (c.requires.tables.small after (listed_after c.args.problem.now before c.args.choice after c.requires.step)).common in
    let sum = small_sum_turned c.args.common c.growth_of-indexes.result c.growth_of_guards-guards.result (common_part problem before) (common_part problem after) c.requires.common (ap₂ (λ a b. a +ℤ b) indexes guards ∙ step) first second c.growth_of-indexes.ensures.within c.growth_of_guards-guards.ensures.within in
    sum.1
