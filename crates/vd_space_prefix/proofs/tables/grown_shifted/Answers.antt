use Rattle.std.proofs.Common.{length, ap, ap₂, ◌∙◌, sym, subst, ◌+ℤ◌}
use Rattle.vd_space_prefix.specs.declared.naming.Naming.{Naming}
use Rattle.vd_space_prefix.specs.Steps.{changes}
use Rattle.vd_space_prefix.specs.Tables.{gain_at, shifted_part}
use Rattle.vd_space_prefix.specs.Transfers.{IsWithin}
use Rattle.vd_space_prefix.proofs.Choices.{listed_after, shifted_grows, small_gain, small_sum}
use Rattle.vd_space_prefix.proofs.tables.grown_shifted.Goals as goal

pub overflow_add-result : goal.overflow_add-result
overflow_add-result c =
    let gain = c.gain_of-gain.ensures ∙ ap (λ g. gain_at g (length c.args.before.now) c.args.choice) c.as_slice.ensures in
    small_gain c.gain_of-gain.result c.growth_of-growth.result (subst (IsWithin 2305843009213693952) (sym gain) (c.requires.tables.shifted_gains (length c.args.before.now) c.args.choice)) c.growth_of-growth.ensures.within

pub overflow_add-result-2 : goal.overflow_add-result-2
overflow_add-result-2 c =
    let before = c.args.before.now in
    let after = c.args.after.now in
    let tables = c.args.tables.now in
    let step = shifted_grows c.args.problem.now tables before c.args.choice after c.requires.tables c.requires.step in
    let gain = c.gain_of-gain.ensures ∙ ap (λ g. gain_at g (length before) c.args.choice) c.as_slice.ensures in
    let uses_are = c.as_slice-4.ensures ∙ ap (λ (n : Naming). n.uses) c.naming_of-naming.ensures in
    let growth = c.growth_of-growth.ensures.growth ∙ (λ i. changes (c.as_slice-2.ensures i) (c.as_slice-3.ensures i) (uses_are i) before after) in
    let old = c.requires.shifted in
    let first = (c.requires.tables.small before c.requires.step.listed).shifted in
    let second = (c.requires.tables.small after (listed_after c.args.problem.now before c.args.choice after c.requires.step)).shifted in
    let gain_small = c.requires.tables.shifted_gains (length before) c.args.choice in
    let growth_small = c.growth_of-growth.ensures.within in
    let sum = small_sum c.args.shifted c.gain_of-gain.result c.growth_of-growth.result (shifted_part c.args.problem.now c.args.tables.now.shifts before) (shifted_part c.args.problem.now c.args.tables.now.shifts after) old (ap₂ (λ a b. a +ℤ b) gain growth ∙ step) first second (subst (IsWithin 2305843009213693952) (sym gain) gain_small) growth_small in
    sum.0

pub returns : goal.returns
returns c =
    let before = c.args.before.now in
    let after = c.args.after.now in
    let tables = c.args.tables.now in
    let step = shifted_grows c.args.problem.now tables before c.args.choice after c.requires.tables c.requires.step in
    let gain = c.gain_of-gain.ensures ∙ ap (λ g. gain_at g (length before) c.args.choice) c.as_slice.ensures in
    let uses_are = c.as_slice-4.ensures ∙ ap (λ (n : Naming). n.uses) c.naming_of-naming.ensures in
    let growth = c.growth_of-growth.ensures.growth ∙ (λ i. changes (c.as_slice-2.ensures i) (c.as_slice-3.ensures i) (uses_are i) before after) in
    let old = c.requires.shifted in
    let first = (c.requires.tables.small before c.requires.step.listed).shifted in
    let second = (c.requires.tables.small after (listed_after c.args.problem.now before c.args.choice after c.requires.step)).shifted in
    let gain_small = c.requires.tables.shifted_gains (length before) c.args.choice in
    let growth_small = c.growth_of-growth.ensures.within in
    let sum = small_sum c.args.shifted c.gain_of-gain.result c.growth_of-growth.result (shifted_part c.args.problem.now c.args.tables.now.shifts before) (shifted_part c.args.problem.now c.args.tables.now.shifts after) old (ap₂ (λ a b. a +ℤ b) gain growth ∙ step) first second (subst (IsWithin 2305843009213693952) (sym gain) gain_small) growth_small in
    sum.1
