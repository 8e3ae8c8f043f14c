use Rattle.std.proofs.Common.{◌∙◌}
use Rattle.vd_diag_source.proofs.Exactness.{may_spell, exactly, long_exactly}
use Rattle.vd_diag_source.proofs.follow.goes_on.Goals as goal

pub spell-requires : goal.spell-requires
spell-requires c = may_spell _ _ _ (c.as_slice.ensures ∙ c.in_ok-kinds.ensures {u = tt}) c.requires

pub returns-clause-exact : goal.returns-clause-exact
returns-clause-exact c =
    λ begins shallow. exactly c.args.before.now c.args.kind c.as_slice.result.now c.in_ok-text.text c.as_slice-2.result.now c.parse.result c.judge.result (c.as_slice.ensures ∙ c.in_ok-kinds.ensures {u = tt}) begins shallow
    (c.in_ok-text.ensures {u = tt}).kinds c.as_slice-2.ensures c.parse.ensures.outcome c.judge.ensures

pub returns-clause-long : goal.returns-clause-long
returns-clause-long c =
    long_exactly c.args.before.now c.args.kind c.as_slice.result.now c.in_ok-text.text c.as_slice-2.result.now c.parse.result c.judge.result (c.as_slice.ensures ∙ c.in_ok-kinds.ensures {u = tt})
    (c.in_ok-text.ensures {u = tt}).spelled c.as_slice-2.ensures c.parse.ensures.outcome c.judge.ensures
