use Rattle.std.proofs.Common.{length, ap, ◌∙◌}
use Rattle.vd_space.specs.Growth.{guard_names}
use Rattle.vd_space_prefix.specs.declared.naming.Naming.{Naming}
use Rattle.vd_space_prefix.specs.Naming.{all_at}
use Rattle.vd_space_prefix.proofs.Choices.{guards_named}
use Rattle.vd_space_prefix.proofs.tables.can_grow.Goals as goal

pub is_allowed-requires-clause-named : goal.is_allowed-requires-clause-named
is_allowed-requires-clause-named c =
    ap (λ (n : Naming). all_at (guard_names (length c.args.before.now)) c.args.problem.now.guards n.guards) c.naming_of-naming.ensures
    ∙ guards_named c.args.problem.now c.args.tables.now c.args.before.now c.args.choice c.args.after.now c.requires.tables c.requires.step
