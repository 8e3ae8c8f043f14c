use Rattle.std.proofs.Common.{◌≡◌, take, length, ap, subst, ◌∙◌}
use Rattle.vd_lsp_names.proofs.Cut.{cut_before}
use Rattle.vd_lsp_names.proofs.kinds.Outer.+walking.Goals as goal

pub turns-returns-clause-kept : goal.turns-returns-clause-kept
turns-returns-clause-kept t c =
    c.truncate.ensures
    ∙ ap (λ n. take n c.statements.new.values) c.len-outer.ensures
    ∙ cut_before c.args.values.now (c.as_slice.result.now, c.args.declared) c.statements.new.values
    (subst (λ v. take (length v) c.statements.new.values ≡ v) c.in_ok-add.ensures.ok c.in_ok-statements.ensures.kept)
