use Rattle.std.proofs.Common.{true, false, sym, ◌∙◌}
use Rattle.vd_space.proofs.Behind.{valid_where}
use Rattle.vd_space.proofs.problem.Problem.is_valid.Goals as goal

pub returns-then-not-have_candidates : goal.returns-then-not-have_candidates
returns-then-not-have_candidates c = sym (valid_where c.args.self.now c.args.prefix.now false (sym c.if-not-have_candidates.true ∙ c.have_candidates.ensures))

pub returns : goal.returns
returns c =
    c.is_valid_so_far.ensures ∙ sym (valid_where c.args.self.now c.args.prefix.now true (sym c.if-not-have_candidates.false ∙ c.have_candidates.ensures))
