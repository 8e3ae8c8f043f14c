use Rattle.vd_diag_terminal.proofs.Candidates.{valid_stands}
use Rattle.vd_diag_terminal.proofs.diag_choice.laws.valid_lists_stand_at_candidates.Goals as goal

pub returns : goal.returns
returns c = valid_stands
