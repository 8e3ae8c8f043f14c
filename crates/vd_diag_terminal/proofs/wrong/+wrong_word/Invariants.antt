use Rattle.std.proofs.Common.{length}
use Rattle.vd_diag_terminal.proofs.wrong.+wrong_word.Given as goal

abbrev pub decreases-wrong_word : goal.decreases-wrong_word
decreases-wrong_word l = length l.pattern.now
