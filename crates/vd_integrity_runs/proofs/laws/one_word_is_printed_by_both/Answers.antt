use Rattle.vd_integrity_runs.proofs.Example.{prints_what_she_sent}
use Rattle.vd_integrity_runs.proofs.laws.one_word_is_printed_by_both.Goals as goal

pub returns : goal.returns
returns c = prints_what_she_sent
