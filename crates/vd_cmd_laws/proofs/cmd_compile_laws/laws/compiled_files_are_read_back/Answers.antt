use Rattle.vd_cmd_laws.proofs.Files.{compiled_files_are_read_back}
use Rattle.vd_cmd_laws.proofs.Texts.{compiled_files_are_short}
use Rattle.vd_cmd_laws.proofs.cmd_compile_laws.laws.compiled_files_are_read_back.Goals as goal

pub returns-clause-read : goal.returns-clause-read
returns-clause-read c = compiled_files_are_read_back

pub returns-clause-short : goal.returns-clause-short
returns-clause-short c = compiled_files_are_short
