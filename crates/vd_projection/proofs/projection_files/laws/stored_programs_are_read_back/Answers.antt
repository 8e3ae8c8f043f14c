use Rattle.vd_projection.proofs.Files.{stored_programs_stand_in_files, stored_programs_are_read_back, stored_texts_are_short}
use Rattle.vd_projection.proofs.projection_files.laws.stored_programs_are_read_back.Goals as goal

pub returns-clause-files : goal.returns-clause-files
returns-clause-files c = stored_programs_stand_in_files

pub returns-clause-read : goal.returns-clause-read
returns-clause-read c = stored_programs_are_read_back

pub returns-clause-short : goal.returns-clause-short
returns-clause-short c = stored_texts_are_short
