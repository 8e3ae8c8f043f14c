use Rattle.vd_projection.proofs.ProjectionReorderedFilesFiles.{programs_stand, programs_are_read, texts_are_short}
use Rattle.vd_projection.proofs.projection_reordered_files.laws.early_programs_are_read_back.Goals as goal

pub returns-clause-files : goal.returns-clause-files
returns-clause-files c = programs_stand

pub returns-clause-read : goal.returns-clause-read
returns-clause-read c = programs_are_read

pub returns-clause-short : goal.returns-clause-short
returns-clause-short c = texts_are_short
