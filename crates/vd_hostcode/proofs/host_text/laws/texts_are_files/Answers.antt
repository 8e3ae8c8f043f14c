use Rattle.vd_hostcode.proofs.Programs.{text_is_file}
use Rattle.vd_hostcode.proofs.host_text.laws.texts_are_files.Goals as goal

pub returns : goal.returns
returns c = text_is_file
