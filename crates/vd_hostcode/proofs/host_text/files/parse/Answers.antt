use Rattle.vd_hostcode.proofs.Programs.{given_of, refused_of}
use Rattle.vd_hostcode.proofs.host_text.files.parse.Goals as goal

pub returns-clause-given : goal.returns-clause-given
returns-clause-given c = given_of c.args.bytes.now c.read_bytes.result c.read_bytes.ensures.ok

pub returns-clause-refused : goal.returns-clause-refused
returns-clause-refused c = refused_of c.args.bytes.now c.read_bytes.result c.read_bytes.ensures.err
