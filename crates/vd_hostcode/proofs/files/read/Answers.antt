use Rattle.vd_hostcode.proofs.Outcomes.{answers_of, headed_of, runs_of}
use Rattle.vd_hostcode.proofs.files.read.Goals as goal

pub returns-clause-answer : goal.returns-clause-answer
returns-clause-answer c = answers_of c.args.bytes.now c.read_program.result c.read_program.ensures

pub returns-clause-heading : goal.returns-clause-heading
returns-clause-heading c = headed_of c.args.bytes.now c.read_program.result c.read_program.ensures

pub returns-clause-code : goal.returns-clause-code
returns-clause-code c = runs_of c.args.bytes.now c.read_program.result c.read_program.ensures
