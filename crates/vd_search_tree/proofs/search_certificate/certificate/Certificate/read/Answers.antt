use Rattle.vd_search_tree.proofs.Answers.{given_of, refuses_of, answers_of}
use Rattle.vd_search_tree.proofs.search_certificate.certificate.Certificate.read.Goals as goal

pub returns-clause-given : goal.returns-clause-given
returns-clause-given c = given_of c.args.bytes.now c.read_certificate.result c.read_certificate.ensures

pub returns-clause-refused : goal.returns-clause-refused
returns-clause-refused c = refuses_of c.args.bytes.now c.read_certificate.result c.read_certificate.ensures

pub returns-clause-outcome : goal.returns-clause-outcome
returns-clause-outcome c = answers_of c.args.bytes.now c.read_certificate.result c.read_certificate.ensures
