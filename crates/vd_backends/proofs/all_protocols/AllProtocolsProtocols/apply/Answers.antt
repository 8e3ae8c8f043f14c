use Rattle.std.proofs.Common.{◌∙◌, map}
use Rattle.vd_duet.specs.Calls.{in_clear}
use Rattle.vd_backend_laws.specs.Parts.{Parts, back_end}
use Rattle.vd_backends.proofs.Making.{word_made}
use Rattle.vd_backends.proofs.Offers.{offered_known}
use Rattle.vd_backends.proofs.all_protocols.AllProtocolsProtocols.apply.Goals as goal

pub apply-requires-clause-known : goal.apply-requires-clause-known
apply-requires-clause-known c = offered_known c.args.self.now c.args.at c.args.to.now.next c.requires.at c.requires.ready.known

pub apply-requires-clause-serves : goal.apply-requires-clause-serves
apply-requires-clause-serves c = c.requires.serves

pub apply-requires-clause-arity : goal.apply-requires-clause-arity
apply-requires-clause-arity c = (c.in_ok-args.ensures {u = tt}).as_many ∙ c.requires.arity

pub returns-clause-exact : goal.returns-clause-exact
returns-clause-exact c = word_made ((back_end c.args.at).apply c.args.op (map (λ (x : Parts). x.at) c.args.xs.now) c.args.to.now.next) c.args.to.now c.apply.new.to (in_clear c.in_ok-copies.copies) c.word.result c.word.ensures (rw (c.in_ok-args.ensures {u = tt}).exact at (c.in_ok-copies.ensures {u = tt}).exact)
