use Rattle.vd_deal_versions.proofs.PlainExact.{accepts_deal, accepts_fault, deal_fits, refuses_deal, refuses_fault}
use Rattle.vd_deal_versions.proofs.plain.read_plain_deal.Goals as goal

pub returns-in-Ok-clause-deal : goal.returns-in-Ok-clause-deal
returns-in-Ok-clause-deal c = deal_fits c.args.hosts c.args.me.0 c.in-Ok.dealt c.in-Ok.ensures.dealt

pub returns-in-Ok-clause-given : goal.returns-in-Ok-clause-given
returns-in-Ok-clause-given c = accepts_deal c.args.hosts c.args.me.0 c.args.bytes.now c.in-Ok.dealt c.in-Ok.ensures.given

pub returns-in-Ok-clause-refused : goal.returns-in-Ok-clause-refused
returns-in-Ok-clause-refused c = refuses_deal c.args.hosts c.args.me.0 c.args.bytes.now c.in-Ok.dealt c.in-Ok.ensures.refused

pub returns-in-Err-clause-given : goal.returns-in-Err-clause-given
returns-in-Err-clause-given c = accepts_fault c.args.hosts c.args.me.0 c.args.bytes.now c.in-Err.fault c.in-Err.ensures.given

pub returns-in-Err-clause-refused : goal.returns-in-Err-clause-refused
returns-in-Err-clause-refused c = refuses_fault c.args.hosts c.args.me.0 c.args.bytes.now c.in-Err.fault c.in-Err.ensures.refused
