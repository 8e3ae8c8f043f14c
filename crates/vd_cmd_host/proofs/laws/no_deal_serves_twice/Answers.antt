use Rattle.vd_cmd_host.proofs.Twice.{serves_once, stay_marked}
use Rattle.vd_cmd_host.proofs.laws.no_deal_serves_twice.Goals as goal

pub returns-clause-once : goal.returns-clause-once
returns-clause-once c = serves_once

pub returns-clause-refused : goal.returns-clause-refused
returns-clause-refused c = stay_marked
