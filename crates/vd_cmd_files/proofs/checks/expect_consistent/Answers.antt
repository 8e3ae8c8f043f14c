use Rattle.std.proofs.Common.{None, Some, ap}
use Rattle.vd_cmd_files.proofs.Judged.{judged_once}
use Rattle.vd_cmd_files.specs.Deals.{as_consistent}
use Rattle.vd_cmd_files.proofs.checks.expect_consistent.Goals as goal

pub returns-in-Ok-clause-checks : goal.returns-in-Ok-clause-checks
returns-in-Ok-clause-checks c = λ outcomes. record {
  ok = ap as_consistent (judged_once c.args.deals.now (outcomes.judge c.args.deals.now) None (outcomes.judge_is c.args.deals.now c.requires) c.in-Ok.ensures);
  err = tt;
}

pub returns-in-Err-clause-checks : goal.returns-in-Err-clause-checks
returns-in-Err-clause-checks c = λ outcomes. record {
  ok = tt;
  err = ap as_consistent (judged_once c.args.deals.now (outcomes.judge c.args.deals.now) (Some c.in-Err.bad) (outcomes.judge_is c.args.deals.now c.requires) c.in-Err.ensures);
}
