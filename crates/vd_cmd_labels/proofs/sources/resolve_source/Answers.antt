use Rattle.vd_cmd_labels.proofs.Reading.{rule_refusal}
use Rattle.vd_cmd_labels.proofs.sources.resolve_source.Goals as goal

pub returns-in-Err : goal.returns-in-Err
returns-in-Err c = record { ok = tt; err = rw c.rule_status.ensures (rule_refusal c.args.source c.in-Err.fault c.in-Err.ensures.fault c.in-Err.ensures.cause) }
