use Rattle.std.proofs.Common.{Ok}
use Rattle.vd_cmd_labels.proofs.HeldTexts.{outcome_is}
use Rattle.vd_cmd_labels.proofs.Reading.{not_long, parsed, text_refusal}
use Rattle.vd_cmd_labels.proofs.sources.read_source.Goals as goal

pub returns-in-Ok-clause-reads : goal.returns-in-Ok-clause-reads
returns-in-Ok-clause-reads c = λ texts name. record { ok = parsed texts name c.args.bytes.now (Ok c.in-Ok.source) c.in-Ok.ensures.outcome (λ e. cc e); err = tt }

pub text_status-requires : goal.text_status-requires
text_status-requires c = not_long c.args.bytes.now c.in-Err.fault c.requires c.in-Err.ensures.outcome

pub returns-in-Err-clause-reads : goal.returns-in-Err-clause-reads
returns-in-Err-clause-reads c = λ texts name. record {
  ok = tt;
  err = rw (c.text_status.ensures name)
      (text_refusal texts name c.args.bytes.now c.in-Err.fault (not_long c.args.bytes.now c.in-Err.fault c.requires c.in-Err.ensures.outcome) c.in-Err.ensures.outcome);
}

pub returns-in-Ok-clause-parsed : goal.returns-in-Ok-clause-parsed
returns-in-Ok-clause-parsed c = outcome_is c.args.bytes.now c.in-Ok.source c.in-Ok.ensures.outcome
