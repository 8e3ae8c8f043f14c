use Rattle.std.proofs.Common.{ℕ, Err, refl, sym, ap, ◌∙◌}
use Rattle.vd_cmd_plan.specs.declared.status.Status.TheVariants.{DealText}
use Rattle.vd_cmd_excuse.proofs.OneDeal.{deal_fits, dealt_given, dealt_refused}
use Rattle.vd_cmd_excuse.proofs.dealing.dealt_in.Goals as goal
use Rattle.std.proofs.Common.{List}

pub returns-in-Ok-clause-reads : goal.returns-in-Ok-clause-reads
returns-in-Ok-clause-reads c = record { ok = dealt_given c.args.hosts c.args.number c.args.name.now c.args.bytes.now c.in-Ok.dealt c.in-Ok.ensures.ok; err = tt }

pub returns-in-Ok-clause-deal : goal.returns-in-Ok-clause-deal
returns-in-Ok-clause-deal c = deal_fits c.args.hosts c.args.number c.in-Ok.dealt c.in-Ok.ensures.dealt

pub returns-in-Ok-clause-given : goal.returns-in-Ok-clause-given
returns-in-Ok-clause-given c = (c.in-Ok.ensures.given (λ e. cc e) c.in-Ok.dealt).0 refl

pub returns-in_ok-name-in-Err-Text-clause-reads : goal.returns-in_ok-name-in-Err-Text-clause-reads
returns-in_ok-name-in-Err-Text-clause-reads c = record {
  ok = tt;
  err = dealt_refused c.args.hosts c.args.number c.args.name.now c.args.bytes.now c.in-Err-Text.offset (rw c.in-Err-Text.field-0-is at c.in-Err-Text.ensures.err)
      ∙ ap (λ (n : List ℕ). Err (DealText n c.args.number c.in-Err-Text.offset)) (sym (c.in_ok-name-in-Err-Text.ensures {u = tt} ∙ c.as_slice.ensures));
}
