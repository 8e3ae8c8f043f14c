use Rattle.std.proofs.Common.{ℕ, List, Err, refl, sym, ap, ◌∙◌}
use Rattle.vd_cmd_plan.specs.declared.status.Status.TheVariants.{DealText}
use Rattle.vd_cmd_files.proofs.Reading.{deal_given, deal_refused}
use Rattle.vd_cmd_files.proofs.deals.deal_in.Goals as goal

pub returns-in-Ok-clause-reads : goal.returns-in-Ok-clause-reads
returns-in-Ok-clause-reads c = λ outcomes. record {
  ok = deal_given outcomes c.args.hosts c.args.number c.args.name.now c.args.bytes.now c.in-Ok.deal c.requires.few c.requires.declared c.in-Ok.ensures.given c.in-Ok.ensures.refused;
  err = tt;
}

pub returns-in_ok-name-in-Err-Text-clause-reads : goal.returns-in_ok-name-in-Err-Text-clause-reads
returns-in_ok-name-in-Err-Text-clause-reads c = λ outcomes. record {
  ok = tt;
  err = deal_refused outcomes c.args.hosts c.args.number c.args.name.now c.args.bytes.now c.in-Err-Text.offset c.requires.few c.requires.declared
      (rw c.in-Err-Text.field-0-is at c.in-Err-Text.ensures.given) (rw c.in-Err-Text.field-0-is at c.in-Err-Text.ensures.refused)
      ∙ ap (λ (n : List ℕ). Err (DealText n c.args.number c.in-Err-Text.offset)) (sym (c.in_ok-name-in-Err-Text.ensures {u = tt} ∙ c.as_slice.ensures));
}

pub returns-in-Ok-clause-given : goal.returns-in-Ok-clause-given
returns-in-Ok-clause-given c = (c.in-Ok.ensures.given (λ e. cc e) c.in-Ok.deal).0 refl
