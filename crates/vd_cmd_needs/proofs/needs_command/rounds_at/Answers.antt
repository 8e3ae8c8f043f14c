use Rattle.std.proofs.Common.{◌≤◌, length, ◌∙◌, sym, subst}
use Rattle.vd_base.specs.Limits.{most_hosts}
use Rattle.vd_core.specs.declared.normal.NormalForm.{NormalForm}
use Rattle.vd_cmd_needs.proofs.Rounding.{split_told}
use Rattle.vd_cmd_needs.proofs.needs_command.rounds_at.Goals as goal

pub rounds_text-requires-clause-told : goal.rounds_text-requires-clause-told
rounds_text-requires-clause-told c =
    split_told c.args.program.now c.args.protocols.now c.requires c.as_slice-list.result.now (c.as_slice-list.ensures ∙ c.in_ok-codes.ensures {u = tt})

pub rounds_text-requires-clause-few : goal.rounds_text-requires-clause-few
rounds_text-requires-clause-few c = subst (λ (f : NormalForm). length f.hosts ≤ most_hosts) (sym c.form-form.ensures.same) c.requires.made.limits.hosts
