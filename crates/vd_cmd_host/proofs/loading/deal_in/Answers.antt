use Rattle.std.proofs.Common.{refl}
use Rattle.vd_base.specs.declared.faults.FileFault.TheVariants as file_fault
use Rattle.vd_cmd_host.proofs.loading.deal_in.Goals as goal

pub returns-in-Ok-clause-given : goal.returns-in-Ok-clause-given
returns-in-Ok-clause-given c = rw (← c.as_slice.ensures) ((c.in-Ok.ensures.given (λ e. cc e) c.in-Ok.dealt).0 refl)

pub returns-in_ok-name-in-Err-Text-clause-refused : goal.returns-in_ok-name-in-Err-Text-clause-refused
returns-in_ok-name-in-Err-Text-clause-refused c =
    let refused = rw c.in-Err-Text.field-0-is at c.in-Err-Text.ensures.refused in
    (c.in_ok-name-in-Err-Text.ensures {u = tt}, refl, rw (← c.as_slice.ensures) ((refused (λ e. cc e) (file_fault.Text c.in-Err-Text.offset)).0 refl))
