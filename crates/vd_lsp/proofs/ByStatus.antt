-- The faults of a text, by what its check came to.
use Rattle.std.proofs.Common.{◌≡◌, ℕ, List, [], Result, Ok, Err, refl, sym, subst}
use Rattle.vd_constraints.specs.declared.labels.Labels.{Labels}
use Rattle.vd_cmd_plan.specs.Plans.{Checks, IsRefusal}
use Rattle.vd_cmd_plan.specs.declared.status.Status.{Status}
use Rattle.vd_cmd_plan.specs.declared.status.Status.TheVariants.{Ended, Memory, Usage, ReadFault, WriteFault, NoAssignment, Host, ChildFault}
use Rattle.vd_lsp_messages.specs.declared.kinds.Fault.{Fault}
use Rattle.vd_lsp.specs.Faults.{AreFaults, IsOnlyFault, IsRefused}

pub none_where_labelled : (text : List ℕ) (wanted : Result Labels Status) (labels : Labels) (faults : List Fault) → Checks wanted (Ok labels) → faults ≡ [] → AreFaults text wanted faults
none_where_labelled text wanted labels faults checks is = subst (λ r. AreFaults text r faults) (sym checks.ok) is

given : (text : List ℕ) (wanted : Result Labels Status) (status : Status) (faults : List Fault) → wanted ≡ Err status → IsOnlyFault text status faults → AreFaults text wanted faults
given text wanted status faults e is = subst (λ r. AreFaults text r faults) (sym e) is

pub one_where_refused : (text : List ℕ) (wanted : Result Labels Status) (status : Status) (faults : List Fault) → (status ≡ Memory → ⊥) → IsRefusal wanted status → IsOnlyFault text status faults → AreFaults text wanted faults
one_where_refused text wanted Ended faults other refusal is = absurd refusal
one_where_refused text wanted (NoAssignment labelled) faults other refusal is = absurd refusal
one_where_refused text wanted Memory faults other refusal is = absurd (other refl)
one_where_refused text wanted Usage faults other refusal is = absurd refusal
one_where_refused text wanted (ReadFault name) faults other refusal is = absurd refusal
one_where_refused text wanted WriteFault faults other refusal is = absurd refusal
one_where_refused text wanted (Host cause) faults other refusal is = given text wanted (Host cause) faults refusal.1 is
one_where_refused text wanted (ChildFault hosts fault) faults other refusal is = absurd refusal
one_where_refused text wanted status faults other refusal is = given text wanted status faults refusal is

pub refused : (text : List ℕ) (wanted : Result Labels Status) (status : Status) (faults : List Fault) → Checks wanted (Err status) → IsRefused text status faults → AreFaults text wanted faults
refused text wanted status faults checks is = one_where_refused text wanted status faults is.other checks.err is.only
