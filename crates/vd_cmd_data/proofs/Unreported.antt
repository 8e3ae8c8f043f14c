-- A file that does not tell what a host printed.
use Rattle.std.proofs.Common.{◌≡◌, ℕ, List, Result, Err, sym, subst}
use Rattle.vd_cmd_plan.specs.Plans.{Checks, IsRefusal}
use Rattle.vd_cmd_plan.specs.declared.status.Status.{Status}
use Rattle.vd_cmd_plan.specs.declared.status.Status.TheVariants.{Memory, Report}
use Rattle.vd_cmd_plan.specs.declared.status.ReportFault.{ReportFault}
use Rattle.vd_cmd_data.specs.Printed.{IsFaultIn}

-- it is refused where its definition does so
pub unreported_there : {T : Type 0} (file : List ℕ) (fault : ReportFault) (wanted : Result T Status) (status : Status) → wanted ≡ Err (Report file fault) → IsFaultIn file fault status
    → Checks wanted (Err status)
unreported_there {T} file fault wanted status eq at = record { ok = tt; err = by status at }
  where
    by : (other : Status) → IsFaultIn file fault other → IsRefusal {T = T} wanted other
    by Memory is = tt
    by other is = subst (λ (s : Status). IsRefusal {T = T} wanted s) (sym is) eq
