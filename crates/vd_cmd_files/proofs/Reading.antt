-- The steps in which the command reads deals and a schedule.
use Rattle.std.proofs.Common.{◌≡◌, ℕ, ◌<◌, ◌≤◌, List, IfOk, Result, Ok, Err, refl, ap, subst, codes}
use Rattle.vd_base.specs.Limits.{most_deal_bytes, most_hosts, most_schedule_bytes}
use Rattle.vd_outside.specs.Files.{FilesView}
use Rattle.vd_base_codec.specs.Reading.{capped}
use Rattle.vd_tape.specs.declared.deal_items.deal.Deal.{Deal}
use Rattle.vd_base.specs.declared.faults.FileFault.{FileFault}
use Rattle.vd_base.specs.declared.faults.FileFault.TheVariants as file_fault
use Rattle.vd_deal_versions.specs.Plain.{Accepts, Refuses}
use Rattle.vd_report.specs.declared.fault.ReadFault.TheVariants as read_fault
use Rattle.vd_report.specs.declared.schedule.Schedule.{Schedule}
use Rattle.vd_cmd_plan.specs.Held.{Finds, IsHeld}
use Rattle.vd_cmd_plan.specs.Loads.{Loads}
use Rattle.vd_cmd_plan.specs.Numbered.{file_name}
use Rattle.vd_cmd_plan.specs.Plans.{Checks, ExecutesStep, file_then, check_then}
use Rattle.vd_cmd_plan.specs.declared.status.Status.{Status}
use Rattle.vd_cmd_plan.specs.declared.status.Status.TheVariants.{DealText}
use Rattle.vd_cmd_plan.proofs.Front.{loaded_is, both_steps, check_step, first_step, load_step}
use Rattle.vd_cmd_files.specs.Outcomes.{IsDealRead, ReplayOutcomes}
use Rattle.vd_cmd_files.specs.Deals.{as_deal, deal_of, deal_then}
use Rattle.vd_cmd_files.specs.Schedules.{schedule_of, schedule_then}

-- what was read of a file is what the file says
pub found : {T : Type 0} (name file : List ℕ) (limit : ℕ) (before now : FilesView) (bytes seen : List ℕ) (result : Result T Status) (Is : List ℕ → T → Type 0) → file ≡ name → Loads file limit before now (Ok bytes) → seen ≡ bytes
    → IfOk result (Is seen) → Finds before result (λ contents value. IsHeld name limit contents (λ b. Is b value))
found name file limit before now bytes seen (Ok value) Is named loads same is = λ t.
    subst (λ (n : List ℕ). IsHeld n limit before.contents (λ b. Is b value)) named (loaded_is file limit before now bytes seen (λ b. Is b value) loads same is t)
found name file limit before now bytes seen (Err status) Is named loads same is = λ t. tt

-- ---- one deal

-- a deal, or a fault, as the reader answers it
abbrev as_read : Result Deal ℕ → Result Deal FileFault
as_read (Ok deal) = Ok deal
as_read (Err offset) = Err (file_fault.Text (capped offset))

-- the one outcome of a deal file is the one that was answered
deal_answered : (hosts me : ℕ) (bytes : List ℕ) (result : Result Deal FileFault) → (result ≡ Err file_fault.Memory → ⊥) → Accepts hosts me bytes result → Refuses hosts me bytes result
    → (said : Result Deal ℕ) → IsDealRead hosts me bytes said → result ≡ as_read said
deal_answered hosts me bytes result other accepts refuses (Ok deal) is = (accepts other deal).1 is
deal_answered hosts me bytes result other accepts refuses (Err offset) is = (refuses other (file_fault.Text (capped offset))).1 (offset, is, refl)

pub deal_given : (outcomes : ReplayOutcomes) (hosts me : ℕ) (name bytes : List ℕ) (deal : Deal) → hosts ≤ most_hosts → me < hosts → Accepts hosts me bytes (Ok deal) → Refuses hosts me bytes (Ok deal)
    → deal_of outcomes hosts me name bytes ≡ Ok deal
deal_given outcomes hosts me name bytes deal few declared accepts refuses =
    at (outcomes.deal hosts me bytes) (deal_answered hosts me bytes (Ok deal) (λ e. cc e) accepts refuses (outcomes.deal hosts me bytes) (outcomes.deal_is hosts me bytes few declared))
  where
    at : (said : Result Deal ℕ) → Ok deal ≡ as_read said → as_deal name me said ≡ Ok deal
    at (Ok other) e = let same : other ≡ deal = cc e in ap (λ (d : Deal). Ok d) same
    at (Err offset) e = absurd (cc e)

pub deal_refused : (outcomes : ReplayOutcomes) (hosts me : ℕ) (name bytes : List ℕ) (offset : ℕ) → hosts ≤ most_hosts → me < hosts
    → Accepts hosts me bytes (Err (file_fault.Text offset)) → Refuses hosts me bytes (Err (file_fault.Text offset)) → deal_of outcomes hosts me name bytes ≡ Err (DealText name me offset)
deal_refused outcomes hosts me name bytes offset few declared accepts refuses =
    at (outcomes.deal hosts me bytes)
    (deal_answered hosts me bytes (Err (file_fault.Text offset)) (λ e. cc e) accepts refuses (outcomes.deal hosts me bytes) (outcomes.deal_is hosts me bytes few declared))
  where
    at : (said : Result Deal ℕ) → Err (file_fault.Text offset) ≡ as_read said → as_deal name me said ≡ Err (DealText name me offset)
    at (Ok other) e = absurd (cc e)
    at (Err other) e = let same : capped other ≡ offset = cc e in ap (λ (n : ℕ). Err (DealText name me n)) same

module _ (outcomes : ReplayOutcomes) (prefix : List ℕ) (hosts number : ℕ) (name : List ℕ) where
  pub deal_err : (file : List ℕ) (before now : FilesView) (status : Status) → file ≡ file_name prefix number (codes ".deal") → Loads file most_deal_bytes before now (Err status)
      → ExecutesStep {T = Deal} (deal_then outcomes prefix hosts number name) before now (Err status)
  unfolding deal_then
  deal_err file before now status is l =
      first_step (file_then (file_name prefix number (codes ".deal")) most_deal_bytes) (λ bytes. check_then (deal_of outcomes hosts number name bytes)) before now status
      (load_step (file_name prefix number (codes ".deal")) most_deal_bytes before now (Err status) (subst (λ (f : List ℕ). Loads f most_deal_bytes before now (Err status)) is l))

  pub deal_ok : (file bytes seen : List ℕ) (before now : FilesView) (result : Result Deal Status) → file ≡ file_name prefix number (codes ".deal") → Loads file most_deal_bytes before now (Ok bytes) → seen ≡ bytes
      → Checks (deal_of outcomes hosts number name seen) result → ExecutesStep (deal_then outcomes prefix hosts number name) before now result
  unfolding deal_then
  deal_ok file bytes seen before now result is l same c =
      both_steps (file_then (file_name prefix number (codes ".deal")) most_deal_bytes) (λ b. check_then (deal_of outcomes hosts number name b)) before now now bytes result
      (load_step (file_name prefix number (codes ".deal")) most_deal_bytes before now (Ok bytes) (subst (λ (f : List ℕ). Loads f most_deal_bytes before now (Ok bytes)) is l))
      (check_step (deal_of outcomes hosts number name bytes) now result (subst (λ (b : List ℕ). Checks (deal_of outcomes hosts number name b) result) same c))

-- ---- a schedule

pub schedule_err : (outcomes : ReplayOutcomes) (name : List ℕ) (hosts : List (List ℕ)) (before now : FilesView) (status : Status) → Loads name most_schedule_bytes before now (Err status)
    → ExecutesStep {T = Schedule} (schedule_then outcomes name hosts) before now (Err status)
unfolding schedule_then
schedule_err outcomes name hosts before now status l =
    first_step (file_then name most_schedule_bytes) (λ bytes. check_then (schedule_of outcomes hosts bytes)) before now status (load_step name most_schedule_bytes before now (Err status) l)

pub schedule_ok : (outcomes : ReplayOutcomes) (name : List ℕ) (hosts : List (List ℕ)) (bytes seen : List ℕ) (before now : FilesView) (result : Result Schedule Status) → Loads name most_schedule_bytes before now (Ok bytes)
    → seen ≡ bytes → Checks (schedule_of outcomes hosts seen) result → ExecutesStep (schedule_then outcomes name hosts) before now result
unfolding schedule_then
schedule_ok outcomes name hosts bytes seen before now result l is c =
    both_steps (file_then name most_schedule_bytes) (λ b. check_then (schedule_of outcomes hosts b)) before now now bytes result (load_step name most_schedule_bytes before now (Ok bytes) l)
    (check_step (schedule_of outcomes hosts bytes) now result (subst (λ (b : List ℕ). Checks (schedule_of outcomes hosts b) result) is c))
