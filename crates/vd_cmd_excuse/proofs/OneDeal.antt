-- The steps in which the file of one host is read.
use Rattle.std.proofs.Common.{◌≡◌, ℕ, List, Option, Some, None, IfOk, Result, Ok, Err, sym, ap, subst, ◌∙◌, codes}
use Rattle.vd_base.specs.Limits.{most_deal_bytes}
use Rattle.vd_base.specs.declared.faults.FileFault.TheVariants as file_fault
use Rattle.vd_outside.specs.Files.{FilesView}
use Rattle.vd_base_codec.specs.Outcome.{IsFaultOf}
use Rattle.vd_tape.specs.Text.{IsDealOf}
use Rattle.vd_channel_crypto.specs.declared.deal_keys.secrets.Secrets.{Secrets}
use Rattle.vd_deal_versions.specs.declared.dealt.Dealt.{Dealt}
use Rattle.vd_deal_versions.specs.Reading.{dealt_read}
use Rattle.vd_deal_versions.specs.Text.{Fit_by, IsDealtOf}
use Rattle.vd_cmd_plan.specs.Held.{Finds, IsHeld}
use Rattle.vd_cmd_plan.specs.Loads.{Loads}
use Rattle.vd_cmd_plan.specs.Numbered.{file_name}
use Rattle.vd_cmd_plan.specs.Plans.{Checks, ExecutesStep, file_then, check_then}
use Rattle.vd_cmd_plan.specs.declared.status.Status.{Status}
use Rattle.vd_cmd_plan.specs.declared.status.Status.TheVariants.{DealText}
use Rattle.vd_cmd_plan.proofs.Front.{loaded_is, both_steps, check_step, first_step, load_step}
use Rattle.vd_cmd_excuse.specs.Dealing.{as_dealt, dealt_of, dealt_then}

-- what was read of a file is what the file says
pub found : {T : Type 0} (name file : List ℕ) (limit : ℕ) (before now : FilesView) (bytes seen : List ℕ) (result : Result T Status) (Is : List ℕ → T → Type 0) → file ≡ name → Loads file limit before now (Ok bytes) → seen ≡ bytes
    → IfOk result (Is seen) → Finds before result (λ contents value. IsHeld name limit contents (λ b. Is b value))
found name file limit before now bytes seen (Ok value) Is named loads same is = λ t.
    subst (λ (n : List ℕ). IsHeld n limit before.contents (λ b. Is b value)) named (loaded_is file limit before now bytes seen (λ b. Is b value) loads same is t)
found name file limit before now bytes seen (Err status) Is named loads same is = λ t. tt

-- the deal of a file of either version is one of its host
pub deal_fits : (hosts me : ℕ) (dealt : Dealt) → IsDealtOf hosts me dealt → IsDealOf hosts me dealt.deal
deal_fits hosts me dealt is = by dealt.secrets is
  where
    by : (secrets : Option Secrets) → Fit_by hosts me dealt.deal secrets → IsDealOf hosts me dealt.deal
    by None fits = fits
    by (Some secrets) fits = fits.0

pub dealt_given : (hosts me : ℕ) (name bytes : List ℕ) (dealt : Dealt) → dealt_read hosts me bytes ≡ Ok dealt → dealt_of hosts me name bytes ≡ Ok dealt
dealt_given hosts me name bytes dealt is = ap (as_dealt name me) is

pub dealt_refused : (hosts me : ℕ) (name bytes : List ℕ) (offset : ℕ) → IsFaultOf (dealt_read hosts me bytes) (file_fault.Text offset)
    → dealt_of hosts me name bytes ≡ Err (DealText name me offset)
dealt_refused hosts me name bytes offset is = ap (as_dealt name me) is.1 ∙ ap (λ (n : ℕ). Err (DealText name me n)) (sym is.2)

module _ (prefix : List ℕ) (hosts number : ℕ) (name : List ℕ) where
  pub dealt_err : (file : List ℕ) (before now : FilesView) (status : Status) → file ≡ file_name prefix number (codes ".deal") → Loads file most_deal_bytes before now (Err status)
      → ExecutesStep {T = Dealt} (dealt_then prefix hosts number name) before now (Err status)
  unfolding dealt_then
  dealt_err file before now status is l =
      first_step (file_then (file_name prefix number (codes ".deal")) most_deal_bytes) (λ bytes. check_then (dealt_of hosts number name bytes)) before now status
      (load_step (file_name prefix number (codes ".deal")) most_deal_bytes before now (Err status) (subst (λ (f : List ℕ). Loads f most_deal_bytes before now (Err status)) is l))

  pub dealt_ok : (file bytes seen : List ℕ) (before now : FilesView) (result : Result Dealt Status) → file ≡ file_name prefix number (codes ".deal") → Loads file most_deal_bytes before now (Ok bytes) → seen ≡ bytes
      → Checks (dealt_of hosts number name seen) result → ExecutesStep (dealt_then prefix hosts number name) before now result
  unfolding dealt_then
  dealt_ok file bytes seen before now result is l same c =
      both_steps (file_then (file_name prefix number (codes ".deal")) most_deal_bytes) (λ b. check_then (dealt_of hosts number name b)) before now now bytes result
      (load_step (file_name prefix number (codes ".deal")) most_deal_bytes before now (Ok bytes) (subst (λ (f : List ℕ). Loads f most_deal_bytes before now (Ok bytes)) is l))
      (check_step (dealt_of hosts number name bytes) now result (subst (λ (b : List ℕ). Checks (dealt_of hosts number name b) result) same c))
