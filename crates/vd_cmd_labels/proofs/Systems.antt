-- The rules and checks of a well-made program are a system.
use Rattle.std.proofs.Common.{ℕ, ◌<◌, ◌≤◌, List, length, refl, sym, subst, arith}
use Rattle.std.specs.Prelude.{All}
use Rattle.std.proofs.lemmas.List.Elements.{All-nil}
use Rattle.vd_base.specs.Limits.{most_principals}
use Rattle.vd_core.specs.Facts.{IsWellMade}
use Rattle.vd_core.specs.declared.normal.NormalForm.{NormalForm}
use Rattle.vd_constraints.specs.declared.system.Place.TheVariants.{Block}
use Rattle.vd_constraints.specs.Systems.{Constraints, IsRuleIn, IsCheckIn, IsSystem, IsSmall}
use Rattle.vd_constraints.specs.Rules.{at_start, system_of}
use Rattle.vd_constraints.proofs.Front.{well_made_small, well_made_scoped}
use Rattle.vd_cmd_labels.proofs.Fitting.{Fits}
use Rattle.vd_cmd_labels.proofs.Walk.{body_keeps}

start_fits : (p : NormalForm) → Fits p (at_start p)
start_fits p = record {
  principals = refl;
  slots = refl;
  rules = All-nil (IsRuleIn (length p.principals) (length p.slots) 1);
  checks = All-nil (IsCheckIn (length p.principals) (length p.slots) 1);
}

-- a small system in which all fits
fitting_system : (p : NormalForm) (s : Constraints) → length p.principals ≤ most_principals → Fits p s → IsSmall s → IsSystem s
fitting_system p s few fits small = record {
  few_principals = subst (λ (names : List (List ℕ)). length names ≤ most_principals) (sym fits.principals) few;
  rules = subst (λ (names : List (List ℕ)). All (IsRuleIn (length names) s.slots s.blocks) s.lower) (sym fits.principals)
      (subst (λ (slots : ℕ). All (IsRuleIn (length p.principals) slots s.blocks) s.lower) (sym fits.slots) fits.rules);
  checks = subst (λ (names : List (List ℕ)). All (IsCheckIn (length names) s.slots s.blocks) s.checks) (sym fits.principals)
      (subst (λ (slots : ℕ). All (IsCheckIn (length p.principals) slots s.blocks) s.checks) (sym fits.slots) fits.checks);
  few_rules = omega arith;
  few_checks = omega arith;
}

pub program_system : (p : NormalForm) → IsWellMade p → IsSystem (system_of p)
program_system p is =
    let scoped = well_made_scoped p is in
    let first : 0 < 1 = omega arith in
    let walked = body_keeps p scoped.few_principals p.body scoped.named_slots (Block 0) (at_start p) (start_fits p) first in
    fitting_system p (system_of p) scoped.few_principals walked.fits (well_made_small p is)
