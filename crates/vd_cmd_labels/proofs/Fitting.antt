-- Systems over a program's principals and slots of which all rules and checks fit, and how they grow.
use Rattle.std.proofs.Common.{◌≡◌, ℕ, ◌+◌, ◌≤◌, List, length, arith}
use Rattle.std.specs.Prelude.{All}
use Rattle.std.proofs.lemmas.List.Elements.{All-append, All-weaker}
use Rattle.vd_core.specs.declared.normal.NormalForm.{NormalForm}
use Rattle.vd_constraints.specs.declared.system.Lower.{Lower}
use Rattle.vd_constraints.specs.declared.system.Check.{Check}
use Rattle.vd_constraints.specs.Systems.{Constraints, IsRuleIn, IsCheckIn}
use Rattle.vd_constraints.specs.Rules.{with_rules, with_checks, with_block}
use Rattle.vd_constraints.proofs.Front.{more_rules, more_checks}

module _ (p : NormalForm) where
  -- rules, and checks, of the program's principals and slots and of so many blocks
  abbrev pub FitRules : ℕ → List Lower → Type 0
  FitRules blocks = All (IsRuleIn (length p.principals) (length p.slots) blocks)

  abbrev pub FitChecks : ℕ → List Check → Type 0
  FitChecks blocks = All (IsCheckIn (length p.principals) (length p.slots) blocks)

-- all fits
pub record Fits (p : NormalForm) (s : Constraints) : Type 0 where
  pub principals : s.principals ≡ p.principals
  pub slots : s.slots ≡ length p.slots
  pub rules : FitRules p s.blocks s.lower
  pub checks : FitChecks p s.blocks s.checks

-- all fits after a step, and no block is less
pub record Grown (p : NormalForm) (before now : Constraints) : Type 0 where
  pub fits : Fits p now
  pub blocks : before.blocks ≤ now.blocks

module _ (p : NormalForm) where
  pub unchanged : (s : Constraints) → Fits p s → Grown p s s
  unchanged s fits = record { fits = fits; blocks = omega arith }

  pub after : (s t u : Constraints) → Grown p s t → Grown p t u → Grown p s u
  after s t u first second = record {
    fits = second.fits;
    blocks = let a = first.blocks in let b = second.blocks in omega arith;
  }

  pub rules_fit : (rules : List Lower) (s : Constraints) → Fits p s → FitRules p s.blocks rules → Grown p s (with_rules rules s)
  rules_fit rules s fits more = record {
    fits = record {
      principals = fits.principals;
      slots = fits.slots;
      rules = All-append (IsRuleIn (length p.principals) (length p.slots) s.blocks) s.lower rules fits.rules more;
      checks = fits.checks;
    };
    blocks = omega arith;
  }

  checks_fit : (checks : List Check) (s : Constraints) → Fits p s → FitChecks p s.blocks checks → Grown p s (with_checks checks s)
  checks_fit checks s fits more = record {
    fits = record {
      principals = fits.principals;
      slots = fits.slots;
      rules = fits.rules;
      checks = All-append (IsCheckIn (length p.principals) (length p.slots) s.blocks) s.checks checks fits.checks more;
    };
    blocks = omega arith;
  }

  pub both_fit : (rules : List Lower) (checks : List Check) (s : Constraints) → Fits p s → FitRules p s.blocks rules → FitChecks p s.blocks checks → Grown p s (with_checks checks (with_rules rules s))
  both_fit rules checks s fits more also =
      let one = rules_fit rules s fits more in
      after s (with_rules rules s) (with_checks checks (with_rules rules s)) one (checks_fit checks (with_rules rules s) one.fits also)

  pub block_fits : (s : Constraints) → Fits p s → Grown p s (with_block s)
  block_fits s fits =
      let n = length p.principals in
      let k = length p.slots in
      let le : s.blocks ≤ s.blocks + 1 = omega arith in
      record {
        fits = record {
          principals = fits.principals;
          slots = fits.slots;
          rules = All-weaker (IsRuleIn n k s.blocks) (IsRuleIn n k (s.blocks + 1)) (more_rules n k s.blocks (s.blocks + 1) le) s.lower fits.rules;
          checks = All-weaker (IsCheckIn n k s.blocks) (IsCheckIn n k (s.blocks + 1)) (more_checks n k s.blocks (s.blocks + 1) le) s.checks fits.checks;
        };
        blocks = le;
      }
