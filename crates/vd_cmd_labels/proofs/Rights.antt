-- What a right side and a written label ask fits.
use Rattle.std.proofs.Common.{ℕ, ◌<◌, ◌≤◌, Option, None, Some, List, [], ◌∷◌, ◌++◌, length}
use Rattle.std.specs.Prelude.{IsTrue}
use Rattle.std.specs.List.{list_all, flat_map}
use Rattle.std.proofs.lemmas.Bool.{and_parts, ltb-true}
use Rattle.std.proofs.lemmas.List.Elements.{All-nil, All-append}
use Rattle.vd_base.specs.Limits.{most_principals}
use Rattle.vd_base.specs.declared.ids.SlotId.{SlotId}
use Rattle.vd_core.specs.declared.normal.Right.{Right}
use Rattle.vd_core.specs.declared.normal.Right.TheVariants.{Lit, Turn, Copy, Apply, Input, Declassify, Endorse, Load, Get}
use Rattle.vd_core.specs.declared.normal.NormalForm.{NormalForm}
use Rattle.vd_formula.specs.declared.label.Label.{Label}
use Rattle.vd_constraints.specs.declared.system.Place.{Place}
use Rattle.vd_constraints.specs.declared.system.Place.TheVariants.{Slot}
use Rattle.vd_constraints.specs.Systems.{Constraints, IsPlaceIn, IsRuleIn, IsCheckIn}
use Rattle.vd_constraints.specs.Rules.{flows, formula, host_label, offset_of, right_rules, right_checks, written_at, written_rules, written_checks, with_right, with_optional, with_written}
use Rattle.vd_constraints.specs.Scoped.{is_below, right_below}
use Rattle.vd_constraints.proofs.Front.{fit_flows, fit_input_rules, fit_input_checks, fit_written_rules, fit_written_checks, fit_declassify_rules, fit_endorse_rules, fit_endorse_checks}
use Rattle.vd_cmd_labels.proofs.Authorities.{IsOptionOver, formula_over, host_over, written_over}
use Rattle.vd_cmd_labels.proofs.Fitting.{FitRules, FitChecks, Fits, Grown, unchanged, both_fit}

pub low : (n : ℕ) (x : SlotId) → IsTrue (is_below n x) → x.0 < n
low n x below = ltb-true x.0 n below

module _ (p : NormalForm) (few : length p.principals ≤ most_principals) where
  module _ (blocks : ℕ) where
    abbrev IsPlace : Place → Type 0
    IsPlace = IsPlaceIn (length p.slots) blocks

    flow : (from to : Place) → IsPlace from → IsPlace to → FitRules p blocks (flows from to)
    flow = fit_flows (length p.principals) (length p.slots) blocks

    pub two_flows : (from to from' to' : Place) → IsPlace from → IsPlace to → IsPlace from' → IsPlace to' → FitRules p blocks (flows from to ++ flows from' to')
    two_flows from to from' to' is_from is_to is_from' is_to' =
        All-append (IsRuleIn (length p.principals) (length p.slots) blocks) (flows from to) (flows from' to') (flow from to is_from is_to) (flow from' to' is_from' is_to')

    operands_fit : (ys : List SlotId) (x : SlotId) → x.0 < length p.slots → IsTrue (list_all (is_below (length p.slots)) ys) → FitRules p blocks (flat_map (λ y. flows (Slot y) (Slot x)) ys)
    operands_fit [] x is_x below = All-nil (IsRuleIn (length p.principals) (length p.slots) blocks)
    operands_fit (y ∷ ys) x is_x below =
        let parts = and_parts (is_below (length p.slots) y) (list_all (is_below (length p.slots)) ys) below in
        All-append (IsRuleIn (length p.principals) (length p.slots) blocks) (flows (Slot y) (Slot x)) (flat_map (λ y. flows (Slot y) (Slot x)) ys)
        (flow (Slot y) (Slot x) (low (length p.slots) y parts.0) is_x) (operands_fit ys x is_x parts.1)

    module _ (pc : Place) (is_pc : IsPlace pc) (x : SlotId) (is_x : x.0 < length p.slots) where
      right_rules_fit : (r : Right) → IsTrue (right_below (length p.slots) r) → FitRules p blocks (right_rules p pc x r)
      right_rules_fit (Lit n) below = All-nil (IsRuleIn (length p.principals) (length p.slots) blocks)
      right_rules_fit Turn below = All-nil (IsRuleIn (length p.principals) (length p.slots) blocks)
      right_rules_fit (Copy y) below = flow (Slot y) (Slot x) (low (length p.slots) y below) is_x
      right_rules_fit (Load v) below = flow (Slot v) (Slot x) (low (length p.slots) v below) is_x
      right_rules_fit (Apply o ys) below = operands_fit ys x is_x below
      right_rules_fit (Get v i) below =
          let parts = and_parts (is_below (length p.slots) v) (is_below (length p.slots) i) below in
          two_flows (Slot v) (Slot x) (Slot i) (Slot x) (low (length p.slots) v parts.0) is_x (low (length p.slots) i parts.1) is_x
      right_rules_fit (Input h) below = fit_input_rules (length p.principals) (length p.slots) blocks (host_label p h) pc (Slot x) (host_over p few h) is_pc is_x
      right_rules_fit (Declassify y to) below =
          fit_declassify_rules (length p.principals) (length p.slots) blocks (formula p to) pc (Slot x) (Slot y) (formula_over p few to) is_pc is_x (low (length p.slots) y below)
      right_rules_fit (Endorse y to) below =
          fit_endorse_rules (length p.principals) (length p.slots) blocks (formula p to) pc (Slot x) (Slot y) (formula_over p few to) is_pc is_x (low (length p.slots) y below)

      right_checks_fit : (r : Right) → IsTrue (right_below (length p.slots) r) → FitChecks p blocks (right_checks p pc x r)
      right_checks_fit (Lit n) below = All-nil (IsCheckIn (length p.principals) (length p.slots) blocks)
      right_checks_fit Turn below = All-nil (IsCheckIn (length p.principals) (length p.slots) blocks)
      right_checks_fit (Copy y) below = All-nil (IsCheckIn (length p.principals) (length p.slots) blocks)
      right_checks_fit (Load v) below = All-nil (IsCheckIn (length p.principals) (length p.slots) blocks)
      right_checks_fit (Apply o ys) below = All-nil (IsCheckIn (length p.principals) (length p.slots) blocks)
      right_checks_fit (Get v i) below = All-nil (IsCheckIn (length p.principals) (length p.slots) blocks)
      right_checks_fit (Input h) below =
          fit_input_checks (length p.principals) (length p.slots) blocks (host_label p h) pc (Slot x) (host_over p few h) is_pc is_x (offset_of p x)
      right_checks_fit (Declassify y to) below = All-nil (IsCheckIn (length p.principals) (length p.slots) blocks)
      right_checks_fit (Endorse y to) below =
          fit_endorse_checks (length p.principals) (length p.slots) blocks (formula p to) pc (Slot x) (Slot y) (formula_over p few to) is_pc is_x (low (length p.slots) y below) (offset_of p x)

  pub right_fits : (pc : Place) (x : SlotId) (r : Right) (s : Constraints) → Fits p s → IsPlaceIn (length p.slots) s.blocks pc → x.0 < length p.slots → IsTrue (right_below (length p.slots) r) → Grown p s (with_right p pc x r s)
  right_fits pc x r s fits is_pc is_x below =
      both_fit p (right_rules p pc x r) (right_checks p pc x r) s fits (right_rules_fit s.blocks pc is_pc x is_x r below) (right_checks_fit s.blocks pc is_pc x is_x r below)

  optional_fits : (l : Option Label) → IsOptionOver (length p.principals) l → (x : SlotId) (offset : ℕ) (s : Constraints) → Fits p s → x.0 < length p.slots → Grown p s (with_optional l (Slot x) offset s)
  optional_fits None over x offset s fits is_x = unchanged p s fits
  optional_fits (Some written) over x offset s fits is_x =
      both_fit p (written_rules written (Slot x)) (written_checks written (Slot x) offset) s fits
      (fit_written_rules (length p.principals) (length p.slots) s.blocks written (Slot x) over is_x) (fit_written_checks (length p.principals) (length p.slots) s.blocks written (Slot x) over is_x offset)

  pub written_fits : (x : SlotId) (s : Constraints) → Fits p s → x.0 < length p.slots → Grown p s (with_written p x s)
  written_fits x s fits is_x = optional_fits (written_at p x) (written_over p few x) x (offset_of p x) s fits is_x
