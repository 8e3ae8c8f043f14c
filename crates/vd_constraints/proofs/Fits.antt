-- The rules and checks of single steps speak of the system's own places and names.
use Rattle.std.proofs.Common.{ℕ, List}
use Rattle.std.specs.Prelude.{All}
use Rattle.std.proofs.lemmas.List.Elements.{All-from_recursion}
use Rattle.vd_formula.specs.TruthTable.{TruthTable}
use Rattle.vd_formula.specs.declared.label.Label.{Label}
use Rattle.vd_constraints.specs.declared.system.Place.{Place}
use Rattle.vd_constraints.specs.declared.system.Lower.{Lower}
use Rattle.vd_constraints.specs.declared.system.Check.{Check}
use Rattle.vd_constraints.specs.Systems.{IsOver, IsLabelOver, IsPlaceIn, IsRuleIn, IsCheckIn}
use Rattle.vd_constraints.specs.Rules.{flows, input_rules, input_checks, declassify_rules, endorse_rules, endorse_checks, output_rules, output_checks, written_rules, written_checks}

module _ (names slots blocks : ℕ) where
  abbrev FitRules : List Lower → Type 0
  FitRules = All (IsRuleIn names slots blocks)

  abbrev FitChecks : List Check → Type 0
  FitChecks = All (IsCheckIn names slots blocks)

  pub fit_flows : (from to : Place) → IsPlaceIn slots blocks from → IsPlaceIn slots blocks to → FitRules (flows from to)
  fit_flows from to is_from is_to =
      All-from_recursion (IsRuleIn names slots blocks) (flows from to) (record { part = is_to; bound = is_from }, (record { part = is_from; bound = is_to }, tt))

  module _ (host : Label) (pc x : Place) (is_host : IsLabelOver names host) (is_pc : IsPlaceIn slots blocks pc) (is_x : IsPlaceIn slots blocks x) where
    pub fit_input_rules : FitRules (input_rules host pc x)
    fit_input_rules =
        All-from_recursion (IsRuleIn names slots blocks) (input_rules host pc x) (record { part = is_x; bound = is_host.conf }, (record { part = is_pc; bound = is_host.integ }, tt))

    pub fit_input_checks : (offset : ℕ) → FitChecks (input_checks host pc x offset)
    fit_input_checks offset =
        All-from_recursion (IsCheckIn names slots blocks) (input_checks host pc x offset) (record { constant = is_host.integ; part = is_x }, (record { constant = is_host.conf; part = is_pc }, tt))

    pub fit_output_rules : FitRules (output_rules host pc x)
    fit_output_rules =
        All-from_recursion (IsRuleIn names slots blocks) (output_rules host pc x) (record { part = is_x; bound = is_host.integ }, (record { part = is_pc; bound = is_host.integ }, tt))

    pub fit_output_checks : (offset : ℕ) → FitChecks (output_checks host pc x offset)
    fit_output_checks offset =
        All-from_recursion (IsCheckIn names slots blocks) (output_checks host pc x offset) (record { constant = is_host.conf; part = is_x }, (record { constant = is_host.conf; part = is_pc }, tt))

  module _ (written : Label) (x : Place) (is : IsLabelOver names written) (is_x : IsPlaceIn slots blocks x) where
    pub fit_written_rules : FitRules (written_rules written x)
    fit_written_rules =
        All-from_recursion (IsRuleIn names slots blocks) (written_rules written x) (record { part = is_x; bound = is.conf }, (record { part = is_x; bound = is.integ }, tt))

    pub fit_written_checks : (offset : ℕ) → FitChecks (written_checks written x offset)
    fit_written_checks offset =
        All-from_recursion (IsCheckIn names slots blocks) (written_checks written x offset) (record { constant = is.conf; part = is_x }, (record { constant = is.integ; part = is_x }, tt))

  module _ (to : TruthTable) (pc x y : Place) (is_to : IsOver names to) (is_pc : IsPlaceIn slots blocks pc) (is_x : IsPlaceIn slots blocks x) (is_y : IsPlaceIn slots blocks y) where
    pub fit_declassify_rules : FitRules (declassify_rules to pc x y)
    fit_declassify_rules =
        All-from_recursion (IsRuleIn names slots blocks) (declassify_rules to pc x y) (
          record { part = is_x; bound = is_to },
          (
            record { part = is_y; bound = is_x },
            (
              record { part = is_y; bound = (is_to, is_y) },
              (
                record { part = is_x; bound = is_pc },
                (
                  record { part = is_pc; bound = is_x },
                  (record { part = is_pc; bound = (is_to, is_y) }, tt),
                ),
              ),
            ),
          ),
        )

    pub fit_endorse_rules : FitRules (endorse_rules to pc x y)
    fit_endorse_rules =
        All-from_recursion (IsRuleIn names slots blocks) (endorse_rules to pc x y) (
          record { part = is_x; bound = is_y },
          (
            record { part = is_y; bound = (is_to, is_y) },
            (
              record { part = is_x; bound = is_pc },
              (record { part = is_pc; bound = is_x }, tt),
            ),
          ),
        )

    pub fit_endorse_checks : (offset : ℕ) → FitChecks (endorse_checks to x offset)
    fit_endorse_checks offset = All-from_recursion (IsCheckIn names slots blocks) (endorse_checks to x offset) (record { constant = is_to; part = is_x }, tt)
