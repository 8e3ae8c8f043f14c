-- Tables that are put together from parts as they are made.
use Rattle.std.proofs.Common.{ℕ, ◌+◌, List, [], ◌∷◌, length, map, refl, sym, ap, ap₂, ◌∙◌, subst, arith}
use Rattle.std.specs.Prelude.{All}
use Rattle.std.proofs.lemmas.Int.{ints}
use Rattle.std.proofs.lemmas.List.{length-map}
use Rattle.vd_base.specs.declared.protocols.Proto.{Proto}
use Rattle.vd_search_tree.specs.declared.shift.Shift.{Shift}
use Rattle.vd_space.specs.declared.problem.Problem.{Problem}
use Rattle.vd_space.specs.declared.problem.Use.{Use}
use Rattle.vd_space.specs.declared.problem.Output.{Output}
use Rattle.vd_space.specs.Costs.{operation_term, use_term, index_term, output_term}
use Rattle.vd_space.specs.Bounds.{shifted_one, shifted_uses}
use Rattle.vd_space.specs.Labelled.{IsLabelled}
use Rattle.vd_space.specs.Sizes.{IsWithinLimits}
use Rattle.vd_space.specs.WellFormed.{AreProtocols, IsWellFormed}
use Rattle.vd_space_prefix.specs.Tables.{AreTables, AreSumsOf}
use Rattle.vd_space_prefix.proofs.Front.{size_by_place}
use Rattle.vd_space_tables.specs.declared.made.Moved.{Moved}
use Rattle.vd_space_tables.specs.declared.made.Charges.{Charges}
use Rattle.vd_space_tables.specs.declared.made.Kept.{Kept}
use Rattle.vd_space_tables.specs.Charges.{IsCharge, charge_of}
use Rattle.vd_space_tables.specs.Gains.{gains_with}
use Rattle.vd_space_tables.specs.Start.{free_total}
use Rattle.vd_space_tables.specs.Parts.{AreSmallOnSlots, AreMoved, AreCharges, AreSmallMoved, AreSmallCharges, AreKept, start_of, tables_of}
use Rattle.vd_space_tables.proofs.Assembled.{tables_are, uses_size}
use Rattle.vd_space_tables.proofs.Merged.{operations_small, outputs_small, merged_charges_small, ones_free, shifted_free, arcs_free}

module _ (problem : Problem) (labelled : IsLabelled problem) (limits : IsWithinLimits problem) (shifts : List Shift) where
  pub moved_small : (m : Moved) → AreMoved problem shifts m → AreSmallMoved m
  moved_small m are =
      let count = limits.count in
      let uses = length-map problem.uses (use_term problem) in
      let moved = uses_size problem shifts 0 problem.uses in
      let indexes = length-map problem.indexes (index_term problem) in
      let first = are.arcs.size in
      let second = are.shifted_arcs.size in
      let third = are.index_arcs.size in
      record {
        arcs = are.arcs.small;
        few_arcs = omega (arith, count, uses, first);
        shifted_arcs = are.shifted_arcs.small;
        few_shifted_arcs = omega (arith, count, moved, second);
        index_arcs = are.index_arcs.small;
        few_index_arcs = omega (arith, count, indexes, third);
      }

  pub charges_small : (c : Charges) → AreCharges problem shifts c → AreSmallOnSlots problem shifts → AreSmallCharges c
  charges_small c are small =
      let count = limits.count in
      let operations = ap length are.operations ∙ size_by_place (length problem.slots) (λ s. charge_of problem (operation_term problem s)) in
      let outputs = ap length are.outputs ∙ length-map problem.outputs (λ (o : Output). charge_of problem (output_term problem o)) in
      let merged = ap length are.merged ∙ size_by_place (length problem.slots) (λ s. charge_of problem (shifted_one problem shifts s)) in
      record {
        operations = subst (All (IsCharge 1125899906842624)) (sym are.operations) (operations_small problem labelled limits);
        few_operations = omega (arith, count, operations);
        outputs = subst (All (IsCharge 1073741824)) (sym are.outputs) (outputs_small problem labelled limits);
        few_outputs = omega (arith, count, outputs);
        merged = subst (All (IsCharge 1125899906842624)) (sym are.merged) (merged_charges_small problem labelled limits shifts small);
        few_merged = omega (arith, count, merged);
      }

  module _ (c : Charges) (m : Moved) (charges : AreCharges problem shifts c) (moved : AreMoved problem shifts m) where
    start_is : AreSumsOf problem shifts [] (start_of problem c m)
    start_is =
        let uses = arcs_free problem m.moves (map (use_term problem) problem.uses) m.arcs moved.arcs in
        let shifted = arcs_free problem m.moves (shifted_uses problem shifts 0 problem.uses) m.shifted_arcs moved.shifted_arcs in
        let indexes = arcs_free problem m.tells (map (index_term problem) problem.indexes) m.index_arcs moved.index_arcs in
        let operations = ap free_total charges.operations in
        let outputs = ap free_total charges.outputs in
        let merged = ap free_total charges.merged in
        let ones = ones_free problem in
        let own = shifted_free problem shifts in
        record {
          low = omega (arith, ints, uses, operations, outputs, ones);
          shifted = omega (arith, ints, shifted, merged, own);
          common = omega (arith, ints, indexes);
        }

    pub tables_made : (list : List Proto) (k : Kept) → AreSmallOnSlots problem shifts → AreKept problem c m k → AreProtocols problem list → IsWellFormed problem → AreTables problem (tables_of list shifts m k)
    tables_made list k small kept listed formed =
        tables_are problem labelled limits (tables_of list shifts m k)
        (record {
          list = listed.all;
          few = listed.few;
          moves = moved.moves;
          tells = moved.tells;
          arcs = moved.arcs;
          shifted_arcs = moved.shifted_arcs;
          index_arcs = moved.index_arcs;
          tellings = kept.tellings;
          gains = kept.gains ∙ ap₂ (λ outputs operations. map (gains_with outputs) operations) charges.outputs charges.operations;
          shifted_gains = kept.shifted_gains ∙ ap (map (gains_with [])) charges.merged;
          naming = kept.naming;
          start = subst (AreSumsOf problem shifts []) (sym kept.start) start_is;
        }) small formed
