-- A program with selections is well made.
use Rattle.std.proofs.Common.{◌≡◌, nat_le, Bool, true, false, ◌&&◌, if◌then◌else◌, length, refl, arith}
use Rattle.std.proofs.lemmas.Bool.{leb-true}
use Rattle.std.proofs.lemmas.List.Sums.{list_all-from_AllPass}
use Rattle.vd_base.specs.declared.ids.SlotId.{SlotId}
use Rattle.vd_base.specs.Limits.{most_statements, most_weights}
use Rattle.vd_core.specs.declared.normal.NormalForm.{NormalForm}
use Rattle.vd_core.specs.Facts.{statement_count, weight_sum, IsWellMade}
use Rattle.vd_mux.specs.BooleanGuards.{is_truth_slot, keeps_truth}
use Rattle.vd_rewrite.specs.Rewriting.{kept_let, rewritings, some_changed}
use Rattle.vd_mux.specs.Selections.{with_selections, turned}
use Rattle.vd_mux.proofs.Truths.{Truths}
use Rattle.vd_rewrite.proofs.Front.{kept_fits, entry_passes, rewritten_well_made}
use Rattle.vd_mux.proofs.SelectionsKept.{turn_laws}

pub turned_well_made : (hides : SlotId → Bool) (program : NormalForm) → IsWellMade program → IsWellMade (turned hides program)
turned_well_made hides program well = by (some_changed (rewritings hides (kept_let program.slots) program.slots program.body)) (nat_le (statement_count new.body) most_statements) (nat_le (weight_sum new.body) most_weights) refl refl
  where
    new : NormalForm
    new = with_selections hides program

    by : (c a b : Bool) → nat_le (statement_count (with_selections hides program).body) most_statements ≡ a → nat_le (weight_sum (with_selections hides program).body) most_weights ≡ b → IsWellMade (if c && (a && b) then with_selections hides program else program)
    by true true true ea eb =
        let truth : SlotId → Bool = λ x. is_truth_slot program.slots x.0 in
        rewritten_well_made hides (kept_let program.slots) (Unit {0}) (λ n. Unit {0}) (Truths truth) (keeps_truth truth) (turn_laws hides program) program well 0
        (kept_fits program.slots program.principals (length program.hosts) (list_all-from_AllPass (entry_passes program.principals) program.slots well.known_principals.slots)) (λ le. let l = well.limits.loops in omega arith)
        (leb-true (statement_count (with_selections hides program).body) most_statements ea) (leb-true (weight_sum (with_selections hides program).body) most_weights eb)
    by true true false ea eb = well
    by true false b ea eb = well
    by false a b ea eb = well
