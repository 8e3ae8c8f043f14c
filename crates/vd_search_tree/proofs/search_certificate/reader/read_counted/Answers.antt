use Rattle.std.proofs.Common.{◌+◌, ◌-◌, ◌++◌, [], ◌∷◌, Some, Err, List, drop, sym, ap, ◌∙◌, subst}
use Rattle.vd_search_tree.specs.declared.shift.Shift.{Shift}
use Rattle.vd_search_tree.specs.Scan.{Scanner, scan_shifts, scan_marks}
use Rattle.vd_search_tree.specs.Steps.{Said}
use Rattle.vd_search_tree.proofs.Steps.{shift_taken, shift_refused}
use Rattle.vd_search_tree.proofs.search_certificate.reader.read_counted.Goals as goal

pub returns-in-Err : goal.returns-in-Err
returns-in-Err c =
    let at = c.loop-taken in
    let bytes = c.args.bytes.now in
    subst (λ said. Said bytes said (Err c.in-Err.fault)) at.invariant.same
    (shift_refused c.args.count at.taken at.shifts (λ shifts. scan_marks (Some c.args.cost) c.args.by_arcs shifts []) bytes at.at c.in-Err.fault c.loop-taken-test.true c.in-Err.ensures)

pub loop-taken-preserved : goal.loop-taken-preserved
loop-taken-preserved c =
    let at = c.loop-taken in
    let bytes = c.args.bytes.now in
    let marks : List Shift → Scanner = λ shifts. scan_marks (Some c.args.cost) c.args.by_arcs shifts [] in
    let left = c.args.count - (at.taken + 1) in
    let pushed = c.in_ok-push-in-Ok.ensures.ok in
    record {
      within = c.in-Ok.ensures.0;
      same = ap (λ list. scan_shifts left list marks (drop c.in-Ok.end bytes)) pushed
          ∙ sym (shift_taken c.args.count at.taken at.shifts c.in-Ok.shift marks bytes at.at c.in-Ok.end c.loop-taken-test.true (c.in-Ok.ensures.1 (λ s. scan_shifts left (at.shifts ++ s ∷ []) marks)))
          ∙ at.invariant.same;
    }
