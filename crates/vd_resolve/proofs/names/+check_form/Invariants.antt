use Rattle.std.proofs.Common.{◌≡◌, drop, map}
use Rattle.vd_resolve.specs.Rules.{all_known, form_check}
use Rattle.vd_resolve.specs.Tables.{names}
use Rattle.vd_resolve.proofs.names.+check_form.Given as goal

abbrev pub invariant-loop-part : goal.invariant-loop-part
invariant-loop-part l = all_known (map form_check (drop l.part-index l.part-items)) (names l.principals) ≡ all_known (map form_check l.part-items) (names l.principals)
