use Rattle.std.proofs.Common.{◌≡◌, List, ℕ, ◌++◌, ap, sym, subst, ◌∙◌, append_assoc}
use Rattle.std.proofs.Math.Numerals.{add-one}
use Rattle.vd_report.specs.ReportLines.{texts_below}
use Rattle.vd_cmd_needs.specs.Lines.{later_line}
use Rattle.vd_cmd_needs.proofs.lines.push_pairs.Goals as goal

pub loop-second-preserved : goal.loop-second-preserved
loop-second-preserved c =
    let line = later_line c.args.names.now c.args.needs.now c.args.first in
    subst (λ (n : ℕ). c.push_later.new.text ≡ c.args.text.now ++ texts_below line n) (sym (add-one c.loop-second.second))
    (c.in_ok-push_later.ensures {u = tt} ∙ ap (λ (text : List ℕ). text ++ line c.loop-second.second) c.loop-second.invariant
    ∙ append_assoc c.args.text.now (texts_below line c.loop-second.second) (line c.loop-second.second))
