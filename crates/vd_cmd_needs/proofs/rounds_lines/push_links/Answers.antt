use Rattle.std.proofs.Common.{◌≡◌, List, ℕ, ◌++◌, ap, sym, subst, ◌∙◌, append_assoc}
use Rattle.std.proofs.Math.Numerals.{add-one}
use Rattle.vd_deal_needs.specs.Counted.{code_in}
use Rattle.vd_report.specs.ReportLines.{texts_below}
use Rattle.vd_cmd_needs.specs.RoundsLines.{told_line}
use Rattle.vd_cmd_needs.proofs.rounds_lines.push_links.Goals as goal

pub loop-to-preserved : goal.loop-to-preserved
loop-to-preserved c =
    let line = told_line c.args.names.now c.args.from (code_in c.args.code.now) in
    subst (λ (n : ℕ). c.push_link.new.text ≡ c.args.text.now ++ texts_below line n) (sym (add-one c.loop-to.to))
    (c.in_ok-push_link.ensures {u = tt} ∙ ap (λ (text : List ℕ). text ++ line c.loop-to.to) c.loop-to.invariant
    ∙ append_assoc c.args.text.now (texts_below line c.loop-to.to) (line c.loop-to.to))
