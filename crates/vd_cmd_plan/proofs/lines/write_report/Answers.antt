use Rattle.std.proofs.Common.{List, ℕ, ◌++◌, subst}
use Rattle.std.specs.Prelude.{codes}
use Rattle.vd_outside.specs.Sink.{WritesAll}
use Rattle.vd_cmd_plan.specs.Shown.{shown}
use Rattle.vd_cmd_plan.proofs.lines.write_report.Goals as goal

pub returns : goal.returns
returns g c =
    subst (λ (word : List ℕ). WritesAll (codes "viaduct: report " ++ (shown c.args.name.now ++ (codes " " ++ (word ++ codes "\n"))))
    (g.E.Sink.view c.args.err.now) (g.E.Sink.view c.write_named.new.out) c.write_named.result)
    c.report_word.ensures c.write_named.ensures
