use Rattle.std.proofs.Common.{Option, List, ℕ, sym, subst}
use Rattle.vd_cmd_plan.specs.Plans.{Checks}
use Rattle.vd_cmd_draw.specs.Revealing.{asked_hosts}
use Rattle.vd_cmd_draw.proofs.reveals_command.asked_hosts.Goals as goal

pub returns-in-Some : goal.returns-in-Some
returns-in-Some c =
    subst (λ (w : Option (List ℕ)). Checks (asked_hosts c.args.names.now w) c.one_host.result) (sym c.in-Some.is) (rw c.as_str.ensures at c.one_host.ensures)
