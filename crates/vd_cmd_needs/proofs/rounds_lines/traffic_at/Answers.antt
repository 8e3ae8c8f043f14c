use Rattle.vd_rounds.specs.Loads.{traffic_of}
use Rattle.vd_cmd_needs.proofs.Rounding.{counted_for}
use Rattle.vd_cmd_needs.proofs.rounds_lines.traffic_at.Goals as goal

pub returns-clause-counts : goal.returns-clause-counts
returns-clause-counts c =
    counted_for c.args.code.now c.requires (traffic_of c.args.peer) c.in_ok-traffic.traffic (λ d is. (c.in_ok-traffic.ensures {u = tt}).counts d is)
