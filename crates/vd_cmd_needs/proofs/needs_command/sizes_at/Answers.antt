use Rattle.std.proofs.Common.{◌≤◌, List, length, sym, subst}
use Rattle.vd_base.specs.Limits.{most_hosts}
use Rattle.vd_deal_needs.specs.declared.taking.HostNeeds.{HostNeeds}
use Rattle.vd_cmd_needs.proofs.needs_command.sizes_at.Goals as goal

pub sizes-requires : goal.sizes-requires
sizes-requires c = subst (λ (l : List HostNeeds). length l ≤ most_hosts) (sym c.as_slice-list.ensures) (c.in_ok-needs.ensures {u = tt}).few
