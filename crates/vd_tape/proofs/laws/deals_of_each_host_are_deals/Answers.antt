use Rattle.vd_tape.proofs.EachHost.{no_deals, more_deals, all_deals}
use Rattle.vd_tape.proofs.laws.deals_of_each_host_are_deals.Goals as goal

pub returns : goal.returns
returns c = record { none = no_deals; more = more_deals; all = all_deals }
