-- What the host of a program takes at most from its lists.
use Rattle.std.specs.Prelude.{length}
use Rattle.vd_deal_needs.specs.DealNeedsLawsNeeds.{counts}
use Rattle.vd_deal_needs.specs.declared.taking.HostNeeds.{HostNeeds}
use Rattle.vd_deal_needs.specs.Counted.{code_in}
use Rattle.vd_deal_needs.specs.Needs.{needs_by}
use Rattle.vd_hostcode.specs.declared.host_text.program.HostProgram.{HostProgram}

abbrev pub needs_in : HostProgram → HostNeeds
needs_in program = needs_by (length program.hosts) (counts (code_in program.code))
