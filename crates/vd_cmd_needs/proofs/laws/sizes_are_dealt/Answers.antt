use Rattle.vd_cmd_needs.proofs.ReadBack.{sizes_are_dealt}
use Rattle.vd_cmd_needs.proofs.laws.sizes_are_dealt.Goals as goal

pub returns : goal.returns
returns c = sizes_are_dealt
