use Rattle.viaduct.proofs.Asked.{reasons_asked}
use Rattle.viaduct.proofs.caller.reasons_are_told_to_who_asks.Goals as goal

pub returns : goal.returns
returns c = reasons_asked
