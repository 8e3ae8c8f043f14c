use Rattle.vd_source_lexer.proofs.Lawful.{fronts}
use Rattle.vd_source_lexer.proofs.source_ll1.fronts_begin.Goals as goal

pub returns : goal.returns
returns g c = λ rule F E n ll1 es h ts us. fronts _ rule F E n ll1 es h ts us
