use Rattle.vd_source_lexer.proofs.Lawful.{exact}
use Rattle.vd_source_lexer.proofs.source_ll1.machine_is_exact.Goals as goal

pub returns : goal.returns
returns g c = λ rule F E n ll1 es h ts. exact _ rule F E n ll1 es h ts
