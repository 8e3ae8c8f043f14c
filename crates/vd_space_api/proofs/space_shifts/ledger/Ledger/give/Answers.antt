use Rattle.std.proofs.Common.{◌<◌, None, get_or, sym, subst}
use Rattle.std.specs.Prelude.{unwrap_or}
use Rattle.vd_space_api.proofs.Handing.{row_read}
use Rattle.vd_space_api.proofs.space_shifts.ledger.Ledger.give.Goals as goal

pub raised-requires-clause-row : goal.raised-requires-clause-row
raised-requires-clause-row c p =
    let row = row_read c.args.self.now.terms c.as_slice.result.now c.index-as_slice-source.result c.as_slice-2.result.now c.args.source c.as_slice.ensures c.index-as_slice-source.is c.requires.source c.as_slice-2.ensures in
    subst (λ r. unwrap_or (get_or r p None) 0 < 4294967296) (sym row) (c.requires.small c.args.source p)
