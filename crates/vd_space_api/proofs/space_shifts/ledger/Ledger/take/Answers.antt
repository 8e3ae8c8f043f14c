use Rattle.std.proofs.Common.{sym, ap, ◌∙◌, subst}
use Rattle.vd_space_api.specs.Ledger.{AreSmall}
use Rattle.vd_space_api.specs.Rows.{amounts_of}
use Rattle.vd_space_api.proofs.Handing.{row_read, amounts_small}
use Rattle.vd_space_api.proofs.space_shifts.ledger.Ledger.take.Goals as goal

pub push_shifts-requires-clause-small : goal.push_shifts-requires-clause-small
push_shifts-requires-clause-small c =
    let row = row_read c.args.self.now.terms c.as_slice.result.now c.index-as_slice-target.result c.as_slice-row.result.now c.args.target c.as_slice.ensures c.index-as_slice-target.is c.requires.target c.as_slice-row.ensures in
    subst AreSmall (sym (c.as_slice-2.ensures ∙ c.in_ok-taken.ensures ∙ ap amounts_of row)) (amounts_small c.args.self.now.terms c.args.target c.requires.small)
