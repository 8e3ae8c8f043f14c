use Rattle.std.proofs.Common.{sym, ◌∙◌}
use Rattle.vd_parser.proofs.Steps.{took_next, not_took, not_end, one_less}
use Rattle.vd_parser.proofs.cursor.Cursor.expect.Goals as goal

pub advance-requires : goal.advance-requires
advance-requires c = not_end c.args.kind c.args.self.now (sym c.is.ensures ∙ c.if-is.true) c.requires

pub returns-then-is-clause-token : goal.returns-then-is-clause-token
returns-then-is-clause-token c = took_next c.args.kind _ _ _ c.advance.ensures (sym c.is.ensures ∙ c.if-is.true)

pub returns-then-is-clause-shorter : goal.returns-then-is-clause-shorter
returns-then-is-clause-shorter c = one_less _ _ _ c.advance.ensures

pub returns-else-is-clause-token : goal.returns-else-is-clause-token
returns-else-is-clause-token c = not_took c.args.kind _ (sym c.is.ensures ∙ c.if-is.false)
