use Rattle.std.proofs.Common.{sym, ◌∙◌}
use Rattle.vd_base_codec.proofs.Steps.{longer_some, longer_none}
use Rattle.vd_base_codec.proofs.cursor.Cursor.longest.Goals as goal

pub digits-preserved : goal.digits-preserved
digits-preserved c =
    sym (longer_some c.args.most c.digits.number c.in-Some.longer c.advance.result c.digits.self c.advance.new.self (sym c.in-Some.ensures) c.advance.ensures) ∙ c.digits.invariant

pub returns : goal.returns
returns c = sym (longer_none c.args.most c.digits.number c.digits.self (sym c.in_default.ensures)) ∙ c.digits.invariant
