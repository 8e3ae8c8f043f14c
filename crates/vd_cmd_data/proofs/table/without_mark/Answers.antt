use Rattle.std.proofs.Common.{sym, ◌∙◌, arith}
use Rattle.vd_cmd_data.proofs.Marks.{marked, unmarked}
use Rattle.vd_cmd_data.proofs.table.without_mark.Goals as goal

pub returns-then-is_mark : goal.returns-then-is_mark
returns-then-is_mark c =
    let some = c.in-len3-up.len_at_least in
    marked _ _ _ c.args.bytes.now (omega (arith, some)) (sym c.is_mark.ensures ∙ c.if-is_mark.true)

pub returns-else-is_mark : goal.returns-else-is_mark
returns-else-is_mark c =
    let some = c.in-len3-up.len_at_least in
    unmarked _ _ _ c.args.bytes.now (omega (arith, some)) (sym c.is_mark.ensures ∙ c.if-is_mark.false)
