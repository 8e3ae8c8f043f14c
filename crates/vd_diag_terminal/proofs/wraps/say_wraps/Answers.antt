use Rattle.vd_diag_terminal.proofs.Wrapped.{where_clear, where_other}
use Rattle.vd_diag_terminal.proofs.wraps.say_wraps.Goals as goal

pub returns-then-is_clear_run : goal.returns-then-is_clear_run
returns-then-is_clear_run g c =
    where_clear c.args.destination c.args.words.now c.args.status.now c.is_clear_run.result c.is_clear_run.ensures _ _ _ _ c.say_where.result c.if-is_clear_run.true c.say_where.ensures

pub returns-else-is_clear_run : goal.returns-else-is_clear_run
returns-else-is_clear_run g c = where_other c.args.destination c.args.words.now c.args.status.now c.is_clear_run.result c.is_clear_run.ensures _ _ c.if-is_clear_run.false
