use Rattle.std.proofs.Common.{sym, ◌∙◌}
use Rattle.vd_cmd_needs.proofs.Answered.{of_host, of_text}
use Rattle.vd_cmd_needs.proofs.Told.{of_host_told, of_text_told}
use Rattle.vd_cmd_needs.proofs.needs_command.needs_in_bytes.Goals as goal

pub returns-then-is_program-clause-executes : goal.returns-then-is_program-clause-executes
returns-then-is_program-clause-executes c =
    of_host c.args.words.now c.args.bytes.now c.needs_in_host.result (sym c.is_program.ensures ∙ c.if-is_program.true) c.needs_in_host.ensures.executes

pub returns-then-is_program-clause-tells : goal.returns-then-is_program-clause-tells
returns-then-is_program-clause-tells c = of_host_told c.args.words.now c.args.bytes.now c.needs_in_host.result c.needs_in_host.ensures.tells

pub returns-else-is_program-clause-executes : goal.returns-else-is_program-clause-executes
returns-else-is_program-clause-executes c =
    of_text c.args.words.now c.args.bytes.now c.needs_in_text.result (sym c.is_program.ensures ∙ c.if-is_program.false) c.needs_in_text.ensures.executes

pub returns-else-is_program-clause-tells : goal.returns-else-is_program-clause-tells
returns-else-is_program-clause-tells c = of_text_told c.args.words.now c.args.bytes.now c.needs_in_text.result c.needs_in_text.ensures.tells
