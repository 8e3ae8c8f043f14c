use Rattle.std.proofs.Common.{ℕ, codes, ap, ◌∙◌}
use Rattle.vd_cmd_plan.specs.Numbered.{file_name}
use Rattle.vd_cmd_compile.proofs.Storing.{file_is}
use Rattle.vd_cmd_compile.proofs.compile_command.file_of.Goals as goal

pub returns : goal.returns
returns c =
    file_is c.args.prefix.now c.args.hosts.now c.args.plan c.args.number c.args.code c.in_ok-name.name c.in_ok-content.content
    (c.in_ok-name.ensures {u = tt} ∙ ap (λ (n : ℕ). file_name c.args.prefix.now n (codes ".host")) c.from.ensures) (c.in_ok-content.ensures {u = tt})
