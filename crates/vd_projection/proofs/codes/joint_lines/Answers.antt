use Rattle.std.proofs.Common.{◌∙◌}
use Rattle.vd_projection.proofs.Lines.{served, lines_are}
use Rattle.vd_projection.proofs.codes.joint_lines.Goals as goal

pub joint_code-requires-clause-served : goal.joint_code-requires-clause-served
joint_code-requires-clause-served c =
    (served c.args.program.now c.args.protocols.now c.requires c.new-built.result (c.new-built.ensures ∙ c.host_count-hosts.ensures)).slots

pub joint_code-requires-clause-stands : goal.joint_code-requires-clause-stands
joint_code-requires-clause-stands c =
    (served c.args.program.now c.args.protocols.now c.requires c.new-built.result (c.new-built.ensures ∙ c.host_count-hosts.ensures)).stands

pub returns : goal.returns
returns c = lines_are c.args.program.now c.args.protocols.now c.new-built.result (c.new-built.ensures ∙ c.host_count-hosts.ensures) c.joint_code.result c.joint_code.ensures
