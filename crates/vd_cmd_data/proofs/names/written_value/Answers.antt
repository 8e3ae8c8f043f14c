use Rattle.std.proofs.Common.{◌-◌, ap, ◌∙◌, take, drop, length}
use Rattle.vd_cmd_data.specs.Names.{value_len}
use Rattle.vd_cmd_data.proofs.Written.{behind_word}
use Rattle.vd_cmd_data.proofs.names.written_value.Goals as goal

pub returns : goal.returns
returns c = ap (λ n. take n (take (length c.args.line.now - 7) (drop 7 c.args.line.now))) c.value_len.ensures.is ∙ ap (λ value. take (value_len value) value) (behind_word c.args.line.now)
