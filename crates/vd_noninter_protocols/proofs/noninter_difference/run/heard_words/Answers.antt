use Rattle.std.proofs.Common.{length, ap, ◌∙◌}
use Rattle.vd_semantics.specs.World.{world_at_start}
use Rattle.vd_noninter_protocols.proofs.Runs.{words_of_program}
use Rattle.vd_noninter_protocols.proofs.noninter_difference.run.heard_words.Goals as goal

pub returns : goal.returns
returns c =
    words_of_program c.args.listener.now c.args.program.now c.args.inputs.now c.as_slice-2.result.now c.new.result.items c.new-2.result.items c.in_ok-at_start.field-0 c.new-3.result.items c.block.new.self c.into_heard.result
    c.as_slice-2.ensures c.new.ensures.items c.new-2.ensures.items c.new-3.ensures.items
    (c.in_ok-at_start.ensures ∙ ap (λ hosts. world_at_start (length hosts) c.args.inputs.now) c.as_slice.ensures)
    c.in_ok-block.ensures c.into_heard.ensures
