use Rattle.std.proofs.Common.{ap, ◌∙◌}
use Rattle.vd_execution.specs.Registers.{put}
use Rattle.vd_machine.proofs.perform.write_triple.Goals as goal

pub returns-clause-value : goal.returns-clause-value
returns-clause-value c =
    c.write-3.ensures.value
    ∙ ap (λ f. put f c.args.c.0 c.args.item.c) (c.write-2.ensures.value ∙ ap (λ f. put f c.args.b.0 c.args.item.b) c.write.ensures.value)
