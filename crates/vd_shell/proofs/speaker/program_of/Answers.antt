use Rattle.std.proofs.Common.{Ok, refl}
use Rattle.vd_shell.proofs.Speakers.{held}
use Rattle.vd_shell.proofs.speaker.program_of.Goals as goal

pub returns-in-Ok-read : goal.returns-in-Ok-read
returns-in-Ok-read g c =
    held c.args.words.now _ _ _ _ _ c.in-Ok-read.program c.as_str.ensures c.in-Ok.ensures c.as_slice.ensures ((c.in-Ok-read.ensures.answer (λ e. cc e) (Ok c.in-Ok-read.program)).0 refl)
