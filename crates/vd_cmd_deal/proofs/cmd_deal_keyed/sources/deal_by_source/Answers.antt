use Rattle.std.proofs.Common.{true, refl}
use Rattle.vd_cmd_plan.specs.Plans.{answer_then}
use Rattle.vd_cmd_plan.proofs.Front.{answers}
use Rattle.vd_cmd_deal.specs.KeyDealing.{key_answer}
use Rattle.vd_cmd_deal.specs.Sources.{FromDraw, FromFile, NoMemory, NotDrawn, file_plan}
use Rattle.vd_cmd_deal.proofs.cmd_deal_keyed.sources.deal_by_source.Goals as goal

pub returns-in-InFile : goal.returns-in-InFile
returns-in-InFile g c =
    let runs = c.finish.ensures true (file_plan c.args.words.now.counts c.as_str.result.now c.as_str-prefix.result.now) (g.F.Files.view c.args.files.now) c.deal_by_file-came.ensures in
    FromFile c.in-InFile.name c.finish.result c.in-InFile.is refl (rw (c.as_str.ensures, c.as_str-prefix.ensures) at runs)

pub returns-in_default : goal.returns-in_default
returns-in_default g c = NoMemory c.in-Drawn.is refl refl refl

pub returns-in-Ok-draw : goal.returns-in-Ok-draw
returns-in-Ok-draw g c =
    let files = g.F.Files.view c.args.files.now in
    let answer = key_answer c.args.words.now.counts c.in-Ok-draw.key c.as_str-prefix.result.now in
    let runs = c.finish-in-Ok-draw.ensures true (answer_then answer) files (answers answer files c.deal_by_key.result c.deal_by_key.ensures) in
    FromDraw c.in-Ok-draw.key c.finish-in-Ok-draw.result c.in-Drawn.is c.in-Ok-draw.ensures (rw c.as_str-prefix.ensures at runs)

pub returns-in-Err : goal.returns-in-Err
returns-in-Err g c = rw (c.not_drawn.ensures, c.in-Ok.ensures) (NotDrawn c.in-Err.fault c.in-Drawn.is c.in-Err.ensures refl refl)
