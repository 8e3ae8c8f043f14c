use Rattle.std.proofs.Common.{lit<}
use Rattle.std.proofs.lemmas.Str.Pattern.{strip_prefix_char}
use Rattle.vd_cmd.proofs.Keys.{file_is}
use Rattle.vd_cmd.proofs.reading.key_file.Goals as goal

pub returns : goal.returns
returns c = file_is c.args.word.now c.strip_prefix.result (strip_prefix_char 0x40 c.args.word.now c.strip_prefix.result c.strip_prefix.ensures.cases (lit< tt))
