use Rattle.std.proofs.lemmas.Option.{slice_get-get_or}
use Rattle.vd_deal_versions.proofs.writing.link_at.Goals as goal

pub returns : goal.returns
returns c = slice_get-get_or c.args.links.now c.args.place _ c.requires
