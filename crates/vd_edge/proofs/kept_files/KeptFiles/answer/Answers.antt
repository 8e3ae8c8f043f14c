use Rattle.std.proofs.Common.{rules}
use Rattle.vd_edge.specs.KeptFiles.{stood}
use Rattle.vd_edge.proofs.Ahead.{gives_kept, too_long_kept}
use Rattle.vd_edge.proofs.Disk.{stood_gives, stood_too_long}
use Rattle.vd_edge.proofs.kept_files.KeptFiles.answer.Goals as goal

pub returns-clause-gives : goal.returns-clause-gives
returns-clause-gives g c =
    let tells = g.D.Directory.tells in
    let began = g.D.Directory.began c.args.self.now.files.directory in
    gives_kept c.args.self.now.asked c.args.self.now.stores.pairs (stood tells began c.args.self.now.kept) c.args.name.now c.args.limit c.fetch_kept.result
    (search rules) c.args.self.now.known
    (stood_gives tells began c.args.self.now.kept c.args.name.now c.args.limit c.fetch_kept.result c.args.self.now.held (search rules) (search rules))

pub returns-clause-too_long : goal.returns-clause-too_long
returns-clause-too_long g c =
    let tells = g.D.Directory.tells in
    let began = g.D.Directory.began c.args.self.now.files.directory in
    too_long_kept c.args.self.now.asked c.args.self.now.stores.pairs (stood tells began c.args.self.now.kept) c.args.name.now c.args.limit c.fetch_kept.result
    (search rules) c.args.self.now.known
    (stood_too_long tells began c.args.self.now.kept c.args.name.now c.args.limit c.fetch_kept.result c.args.self.now.held (search rules) (search rules))
