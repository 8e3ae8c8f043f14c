use Rattle.vd_lsp.proofs.checking.check_text.Goals as goal

pub returns : goal.returns
returns c = λ texts least. c.label_text.ensures texts least c.args.name.now
