use Rattle.std.proofs.Common.{◌≡◌, sym, ◌∙◌, arith}
use Rattle.vd_lsp.specs.Hovers.{given, text_lines}
use Rattle.vd_lsp.proofs.SlotLines.{for_all, long_given}
use Rattle.vd_lsp.proofs.hovers.lines_of.Goals as goal

pub returns-then-text : goal.returns-then-text
returns-then-text c = λ texts least. c.new.ensures ∙ sym (long_given texts least c.args.uri.now c.args.text.now c.args.name.now c.args.statement (omega arith))

pub returns : goal.returns
returns c =
    for_all c.given.result (λ texts least lines. lines ≡ given (text_lines texts least c.args.uri.now c.args.text.now c.args.name.now c.args.statement))
    (λ texts least. c.given.ensures (text_lines texts least c.args.uri.now c.args.text.now c.args.name.now c.args.statement) (c.short_lines.ensures texts least c.args.uri.now))
