use Rattle.std.proofs.Common.{sym, ◌∙◌, arith}
use Rattle.vd_search_tree.proofs.Steps.{word_ended}
use Rattle.vd_search_tree.proofs.search_certificate.reader.read_word.Goals as goal

pub returns-then-at-bytes : goal.returns-then-at-bytes
returns-then-at-bytes c =
    let at = c.loop-byte in (at.invariant.within, sym at.invariant.same ∙ word_ended c.args.expected.now c.args.bytes.now at.byte-index at.at c.loop-byte-test.true (omega arith))
