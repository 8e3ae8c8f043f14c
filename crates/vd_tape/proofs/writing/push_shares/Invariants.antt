use Rattle.std.proofs.Common.{◌≡◌, ◌++◌, drop}
use Rattle.vd_tape.specs.Text.{shares_text}
use Rattle.vd_tape.proofs.writing.push_shares.Given as goal

-- what is left completes what is there
abbrev pub invariant-loop-place : goal.invariant-loop-place
invariant-loop-place l =
    l.text ++ shares_text l.deal.me.0 l.place (drop l.place l.deal.triples) (drop l.place l.deal.bits) (drop l.place l.deal.pairs)
    ≡ l.fn.text ++ shares_text l.deal.me.0 0 l.deal.triples l.deal.bits l.deal.pairs
