use Rattle.std.proofs.Common.{◌≡◌, ◌++◌, drop}
use Rattle.vd_deal_versions.specs.Text.{linked_text}
use Rattle.vd_deal_versions.proofs.writing.push_linked.Given as goal

-- what is left completes what is there
abbrev pub invariant-loop-place : goal.invariant-loop-place
invariant-loop-place l =
    l.text ++ linked_text l.deal.me.0 l.place (drop l.place l.links) (drop l.place l.deal.triples) (drop l.place l.deal.bits) (drop l.place l.deal.pairs)
    ≡ l.fn.text ++ linked_text l.deal.me.0 0 l.links l.deal.triples l.deal.bits l.deal.pairs
