use Rattle.std.proofs.Common.{IsTrue}
use Rattle.vd_lsp.proofs.Pieces.{SoFar}
use Rattle.vd_lsp.proofs.serving.serve.Given as goal

-- what went out so far is what was said to the pieces that came
abbrev pub invariant-rounds : goal.invariant-rounds
invariant-rounds g l = record {
  was_told : IsTrue (g.L.Link.view l.link).told → IsTrue (g.L.Link.view l.initial.link).told;
  so_far : IsTrue (g.L.Link.view l.link).told → SoFar (g.L.Link.view l.initial.link) (g.L.Link.view l.link) l.server l.came;
}
