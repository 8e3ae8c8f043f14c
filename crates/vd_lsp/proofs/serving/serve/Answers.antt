use Rattle.std.proofs.Common.{IsTrue, subst}
use Rattle.vd_lsp.proofs.Pieces.{goes_on, message_ends}
use Rattle.vd_lsp.proofs.serving.serve.Goals as goal

pub rounds-preserved : goal.rounds-preserved
rounds-preserved g c = record {
  was_told = λ told. c.rounds.invariant.was_told (subst (λ b. IsTrue b) c.next_piece.ensures.told (c.serve_piece.ensures.told told));
  so_far = λ told.
      let came_told = c.serve_piece.ensures.told told in
      goes_on (g.L.Link.view c.args.link.now) (g.L.Link.view c.rounds.link) (g.L.Link.view c.next_piece.new.link) (g.L.Link.view c.serve_piece.new.link) c.rounds.server c.rounds.came
      c.in_ok-piece.piece.now c.in_ok-round.round (c.rounds.invariant.so_far (subst (λ b. IsTrue b) c.next_piece.ensures.told came_told)) (c.in_ok-piece.ensures.piece came_told)
      (c.in_ok-round.ensures.round told) c.in-Waits.is;
}

pub returns-in-Ends : goal.returns-in-Ends
returns-in-Ends g c = λ told.
    let came_told = c.serve_piece.ensures.told told in
    message_ends (g.L.Link.view c.args.link.now) (g.L.Link.view c.rounds.link) (g.L.Link.view c.next_piece.new.link) (g.L.Link.view c.serve_piece.new.link) c.rounds.server c.rounds.came
    c.in_ok-piece.piece.now c.in_ok-round.round c.in-Ends.status (c.rounds.invariant.so_far (subst (λ b. IsTrue b) c.next_piece.ensures.told came_told)) (c.in_ok-piece.ensures.piece came_told)
    (c.in_ok-round.ensures.round told) c.in-Ends.is
