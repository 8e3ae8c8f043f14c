-- What goes out over a link, piece by piece.
use Rattle.std.proofs.Common.{◌≡◌, ℕ, List, [], ◌∷◌, ◌++◌, Some, None, Option, refl, sym, ap, subst, ◌∙◌, append_assoc}
use Rattle.std.specs.List.{concat}
use Rattle.std.proofs.lemmas.List.{append-nil}
use Rattle.vd_outside.specs.Link.{LinkView}
use Rattle.vd_lsp.specs.States.{fresh}
use Rattle.vd_lsp.specs.Streams.{Came, IsRound, SendsRound, Serves, ServesLink, Waiting}
use Rattle.vd_lsp.specs.declared.serving.Round.{Round}
use Rattle.vd_lsp.specs.declared.serving.Stop.TheVariants as stop
use Rattle.vd_lsp.specs.declared.states.Server.{Server}

abbrev pub waits_with : Server → List ℕ → Waiting
waits_with server came = record { server = server; came = came }

one_more : (before reached : Waiting) (pieces : List (List ℕ)) (sent piece : List ℕ) (round : Round) → Serves before pieces sent reached → IsRound reached.server (reached.came ++ piece) round
    → round.stop ≡ stop.Waits → Serves before (pieces ++ piece ∷ []) (sent ++ round.out) (waits_with round.server round.came)
one_more before reached [] sent piece round all is waits =
    let here : IsRound before.server (before.came ++ piece) round = subst (λ (w : Waiting). IsRound w.server (w.came ++ piece) round) all.1 is in
    (round, [], here, waits, ap (λ (l : List ℕ). l ++ round.out) all.0 ∙ sym (append-nil round.out), (refl, refl))
one_more before reached (p ∷ ps) sent piece round all is waits =
    let rest = one_more (waits_with all.0.server all.0.came) reached ps all.1 piece round all.5 is waits in
    (all.0, all.1 ++ round.out, all.2, all.3, ap (λ (l : List ℕ). l ++ round.out) all.4 ∙ append_assoc all.0.out all.1 round.out, rest)

concat_more : (pieces : List (List ℕ)) (piece : List ℕ) → concat (pieces ++ piece ∷ []) ≡ concat pieces ++ piece
concat_more [] piece = append-nil piece
concat_more (p ∷ ps) piece = ap (λ (l : List ℕ). p ++ l) (concat_more ps piece) ∙ sym (append_assoc p (concat ps) piece)

-- so far the server answered these pieces
pub record SoFar (before now : LinkView) (server : Server) (came : List ℕ) : Type 0 where
  pub pieces : List (List ℕ)
  pub sent : List ℕ
  pub coming : before.coming ≡ concat pieces ++ now.coming
  pub serves : Serves (waits_with fresh []) pieces sent (waits_with server came)
  pub sent_is : now.sent ≡ before.sent ++ sent

pub starts : (before : LinkView) (server : Server) (came : List ℕ) → server ≡ fresh → came ≡ [] → SoFar before before server came
starts before server came is empty = record {
  pieces = [];
  sent = [];
  coming = refl;
  serves = (refl, ap (λ (s : Server). waits_with s came) is ∙ ap (λ (c : List ℕ). waits_with fresh c) empty);
  sent_is = sym (append-nil before.sent);
}

pub goes_on : (before middle between now : LinkView) (server : Server) (came piece : List ℕ) (round : Round) → SoFar before middle server came → Came piece middle between
    → SendsRound server came piece between now round → round.stop ≡ stop.Waits → SoFar before now round.server round.came
goes_on before middle between now server came piece round far piece_came sends waits = record {
  pieces = far.pieces ++ piece ∷ [];
  sent = far.sent ++ round.out;
  coming = far.coming
      ∙ ap (λ (l : List ℕ). concat far.pieces ++ l) (piece_came.coming ∙ ap (λ (l : List ℕ). piece ++ l) (sym sends.coming))
      ∙ sym (append_assoc (concat far.pieces) piece now.coming)
      ∙ ap (λ (l : List ℕ). l ++ now.coming) (sym (concat_more far.pieces piece));
  serves = one_more (waits_with fresh []) (waits_with server came) far.pieces far.sent piece round far.serves sends.round_is waits;
  sent_is = sends.sent ∙ ap (λ (l : List ℕ). l ++ round.out) (piece_came.sent ∙ far.sent_is) ∙ append_assoc before.sent far.sent round.out;
}

pub link_ends : (before middle now : LinkView) (server : Server) (came piece : List ℕ) → SoFar before middle server came → Came piece middle now → piece ≡ [] → ServesLink before now 1
link_ends before middle now server came piece far piece_came empty = record {
  pieces = far.pieces;
  last = None;
  came = far.coming ∙ ap (λ (l : List ℕ). concat far.pieces ++ l) (piece_came.coming ∙ ap (λ (l : List ℕ). l ++ now.coming) empty);
  reached = waits_with server came;
  sent = far.sent;
  serves = far.serves;
  end = [];
  ends = (refl, refl);
  sent_is = piece_came.sent ∙ far.sent_is ∙ ap (λ (l : List ℕ). before.sent ++ l) (sym (append-nil far.sent));
}

pub message_ends : (before middle between now : LinkView) (server : Server) (came piece : List ℕ) (round : Round) (status : ℕ) → SoFar before middle server came → Came piece middle between
    → SendsRound server came piece between now round → round.stop ≡ stop.Ends status → ServesLink before now status
message_ends before middle between now server came piece round status far piece_came sends stops = record {
  pieces = far.pieces;
  last = Some piece;
  came = far.coming ∙ ap (λ (l : List ℕ). concat far.pieces ++ l) (piece_came.coming ∙ ap (λ (l : List ℕ). piece ++ l) (sym sends.coming));
  reached = waits_with server came;
  sent = far.sent;
  serves = far.serves;
  end = round.out;
  ends = (round, sends.round_is, stops, refl);
  sent_is = sends.sent ∙ ap (λ (l : List ℕ). l ++ round.out) (piece_came.sent ∙ far.sent_is) ∙ append_assoc before.sent far.sent round.out;
}
