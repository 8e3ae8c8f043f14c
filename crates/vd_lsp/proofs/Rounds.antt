-- The messages of a stream, one after the other.
use Rattle.std.proofs.Common.{◌≡◌, ◌≢◌, ◌<◌, ◌≤◌, ℕ, ◌+◌, List, [], ◌∷◌, ◌++◌, ◌-◌, drop, length, Some, None, Option, Bor, refl, sym, ap, subst, ◌∙◌, append_assoc, arith}
use Rattle.std.specs.Prelude.{codes}
use Rattle.std.specs.List.{flat_map}
use Rattle.std.proofs.lemmas.Grind.{flat_map-append}
use Rattle.std.proofs.lemmas.List.{append-nil, length-append}
use Rattle.vd_lsp_wire.specs.Frames.{IsFramed, frame, head, most_body}
use Rattle.vd_lsp_wire.specs.declared.framing.Framed.{Framed}
use Rattle.vd_lsp_wire.specs.declared.framing.Framed.TheVariants as framed
use Rattle.vd_lsp.specs.Streams.{Answers, AnswersAll, AnswersBody, IsRound, IsStop, SaysDue, StopsAt}
use Rattle.vd_lsp.specs.declared.serving.Ending.{Ending}
use Rattle.vd_lsp.specs.declared.serving.Round.{Round}
use Rattle.vd_lsp.specs.declared.serving.Stop.{Stop}
use Rattle.vd_lsp.specs.declared.serving.Stop.TheVariants as stop
use Rattle.vd_lsp.specs.declared.states.Server.{Server}

one_more : (server : Server) (bodies : List (List ℕ)) (body before between now : List ℕ) (reached next : Server) → AnswersAll server bodies before between reached
    → AnswersBody reached body between now next None → AnswersAll server (bodies ++ body ∷ []) before now next
one_more server [] body before between now reached next all step =
    let here : AnswersBody server body before now next None = subst (λ (s : Server). AnswersBody s body before now next None) all.1 (subst (λ (b : List ℕ). AnswersBody reached body b now next None) all.0 step) in
    (now, next, here, (refl, refl))
one_more server (b ∷ bs) body before between now reached next all step = (all.0, all.1, all.2, one_more all.1 bs body all.0 between now reached next all.3 step)

-- what was answered so far of what came, what is left, what went out, and what the server is
pub record Reaches (server : Server) (came left before now : List ℕ) (reached : Server) : Type 0 where
  pub bodies : List (List ℕ)
  pub came_is : came ≡ flat_map frame bodies ++ left
  pub answers : AnswersAll server bodies before now reached

pub begins : (server : Server) (came out : List ℕ) → Reaches server came came out out server
begins server came out = record { bodies = []; came_is = refl; answers = (refl, refl) }

pub goes_on : (server : Server) (came left before between now : List ℕ) (reached next : Server) (ends : Option ℕ) (body rest : List ℕ) → Reaches server came left before between reached
    → left ≡ frame body ++ rest → AnswersBody reached body between now next ends → ends ≡ None → Reaches server came rest before now next
goes_on server came left before between now reached next ends body rest far is step none = record {
  bodies = far.bodies ++ body ∷ [];
  came_is = far.came_is ∙ ap (λ (l : List ℕ). flat_map frame far.bodies ++ l) is ∙ sym (append_assoc (flat_map frame far.bodies) (frame body) rest) ∙ ap (λ (l : List ℕ). l ++ rest) (last far.bodies body);
  answers = one_more server far.bodies body before between now reached next far.answers (subst (λ (e : Option ℕ). AnswersBody reached body between now next e) none step);
}
  where
    last : (bodies : List (List ℕ)) (body : List ℕ) → flat_map frame bodies ++ frame body ≡ flat_map frame (bodies ++ body ∷ [])
    last bodies body = ap (λ (l : List ℕ). flat_map frame bodies ++ l) (sym (append-nil (frame body))) ∙ sym (flat_map-append frame bodies (body ∷ []))

pub ends_here : (server : Server) (came left before between now : List ℕ) (reached : Server) (ends : Option ℕ) (status : ℕ) (body rest : List ℕ) (ending : Ending)
    → Reaches server came left before between reached → left ≡ frame body ++ rest → AnswersBody reached body between now ending.server ends → ends ≡ Some status
    → ending.stop ≡ stop.Ends status → ending.left ≡ length rest → Answers server came before now ending
ends_here server came left before between now reached ends status body rest ending far is step some stops count = record {
  bodies = far.bodies;
  rest = left;
  came_is = far.came_is;
  between = between;
  reached = reached;
  answers = far.answers;
  stops = subst (StopsAt reached left between now ending) (sym stops) (body, rest, is, subst (λ (e : Option ℕ). AnswersBody reached body between now ending.server e) some step, count);
}

pub stops_here : (server : Server) (came left before now : List ℕ) (reached : Server) (ending : Ending) → Reaches server came left before now reached
    → StopsAt reached left now now ending ending.stop → Answers server came before now ending
stops_here server came left before now reached ending far stops = record {
  bodies = far.bodies;
  rest = left;
  came_is = far.came_is;
  between = now;
  reached = reached;
  answers = far.answers;
  stops = stops;
}

-- ---- where no frame is next

no_frame : (left : List ℕ) (first : Framed) → ((body rest : Bor (List ℕ)) → first ≢ framed.Whole body rest) → IsFramed left first
    → (body rest : List ℕ) → length body ≤ most_body → left ≡ frame body ++ rest → ⊥
no_frame left (framed.Whole b r) other is body rest few at = other b r refl
no_frame left framed.Short other is body rest few at = is body few (rest, at)
no_frame left framed.Bad other is body rest few at = is body [] few (rest, append-nil left ∙ at)

pub stops_at : (server : Server) (left out : List ℕ) (ending : Ending) (first second : Framed) (s : Stop) → ((body rest : Bor (List ℕ)) → first ≢ framed.Whole body rest) → IsFramed left first
    → IsFramed left second → IsStop second s → ending.server ≡ server → ending.left ≡ length left → StopsAt server left out out ending s
stops_at server left out ending first (framed.Whole b r) s other one two is same count = absurd (no_frame left first other one b.now r.now two.1 two.0)
stops_at server left out ending first framed.Short s other one two is same count = subst (StopsAt server left out out ending) (sym is) (two, refl, same, count)
stops_at server left out ending first framed.Bad s other one two is same count = subst (StopsAt server left out out ending) (sym is) (two, refl, same, count)

pub none_of : (ends : Option ℕ) → ((status : ℕ) → ends ≢ Some status) → ends ≡ None
none_of None other = refl
none_of (Some status) other = absurd (other status refl)

-- a frame is not empty
frame_counts : (body rest : List ℕ) → length rest < length (frame body ++ rest)
unfolding head
frame_counts body rest = omega (arith, length-append (frame body) rest)

pub shorter : (left body rest : List ℕ) → left ≡ frame body ++ rest → length rest < length left
shorter left body rest is = subst (λ (l : List ℕ). length rest < length l) (sym is) (frame_counts body rest)

-- ---- what is kept of the bytes

drop_front : (front left : List ℕ) → drop (length front) (front ++ left) ≡ left
drop_front [] left = refl
drop_front (b ∷ bs) left = drop_front bs left

behind : (came front more : List ℕ) (count : ℕ) → came ≡ front ++ more → count ≡ length more → drop (length came - count) came ≡ more
behind came front more count is counted =
    let at : length (front ++ more) - length more ≡ length front = omega (arith, length-append front more) in
    ap (λ (l : List ℕ). drop (length l - count) l) is ∙ ap (λ (k : ℕ). drop (length (front ++ more) - k) (front ++ more)) counted ∙ ap (λ (k : ℕ). drop k (front ++ more)) at ∙ drop_front front more

record Keeps (came : List ℕ) (count : ℕ) : Type 0 where
  pub front : List ℕ
  pub more : List ℕ
  pub is : came ≡ front ++ more
  pub counted : count ≡ length more

keeps_at : (server : Server) (came front rest before now : List ℕ) (ending : Ending) (s : Stop) → came ≡ front ++ rest → StopsAt server rest before now ending s → Keeps came ending.left
keeps_at server came front rest before now ending stop.Waits is stops = record { front = front; more = rest; is = is; counted = stops.3 }
keeps_at server came front rest before now ending stop.Bad is stops = record { front = front; more = rest; is = is; counted = stops.3 }
keeps_at server came front rest before now ending (stop.Ends status) is stops = record {
  front = front ++ frame stops.0;
  more = stops.1;
  is = is ∙ ap (λ (l : List ℕ). front ++ l) stops.2 ∙ sym (append_assoc front (frame stops.0) stops.1);
  counted = stops.4;
}

-- what was answered, and then what was due
pub round : (server : Server) (came out : List ℕ) (ending : Ending) (made : Round) → Answers server came [] out ending → SaysDue ending.server out made.out made.server → made.stop ≡ ending.stop
    → made.came ≡ drop (length came - ending.left) came → IsRound server came made
round server came out ending made answers due stop_is kept =
    let keeps = keeps_at answers.reached came (flat_map frame answers.bodies) answers.rest answers.between out ending ending.stop answers.came_is answers.stops in
    let same : made.came ≡ keeps.more = kept ∙ behind came keeps.front keeps.more ending.left keeps.is keeps.counted in
    record {
      ending = ending;
      out = out;
      answers = answers;
      due = due;
      stop_is = stop_is;
      front = keeps.front;
      came_is = keeps.is ∙ ap (λ (l : List ℕ). keeps.front ++ l) (sym same);
      left = ap (λ (l : List ℕ). length l) same ∙ sym keeps.counted;
    }
