-- What goes out over a stream, by the frames that came.
use Rattle.std.specs.Prelude.{◌≡◌, ℕ, List, [], ◌∷◌, ◌++◌, length, Option, Some, None, Result, IfOk, IsTrue}
use Rattle.std.specs.List.{concat, flat_map}
use Rattle.serde_json.specs.Read.{read}
use Rattle.vd_lsp_messages.specs.Asked.{IsMessage}
use Rattle.vd_lsp_messages.specs.Said.{data_of}
use Rattle.vd_lsp_messages.specs.declared.kinds.Incoming.{Incoming}
use Rattle.vd_lsp_messages.specs.declared.kinds.Outgoing.{Outgoing}
use Rattle.vd_lsp_wire.specs.Frames.{IsFramed, frame}
use Rattle.vd_lsp_wire.specs.declared.framing.Framed.{Framed}
use Rattle.vd_lsp_wire.specs.declared.framing.Framed.TheVariants as framed
use Rattle.vd_outside.specs.Link.{LinkView}
use Rattle.vd_lsp.specs.States.{IsFlushed, IsStep, due_of, fresh, settled}
use Rattle.vd_lsp.specs.declared.responding.Step.{Step}
use Rattle.vd_lsp.specs.declared.responding.Turn.{Turn}
use Rattle.vd_lsp.specs.declared.responding.Turn.TheVariants as turn
use Rattle.vd_lsp.specs.declared.serving.Ending.{Ending}
use Rattle.vd_lsp.specs.declared.serving.Round.{Round}
use Rattle.vd_lsp.specs.declared.serving.ServeFault.{ServeFault}
use Rattle.vd_lsp.specs.declared.serving.Stop.{Stop}
use Rattle.vd_lsp.specs.declared.serving.Stop.TheVariants as stop
use Rattle.vd_lsp.specs.declared.states.Server.{Server}

-- the frame of a text that reads as what is said was added
abbrev pub Says : Outgoing → List ℕ → List ℕ → Type 0
Says said before now = (text : List ℕ) × (read text ≡ Some (data_of said)) × (now ≡ before ++ frame text)

abbrev pub SaysIf : Option Outgoing → List ℕ → List ℕ → Type 0
SaysIf None before now = now ≡ before
SaysIf (Some said) before now = Says said before now

abbrev pub SaysTurn : Turn → List ℕ → List ℕ → Type 0
SaysTurn turn.Silent before now = now ≡ before
SaysTurn (turn.Says said) before now = Says said before now
SaysTurn (turn.Ends status) before now = now ≡ before

abbrev pub ends_of : Turn → Option ℕ
ends_of turn.Silent = None
ends_of (turn.Says said) = None
ends_of (turn.Ends status) = Some status

-- what is published first, and then the answer
abbrev pub AddsStep : Step → List ℕ → List ℕ → Type 0
AddsStep step before now = (between : List ℕ) × SaysIf step.before before between × SaysTurn step.turn between now

-- the message with this body was answered
pub record AnswersBody (server : Server) (body before now : List ℕ) (after : Server) (ends : Option ℕ) : Type 0 where
  pub message : Incoming
  pub is : IsMessage body message
  pub step : Step
  pub steps : IsStep server message step
  pub adds : AddsStep step before now
  pub server_is : after ≡ step.server
  pub ends_is : ends ≡ ends_of step.turn

-- ---- a stream of messages

-- the messages with these bodies were answered, one after the other, and none ended the server
abbrev pub AnswersAll : Server → List (List ℕ) → List ℕ → List ℕ → Server → Type 0
AnswersAll server [] before now after = (now ≡ before) × (after ≡ server)
AnswersAll server (body ∷ bodies) before now after =
    (between : List ℕ) × (next : Server) × AnswersBody server body before between next None × AnswersAll next bodies between now after

abbrev pub IsStop : Framed → Stop → Type 0
IsStop framed.Bad found = found ≡ stop.Bad
IsStop other found = found ≡ stop.Waits

-- Behind the frames of these bodies, all of which were answered, no more are: the stream begins with no whole frame there, or with
-- none at all, or the next message ends the server.
abbrev pub StopsAt : Server → List ℕ → List ℕ → List ℕ → Ending → Stop → Type 0
StopsAt server rest before now ending stop.Waits =
    IsFramed rest framed.Short × (now ≡ before) × (ending.server ≡ server) × (ending.left ≡ length rest)
StopsAt server rest before now ending stop.Bad =
    IsFramed rest framed.Bad × (now ≡ before) × (ending.server ≡ server) × (ending.left ≡ length rest)
StopsAt server rest before now ending (stop.Ends status) =
    (body : List ℕ) × (more : List ℕ) × (rest ≡ frame body ++ more) × AnswersBody server body before now ending.server (Some status)
    × (ending.left ≡ length more)

pub record Answers (server : Server) (came before now : List ℕ) (ending : Ending) : Type 0 where
  pub bodies : List (List ℕ)
  pub rest : List ℕ
  pub came_is : came ≡ flat_map frame bodies ++ rest
  pub between : List ℕ
  pub reached : Server
  pub answers : AnswersAll server bodies before between reached
  pub stops : StopsAt reached rest between now ending ending.stop

-- the due faults were said, and are due no more
abbrev pub SaysDue : Server → List ℕ → List ℕ → Server → Type 0
SaysDue server before now after = (said : Option Outgoing) × IsFlushed (due_of server) said × SaysIf said before now × (after ≡ settled server)

-- ---- a link

-- All that came was answered, as far as frames of it are whole; then the faults that were due were said. The bytes behind that are kept.
pub record IsRound (server : Server) (came : List ℕ) (round : Round) : Type 0 where
  pub ending : Ending
  pub out : List ℕ
  pub answers : Answers server came [] out ending
  pub due : SaysDue ending.server out round.out round.server
  pub stop_is : round.stop ≡ ending.stop
  pub front : List ℕ
  pub came_is : came ≡ front ++ round.came
  pub left : length round.came ≡ ending.left

-- a piece came
pub record Came (piece : List ℕ) (before now : LinkView) : Type 0 where
  pub coming : before.coming ≡ piece ++ now.coming
  pub sent : now.sent ≡ before.sent

-- what was said to a piece went out
pub record SendsRound (server : Server) (came piece : List ℕ) (before now : LinkView) (round : Round) : Type 0 where
  pub round_is : IsRound server (came ++ piece) round
  pub coming : now.coming ≡ before.coming
  pub sent : now.sent ≡ before.sent ++ round.out

-- a server with the bytes that it keeps, which stand before the next ones that come
pub record Waiting : Type 0 where
  pub server : Server
  pub came : List ℕ

-- the bytes came in these pieces, and for each of them this went out, behind which the server waits
abbrev pub Serves : Waiting → List (List ℕ) → List ℕ → Waiting → Type 0
Serves before [] sent now = (sent ≡ []) × (now ≡ before)
Serves before (piece ∷ pieces) sent now =
    (round : Round) × (more : List ℕ) × IsRound before.server (before.came ++ piece) round × (round.stop ≡ stop.Waits) × (sent ≡ round.out ++ more)
    × Serves (record { server = round.server; came = round.came }) pieces more now

-- how it ended: the link did, behind which the server ends with 1; or a last piece had the message that ends it
abbrev pub IsLastRound : Waiting → (last : Option (List ℕ)) → (sent : List ℕ) → (status : ℕ) → Type 0
IsLastRound waiting None sent status = (sent ≡ []) × (status ≡ 1)
IsLastRound waiting (Some piece) sent status =
    (round : Round) × IsRound waiting.server (waiting.came ++ piece) round × (round.stop ≡ stop.Ends status) × (sent ≡ round.out)

abbrev pub last_piece : Option (List ℕ) → List ℕ
last_piece None = []
last_piece (Some piece) = piece

-- What went out over a link is what was said, in order, to what came over it, in whatever pieces that came.
pub record ServesLink (before now : LinkView) (status : ℕ) : Type 0 where
  pub pieces : List (List ℕ)
  pub last : Option (List ℕ)
  pub came : before.coming ≡ concat pieces ++ (last_piece last ++ now.coming)
  pub reached : Waiting
  pub sent : List ℕ
  pub serves : Serves (record { server = fresh; came = [] }) pieces sent reached
  pub end : List ℕ
  pub ends : IsLastRound reached last end status
  pub sent_is : now.sent ≡ before.sent ++ (sent ++ end)

abbrev pub IsServed : LinkView → LinkView → Result ℕ ServeFault → Type 0
IsServed before now result = IsTrue now.told → IfOk result (ServesLink before now)
