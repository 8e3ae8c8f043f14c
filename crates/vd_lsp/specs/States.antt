-- What a server keeps, and what it answers to a message.
use Rattle.std.specs.Prelude.{◌≡◌, ℕ, ◌-◌, Bool, true, false, not, List, [], ◌∷◌, ◌++◌, length, Option, Some, None, slice_get, if◌then◌else◌}
use Rattle.std.specs.List.{filter, find}
use Rattle.std.specs.Str.{bytes_eq}
use Rattle.vd_lsp_messages.specs.declared.kinds.Answer.{Answer}
use Rattle.vd_lsp_messages.specs.declared.kinds.Answer.TheVariants as answer
use Rattle.vd_lsp_messages.specs.declared.kinds.Code.{Code}
use Rattle.vd_lsp_messages.specs.declared.kinds.Code.TheVariants as code
use Rattle.vd_lsp_messages.specs.declared.kinds.Document.{Document}
use Rattle.vd_lsp_messages.specs.declared.kinds.Fault.{Fault}
use Rattle.vd_lsp_messages.specs.declared.kinds.Id.{Id}
use Rattle.vd_lsp_messages.specs.declared.kinds.Id.TheVariants as id
use Rattle.vd_lsp_messages.specs.declared.kinds.Incoming.{Incoming}
use Rattle.vd_lsp_messages.specs.declared.kinds.Incoming.TheVariants as incoming
use Rattle.vd_lsp_messages.specs.declared.kinds.Outgoing.{Outgoing}
use Rattle.vd_lsp_messages.specs.declared.kinds.Outgoing.TheVariants as outgoing
use Rattle.vd_lsp_messages.specs.declared.kinds.Published.{Published}
use Rattle.vd_lsp_messages.specs.declared.kinds.Question.{Question}
use Rattle.vd_lsp_messages.specs.declared.kinds.Range.{Range}
use Rattle.vd_lsp_names.specs.Asking.{unused}
use Rattle.vd_lsp_names.specs.Texts.{AreNamesOf}
use Rattle.vd_lsp_names.specs.declared.kinds.Use.{Use}
use Rattle.vd_lsp.specs.Answering.{IsAnswer}
use Rattle.vd_lsp.specs.Faults.{AreFaultsOf}
use Rattle.vd_lsp.specs.Names.{ranges_of}
use Rattle.vd_lsp.specs.declared.states.Phase.{Phase}
use Rattle.vd_lsp.specs.declared.states.Phase.TheVariants.{Fresh, Running, Ended}
use Rattle.vd_lsp.specs.declared.states.Server.{Server}
use Rattle.vd_lsp.specs.declared.responding.Step.{Step}
use Rattle.vd_lsp.specs.declared.responding.Turn.{Turn}
use Rattle.vd_lsp.specs.declared.responding.Turn.TheVariants as turn

abbrev pub fresh : Server
fresh = record { phase = Fresh; documents = []; due = false }

-- ---- documents: each name stands once, and the last changed one is the last

abbrev pub is_other : List ℕ → Document → Bool
is_other uri document = not (bytes_eq document.uri uri)

abbrev pub without : List ℕ → List Document → List Document
without uri documents = filter (is_other uri) documents

abbrev pub last_of : List Document → Option Document
last_of documents = slice_get documents (length documents - 1)

abbrev pub names : List ℕ → Option Document → Bool
names uri None = false
names uri (Some document) = bytes_eq document.uri uri

-- the document whose faults are still to be published
abbrev pub due_of : Server → Option Document
due_of server = if server.due then last_of server.documents else None

-- nothing is due any more
abbrev pub settled : Server → Server
settled server = record server { due = false }

-- ---- what becomes of the server, of which nothing is due

abbrev pub opened_in : Phase → Document → Server → Server
opened_in Running document server = record server { documents = without document.uri server.documents ++ document ∷ []; due = true }
opened_in phase document server = server

abbrev pub closed_in : Phase → List ℕ → Server → Server
closed_in Running uri server = record server { documents = without uri server.documents }
closed_in phase uri server = server

abbrev pub begun : Phase → Phase
begun Fresh = Running
begun phase = phase

abbrev pub ended : Phase → Phase
ended Running = Ended
ended phase = phase

abbrev pub after : Server → Incoming → Server
after server (incoming.Initialize name) = record server { phase = begun server.phase }
after server (incoming.Shutdown name) = record server { phase = ended server.phase }
after server (incoming.Opened document) = opened_in server.phase document server
after server (incoming.Changed document) = opened_in server.phase document server
after server (incoming.Closed uri) = closed_in server.phase uri server
after server message = server

-- ---- what is answered

-- why a request is refused that asks for something else
abbrev pub refusal : Phase → Code
refusal Fresh = code.Early
refusal Running = code.NoMethod
refusal Ended = code.Invalid

abbrev pub turn_to : Outgoing → Turn
turn_to said = turn.Says said

abbrev pub refused : Id → Code → Turn
refused name why = turn.Says (outgoing.Refused name why)

abbrev pub to_initialize : Phase → Id → Outgoing
to_initialize Fresh name = outgoing.Initialized name
to_initialize phase name = outgoing.Refused name code.Invalid

abbrev pub to_shutdown : Phase → Id → Outgoing
to_shutdown Running name = outgoing.Done name
to_shutdown phase name = outgoing.Refused name (refusal phase)

-- a document that is closed has no faults any more
abbrev pub to_closed : Phase → List ℕ → Turn
to_closed Running uri = turn.Says (outgoing.Published (record { uri = uri; version = None; faults = []; unused = [] }))
to_closed phase uri = turn.Silent

-- with 0 behind `shutdown`, and else with 1
abbrev pub exit_status : Phase → ℕ
exit_status Ended = 0
exit_status phase = 1

-- the document with this name
abbrev pub document_at : List ℕ → List Document → Option Document
document_at uri documents = find (λ document. bytes_eq document.uri uri) documents

abbrev pub reply : Id → Option Answer → Outgoing
reply name None = outgoing.Refused name code.Name
reply name (Some given) = outgoing.Answered name given

-- a question on a document that is not open is answered with nothing
abbrev pub IsReplied : Id → Option Document → Question → Turn → Type 0
IsReplied name None question taken = taken ≡ turn_to (outgoing.Answered name answer.Nothing)
IsReplied name (Some document) question taken = (given : Option Answer) × IsAnswer document question given × (taken ≡ turn_to (reply name given))

abbrev pub IsAsked : Phase → Id → Option Document → Question → Turn → Type 0
IsAsked Running name document question taken = IsReplied name document question taken
IsAsked phase name document question taken = taken ≡ refused name (refusal phase)

abbrev pub IsTurn : Server → Incoming → Turn → Type 0
IsTurn server incoming.Malformed taken = taken ≡ refused id.Null code.Parse
IsTurn server (incoming.Invalid name) taken = taken ≡ refused name code.Invalid
IsTurn server (incoming.Initialize name) taken = taken ≡ turn_to (to_initialize server.phase name)
IsTurn server (incoming.Shutdown name) taken = taken ≡ turn_to (to_shutdown server.phase name)
IsTurn server (incoming.Asked name uri question) taken = IsAsked server.phase name (document_at uri server.documents) question taken
IsTurn server (incoming.Unknown name) taken = taken ≡ refused name (refusal server.phase)
IsTurn server (incoming.Opened document) taken = taken ≡ turn.Silent
IsTurn server (incoming.Changed document) taken = taken ≡ turn.Silent
IsTurn server (incoming.Closed uri) taken = taken ≡ to_closed server.phase uri
IsTurn server incoming.Exit taken = taken ≡ turn.Ends (exit_status server.phase)
IsTurn server incoming.Passed taken = taken ≡ turn.Silent

-- whether a message gives the due document another text, so that the one that it had is not looked at
abbrev pub replaces : Incoming → Option Document → Bool
replaces (incoming.Opened document) due = names document.uri due
replaces (incoming.Changed document) due = names document.uri due
replaces (incoming.Closed uri) due = names uri due
replaces message due = false

-- ---- what is published

-- where a text without faults declares what it does not use
abbrev pub AreHintsOf : List ℕ → List Fault → List Range → Type 0
AreHintsOf text [] hints = (names : List Use) × AreNamesOf text names × (hints ≡ ranges_of text (unused names))
AreHintsOf text (fault ∷ faults) hints = hints ≡ []

-- the faults of a document are those of its text, at its version
pub record AreFaultsAt (document : Document) (published : Published) : Type 0 where
  pub uri : published.uri ≡ document.uri
  pub version : published.version ≡ Some document.version
  pub faults : AreFaultsOf document.uri document.text published.faults
  pub hints : AreHintsOf document.text published.faults published.unused

abbrev pub IsPublished : Document → Outgoing → Type 0
IsPublished document (outgoing.Published published) = AreFaultsAt document published
IsPublished document said = ⊥

abbrev pub IsFlushed : Option Document → Option Outgoing → Type 0
IsFlushed None published = published ≡ None
IsFlushed (Some document) None = ⊥
IsFlushed (Some document) (Some published) = IsPublished document published

-- the due document, unless a message gives it another text
abbrev pub due_before : Server → Incoming → Option Document
due_before server message = if replaces message (due_of server) then None else due_of server

-- What is said before a message is answered, what is answered, and what becomes of the server.
pub record IsStep (server : Server) (message : Incoming) (step : Step) : Type 0 where
  pub before : IsFlushed (due_before server message) step.before
  pub turn : IsTurn server message step.turn
  pub server_is : step.server ≡ after (settled server) message
