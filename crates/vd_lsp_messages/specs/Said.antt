-- What the server says, as JSON. The members of an object stand in the order of their keys.
use Rattle.std.specs.Prelude.{◌++◌, ℕ, ℤ, negsuc, true, List, Option, Some, None, map, codes}
use Rattle.serde_json.specs.Data.{Data, null, boolean, number, string, array, object, Items, member, no_members}
use Rattle.serde_json.specs.Find.{of_integer}
use Rattle.serde_json.specs.View.{items_of}
use Rattle.vd_lsp_messages.specs.Answers.{answer_data, count, one, range_data, ranged}
use Rattle.vd_lsp_messages.specs.declared.kinds.Code.{Code}
use Rattle.vd_lsp_messages.specs.declared.kinds.Code.TheVariants as code
use Rattle.vd_lsp_messages.specs.declared.kinds.Fault.{Fault}
use Rattle.vd_lsp_messages.specs.declared.kinds.Id.{Id}
use Rattle.vd_lsp_messages.specs.declared.kinds.Id.TheVariants as id
use Rattle.vd_lsp_messages.specs.declared.kinds.Outgoing.{Outgoing}
use Rattle.vd_lsp_messages.specs.declared.kinds.Outgoing.TheVariants as outgoing
use Rattle.vd_lsp_messages.specs.declared.kinds.Published.{Published}
use Rattle.vd_lsp_messages.specs.declared.kinds.Range.{Range}

-- the version of the base protocol, which stands in each message
abbrev pub version_two : Data
version_two = string (codes "2.0")

abbrev pub id_data : Id → Data
id_data id.Null = null
id_data (id.Number n) = number (of_integer n)
id_data (id.Text words) = string words

-- ---- answers to requests

abbrev pub yes : Data
yes = boolean true

abbrev pub capabilities : Data
capabilities =
    object (member (codes "completionProvider") (object no_members)
    (member (codes "definitionProvider") yes
    (member (codes "documentSymbolProvider") yes
    (member (codes "hoverProvider") yes
    (member (codes "positionEncoding") (string (codes "utf-16"))
    (member (codes "referencesProvider") yes
    (member (codes "renameProvider") yes
    (member (codes "textDocumentSync") (count 1) no_members))))))))

abbrev pub server_info : Data
server_info = object (member (codes "name") (string (codes "viaduct")) no_members)

abbrev pub answered : Data → Data → Data
answered id result = object (member (codes "id") id (member (codes "jsonrpc") version_two (member (codes "result") result no_members)))

abbrev pub initialized : Data → Data
initialized id = answered id (object (member (codes "capabilities") capabilities (member (codes "serverInfo") server_info no_members)))

abbrev pub done : Data → Data
done id = answered id null

abbrev pub number_of : Code → ℤ
number_of code.Parse = negsuc 32699
number_of code.Invalid = negsuc 32599
number_of code.NoMethod = negsuc 32600
number_of code.Early = negsuc 32001
number_of code.Name = negsuc 32802

abbrev pub words_of : Code → List ℕ
words_of code.Parse = codes "the body is no JSON"
words_of code.Invalid = codes "the request cannot be made here"
words_of code.NoMethod = codes "there is no such method"
words_of code.Early = codes "the server was not initialized"
words_of code.Name = codes "the new name is no name, or stands in the text"

abbrev pub error_data : Code → Data
error_data code = object (member (codes "code") (number (of_integer (number_of code))) (member (codes "message") (string (words_of code)) no_members))

abbrev pub refused : Data → Code → Data
refused id code = object (member (codes "error") (error_data code) (member (codes "id") id (member (codes "jsonrpc") version_two no_members)))

-- ---- faults of a document

-- a fault is an error of the text, and its code is the number with which the command ends
abbrev pub fault_data : Fault → Data
fault_data fault =
    object (member (codes "code") (count fault.status)
    (member (codes "message") (string fault.sentence)
    (member (codes "range") (range_data fault.start fault.end)
    (member (codes "severity") (count 1)
    (member (codes "source") (string (codes "viaduct")) no_members)))))

-- what is not used is a hint, which an editor shows as grey
abbrev pub unused_data : Range → Data
unused_data range =
    object (member (codes "message") (string (codes "nothing uses this name"))
    (member (codes "range") (ranged range)
    (member (codes "severity") (count 4)
    (member (codes "source") (string (codes "viaduct"))
    (member (codes "tags") (one (count 1)) no_members)))))

abbrev pub diagnostics : List Fault → List Range → Items
diagnostics faults unused = items_of (map fault_data faults ++ map unused_data unused)

abbrev pub params : List ℕ → Option ℤ → Data → Data
params uri None faults = object (member (codes "diagnostics") faults (member (codes "uri") (string uri) no_members))
params uri (Some version) faults =
    object (member (codes "diagnostics") faults (member (codes "uri") (string uri) (member (codes "version") (number (of_integer version)) no_members)))

abbrev pub published : Published → Data
published shown =
    object (member (codes "jsonrpc") version_two
    (member (codes "method") (string (codes "textDocument/publishDiagnostics"))
    (member (codes "params") (params shown.uri shown.version (array (diagnostics shown.faults shown.unused))) no_members)))

abbrev pub data_of : Outgoing → Data
data_of (outgoing.Initialized name) = initialized (id_data name)
data_of (outgoing.Done name) = done (id_data name)
data_of (outgoing.Answered name answer) = answered (id_data name) (answer_data answer)
data_of (outgoing.Refused name code) = refused (id_data name) code
data_of (outgoing.Published shown) = published shown
