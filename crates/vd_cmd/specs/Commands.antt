-- The forms of a command line.
use Rattle.std.specs.Prelude.{◌≡◌, ◌↔◌, ◌<◌, ◌≤◌, ℕ, ◌-◌, ◌^◌, Bool, true, false, IsTrue, ◌&&◌, List, [], ◌∷◌, Option, Some, None, is_some, Result, Err, IfOk, IfSome, if◌then◌else◌, codes, length, nat_eq, nat_lt}
use Rattle.std.specs.Str.{bytes_eq}
use Rattle.vd_base.specs.Lexical.{is_name}
use Rattle.vd_base.specs.Limits.{most_hosts, most_deal_items, most_search_budget}
use Rattle.vd_tape.specs.declared.deal_items.deal.Counts.{Counts}
use Rattle.vd_gen.specs.Sizes.{most_coordinates}
use Rattle.vd_cmd.specs.Groups.{group_of}
use Rattle.vd_cmd.specs.Numbers.{number_within}
use Rattle.vd_cmd.specs.declared.command.Command.{Command}
use Rattle.vd_cmd.specs.declared.command.Command.TheVariants.{OnFiles, KeyDeal, Early, Host, Check, Run}
use Rattle.vd_cmd.specs.declared.command.KeySource.{KeySource}
use Rattle.vd_cmd.specs.declared.command.NeedsKind.{NeedsKind}
use Rattle.vd_cmd.specs.declared.command.NeedsKind.TheVariants as needs_kind
use Rattle.vd_cmd.specs.declared.command.KeySource.TheVariants.{Drawn, InFile}
use Rattle.vd_cmd.specs.declared.command.FilesCommand.{FilesCommand}
use Rattle.vd_cmd.specs.declared.command.FilesCommand.TheVariants.{Clear, Labels, Choose, Draw, Reveals, Certify, Compile, Needs, Deal, Replay, Excuse, Depends, Influences, Column, Report, Gen, Trial}
use Rattle.vd_cmd.specs.declared.command.CommandFault.{CommandFault}
use Rattle.vd_cmd.specs.declared.command.CommandFault.TheVariants.{Usage}

abbrev pub number_of_items : List ℕ → Option ℕ
number_of_items = number_within 0 most_deal_items

-- how much is dealt, if these are numbers of hosts and of items
abbrev pub counts_of : Option ℕ → Option ℕ → Option ℕ → Option ℕ → Option ℕ → Option Counts
counts_of (Some hosts) (Some own) (Some muls) (Some ands) (Some pairs) = Some (record { hosts = hosts; own = own; muls = muls; ands = ands; pairs = pairs })
counts_of hosts own muls ands pairs = None

-- the same, of texts
abbrev pub counts_in : List ℕ → List ℕ → List ℕ → List ℕ → List ℕ → Option Counts
counts_in hosts own muls ands pairs = counts_of (number_within 1 most_hosts hosts) (number_of_items own) (number_of_items muls) (number_of_items ands) (number_of_items pairs)

abbrev pub deal_of : Option Counts → Option ℕ → List ℕ → Option Command
deal_of (Some counts) (Some key) prefix = Some (OnFiles (Deal counts key prefix))
deal_of counts key prefix = None

-- where a key of 32 bytes comes from: it is drawn, or a file has it
abbrev pub key_file : List ℕ → Option KeySource
key_file [] = None
key_file (first ∷ name) = if nat_eq first 0x40 then Some (InFile name) else None

abbrev pub key_source : List ℕ → Option KeySource
key_source word = if bytes_eq word (codes "draw") then Some Drawn else key_file word

abbrev pub key_deal_of : Option Counts → KeySource → List ℕ → Option Command
key_deal_of (Some counts) key prefix = Some (KeyDeal (record { counts = counts; key = key; prefix = prefix }))
key_deal_of None key prefix = None

-- by a number, or by a key of 32 bytes
abbrev pub deal_by : Option KeySource → Option Counts → (key prefix : List ℕ) → Option Command
deal_by None counts key prefix = deal_of counts (number_within 0 (2 ^ 64 - 1) key) prefix
deal_by (Some source) counts key prefix = key_deal_of counts source prefix

-- the command `deal` with the numbers that these texts are
abbrev pub deal_in : (hosts own muls ands pairs key prefix : List ℕ) → Option Command
deal_in hosts own muls ands pairs key prefix = deal_by (key_source key) (counts_in hosts own muls ands pairs) key prefix

abbrev pub gen_of : Option ℕ → Option Command
gen_of (Some coordinates) = Some (OnFiles (Gen coordinates))
gen_of None = None

abbrev pub trial_of : Option ℕ → Option Command
trial_of (Some coordinates) = Some (OnFiles (Trial coordinates))
trial_of None = None

abbrev pub choose_of : List ℕ → Option ℕ → Option Command
choose_of source (Some budget) = Some (OnFiles (Choose source budget))
choose_of source None = None

abbrev pub draw_of : List ℕ → Option ℕ → Option Command
draw_of source (Some budget) = Some (OnFiles (Draw source budget))
draw_of source None = None

abbrev pub reveals_of : (source : List ℕ) → (host : Option (List ℕ)) → Option ℕ → Option Command
reveals_of source host (Some budget) = Some (OnFiles (Reveals (record { source = source; host = host; budget = budget })))
reveals_of source host None = None

-- with one word more: a budget, where it is a number, or the name of a host
abbrev pub reveals_with : (source other : List ℕ) → Option Command
reveals_with source other =
    if is_some (number_within 0 (2 ^ 64 - 1) other) then reveals_of source None (number_within 1 most_search_budget other)
    else reveals_of source (Some other) (Some most_search_budget)

abbrev pub compile_of : (source prefix : List ℕ) → Option ℕ → Option Command
compile_of source prefix (Some budget) = Some (OnFiles (Compile source prefix budget))
compile_of source prefix None = None

abbrev pub early_of : (source prefix : List ℕ) → Option ℕ → Option Command
early_of source prefix (Some budget) = Some (Early (record { source = source; prefix = prefix; budget = budget }))
early_of source prefix None = None

-- with one word more: `early`, or a budget
abbrev pub compile_with : (source prefix other : List ℕ) → Option Command
compile_with source prefix other =
    if bytes_eq other (codes "early") then early_of source prefix (Some most_search_budget)
    else compile_of source prefix (number_within 1 most_search_budget other)

-- `needs`, which prints this of them, or `rounds`
abbrev pub needs_of : (file : List ℕ) → NeedsKind → Option ℕ → Option Command
needs_of file kind (Some budget) = Some (OnFiles (Needs (record { file = file; kind = kind; budget = budget })))
needs_of file kind None = None

-- with one word more: `each`, or a budget
abbrev pub needs_with : (file other : List ℕ) → Option Command
needs_with file other =
    if bytes_eq other (codes "each") then needs_of file needs_kind.Each (Some most_search_budget)
    else needs_of file needs_kind.Sizes (number_within 1 most_search_budget other)

abbrev pub replay_of : (source inputs prefix schedule : List ℕ) → (messages : Bool) → Option ℕ → Option Command
replay_of source inputs prefix schedule messages (Some budget) =
    Some (OnFiles (Replay (record { source = source; inputs = inputs; prefix = prefix; schedule = schedule; messages = messages; budget = budget })))
replay_of source inputs prefix schedule messages None = None

-- with one word more: `messages`, or a budget
abbrev pub replay_with : (source inputs prefix schedule other : List ℕ) → Option Command
replay_with source inputs prefix schedule other =
    if bytes_eq other (codes "messages") then replay_of source inputs prefix schedule true (Some most_search_budget)
    else replay_of source inputs prefix schedule false (number_within 1 most_search_budget other)

abbrev pub excuse_of : (source inputs second prefix host out : List ℕ) → Option ℕ → Option Command
excuse_of source inputs second prefix host out (Some budget) =
    Some (OnFiles (Excuse (record { source = source; inputs = inputs; second = second; prefix = prefix; host = host; out = out; budget = budget })))
excuse_of source inputs second prefix host out None = None

-- the command `excuse` with these words behind it: six, and a budget if there is one
abbrev pub excuse_form_of : List (List ℕ) → Option Command
excuse_form_of (source ∷ inputs ∷ second ∷ prefix ∷ host ∷ out ∷ []) = excuse_of source inputs second prefix host out (Some most_search_budget)
excuse_form_of (source ∷ inputs ∷ second ∷ prefix ∷ host ∷ out ∷ budget ∷ []) =
    excuse_of source inputs second prefix host out (number_within 1 most_search_budget budget)
excuse_form_of words = None

-- the hosts of several names, or of one
abbrev pub depends_of : (source : List ℕ) → (names : Option (List (List ℕ))) → Option Command
depends_of source (Some names) = Some (OnFiles (Depends source names))
depends_of source None = None

-- the first port of a run: those behind it serve all pairs of hosts
abbrev pub least_port : ℕ
least_port = 1024

abbrev pub most_port : ℕ
most_port = 65520

abbrev pub run_of : (source inputs prefix program : List ℕ) → Option ℕ → Option Command
run_of source inputs prefix program (Some port) = Some (Run (record { source = source; inputs = inputs; prefix = prefix; program = program; port = port }))
run_of source inputs prefix program None = None

-- the command that words are, of those with a fixed number of words
abbrev pub fixed_form_of : List (List ℕ) → Option Command
fixed_form_of (word ∷ argument ∷ []) =
    if bytes_eq word (codes "labels") then Some (OnFiles (Labels argument))
    else if bytes_eq word (codes "choose") then Some (OnFiles (Choose argument most_search_budget))
    else if bytes_eq word (codes "draw") then Some (OnFiles (Draw argument most_search_budget))
    else if bytes_eq word (codes "reveals") then reveals_of argument None (Some most_search_budget)
    else if bytes_eq word (codes "needs") then needs_of argument needs_kind.Sizes (Some most_search_budget)
    else if bytes_eq word (codes "rounds") then needs_of argument needs_kind.Rounds (Some most_search_budget)
    else if bytes_eq word (codes "gen") then gen_of (number_within 1 most_coordinates argument)
    else if bytes_eq word (codes "trial") then trial_of (number_within 1 most_coordinates argument)
    else None
fixed_form_of (word ∷ source ∷ other ∷ []) =
    if bytes_eq word (codes "clear") then Some (OnFiles (Clear source other))
    else if bytes_eq word (codes "certify") then Some (OnFiles (Certify source other))
    else if bytes_eq word (codes "depends") then depends_of source (group_of other)
    else if bytes_eq word (codes "influences") then Some (OnFiles (Influences source other))
    else if bytes_eq word (codes "choose") then choose_of source (number_within 1 most_search_budget other)
    else if bytes_eq word (codes "draw") then draw_of source (number_within 1 most_search_budget other)
    else if bytes_eq word (codes "reveals") then reveals_with source other
    else if bytes_eq word (codes "compile") then compile_of source other (Some most_search_budget)
    else if bytes_eq word (codes "needs") then needs_with source other
    else if bytes_eq word (codes "rounds") then needs_of source needs_kind.Rounds (number_within 1 most_search_budget other)
    else None
fixed_form_of (word ∷ first ∷ second ∷ third ∷ []) =
    if bytes_eq word (codes "compile") then compile_with first second third
    else if bytes_eq word (codes "check") then Some (Check (record { program = first; inputs = second; deal = third }))
    else if bytes_eq word (codes "needs") && bytes_eq second (codes "each") then needs_of first needs_kind.Each (number_within 1 most_search_budget third)
    else if bytes_eq word (codes "reveals") then reveals_of first (Some second) (number_within 1 most_search_budget third)
    else if bytes_eq word (codes "report") then Some (OnFiles (Report (record { source = first; host = second; file = third; json = false })))
    else None
fixed_form_of (word ∷ source ∷ inputs ∷ prefix ∷ schedule ∷ []) =
    if bytes_eq word (codes "replay") then replay_of source inputs prefix schedule false (Some most_search_budget)
    else if bytes_eq word (codes "compile") && bytes_eq prefix (codes "early") then early_of source inputs (number_within 1 most_search_budget schedule)
    else if bytes_eq word (codes "report") && bytes_eq schedule (codes "json")
    then Some (OnFiles (Report (record { source = source; host = inputs; file = prefix; json = true })))
    else None
fixed_form_of (word ∷ source ∷ inputs ∷ prefix ∷ schedule ∷ other ∷ []) =
    if bytes_eq word (codes "replay") then replay_with source inputs prefix schedule other
    else if bytes_eq word (codes "run") then run_of source inputs prefix schedule (number_within least_port most_port other)
    else None
fixed_form_of (word ∷ source ∷ inputs ∷ prefix ∷ schedule ∷ messages ∷ budget ∷ []) =
    if bytes_eq word (codes "replay") && bytes_eq messages (codes "messages")
    then replay_of source inputs prefix schedule true (number_within 1 most_search_budget budget)
    else None
fixed_form_of (word ∷ hosts ∷ own ∷ muls ∷ ands ∷ pairs ∷ key ∷ prefix ∷ []) =
    if bytes_eq word (codes "deal") then deal_in hosts own muls ands pairs key prefix else None
fixed_form_of words = None

-- the command `host` with this limit and these words behind it: three files, and any number of addresses
abbrev pub host_form_of : (limit : Option ℕ) → List (List ℕ) → Option Command
host_form_of limit (program ∷ inputs ∷ deal ∷ addresses) =
    Some (Host (record { program = program; inputs = inputs; deal = deal; addresses = addresses; limit = limit }))
host_form_of limit words = None

-- the longest limit of a wait for another host: a week in seconds
abbrev pub most_wait : ℕ
most_wait = 604800

abbrev pub limited_by : Option ℕ → List (List ℕ) → Option Command
limited_by None words = None
limited_by (Some seconds) words = host_form_of (Some seconds) words

-- the command `host-within` with these words behind it: its limit in seconds, and those of `host`
unfoldable pub limited_form_of : List (List ℕ) → Option Command
limited_form_of [] = None
limited_form_of (seconds ∷ words) = limited_by (number_within 1 most_wait seconds) words

-- the command `column` of a host, which is a name, a file, and one name of a column or more
abbrev pub column_with : (host file : List ℕ) → (columns : List (List ℕ)) → Option Command
column_with host file columns =
    if is_name host && nat_lt 0 (length columns) then Some (OnFiles (Column (record { host = host; file = file; columns = columns }))) else None

-- the command `column` with these words behind it
abbrev pub column_form_of : List (List ℕ) → Option Command
column_form_of (host ∷ file ∷ columns) = column_with host file columns
column_form_of words = None

-- the command of words that are not those of `excuse`, and run no host by themselves
abbrev pub listed_form_of : List (List ℕ) → Option Command
listed_form_of [] = None
listed_form_of (word ∷ words) = if bytes_eq word (codes "column") then column_form_of words else fixed_form_of (word ∷ words)

-- the command of words that run no host by themselves
abbrev pub unhosted_form_of : List (List ℕ) → Option Command
unhosted_form_of [] = None
unhosted_form_of (word ∷ words) = if bytes_eq word (codes "excuse") then excuse_form_of words else listed_form_of (word ∷ words)

-- the command of words that do not run a host without a limit
abbrev pub other_form_of : List (List ℕ) → Option Command
other_form_of [] = None
other_form_of (word ∷ words) = if bytes_eq word (codes "host-within") then limited_form_of words else unhosted_form_of (word ∷ words)

-- the command that the words are, if they have a form
abbrev pub form_of : List (List ℕ) → Option Command
form_of [] = None
form_of (word ∷ words) =
    if bytes_eq word (codes "host") then host_form_of None words
    else other_form_of (word ∷ words)

-- the limits of what is dealt
pub record AreWithin (counts : Counts) : Type 0 where
  pub some_host : 0 < counts.hosts
  pub hosts : counts.hosts ≤ most_hosts
  pub own : counts.own ≤ most_deal_items
  pub muls : counts.muls ≤ most_deal_items
  pub ands : counts.ands ≤ most_deal_items
  pub pairs : counts.pairs ≤ most_deal_items

abbrev pub IsSize : ℕ → Type 0
IsSize coordinates = (1 ≤ coordinates) × (coordinates ≤ most_coordinates)

abbrev pub IsPort : ℕ → Type 0
IsPort port = (least_port ≤ port) × (port ≤ most_port)

abbrev pub IsBudget : ℕ → Type 0
IsBudget budget = (1 ≤ budget) × (budget ≤ most_search_budget)

abbrev pub IsWait : ℕ → Type 0
IsWait seconds = (1 ≤ seconds) × (seconds ≤ most_wait)

-- what the numbers of a command keep
abbrev pub KeepsFilesLimits : FilesCommand → Type 0
KeepsFilesLimits (Deal counts key prefix) = AreWithin counts
KeepsFilesLimits (Column words) = IsTrue (is_name words.host)
KeepsFilesLimits (Gen coordinates) = IsSize coordinates
KeepsFilesLimits (Trial coordinates) = IsSize coordinates
KeepsFilesLimits (Choose source budget) = IsBudget budget
KeepsFilesLimits (Draw source budget) = IsBudget budget
KeepsFilesLimits (Reveals words) = IsBudget words.budget
KeepsFilesLimits (Compile source prefix budget) = IsBudget budget
KeepsFilesLimits (Needs words) = IsBudget words.budget
KeepsFilesLimits (Replay words) = IsBudget words.budget
KeepsFilesLimits (Excuse words) = IsBudget words.budget
KeepsFilesLimits command = Unit {0}

abbrev pub KeepsLimits : Command → Type 0
KeepsLimits (OnFiles command) = KeepsFilesLimits command
KeepsLimits (KeyDeal words) = AreWithin words.counts
KeepsLimits (Early words) = IsBudget words.budget
KeepsLimits (Host words) = IfSome words.limit IsWait
KeepsLimits (Check words) = Unit {0}
KeepsLimits (Run words) = IsPort words.port

-- The answer to words of this form: the command, and a fault of usage exactly where there is none.
pub record Reads (form : Option Command) (result : Result Command CommandFault) : Type 0 where
  pub command : IfOk result (λ command. form ≡ Some command)
  pub limits : IfOk result KeepsLimits
  pub usage : (result ≡ Err Usage) ↔ (form ≡ None)
