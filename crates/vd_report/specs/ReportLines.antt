-- The lines of the report on all hosts, as bytes.
use Rattle.std.specs.Prelude.{ℕ, zero, suc, nat_eq, if◌then◌else◌, List, [], ◌∷◌, ◌++◌, length, slice_index_or, codes}
use Rattle.vd_base.specs.declared.host_state.HostState.{HostState}
use Rattle.vd_base.specs.declared.host_state.HostState.TheVariants.{Ended, Ready, Waiting, ShortInput, ShortDeal}
use Rattle.vd_report.specs.declared.reports.HostLine.{HostLine}
use Rattle.vd_report.specs.Lines.{words_line}

abbrev pub state_text : (hosts : List (List ℕ)) → HostState → List ℕ
state_text hosts Ended = codes "ended"
state_text hosts Ready = codes "ready"
state_text hosts (Waiting peer) = codes "waiting " ++ slice_index_or hosts peer.0 []
state_text hosts ShortInput = codes "short input"
state_text hosts ShortDeal = codes "short deal"

-- a host, how it stands, and the words that it printed
abbrev pub host_line : (hosts : List (List ℕ)) → List ℕ → HostLine → List ℕ
host_line hosts host line = words_line (host ++ codes " " ++ state_text hosts line.state) line.printed

-- a line for each host; the first list has all names
abbrev pub host_lines : (hosts : List (List ℕ)) → List (List ℕ) → List HostLine → List ℕ
host_lines all [] lines = []
host_lines all (host ∷ hosts) [] = []
host_lines all (host ∷ hosts) (line ∷ lines) = host_line all host line ++ host_lines all hosts lines

-- the texts of the numbers below n, in order
abbrev pub texts_below : (ℕ → List ℕ) → ℕ → List ℕ
texts_below text zero = []
texts_below text (suc n) = texts_below text n ++ text n

-- what one host sent to another; there is no line from a host to itself
abbrev pub link_line : (hosts : List (List ℕ)) → (talk : List (List (List ℕ))) → (from to : ℕ) → List ℕ
link_line hosts talk from to =
    if nat_eq from to then []
    else words_line (slice_index_or hosts from [] ++ codes ">" ++ slice_index_or hosts to []) (slice_index_or (slice_index_or talk from []) to [])

abbrev pub links_of : (hosts : List (List ℕ)) → (talk : List (List (List ℕ))) → (from : ℕ) → List ℕ
links_of hosts talk from = texts_below (link_line hosts talk from) (length hosts)

-- a line for each ordered pair of hosts, by sender and then by receiver
abbrev pub link_lines : (hosts : List (List ℕ)) → (talk : List (List (List ℕ))) → List ℕ
link_lines hosts talk = texts_below (links_of hosts talk) (length hosts)
