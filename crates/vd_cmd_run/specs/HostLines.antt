-- What the command lines of the hosts are read as.
use Rattle.std.specs.Prelude.{◌≡◌, ◌≢◌, ◌≤◌, ◌<◌, ◌+◌, ◌-◌, nat_lt, if◌then◌else◌, ℕ, List, ◌++◌, length, slice_get, Some, None, codes}
use Rattle.std.specs.Fmt.{decimal}
use Rattle.vd_base.specs.Limits.{most_hosts}
use Rattle.vd_cmd.specs.Commands.{form_of, most_port}
use Rattle.vd_cmd.specs.declared.command.Command.TheVariants.{Host}
use Rattle.vd_cmd.specs.declared.command.HostWords.{HostWords}
use Rattle.vd_cmd_plan.specs.Numbered.{file_name}
use Rattle.vd_cmd_run.specs.CommandLines.{command_lines}

-- where a host stands among the others of a host
abbrev pub place_among : (me peer : ℕ) → ℕ
place_among me peer = if nat_lt peer me then peer else peer - 1

-- The line plays the host with this number: from its own program and deal, on the inputs of all, and with an address for each other
-- host, which is that of the pair.
pub record PlaysHost (prefix inputs : List ℕ) (hosts : ℕ) (meets : ℕ → ℕ → List ℕ) (h : ℕ) (line : List (List ℕ)) : Type 0 where
  pub words : HostWords
  pub read : form_of line ≡ Some (Host words)
  pub program : words.program ≡ file_name prefix h (codes ".host")
  pub inputs_are : words.inputs ≡ inputs
  pub deal : words.deal ≡ file_name prefix h (codes ".deal")
  pub unlimited : words.limit ≡ None
  pub peers : length words.addresses + 1 ≡ hosts
  pub there : (peer : ℕ) → peer < hosts → h ≢ peer → slice_get words.addresses (place_among h peer) ≡ Some (meets h peer)

-- a port of this machine
abbrev pub IsOnThisMachine : (port : ℕ) → List ℕ → Type 0
IsOnThisMachine port address = (own : ℕ) × (port ≤ own) × (own < 65536) × (address ≡ codes "127.0.0.1:" ++ decimal own)

-- The lines play all hosts, in order. Both ends of a pair have one address, those of two pairs are two, and no two hosts have one file.
pub record AreLinesOfHosts (prefix inputs : List ℕ) (port hosts : ℕ) (lines : List (List (List ℕ))) : Type 0 where
  pub all : length lines ≡ hosts
  pub meets : ℕ → ℕ → List ℕ
  pub local : (a b : ℕ) → a < hosts → b < hosts → IsOnThisMachine port (meets a b)
  pub one : (a b : ℕ) → meets a b ≡ meets b a
  pub two : (a b c d : ℕ) → a < b → b < hosts → c < d → d < hosts → meets a b ≡ meets c d → (a ≡ c) × (b ≡ d)
  pub plays : (h : ℕ) (line : List (List ℕ)) → slice_get lines h ≡ Some line → PlaysHost prefix inputs hosts meets h line
  pub own : (ending : List ℕ) (j k : ℕ) → j < hosts → k < hosts → file_name prefix j ending ≡ file_name prefix k ending → j ≡ k

abbrev pub EachHostHasItsLine : Type 0
EachHostHasItsLine = (prefix inputs : List ℕ) (port hosts : ℕ) → port ≤ most_port → hosts ≤ most_hosts
    → AreLinesOfHosts prefix inputs port hosts (command_lines prefix inputs port hosts)
