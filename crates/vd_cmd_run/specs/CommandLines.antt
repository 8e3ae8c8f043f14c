-- The command lines of the hosts of a program as children of one machine.
use Rattle.std.specs.Prelude.{ℕ, zero, suc, ◌+◌, ◌*◌, min, max, nat_eq, if◌then◌else◌, List, [], ◌∷◌, ◌++◌, map, codes}
use Rattle.std.specs.List.{range_with_len}
use Rattle.std.specs.Fmt.{decimal}
use Rattle.vd_cmd_plan.specs.Numbered.{file_name}

-- two hosts meet on this machine, at the port that is theirs behind the first
abbrev pub address : (port first second : ℕ) → List ℕ
address port first second = codes "127.0.0.1:" ++ decimal (port + (4 * first + second))

-- where a host meets another: the earlier of the two listens there
abbrev pub meeting : (port me peer : ℕ) → List (List ℕ)
meeting port me peer = if nat_eq peer me then [] else address port (min me peer) (max me peer) ∷ []

-- where a host meets each of the first hosts, in their order
abbrev pub meetings : (port me : ℕ) → (hosts : ℕ) → List (List ℕ)
meetings port me zero = []
meetings port me (suc hosts) = meetings port me hosts ++ meeting port me hosts

-- the files of a host on its command line: its program, the inputs and its deal
abbrev pub file_words : (prefix inputs : List ℕ) → (me : ℕ) → List (List ℕ)
file_words prefix inputs me = codes "host" ∷ file_name prefix me (codes ".host") ∷ inputs ∷ file_name prefix me (codes ".deal") ∷ []

-- the words by which a program plays a host
abbrev pub host_words : (prefix inputs : List ℕ) → (port hosts me : ℕ) → List (List ℕ)
host_words prefix inputs port hosts me = file_words prefix inputs me ++ meetings port me hosts

-- those of all hosts, in order
abbrev pub command_lines : (prefix inputs : List ℕ) → (port hosts : ℕ) → List (List (List ℕ))
command_lines prefix inputs port hosts = map (host_words prefix inputs port hosts) (range_with_len 0 hosts)
