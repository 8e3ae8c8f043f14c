-- Hosts by name.
use Rattle.std.specs.Prelude.{ℕ, List, Option}
use Rattle.std.specs.List.{position}
use Rattle.std.specs.Str.{bytes_eq}

-- the number of the host with this name, the first of that name
abbrev pub host_of : List (List ℕ) → List ℕ → Option ℕ
host_of hosts name = position (λ host. bytes_eq host name) hosts
