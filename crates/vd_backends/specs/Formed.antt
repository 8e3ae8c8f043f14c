-- The form of parts at a protocol: registers at its hosts, and at a commitment rows of eight that can be named.
use Rattle.std.specs.Prelude.{◌≡◌, nat_lt, Bool, ◌&&◌, if◌then◌else◌, List, []}
use Rattle.vd_base.specs.declared.ids.HostId.{HostId}
use Rattle.vd_base.specs.declared.protocols.Proto.{Proto}
use Rattle.vd_base.specs.declared.protocols.Proto.TheVariants.{Local, Rep, Commit, Add, Xor}
use Rattle.vd_base.specs.Holders.{holders}
use Rattle.vd_duet.specs.Calls.{Places, hosts_of}
use Rattle.vd_backend_laws.specs.Commits.{held_of, seen_of}

-- the eight registers from the nonce on, and those from the digest on, have numbers
abbrev pub is_named : Places → Bool
is_named x = nat_lt (held_of x).nonce.0 4000000000 && nat_lt (seen_of x).digest.0 4000000000

-- the hosts at which parts stand as they do at a protocol
abbrev pub hosts_at : Proto → Places → List HostId
hosts_at (Local h) x = hosts_of x
hosts_at (Rep set) x = hosts_of x
hosts_at (Commit p v) x = if is_named x then holders (Commit p v) else []
hosts_at (Add a b) x = hosts_of x
hosts_at (Xor a b) x = hosts_of x

-- parts have the form that they have there
abbrev pub AreFormed : Proto → Places → Type 0
AreFormed p x = hosts_at p x ≡ holders p
