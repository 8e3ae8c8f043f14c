-- The hosts of a protocol, and the protocols of slots.
use Rattle.std.specs.Prelude.{ℕ, ◌<◌, ◌==◌, nat_eq, Bool, false, ◌||◌, List, [], ◌∷◌, slice_index_or}
use Rattle.std.specs.List.{AllByRecursion, list_any}
use Rattle.vd_base.specs.declared.ids.HostId.{HostId}
use Rattle.vd_base.specs.declared.protocols.Proto.{Proto}
use Rattle.vd_base.specs.declared.protocols.Proto.TheVariants.{Local, Rep, Commit, Add, Xor}
use Rattle.vd_base.specs.HostSets.{host, has_host, members, same_host}
use Rattle.vd_base.specs.Moves.{same_hosts}

-- the hosts of a protocol, in the order of their parts
abbrev pub holders : Proto → List HostId
holders (Local h) = h ∷ []
holders (Rep set) = members 8 set
holders (Commit p v) = p ∷ v ∷ []
holders (Add a b) = a ∷ b ∷ []
holders (Xor a b) = a ∷ b ∷ []

-- the host is one of these
abbrev pub is_among : List HostId → ℕ → Bool
is_among hosts h = list_any (λ k. nat_eq h k.0) hosts

-- the hosts of a protocol are among the first n
abbrev pub HasHosts : ℕ → Proto → Type 0
HasHosts n p = AllByRecursion (λ h. h.0 < n) (holders p)

-- a host is at a protocol; a host below 8 is so exactly where it is among the `holders`
abbrev pub is_holder : Proto → HostId → Bool
is_holder (Local k) h = same_host k h
is_holder (Rep set) h = has_host set h
is_holder (Commit p v) h = same_host p h || same_host v h
is_holder (Add a b) h = same_host a h || same_host b h
is_holder (Xor a b) h = same_host a h || same_host b h

-- the host has in clear what stands there: alone, as a copy, or as the one that is bound to it
abbrev pub has_clear : HostId → Proto → Bool
has_clear h (Local k) = same_host k h
has_clear h (Rep set) = has_host set h
has_clear h (Commit p v) = same_host p h
has_clear h (Add a b) = false
has_clear h (Xor a b) = false

-- it is the protocol of the host alone
abbrev pub is_alone : HostId → Proto → Bool
is_alone h (Local k) = same_host k h
is_alone h other = false

abbrev pub same_protocol : Proto → Proto → Bool
same_protocol (Local h) (Local k) = same_host h k
same_protocol (Rep set) (Rep other) = set.bits == other.bits
same_protocol (Commit p v) (Commit q w) = same_hosts p v q w
same_protocol (Add a b) (Add c d) = same_hosts a b c d
same_protocol (Xor a b) (Xor c d) = same_hosts a b c d
same_protocol p q = false

-- the protocol at a place of a list; of a slot, where the list has one for each
abbrev pub proto_in : List Proto → ℕ → Proto
proto_in protocols x = slice_index_or protocols x (Local (host 0))
