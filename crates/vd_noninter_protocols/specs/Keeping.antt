-- Which hosts must keep to their programs, so that a word is right where it stands; and which together can read it.
use Rattle.std.specs.Prelude.{◌≡◌, ℕ, ◌^◌, ◌<◌, Bool, ◌&&◌, ◌||◌, not, List, length}
use Rattle.std.specs.List.{list_any}
use Rattle.vd_base.specs.declared.ids.HostId.{HostId}
use Rattle.vd_base.specs.declared.protocols.Proto.{Proto}
use Rattle.vd_base.specs.declared.protocols.Proto.TheVariants.{Local, Rep, Commit, Add, Xor}
use Rattle.vd_base.specs.HostSets.{members}
use Rattle.vd_base.specs.Holders.{HasHosts}
use Rattle.vd_formula.specs.TruthTable.{at}
use Rattle.vd_formula.specs.declared.label.Label.{Label}
use Rattle.vd_protocol.specs.Authority.{AreOverSameNames, authority_of, label_of, names_of}

-- Of n hosts these keep to their programs, and the others may do anything. The word that stands at a protocol is right where the
-- host keeps; of copies where one holder keeps, since who is shown them compares all; of a commitment where the one that is bound
-- keeps, or the one that has the digest; of shares where both keep, since either can change the word unseen.
abbrev pub is_kept : (HostId → Bool) → ℕ → Proto → Bool
is_kept keeps n (Local h) = keeps h
is_kept keeps n (Rep set) = list_any keeps (members n set)
is_kept keeps n (Commit p v) = keeps p || keeps v
is_kept keeps n (Add a b) = keeps a && keeps b
is_kept keeps n (Xor a b) = keeps a && keeps b

-- These hosts look at what they have together. They see the word of a host that is one of them; of copies where one holder is; of a
-- commitment where the one that is bound is; of shares where both are.
abbrev pub is_seen : (HostId → Bool) → ℕ → Proto → Bool
is_seen looks n (Local h) = looks h
is_seen looks n (Rep set) = list_any looks (members n set)
is_seen looks n (Commit p v) = looks p
is_seen looks n (Add a b) = looks a && looks b
is_seen looks n (Xor a b) = looks a && looks b

-- The hosts that principals can act for, all the others keep to their programs.
abbrev pub keeps_from : List Label → ℕ → HostId → Bool
keeps_from hosts set h = not (at (label_of hosts h).integ set)

-- the hosts whose secrets these principals may read
abbrev pub looks_for : List Label → ℕ → HostId → Bool
looks_for hosts set h = at (label_of hosts h).conf set

-- Principals can act for the authority of a protocol exactly where the hosts for which they cannot act do not keep what stands
-- there; and may read it exactly where the hosts whose secrets they may read see what stands there.
pub record IsExact (hosts : List Label) (set : ℕ) (q : Proto) : Type 0 where
  pub integrity : at (authority_of q hosts).integ set ≡ not (is_kept (keeps_from hosts set) (length hosts) q)
  pub secrecy : at (authority_of q hosts).conf set ≡ is_seen (looks_for hosts set) (length hosts) q

abbrev pub AuthoritiesAreExact : Type 0
AuthoritiesAreExact = (hosts : List Label) → AreOverSameNames hosts → (set : ℕ) → set < 2 ^ names_of hosts → (q : Proto) → HasHosts (length hosts) q → IsExact hosts set q
