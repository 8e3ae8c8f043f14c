-- The authority of a protocol: the label that its hosts have together.
use Rattle.std.specs.Prelude.{◌≡◌, ℕ, List, length, map, slice_index_or, All}
use Rattle.std.specs.List.{list_any, list_all}
use Rattle.vd_base.specs.declared.ids.HostId.{HostId}
use Rattle.vd_base.specs.declared.protocols.HostSet.{HostSet}
use Rattle.vd_base.specs.declared.protocols.Proto.{Proto}
use Rattle.vd_base.specs.declared.protocols.Proto.TheVariants.{Local, Rep, Commit, Add, Xor}
use Rattle.vd_base.specs.HostSets.{host, members}
use Rattle.vd_formula.specs.declared.label.Label.{Label}
use Rattle.vd_formula.specs.TruthTable.{TruthTable, at, formula_where, both_of, either_of, never_of}

abbrev pub label : TruthTable → TruthTable → Label
label conf integ = record { conf = conf; integ = integ }

-- the label of a host, which is among those that have one
abbrev pub label_of : List Label → HostId → Label
label_of hosts h = slice_index_or hosts h.0 (label (never_of 0) (never_of 0))

-- how many names the labels of the hosts are over
abbrev pub names_of : List Label → ℕ
names_of hosts = (label_of hosts (host 0)).conf.names

-- over so many names
pub record IsOver (names : ℕ) (label : Label) : Type 0 where
  pub conf : label.conf.names ≡ names
  pub integ : label.integ.names ≡ names

-- all labels are over the same names
abbrev pub AreOverSameNames : List Label → Type 0
AreOverSameNames hosts = All (IsOver (names_of hosts)) hosts

-- true where one of them is
abbrev pub disjunction_of : ℕ → List TruthTable → TruthTable
disjunction_of n formulas = formula_where n (λ set. list_any (λ formula. at formula set) formulas)

-- true where all of them are
abbrev pub conjunction_of : ℕ → List TruthTable → TruthTable
conjunction_of n formulas = formula_where n (λ set. list_all (λ formula. at formula set) formulas)

-- of copies: who may read one copy may read the value, and who is trusted by all is trusted with it
abbrev pub copies_of : HostSet → List Label → Label
copies_of set hosts = label
    (disjunction_of (names_of hosts) (map (λ h. (label_of hosts h).conf) (members (length hosts) set)))
    (conjunction_of (names_of hosts) (map (λ h. (label_of hosts h).integ) (members (length hosts) set)))

-- of a commitment: the prover alone can read the value, and both vouch for it
abbrev pub committed_of : Label → Label → Label
committed_of prover verifier = label prover.conf (both_of prover.integ verifier.integ)

-- of shares: both hosts together can read the value, and each of them can change it
abbrev pub shared_of : Label → Label → Label
shared_of first second = label (both_of first.conf second.conf) (either_of first.integ second.integ)

abbrev pub authority_of : Proto → List Label → Label
authority_of (Local h) hosts = label_of hosts h
authority_of (Rep set) hosts = copies_of set hosts
authority_of (Commit p v) hosts = committed_of (label_of hosts p) (label_of hosts v)
authority_of (Add a b) hosts = shared_of (label_of hosts a) (label_of hosts b)
authority_of (Xor a b) hosts = shared_of (label_of hosts a) (label_of hosts b)
