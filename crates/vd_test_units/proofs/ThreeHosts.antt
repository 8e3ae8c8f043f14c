-- Three hosts, and three labels over three names.
use Rattle.std.proofs.Common.{◌≡◌, ◌<◌, List, [], ◌∷◌}
use Rattle.vd_base.specs.declared.ids.HostId.{HostId}
use Rattle.vd_base.specs.declared.protocols.HostSet.{HostSet}
use Rattle.vd_base.specs.declared.protocols.Proto.TheVariants.{Local, Rep, Commit, Add, Xor}
use Rattle.vd_base.specs.Holders.{HasHosts}
use Rattle.vd_base.proofs.Front.{copies_have}
use Rattle.vd_formula.specs.declared.label.Label.{Label}
use Rattle.vd_formula.specs.TruthTable.{TruthTable}
use Rattle.vd_protocol.specs.Authority.{label, AreOverSameNames}
use Rattle.vd_protocol.proofs.Front as over

pub one_of_three : (h : HostId) → h.0 < 3 → HasHosts 3 (Local h)
one_of_three h low = (low, tt)

pub copies_of_three : (set : HostSet) → set.bits < 8 → HasHosts 3 (Rep set)
copies_of_three set low = copies_have 3 set low

pub two_of_three : (a b : HostId) → a.0 < 3 → b.0 < 3 → HasHosts 3 (Commit a b) × (HasHosts 3 (Add a b) × HasHosts 3 (Xor a b))
two_of_three a b low low_b = ((low, (low_b, tt)), ((low, (low_b, tt)), (low, (low_b, tt))))

pub three_over : (hosts : List Label) (a b c : TruthTable) → hosts ≡ label a a ∷ label b b ∷ label c c ∷ [] → a.names ≡ 3 → b.names ≡ 3 → c.names ≡ 3 → AreOverSameNames hosts
three_over = over.three_over
