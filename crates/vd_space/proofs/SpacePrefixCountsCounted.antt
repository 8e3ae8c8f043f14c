-- The counts, computed.
use Rattle.std.proofs.Common.{◌≡◌, [], pos, refl}
use lib.Count.{ones, ones_in}
use Rattle.vd_formula.specs.TruthTable.{both_of, either_of, never_of}
use Rattle.vd_space.specs.Bounds.{high, low}
use Rattle.vd_space.specs.Usual.{firm, hard, usual}
use Rattle.vd_space.specs.Network.{by_arcs}
use Rattle.vd_space.specs.Worked.{negated, unreadable}

pub low_is : low negated [] ≡ pos 1
unfolding ones ones_in both_of either_of never_of
low_is = refl

pub high_is : high negated (usual negated) [] ≡ pos 6
unfolding ones ones_in both_of either_of never_of
high_is = refl

pub hard_below : hard negated (pos 5) ≡ 2
unfolding ones ones_in both_of either_of never_of
hard_below = refl

pub firm_below : firm negated (pos 5) ≡ 0
unfolding ones ones_in both_of either_of never_of
firm_below = refl

pub hard_at : hard negated (pos 6) ≡ 4
unfolding ones ones_in both_of either_of never_of
hard_at = refl

pub firm_at : firm negated (pos 6) ≡ 4
unfolding ones ones_in both_of either_of never_of
firm_at = refl

pub low_dear : low unreadable [] ≡ pos 1000000000
unfolding ones ones_in both_of either_of never_of
low_dear = refl

pub high_dear : high unreadable [] [] ≡ pos 1000000000
unfolding ones ones_in both_of either_of never_of
high_dear = refl

pub network_dear : by_arcs unreadable [] [] ≡ pos 256000000000
unfolding ones ones_in both_of either_of never_of
network_dear = refl
