-- What a host may read, as a test and as acting for.
use Rattle.std.proofs.Common.{◌≡◌, true, ◌||◌, not}
use Rattle.vd_formula.specs.TruthTable.{TruthTable, ActsFor, at, acts}
use Rattle.vd_formula.proofs.Front.{acts_trans, at_each_set, all_sets_from, if_so, then_so}

pub acts_for : (f g : TruthTable) → acts f g ≡ true → ActsFor f g
acts_for f g all set low = if_so (at f set) (at g set) (at_each_set f.names (λ s. not (at f s) || at g s) all set low)

pub for_acts : (f g : TruthTable) → ActsFor f g → acts f g ≡ true
for_acts f g is = all_sets_from f.names (λ s. not (at f s) || at g s) (λ set low. then_so (at f set) (at g set) (is set low))

-- whoever acts for the one acts for what this one acts for
pub acts_through : (f g h : TruthTable) → f.names ≡ g.names → acts f g ≡ true → ActsFor g h → acts f h ≡ true
acts_through f g h names first second = for_acts f h (acts_trans f g h names (acts_for f g first) second)
