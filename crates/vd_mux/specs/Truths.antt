-- What the test of guards computes.
use Rattle.std.specs.Prelude.{Bool, List, map}
use Rattle.std.specs.List.{list_all}
use Rattle.vd_base.specs.declared.ids.SlotId.{SlotId}
use Rattle.vd_core.specs.declared.normal.Stmt.{Stmt}
use Rattle.vd_core.specs.Facts.{meets}
use Rattle.vd_mux.specs.declared.booleans.Truths.{Truths}
use Rattle.vd_mux.specs.BooleanGuards.{is_truth_slot, keeps_truth}

abbrev pub truth_of : Truths → SlotId → Bool
truth_of t x = is_truth_slot t.slots.now x.0

abbrev pub kept : Truths → Stmt → Bool
kept t = meets (keeps_truth (truth_of t))

abbrev pub all_kept : Truths → List Stmt → Bool
all_kept t body = list_all (λ b. b) (map (kept t) body)
