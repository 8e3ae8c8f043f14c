-- The slots that no host may read.
use Rattle.std.specs.Prelude.{ℕ, zero, suc, Bool, false, not, ◌||◌, List, map, length}
use Rattle.vd_base.specs.declared.ids.HostId.{HostId}
use Rattle.vd_core.specs.declared.normal.NormalForm.{NormalForm}
use Rattle.vd_formula.specs.declared.label.Label.{Label}
use Rattle.vd_constraints.specs.Rules.{host_label}
use Rattle.vd_constraints.specs.declared.labels.Labels.{Labels}
use Rattle.vd_formula.specs.TruthTable.{acts}
use Rattle.vd_mux.specs.Selections.{turned_where_boolean}
use Rattle.vd_rewrite.specs.Rewriting.{marked}

abbrev pub host : ℕ → HostId
host k = record { 0 = k }

-- one of so many hosts may read what has this label
abbrev pub some_reads : NormalForm → ℕ → Label → Bool
some_reads p zero label = false
some_reads p (suc n) label = some_reads p n label || acts (host_label p (host n)).conf label.conf

abbrev pub hidden_from : NormalForm → ℕ → List Label → List Bool
hidden_from p hosts labels = map (λ label. not (some_reads p hosts label)) labels

-- of each slot whether no host may read it
abbrev pub hidden_marks : NormalForm → Labels → List Bool
hidden_marks p l = hidden_from p (length p.hosts) l.slots

-- hidden branches as selections, under these labels
abbrev pub turn_of : NormalForm → Labels → NormalForm
turn_of p l = turned_where_boolean (marked (hidden_marks p l)) p
