-- A program whose statements let only kept words reach kept slots and heard hosts.
use Rattle.std.specs.Prelude.{ℕ, Bool, true, ◌&&◌, ◌||◌, not, if◌then◌else◌, List}
use Rattle.std.specs.List.{list_all}
use Rattle.vd_base.specs.declared.ids.SlotId.{SlotId}
use Rattle.vd_core.specs.declared.normal.Right.{Right}
use Rattle.vd_core.specs.declared.normal.Right.TheVariants.{Lit, Turn, Copy, Apply, Input, Declassify, Endorse, Load, Get}
use Rattle.vd_core.specs.declared.normal.Stmt.{Stmt}
use Rattle.vd_core.specs.declared.normal.Stmt.TheOpen.{Stmt-F}
use Rattle.vd_core.specs.declared.normal.Stmt.TheFolds.{fold-Stmt}
use Rattle.vd_noninter.specs.Watching.{Downgrades}

-- Which slots' words are kept; which downgraded words are given, so that they make kept slots, and which are freed, so that
-- they are made of kept ones; whose inputs are known; and the hosts whose outputs are looked at.
pub record Knowledge : Type 0 where
  pub kept : ℕ → Bool
  pub given : Downgrades
  pub freed : Downgrades
  pub known : ℕ → Bool
  pub heard : ℕ → Bool

-- where the first holds, so does the second
abbrev pub only_with : Bool → Bool → Bool
only_with first second = not first || second

-- a downgrade that gives a kept slot is given, or its operand is kept; and that of a freed one is
abbrev pub downgrade_flows : Knowledge → (ℕ → ℕ → Bool) → (ℕ → ℕ → Bool) → SlotId → SlotId → Bool
downgrade_flows k given freed x y = only_with (k.kept x.0) (given x.0 y.0 || k.kept y.0) && only_with (freed x.0 y.0) (k.kept y.0)

-- a kept slot is made of what is kept, given or known, and what is freed is kept
abbrev pub right_flows : Knowledge → SlotId → Right → Bool
right_flows k x (Lit n) = true
right_flows k x Turn = true
right_flows k x (Copy y) = only_with (k.kept x.0) (k.kept y.0)
right_flows k x (Apply op ys) = only_with (k.kept x.0) (list_all (λ y. k.kept y.0) ys)
right_flows k x (Input host) = only_with (k.kept x.0) (k.known host.0)
right_flows k x (Declassify y to) = downgrade_flows k k.given.declassified k.freed.declassified x y
right_flows k x (Endorse y to) = downgrade_flows k k.given.endorsed k.freed.endorsed x y
right_flows k x (Load v) = only_with (k.kept x.0) (k.kept v.0)
right_flows k x (Get v i) = only_with (k.kept x.0) (k.kept v.0 && k.kept i.0)

-- nothing that is given, freed or known is touched
abbrev pub right_hides : Knowledge → SlotId → Right → Bool
right_hides k x (Lit n) = true
right_hides k x Turn = true
right_hides k x (Copy y) = true
right_hides k x (Apply op ys) = true
right_hides k x (Input host) = not (k.known host.0)
right_hides k x (Declassify y to) = not (k.given.declassified x.0 y.0) && not (k.freed.declassified x.0 y.0)
right_hides k x (Endorse y to) = not (k.given.endorsed x.0 y.0) && not (k.freed.endorsed x.0 y.0)
right_hides k x (Load v) = true
right_hides k x (Get v i) = true

-- Whether a statement flows, where control is kept; and whether it hides, where it is not: it touches nothing that is
-- kept, given, freed or known.
pub record Flow : Type 0 where
  pub flows : Bool
  pub hides : Bool

abbrev pub all_flow : List Flow → Bool
all_flow body = list_all (λ f. f.flows) body

abbrev pub all_hide : List Flow → Bool
all_hide body = list_all (λ f. f.hides) body

abbrev pub stmt_flows : Knowledge → Stmt-F Flow → Bool
stmt_flows k (Stmt-F.Let x right) = right_flows k x right
stmt_flows k (Stmt-F.NewVar v y) = only_with (k.kept v.0) (k.kept y.0)
stmt_flows k (Stmt-F.NewArray v size) = true
stmt_flows k (Stmt-F.Store v y) = only_with (k.kept v.0) (k.kept y.0)
stmt_flows k (Stmt-F.Put v i y) = only_with (k.kept v.0) (k.kept i.0 && k.kept y.0)
stmt_flows k (Stmt-F.Output y host offset) = only_with (k.heard host.0) (k.kept y.0)
stmt_flows k (Stmt-F.If guard then_block else_block offset) =
    if k.kept guard.0 then all_flow then_block && all_flow else_block else all_hide then_block && all_hide else_block
stmt_flows k (Stmt-F.For count body) = all_flow body

abbrev pub stmt_hides : Knowledge → Stmt-F Flow → Bool
stmt_hides k (Stmt-F.Let x right) = not (k.kept x.0) && right_hides k x right
stmt_hides k (Stmt-F.NewVar v y) = not (k.kept v.0)
stmt_hides k (Stmt-F.NewArray v size) = not (k.kept v.0)
stmt_hides k (Stmt-F.Store v y) = not (k.kept v.0)
stmt_hides k (Stmt-F.Put v i y) = not (k.kept v.0)
stmt_hides k (Stmt-F.Output y host offset) = not (k.heard host.0)
stmt_hides k (Stmt-F.If guard then_block else_block offset) = all_hide then_block && all_hide else_block
stmt_hides k (Stmt-F.For count body) = all_hide body

abbrev pub flow_step : Knowledge → Stmt-F Flow → Flow
flow_step k s = record { flows = stmt_flows k s; hides = stmt_hides k s }

abbrev pub flow : Knowledge → Stmt → Flow
flow k = fold-Stmt Flow (flow_step k)
