-- The branches of a program, and those that are left once branches on what no host may read are selections.
use Rattle.std.specs.Prelude.{◌≡◌, ℕ, ◌<◌, IsTrue, Bool, true, false, ◌&&◌, not, if◌then◌else◌, List, [], ◌∷◌, ◌++◌, map, length, slice_get, Some}
use Rattle.std.specs.List.{concat, list_all}
use Rattle.vd_base.specs.declared.ids.SlotId.{SlotId}
use Rattle.vd_core.specs.declared.normal.NormalForm.{NormalForm}
use Rattle.vd_core.specs.declared.normal.Right.{Right}
use Rattle.vd_core.specs.declared.normal.Right.TheVariants.{Lit, Copy, Apply, Load}
use Rattle.vd_core.specs.declared.normal.Stmt.{Stmt}
use Rattle.vd_core.specs.declared.normal.Stmt.TheOpen.{Stmt-F}
use Rattle.vd_core.specs.declared.normal.Stmt.TheFolds.{fold-Stmt}
use Rattle.vd_formula.specs.declared.label.Label.{Label}
use Rattle.vd_formula.specs.TruthTable.{acts}
use Rattle.vd_constraints.specs.Rules.{host_label}
use Rattle.vd_constraints.specs.declared.labels.Labels.{Labels}
use Rattle.vd_rewrite.specs.Rewriting.{marked, is_within}
use Rattle.vd_mux.specs.BooleanGuards.{HasBooleanGuards}
use Rattle.vd_mux.specs.Hidden.{host, hidden_marks, turn_of}
use Rattle.vd_mux.specs.Selections.{with_selections}

-- where each branch stands in the source, in program order
abbrev pub branches_step : Stmt-F (List ℕ) → List ℕ
branches_step (Stmt-F.If guard a b offset) = offset ∷ (concat a ++ concat b)
branches_step (Stmt-F.For count body) = concat body
branches_step other = []

abbrev pub branches_in : Stmt → List ℕ
branches_in = fold-Stmt (List ℕ) branches_step

abbrev pub branches : List Stmt → List ℕ
branches body = concat (map branches_in body)

-- a word that needs no host's act and no input
abbrev pub is_calm_right : Right → Bool
is_calm_right (Lit n) = true
is_calm_right (Copy x) = true
is_calm_right (Apply op xs) = true
is_calm_right (Load v) = true
is_calm_right other = false

-- whether a statement may stand in a branch that goes, and where the branches stand in it that are left
pub record Left : Type 0 where
  pub is_calm : Bool
  pub places : List ℕ

abbrev pub all_calm : List Left → Bool
all_calm ss = list_all (λ (s : Left). s.is_calm) ss

abbrev pub places_in : List Left → List ℕ
places_in ss = concat (map (λ (s : Left). s.places) ss)

abbrev pub is_empty : List Left → Bool
is_empty [] = true
is_empty (s ∷ ss) = false

-- a branch goes where no host may read its guard, its statements are calm, and there are some
abbrev pub goes : (SlotId → Bool) → SlotId → (a b : List Left) → Bool
goes hides guard a b = hides guard && (all_calm a && all_calm b) && not (is_empty a && is_empty b)

abbrev pub left_step : (SlotId → Bool) → Stmt-F Left → Left
left_step hides (Stmt-F.Let x right) = record { is_calm = is_calm_right right; places = [] }
left_step hides (Stmt-F.NewVar v x) = record { is_calm = true; places = [] }
left_step hides (Stmt-F.NewArray v cells) = record { is_calm = false; places = [] }
left_step hides (Stmt-F.Store v x) = record { is_calm = true; places = [] }
left_step hides (Stmt-F.Put v i x) = record { is_calm = false; places = [] }
left_step hides (Stmt-F.Output x to offset) = record { is_calm = false; places = [] }
left_step hides (Stmt-F.If guard a b offset) =
    record { is_calm = all_calm a && all_calm b; places = if goes hides guard a b then [] else offset ∷ (places_in a ++ places_in b) }
left_step hides (Stmt-F.For count body) = record { is_calm = false; places = places_in body }

abbrev pub left_of : (SlotId → Bool) → Stmt → Left
left_of hides = fold-Stmt Left (left_step hides)

-- where the branches stand that are left, in program order
abbrev pub branches_left : (SlotId → Bool) → List Stmt → List ℕ
branches_left hides body = places_in (map (left_of hides) body)

-- the slots that are hidden under these labels
abbrev pub is_hidden_in : NormalForm → Labels → SlotId → Bool
is_hidden_in p l = marked (hidden_marks p l)

abbrev pub is_read_by : NormalForm → ℕ → Label → Bool
is_read_by p h label = acts (host_label p (host h)).conf label.conf

-- the label of a slot
abbrev pub HasLabel : Labels → SlotId → Label → Type 0
HasLabel l x label = slice_get l.slots x.0 ≡ Some label

-- A branch on what no host may read is gone after the turn, with all branches in it, where its statements are calm and the new
-- program keeps to the limits; and the others stay, in their order.
pub record HiddenBranchesGo (p : NormalForm) (l : Labels) : Type 0 where
  pub hidden : (x : SlotId) (label : Label) → HasLabel l x label → ((h : ℕ) → h < length p.hosts → is_read_by p h label ≡ false)
      → is_hidden_in p l x ≡ true
  pub read : (x : SlotId) (label : Label) → HasLabel l x label → (h : ℕ) → h < length p.hosts → is_read_by p h label ≡ true
      → is_hidden_in p l x ≡ false
  pub gone : HasBooleanGuards p → IsTrue (is_within (with_selections (is_hidden_in p l) p))
      → branches (turn_of p l).body ≡ branches_left (is_hidden_in p l) p.body

abbrev pub AllHiddenBranchesGo : Type 0
AllHiddenBranchesGo = (p : NormalForm) (l : Labels) → HiddenBranchesGo p l
