-- The least labelling of a program has a label for each slot.
use Rattle.std.proofs.Common.{◌≡◌, ℕ, Option, Some, None, List, [], ◌∷◌, length, map, refl, sym, ap, ◌∙◌, subst}
use Rattle.std.specs.Prelude.{All}
use Rattle.vd_formula.specs.declared.label.Label.{Label}
use Rattle.vd_core.specs.declared.normal.NormalForm.{NormalForm}
use Rattle.vd_core.specs.declared.normal.Stmt.{Stmt, roll-Stmt, map-Stmt, ind-Stmt}
use Rattle.vd_core.specs.declared.normal.Stmt.TheOpen.{Stmt-F}
use Rattle.vd_core.specs.declared.normal.Stmt.TheFolds.{fold-roll-Stmt}
use Rattle.vd_constraints.specs.declared.system.Place.{Place}
use Rattle.vd_constraints.specs.declared.system.Place.TheVariants.{Slot, Block}
use Rattle.vd_constraints.specs.declared.labels.Labels.{Labels}
use Rattle.vd_constraints.specs.Systems.{Constraints, IsLabelOver}
use Rattle.vd_constraints.specs.Satisfies.{IsLeast}
use Rattle.vd_constraints.specs.Rules.{with_branch, with_right, with_stored, with_flow, with_optional, with_written, written_at, stmt_step, with_stmt, with_body, at_start, system_of}
use Rattle.vd_space.specs.Labelled.{HasLabels}

-- what a labelling of the system is over
record Heading : Type 0 where
  principals : List (List ℕ)
  slots : ℕ

abbrev heading : Constraints → Heading
heading s = record { principals = s.principals; slots = s.slots }

abbrev Step : Type 0
Step = NormalForm → Place → Constraints → Constraints

abbrev Keeps : Step → Type 0
Keeps f = (p : NormalForm) (pc : Place) (s : Constraints) → heading (f p pc s) ≡ heading s

optional_keeps : (written : Option Label) (x : Place) (offset : ℕ) (s : Constraints) → heading (with_optional written x offset s) ≡ heading s
optional_keeps None x offset s = refl
optional_keeps (Some written) x offset s = refl

abbrev M : Type 0
M = (s : Stmt) × Keeps (with_stmt s)

abbrev layer : Stmt-F M → Stmt-F Stmt
layer = map-Stmt M Stmt (λ m. m.0)

abbrev statements : List M → List Stmt
statements = map {B = Stmt} (λ (m : M). m.0)

all : (ms : List M) → Keeps (with_body (statements ms))
all [] p pc s = refl
all (m ∷ ms) p pc s = all ms p pc (with_stmt m.0 p pc s) ∙ m.1 p pc s

step : (y : Stmt-F M) → Keeps (stmt_step (map-Stmt Stmt Step with_stmt (layer y)))
step (Stmt-F.Let x r) p pc s = optional_keeps (written_at p x) (Slot x) _ (with_right p pc x r s)
step (Stmt-F.NewVar v y) p pc s = optional_keeps (written_at p v) (Slot v) _ (with_stored pc v y s)
step (Stmt-F.NewArray v cells) p pc s = optional_keeps (written_at p v) (Slot v) _ (with_flow pc (Slot v) s)
step (Stmt-F.Store v y) p pc s = refl
step (Stmt-F.Put v i y) p pc s = refl
step (Stmt-F.Output y h offset) p pc s = refl
step (Stmt-F.If y a b offset) p pc s =
    all b p (Block s.blocks) (with_body (statements a) p (Block s.blocks) (with_branch (Slot y) pc s)) ∙ all a p (Block s.blocks) (with_branch (Slot y) pc s)
step (Stmt-F.For count body) p pc s = all body p pc s

keeps : (s : Stmt) → Keeps (with_stmt s)
keeps = ind-Stmt (λ s. Keeps (with_stmt s)) (λ x y is. subst (λ z. Keeps (with_stmt (roll-Stmt z))) is (subst Keeps (sym (fold-roll-Stmt Step stmt_step (layer y))) (step y)))

body_keeps : (body : List Stmt) → Keeps (with_body body)
body_keeps [] p pc s = refl
body_keeps (x ∷ body) p pc s = body_keeps body p pc (with_stmt x p pc s) ∙ keeps x p pc s

system_heading : (p : NormalForm) → heading (system_of p) ≡ record { principals = p.principals; slots = length p.slots }
system_heading p = body_keeps p.body p (Block 0) (at_start p)

pub has_labels : (p : NormalForm) (l : Labels) → IsLeast (system_of p) l → HasLabels p l
has_labels p l least = record {
  slots = least.is.solves.labelling.slots ∙ ap (λ (h : Heading). h.slots) (system_heading p);
  over = subst (λ (h : Heading). All (IsLabelOver (length h.principals)) l.slots) (system_heading p) least.is.solves.labelling.slot_labels;
}
