-- The system of a program is over its principals and its slots.
use Rattle.std.proofs.Common.{◌≡◌, ℕ, List, [], ◌∷◌, map, refl, sym, ◌∙◌, subst, Option, Some, None}
use Rattle.vd_base.specs.declared.ids.SlotId.{SlotId}
use Rattle.vd_core.specs.declared.normal.Stmt.{Stmt, roll-Stmt, map-Stmt, ind-Stmt}
use Rattle.vd_core.specs.declared.normal.Stmt.TheOpen.{Stmt-F}
use Rattle.vd_core.specs.declared.normal.Stmt.TheFolds.{fold-roll-Stmt}
use Rattle.vd_core.specs.declared.normal.NormalForm.{NormalForm}
use Rattle.vd_formula.specs.declared.label.Label.{Label}
use Rattle.vd_constraints.specs.declared.system.Place.{Place}
use Rattle.vd_constraints.specs.declared.system.Place.TheVariants.{Slot, Block}
use Rattle.vd_constraints.specs.Systems.{Constraints}
use Rattle.vd_constraints.specs.Rules.{offset_of, written_at, with_optional, with_branch, in_order, stmt_step, with_stmt, with_body}

abbrev Adds : Type 0
Adds = NormalForm → Place → Constraints → Constraints

record Same (before now : Constraints) : Type 0 where
  principals : now.principals ≡ before.principals
  slots : now.slots ≡ before.slots

abbrev Keeps : Adds → Type 0
Keeps add = (p : NormalForm) (pc : Place) (c : Constraints) → Same c (add p pc c)

same_trans : (a b c : Constraints) → Same a b → Same b c → Same a c
same_trans a b c e f = record { principals = f.principals ∙ e.principals; slots = f.slots ∙ e.slots }

label_same : (o : Option Label) (x : Place) (offset : ℕ) (a c : Constraints) → Same a c → Same a (with_optional o x offset c)
label_same None x offset a c e = e
label_same (Some written) x offset a c e = record { principals = e.principals; slots = e.slots }

more_keep : (add : Adds) (adds : List Adds) → Keeps add → Keeps (in_order adds) → Keeps (in_order (add ∷ adds))
more_keep add adds first rest p pc c = same_trans c (add p pc c) (in_order adds p pc (add p pc c)) (first p pc c) (rest p pc (add p pc c))

abbrev M : Type 0
M = (s : Stmt) × Keeps (with_stmt s)

abbrev statements : List M → List Stmt
statements = map {B = Stmt} (λ (m : M). m.0)

abbrev layer : Stmt-F M → Stmt-F Stmt
layer = map-Stmt M Stmt (λ m. m.0)

all_keep : (ms : List M) → Keeps (in_order (map with_stmt (statements ms)))
all_keep [] = λ p pc c. record { principals = refl; slots = refl }
all_keep (m ∷ ms) = more_keep (with_stmt m.0) (map with_stmt (statements ms)) m.1 (all_keep ms)

if_keeps : (g : SlotId) (a b : List Adds) (offset : ℕ) → Keeps (in_order a) → Keeps (in_order b) → Keeps (stmt_step (Stmt-F.If g a b offset))
if_keeps g a b offset first second p pc c =
    let here : Place = Block c.blocks in
    let entered = with_branch (Slot g) pc c in
    let one = first p here entered in
    let two = second p here (in_order a p here entered) in
    record { principals = two.principals ∙ one.principals; slots = two.slots ∙ one.slots }

step : (y : Stmt-F M) → Keeps (stmt_step (map-Stmt Stmt Adds with_stmt (layer y)))
step (Stmt-F.Let x r) = λ p pc c. label_same (written_at p x) (Slot x) (offset_of p x) c _ (record { principals = refl; slots = refl })
step (Stmt-F.NewVar v y) = λ p pc c. label_same (written_at p v) (Slot v) (offset_of p v) c _ (record { principals = refl; slots = refl })
step (Stmt-F.NewArray v size) = λ p pc c. label_same (written_at p v) (Slot v) (offset_of p v) c _ (record { principals = refl; slots = refl })
step (Stmt-F.Store v y) = λ p pc c. record { principals = refl; slots = refl }
step (Stmt-F.Put v i y) = λ p pc c. record { principals = refl; slots = refl }
step (Stmt-F.Output y host offset) = λ p pc c. record { principals = refl; slots = refl }
step (Stmt-F.If g a b offset) = if_keeps g (map with_stmt (statements a)) (map with_stmt (statements b)) offset (all_keep a) (all_keep b)
step (Stmt-F.For count body) = all_keep body

stmt_keeps : (s : Stmt) → Keeps (with_stmt s)
stmt_keeps = ind-Stmt (λ s. Keeps (with_stmt s)) (λ x y is. subst (λ z. Keeps (with_stmt (roll-Stmt z))) is (subst Keeps (sym (fold-roll-Stmt Adds stmt_step (layer y))) (step y)))

body_keeps : (body : List Stmt) → Keeps (with_body body)
body_keeps [] = λ p pc c. record { principals = refl; slots = refl }
body_keeps (s ∷ body) = more_keep (with_stmt s) (map with_stmt body) (stmt_keeps s) (body_keeps body)

pub same_principals : (body : List Stmt) (p : NormalForm) (pc : Place) (c : Constraints) → (with_body body p pc c).principals ≡ c.principals
same_principals body p pc c = (body_keeps body p pc c).principals

pub same_slots : (body : List Stmt) (p : NormalForm) (pc : Place) (c : Constraints) → (with_body body p pc c).slots ≡ c.slots
same_slots body p pc c = (body_keeps body p pc c).slots
