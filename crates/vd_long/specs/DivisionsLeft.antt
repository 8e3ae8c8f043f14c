-- The divisions of a program, and those that are left once divisions without a protocol are loops.
use Rattle.std.specs.Prelude.{◌≡◌, ℕ, ◌<◌, IsTrue, Bool, true, false, ◌&&◌, not, if◌then◌else◌, List, [], ◌∷◌, ◌++◌, map, length, slice_get, Some}
use Rattle.vd_base.specs.declared.ids.SlotId.{SlotId}
use Rattle.vd_base.specs.declared.operations.Op.{Op}
use Rattle.vd_base.specs.declared.operations.Op.TheVariants.{Div, Rem}
use Rattle.vd_core.specs.declared.normal.NormalForm.{NormalForm}
use Rattle.vd_core.specs.declared.normal.Right.{Right}
use Rattle.vd_core.specs.declared.normal.Right.TheVariants.{Apply}
use Rattle.vd_core.specs.declared.normal.Stmt.{Stmt}
use Rattle.vd_core.specs.declared.normal.Stmt.TheOpen.{Stmt-F}
use Rattle.vd_core.specs.declared.normal.Stmt.TheFolds.{fold-Stmt}
use Rattle.vd_constraints.specs.declared.labels.Labels.{Labels}
use Rattle.vd_rewrite.specs.Rewriting.{marked, is_within}
use Rattle.vd_space.specs.declared.problem.Making.{Making}
use Rattle.vd_space.specs.Reading.{problem_of}
use Rattle.vd_space.specs.Validity.{protocols, is_candidate}
use Rattle.vd_long.specs.Lengthened.{with_long_divisions, is_nested}
use Rattle.vd_long.specs.Marks.{long_marks, lengthen_of}

-- a quotient or a remainder of two words
abbrev pub division_of : Right → List Op
division_of (Apply Div (a ∷ b ∷ [])) = Div ∷ []
division_of (Apply Rem (a ∷ b ∷ [])) = Rem ∷ []
division_of other = []

abbrev pub joined : List (List Op) → List Op
joined [] = []
joined (ops ∷ more) = ops ++ joined more

-- the divisions of a statement whose slots pass the test, in program order
abbrev pub divisions_step : (SlotId → Bool) → Stmt-F (List Op) → List Op
divisions_step test (Stmt-F.Let x right) = if test x then division_of right else []
divisions_step test (Stmt-F.If guard a b offset) = joined a ++ joined b
divisions_step test (Stmt-F.For count body) = joined body
divisions_step test other = []

abbrev pub divisions_in : (SlotId → Bool) → Stmt → List Op
divisions_in test = fold-Stmt (List Op) (divisions_step test)

abbrev pub divisions_where : (SlotId → Bool) → List Stmt → List Op
divisions_where test body = joined (map (divisions_in test) body)

-- all divisions
abbrev pub divisions : List Stmt → List Op
divisions body = divisions_where (λ x. true) body

-- the slots that no protocol is for under these labels
abbrev pub is_long_in : NormalForm → Labels → SlotId → Bool
is_long_in p l = marked (long_marks (problem_of p l))

-- no protocol is a candidate of the slot
abbrev pub HasNoCandidate : NormalForm → Labels → SlotId → Type 0
HasNoCandidate p l x = let problem = problem_of p l in (q : ℕ) → q < length (protocols problem) → is_candidate problem x.0 q ≡ false

-- A division without a candidate is gone after lengthening, where the new program keeps to the limits and its loops stand in each
-- other no deeper than they may; and the others stay, in their order.
pub record DivisionsGo (p : NormalForm) (l : Labels) : Type 0 where
  pub long : (x : SlotId) (making : Making) → slice_get (problem_of p l).slots x.0 ≡ Some making → HasNoCandidate p l x
      → is_long_in p l x ≡ true
  pub stays : (x : SlotId) (q : ℕ) → q < length (protocols (problem_of p l)) → is_candidate (problem_of p l) x.0 q ≡ true
      → is_long_in p l x ≡ false
  pub gone : let longer = with_long_divisions (is_long_in p l) p in IsTrue (is_within longer && is_nested longer)
      → divisions (lengthen_of p l).body ≡ divisions_where (λ x. not (is_long_in p l x)) p.body

abbrev pub AllDivisionsGo : Type 0
AllDivisionsGo = (p : NormalForm) (l : Labels) → DivisionsGo p l
