-- The steps of the walk over a program: systems that grow, and statements that name declared slots.
use Rattle.std.proofs.Common.{◌≡◌, ℕ, zero, suc, ◌+◌, ◌<◌, Bool, ◌&&◌, List, [], ◌∷◌, length, get_or, map, sym, ap, ◌∙◌, subst, arith, rules}
use Rattle.std.specs.Prelude.{IsTrue}
use Rattle.std.specs.List.{list_all}
use Rattle.std.proofs.lemmas.Bool.{and_parts}
use Rattle.std.proofs.lemmas.List.Folds.{list_all-map}
use Rattle.vd_base.specs.declared.ids.SlotId.{SlotId}
use Rattle.vd_core.specs.declared.normal.Stmt.{Stmt}
use Rattle.vd_core.specs.declared.normal.Stmt.TheVariants.{If}
use Rattle.vd_core.specs.declared.normal.Stmt.TheOpen.{Stmt-F}
use Rattle.vd_core.specs.declared.normal.NormalForm.{NormalForm}
use Rattle.vd_core.specs.declared.normal.Stmt.TheFolds.{the_lemmas}
use Rattle.vd_constraints.specs.declared.origin.Origin.{Origin}
use Rattle.vd_constraints.specs.declared.system.Place.{Place}
use Rattle.vd_constraints.specs.Systems.{Constraints, IsPlaceOf, IsPlaceIn}
use Rattle.vd_constraints.specs.Extends.{Extends}
use Rattle.vd_constraints.specs.declared.system.Place.TheVariants.{Slot, Block}
use Rattle.vd_constraints.specs.Rules.{stmt_step, with_branch, with_stmt, with_body}
use Rattle.vd_constraints.specs.Scoped.{is_below, slots_below, block_below}
use Rattle.vd_constraints.proofs.Kept.{more_places}

pub extends-trans : (s t u : Constraints) → Extends s t → Extends t u → Extends s u
extends-trans s t u first second = record {
  principals = second.principals ∙ first.principals;
  slots = second.slots ∙ first.slots;
  blocks = let a = first.blocks in let b = second.blocks in omega arith;
}

pub place_kept : (s t : Constraints) (at : Place) → Extends s t → IsPlaceOf s at → IsPlaceOf t at
place_kept s t at more is =
    subst (λ slots. IsPlaceIn slots t.blocks at) (sym more.slots) (more_places (length s.principals) s.slots s.blocks t.blocks more.blocks at is)

-- the walk has come from the one system to the other, and what is left leads to what is wanted
pub record WalkSoFar (start here left wanted : Constraints) : Type 0 where
  pub left_is : left ≡ wanted
  pub extends : Extends start here

-- and what is found to ask, with what is left of it, is all that asks
pub record BodySoFar (start here left wanted : Constraints) (found all : List Origin) : Type 0 where
  pub left_is : left ≡ wanted
  pub extends : Extends start here
  pub asked : found ≡ all

all_at : {X : Type 0} (test : X → Bool) (xs : List X) (i : ℕ) (d : X) → i < length xs → IsTrue (list_all test xs) → IsTrue (test (get_or xs i d))
all_at test [] i d h all = absurd (omega arith)
all_at test (x ∷ xs) zero d h all = (and_parts (test x) (list_all test xs) all).0
all_at test (x ∷ xs) (suc i) d h all = all_at test xs i d (omega arith) (and_parts (test x) (list_all test xs) all).1

pub stmt_below_at : (n : ℕ) (body : List Stmt) (i : ℕ) (d : Stmt) → i < length body → IsTrue (block_below n body) → IsTrue (slots_below n (get_or body i d))
stmt_below_at n body i d h all = all_at (slots_below n) body i d h (sym (list_all-map (λ below. below) (slots_below n) body) ∙ all)

-- the parts of an If
pub branches_below : (n : ℕ) (y : SlotId) (a b : List Stmt) (offset : ℕ) → IsTrue (slots_below n (If y a b offset)) → IsTrue (block_below n a) × IsTrue (block_below n b)
branches_below n y a b offset below =
    let whole : slots_below n (If y a b offset) ≡ (is_below n y && block_below n a && block_below n b) = search (rules, the_lemmas) in
    let parts = and_parts (is_below n y && block_below n a) (block_below n b) (sym whole ∙ below) in
    ((and_parts (is_below n y) (block_below n a) parts.0).1, parts.1)

pub with_if : (y : SlotId) (a b : List Stmt) (offset : ℕ) (p : NormalForm) (pc : Place) (s : Constraints) → with_stmt (If y a b offset) p pc s ≡ with_body b p (Block s.blocks) (with_body a p (Block s.blocks) (with_branch (Slot y) pc s))
with_if y a b offset p pc s =
    let step : with_stmt (If y a b offset) ≡ stmt_step (Stmt-F.If y (map with_stmt a) (map with_stmt b) offset) = search (rules, the_lemmas) in
    ap (λ w. w p pc s) step

-- the system at the head of the branches of an If
module _ (s t : Constraints) (guard pc : Place) (is : t ≡ with_branch guard pc s) where
  pub branch_extends : Extends s t
  branch_extends =
      let more : t.blocks ≡ s.blocks + 1 = ap (λ u. u.blocks) is in
      record { principals = ap (λ u. u.principals) is; slots = ap (λ u. u.slots) is; blocks = omega arith }

  pub branch_place : (branch : Place) → branch ≡ Block s.blocks → IsPlaceOf t branch
  branch_place branch here =
      let more : t.blocks ≡ s.blocks + 1 = ap (λ u. u.blocks) is in
      subst (IsPlaceOf t) (sym here) (omega arith)

-- statements that name declared slots do so in a system that has grown
pub still_below : (s t : Constraints) (body same : List Stmt) → Extends s t → same ≡ body → IsTrue (block_below s.slots body) → IsTrue (block_below t.slots same)
still_below s t body same more is below =
    subst (λ n. IsTrue (block_below n same)) (sym more.slots) (subst (λ b. IsTrue (block_below s.slots b)) (sym is) below)
