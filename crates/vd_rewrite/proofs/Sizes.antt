-- What is made only grows, and what is too large has too many statements.
use Rattle.std.proofs.Common.{◌≡◌, ℕ, ◌+◌, ◌<◌, ◌≤◌, nat_le, Bool, true, false, ◌&&◌, List, [], map, refl, arith}
use Rattle.std.proofs.lemmas.Bool.{leb-true}
use Rattle.vd_base.specs.declared.ids.SlotId.{SlotId}
use Rattle.vd_base.specs.Limits.{most_statements, most_weights}
use Rattle.vd_core.specs.declared.normal.Right.{Right}
use Rattle.vd_core.specs.declared.normal.Slot.{Slot}
use Rattle.vd_core.specs.declared.normal.Stmt.{Stmt, Let}
use Rattle.vd_core.specs.declared.normal.NormalForm.{NormalForm}
use Rattle.vd_core.specs.Facts.{statement_count, weight_sum}
use Rattle.vd_rewrite.specs.declared.guard.Guard.{Guard}
use Rattle.vd_rewrite.specs.Rewriting.{Made, slot, entry_of, in_block, moved_right, Rewriting, Lets, run_all, kept_let, rewriting, made_at_start, all_made, rewritten, is_within}
use Rattle.vd_rewrite.specs.Stops.{size, IsTooLarge}
use Rattle.vd_rewrite.proofs.Shape.{Makes, makes_kept, slots_let, cells_let, nest_let, body_makes}

abbrev pub anything : Slot → Bool
anything s = true

-- a Let that stays
pub kept_makes : (old : List Slot) (x : SlotId) (r : Right) (block : ℕ) (m : Made) → Makes anything m (kept_let old x r block m) 0 0
kept_makes old x r block m =
    makes_kept anything m (in_block block (entry_of old x)) (Let (slot m.next) (moved_right m.table r)) 0 refl (slots_let (slot m.next) (moved_right m.table r)) (cells_let (slot m.next) (moved_right m.table r)) (nest_let (slot m.next) (moved_right m.table r))

-- whatever is made of Lets
module _ (hides : SlotId → Bool) (lets : Lets) (deep : ℕ) (lets_make : (x : SlotId) (r : Right) (block : ℕ) (m : Made) → Makes anything m (lets x r block m) 0 deep) where
  module _ (old : List Slot) where
    abbrev the : Stmt → Rewriting
    the = rewriting hides lets old

    pub body_more : (body : List Stmt) (gs : List Guard) (block : ℕ) (m : Made) → size m ≤ size (run_all (map the body) gs block m)
    body_more body gs block m = (body_makes anything (λ k o b. refl) hides lets old (λ x b. refl) deep lets_make body gs block m).more

    body_few : (body : List Stmt) (gs : List Guard) (block : ℕ) (m : Made) → size (run_all (map the body) gs block m) + statement_count m.body ≤ size m + statement_count (run_all (map the body) gs block m).body
    body_few body gs block m = (body_makes anything (λ k o b. refl) hides lets old (λ x b. refl) deep lets_make body gs block m).few

  pub large_is_not_within : (program : NormalForm) → IsTooLarge (all_made hides lets program) → is_within (rewritten hides lets program) ≡ false
  large_is_not_within program large =
      let few = body_few program.slots program.body [] 0 made_at_start in
      none (statement_count (rewritten hides lets program).body) (nat_le (weight_sum (rewritten hides lets program).body) most_weights) (omega arith)
    where
      none : (n : ℕ) (b : Bool) → most_statements < n → (nat_le n most_statements && b) ≡ false
      none n b h = by (nat_le n most_statements) refl
        where
          by : (c : Bool) → nat_le n most_statements ≡ c → (c && b) ≡ false
          by true e = let le = leb-true n most_statements e in absurd (omega arith)
          by false e = refl
