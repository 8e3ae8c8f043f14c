-- A walk that stops says so of the whole.
use Rattle.std.proofs.Common.{◌≡◌, ℕ, ◌+◌, ◌<◌, Bool, true, false, ◌||◌, if◌then◌else◌, List, [], ◌∷◌, ◌++◌, length, map, drop, get_or, sym, ap, ◌∙◌, arith, rules}
use Rattle.std.proofs.lemmas.List.{drop_more}
use Rattle.vd_base.specs.declared.ids.SlotId.{SlotId}
use Rattle.vd_core.specs.declared.normal.Right.{Right}
use Rattle.vd_core.specs.declared.normal.Slot.{Slot}
use Rattle.vd_core.specs.declared.normal.Stmt.{Stmt, If}
use Rattle.vd_core.specs.declared.normal.Stmt.TheFolds.{the_lemmas}
use Rattle.vd_rewrite.specs.declared.guard.Guard.{Guard}
use Rattle.vd_rewrite.specs.Rewriting.{Made, moved, Rewriting, run_all, is_some, guard_of, both_run, kept_if, block_more, emptied, is_hidden, Lets, rewriting}
use Rattle.vd_rewrite.specs.Stops.{size, IsTooLarge}
use Rattle.vd_rewrite.proofs.Sizes.{anything, body_more}
use Rattle.vd_rewrite.proofs.Shape.{Makes}

module _ (hides : SlotId → Bool) (lets : Lets) (deep : ℕ) (lets_make : (x : SlotId) (r : Right) (block : ℕ) (m : Made) → Makes anything m (lets x r block m) 0 deep) (old : List Slot) where
  abbrev the : Stmt → Rewriting
  the = rewriting hides lets old

  abbrev all : List Stmt → List Rewriting
  all body = map the body

  -- the statements from place k on, the first of which is this one
  rest_is : (body : List Stmt) (k : ℕ) (s : Stmt) → k < length body → s ≡ get_or body k s → drop k body ≡ s ∷ drop (k + 1) body
  rest_is body k s low is = drop_more body k s low ∙ ap (λ (z : Stmt). z ∷ drop (k + 1) body) (sym is)

  pub one_more : (gs : List Guard) (block : ℕ) (body : List Stmt) (k : ℕ) (s : Stmt) (m : Made) → k < length body → s ≡ get_or body k s
      → run_all (all (drop (k + 1) body)) gs block ((the s).run gs block m) ≡ run_all (all (drop k body)) gs block m
  one_more gs block body k s m low is = ap (λ (z : List Stmt). run_all (all z) gs block m) (sym (rest_is body k s low is))

  pub stops_in_list : (gs : List Guard) (block : ℕ) (body : List Stmt) (k : ℕ) (s : Stmt) (m start : Made) → k < length body → s ≡ get_or body k s
      → run_all (all (drop k body)) gs block m ≡ run_all (all body) gs block start → IsTooLarge ((the s).run gs block m) → IsTooLarge (run_all (all body) gs block start)
  stops_in_list gs block body k s m start low is inv large =
      let more = body_more hides lets deep lets_make old (drop (k + 1) body) gs block ((the s).run gs block m) in
      let same = ap size (one_more gs block body k s m low is ∙ inv) in
      omega arith

  module _ (gs : List Guard) (block : ℕ) (m : Made) (guard : SlotId) (a b : List Stmt) (offset : ℕ) where
    abbrev place : SlotId
    place = moved m.table guard

    abbrev flat : Bool
    flat = is_some gs || is_hidden hides guard (all a) (all b)

    run_if : (the (If guard a b offset)).run gs block m ≡ (if flat then both_run place (all a) (all b) offset gs block m else kept_if place (all a) (all b) offset m)
    run_if = search (rules, the_lemmas)

    module _ (s : Stmt) (is : s ≡ If guard a b offset) where
      whole_flat : flat ≡ true → (the s).run gs block m ≡ both_run place (all a) (all b) offset gs block m
      whole_flat e = ap (λ (z : Stmt). (the z).run gs block m) is ∙ run_if ∙ ap (λ (c : Bool). if c then both_run place (all a) (all b) offset gs block m else kept_if place (all a) (all b) offset m) e

      whole_kept : flat ≡ false → (the s).run gs block m ≡ kept_if place (all a) (all b) offset m
      whole_kept e = ap (λ (z : Stmt). (the z).run gs block m) is ∙ run_if ∙ ap (λ (c : Bool). if c then both_run place (all a) (all b) offset gs block m else kept_if place (all a) (all b) offset m) e

      pub stops_first : flat ≡ true → IsTooLarge (run_all (all a) (gs ++ guard_of true place offset ∷ []) block m) → IsTooLarge ((the s).run gs block m)
      stops_first e large =
          let m1 = run_all (all a) (gs ++ guard_of true place offset ∷ []) block m in
          let more = body_more hides lets deep lets_make old b (gs ++ guard_of false place offset ∷ []) block m1 in
          let same = ap size (whole_flat e) in
          omega arith

      pub stops_block : flat ≡ false → IsTooLarge (record { next = m.next; slots = m.slots; table = m.table; blocks = m.blocks + 1; body = m.body }) → IsTooLarge ((the s).run gs block m)
      stops_block e large =
          let p = run_all (all a) [] m.blocks (block_more m) in
          let more = body_more hides lets deep lets_make old a [] m.blocks (block_more m) in
          let more' = body_more hides lets deep lets_make old b [] m.blocks (emptied p) in
          let same = ap size (whole_kept e) in
          omega arith

      pub stops_then : flat ≡ false → IsTooLarge (run_all (all a) [] m.blocks (block_more m)) → IsTooLarge ((the s).run gs block m)
      stops_then e large =
          let p = run_all (all a) [] m.blocks (block_more m) in
          let more' = body_more hides lets deep lets_make old b [] m.blocks (emptied p) in
          let same = ap size (whole_kept e) in
          omega arith
