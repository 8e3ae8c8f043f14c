-- Who takes part in statements, one after another.
use Rattle.std.proofs.Common.{◌≡◌, ℕ, suc, ◌+◌, ◌<◌, Bool, true, false, ◌||◌, List, [], ◌∷◌, ◌++◌, length, get_or, drop, map, refl, sym, ap, ◌∙◌, rules, add-one, drop-cons}
use Rattle.vd_base.specs.declared.ids.HostId.{HostId}
use Rattle.vd_base.specs.declared.ids.SlotId.{SlotId}
use Rattle.vd_base.specs.declared.protocols.Proto.{Proto}
use Rattle.vd_base.specs.declared.protocols.Proto.TheVariants.{Local}
use Rattle.vd_base.specs.HostSets.{host}
use Rattle.vd_core.specs.declared.normal.Stmt.{Stmt}
use Rattle.vd_core.specs.declared.normal.Stmt.TheVariants.{If, For}
use Rattle.vd_core.specs.declared.normal.Stmt.TheOpen.{Stmt-F}
use Rattle.vd_core.specs.declared.normal.Stmt.TheFolds.{the_lemmas}
use Rattle.vd_core.specs.declared.normal.NormalForm.{NormalForm}
use Rattle.vd_draw_rows.specs.declared.row.Move.{Move}
use Rattle.vd_draw_rows.specs.Moves.{kept_at, move_of, told_if, told_to}
use Rattle.vd_draw_rows.specs.Rows.{all_named, all_told, drawn_step, drawn}
use Rattle.vd_draw_rows.specs.Parts.{part_of, part_of_all}
use Rattle.vd_draw_rows.proofs.Terms.{part_of_both}

pub at_item : (body : List Stmt) (i : ℕ) (s : Stmt) → i < length body → s ≡ get_or body i s → drop i body ≡ s ∷ drop (i + 1) body
at_item body i s low is = rw (add-one i) (drop-cons body i s low ∙ ap (λ x. x ∷ drop (suc i) body) (sym is))

or_false : (b : Bool) → (b || false) ≡ b
or_false true = refl
or_false false = refl

module _ (source : List ℕ) (p : NormalForm) (list : List Proto) where
  drawn_if : (g : SlotId) (a b : List Stmt) (offset : ℕ) → drawn source p list (If g a b offset) ≡ drawn_step source p list (Stmt-F.If g (map (drawn source p list) a) (map (drawn source p list) b) offset)
  drawn_if g a b offset = search (rules, the_lemmas)

  drawn_for : (count : ℕ) (body : List Stmt) → drawn source p list (For count body) ≡ drawn_step source p list (Stmt-F.For count (map (drawn source p list) body))
  drawn_for count body = search (rules, the_lemmas)

  -- the first statement, and those behind it
  pub part_next : (h : HostId) (body : List Stmt) (i : ℕ) (s : Stmt) → i < length body → s ≡ get_or body i s
      → part_of_all list h (map (drawn source p list) (drop i body)) ≡ (part_of list h (drawn source p list s) || part_of_all list h (map (drawn source p list) (drop (i + 1) body)))
  part_next h body i s low is =
      let rest = map (drawn source p list) (drop (i + 1) body) in
      ap (λ b. part_of_all list h (map (drawn source p list) b)) (at_item body i s low is)
      ∙ sym (part_of_both list 0 h (drawn source p list s).named (all_named rest) (drawn source p list s).told (all_told rest))

  -- a branch: its guard, and its blocks
  part_if : (h : HostId) (g : SlotId) (a b : List Stmt) (offset : ℕ)
      → part_of list h (drawn source p list (If g a b offset)) ≡ (kept_at list h g || (part_of_all list h (map (drawn source p list) a) || part_of_all list h (map (drawn source p list) b)))
  part_if h g a b offset =
      let first = map (drawn source p list) a in
      let other = map (drawn source p list) b in
      ap (part_of list h) (drawn_if g a b offset)
      ∙ sym (part_of_both list 0 h (g ∷ []) (all_named first ++ all_named other) [] (all_told first ++ all_told other))
      ∙ (λ i. or_false (kept_at list h g) i || sym (part_of_both list 0 h (all_named first) (all_named other) (all_told first) (all_told other)) i)

  pub part_for : (h : HostId) (count : ℕ) (body : List Stmt) → part_of list h (drawn source p list (For count body)) ≡ part_of_all list h (map (drawn source p list) body)
  part_for h count body = ap (part_of list h) (drawn_for count body)

  abbrev block_part : HostId → List Stmt → Bool
  block_part h body = part_of_all list h (map (drawn source p list) body)

  -- a host that has not the guard and takes part in the first block; and one that is left to the other block
  pub part_if_first : (h : HostId) (g : SlotId) (a b : List Stmt) (offset : ℕ) (seen : List Stmt) (kept first : Bool) → kept ≡ kept_at list h g → kept ≡ false → seen ≡ a → first ≡ block_part h seen → first ≡ true
      → true ≡ part_of list h (drawn source p list (If g a b offset))
  part_if_first h g a b offset seen kept first kept_is none same first_is some =
      sym (part_if h g a b offset ∙ (λ i. (sym kept_is ∙ none) i || ((ap (block_part h) (sym same) ∙ sym first_is ∙ some) i || block_part h b)))

  pub part_if_other : (h : HostId) (g : SlotId) (a b : List Stmt) (offset : ℕ) (seen others : List Stmt) (kept first result : Bool) → kept ≡ kept_at list h g → kept ≡ false → seen ≡ a → first ≡ block_part h seen → first ≡ false
      → others ≡ b → result ≡ block_part h others → result ≡ part_of list h (drawn source p list (If g a b offset))
  part_if_other h g a b offset seen others kept first result kept_is none same first_is not_first same_b result_is =
      result_is ∙ ap (block_part h) same_b
      ∙ sym (part_if h g a b offset ∙ (λ i. (sym kept_is ∙ none) i || ((ap (block_part h) (sym same) ∙ sym first_is ∙ not_first) i || block_part h b)))

  -- ---- a guard is told to the hosts that take part, one after another

  pub told_next : (g : SlotId) (test : HostId → Bool) (n : ℕ) (moves after : List Move) (b : Bool) → moves ≡ told_to list g test n → b ≡ test (host n) → after ≡ moves ++ told_if b (move_of list g (Local (host n)))
      → after ≡ told_to list g test (n + 1)
  told_next g test n moves after b so_far is step = step ∙ (λ i. so_far i ++ told_if (is i) (move_of list g (Local (host n)))) ∙ ap (told_to list g test) (sym (add-one n))
