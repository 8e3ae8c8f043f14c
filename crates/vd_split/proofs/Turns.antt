-- A turn of a loop over hosts or slots.
use Rattle.std.proofs.Common.{◌≡◌, ℕ, ◌+◌, ◌<◌, Bool, true, List, [], ◌∷◌, ◌++◌, length, drop, get_or, slice_index_or, refl, sym, ap, ◌∙◌, subst, length-append}
use Rattle.std.specs.List.{list_all}
use Rattle.std.proofs.lemmas.List.{drop_more}
use Rattle.vd_base.specs.declared.ids.HostId.{HostId}
use Rattle.vd_base.specs.declared.ids.SlotId.{SlotId}
use Rattle.vd_base.specs.declared.operations.Op.{Op}
use Rattle.vd_base.specs.declared.protocols.Proto.{Proto}
use Rattle.vd_core.specs.declared.normal.Right.TheVariants.{Apply}
use Rattle.vd_base.specs.declared.protocols.Proto.TheVariants.{Local}
use Rattle.vd_execution.specs.Gadgets.{Gadget}
use Rattle.vd_duet.specs.Builder.{Builder}
use Rattle.vd_duet.specs.Laws.{Each}
use Rattle.vd_split.specs.Suite.{Made, Calls}
use Rattle.vd_split.specs.Emission.{Emitting, delivered, all_moved, and_on, right_made}
use Rattle.vd_split.proofs.Lists.{and_right}
use Rattle.vd_split.specs.Lines.{called}
use Rattle.vd_split.specs.Places.{joined}
use Rattle.vd_split.proofs.Onto.{deliver_step, bring_step}

pub each_left : {X : Type 0} (Q : X → Type 0) (xs : List X) (i : ℕ) (d : X) → i < length xs → Each Q (drop i xs) → Each Q (drop (i + 1) xs)
each_left Q xs i d lt e = (subst (λ (l : List _). Each Q l) (drop_more xs i d lt) e).1

pub all_left : {X : Type 0} (f : X → Bool) (xs : List X) (i : ℕ) (d : X) → i < length xs → list_all f (drop i xs) ≡ true → list_all f (drop (i + 1) xs) ≡ true
all_left f xs i d lt e = and_right (f (get_or xs i d)) _ (subst (λ (l : List _). list_all f l ≡ true) (drop_more xs i d lt) e)

pub one_more : {X : Type 0} (xs ys : List X) (x : X) (n : ℕ) → ys ≡ xs ++ x ∷ [] → length xs ≡ n → length ys ≡ n + 1
one_more {X} xs ys x n is e = ap length is ∙ longer xs ∙ ap (λ (k : ℕ). k + 1) e
  where
    longer : (xs : List X) → length (xs ++ x ∷ []) ≡ length xs + 1
    longer xs = length-append xs (x ∷ [])

module _ {P : Type 0} (s : Calls Gadget P) (proto : ℕ → Proto) where
  pub deliver_turn : (p : Proto) (x : P) (hosts : List HostId) (i : ℕ) (d : HostId) (at at' : List (ℕ × ℕ)) (c : Builder) (goal : List (ℕ × ℕ) × Builder) (moved : P) (c' : Builder) → i < length hosts
      → (moved, c') ≡ called (s.move p (Local (get_or hosts i d)) x c.next) c → at' ≡ at ++ ((get_or hosts i d).0, s.register moved (get_or hosts i d).0) ∷ []
      → joined at (delivered s proto p x (drop i hosts) c.next) c ≡ goal → joined at' (delivered s proto p x (drop (i + 1) hosts) c'.next) c' ≡ goal
  deliver_turn p x hosts i d at at' c goal moved c' lt is more e =
      ap (λ (l : List (ℕ × ℕ)). joined l (delivered s proto p x (drop (i + 1) hosts) c'.next) c') more
      ∙ deliver_step s proto p x (get_or hosts i d) (drop (i + 1) hosts) at c goal (moved, c') is
      (ap (λ (l : List HostId). joined at (delivered s proto p x l c.next) c) (sym (drop_more hosts i d lt)) ∙ e)

  -- operands are moved alike in every loop
  moved_alike : (q : Proto) (next0 next : List ℕ) (held : List P) (l l' : List ℕ) (xs : List SlotId)
      → all_moved s proto q (record { next = next0; held = held; loop = l }) xs next ≡ all_moved s proto q (record { next = next0; held = held; loop = l' }) xs next
  moved_alike q next0 next held l l' [] = refl
  moved_alike q next0 next held l l' (x ∷ xs) =
      let one = s.move (proto x.0) q (slice_index_or held x.0 s.nowhere) next in
      ap (λ (r : Made Gadget (List P)). let m : Made Gadget (List P) = record { given = one.given ∷ r.given; acts = one.acts ++ r.acts; next = r.next } in m) (moved_alike q next0 one.next held l l' xs)

  pub apply_alike : (q : Proto) (o : Op) (xs : List SlotId) (held : List P) (l l' : List ℕ) (c : Builder) (r : P × Builder)
      → r ≡ called (right_made s proto q (Apply o xs) (record { next = c.next; held = held; loop = l })) c → r ≡ called (right_made s proto q (Apply o xs) (record { next = c.next; held = held; loop = l' })) c
  apply_alike q o xs held l l' c r e = e ∙ ap (λ (m : Made Gadget (List P)). called (and_on s proto m (s.apply o q)) c) (moved_alike q c.next c.next held l l' xs)

  pub move_turn : (q : Proto) (e : Emitting s proto) (slots : List SlotId) (i : ℕ) (d : SlotId) (all all' : List P) (c : Builder) (goal : List P × Builder) (moved : P) (c' : Builder) → i < length slots
      → (moved, c') ≡ called (s.move (proto (get_or slots i d).0) q (slice_index_or e.held (get_or slots i d).0 s.nowhere) c.next) c → all' ≡ all ++ moved ∷ []
      → joined all (all_moved s proto q e (drop i slots) c.next) c ≡ goal → joined all' (all_moved s proto q e (drop (i + 1) slots) c'.next) c' ≡ goal
  move_turn q e slots i d all all' c goal moved c' lt is more o =
      ap (λ (l : List P). joined l (all_moved s proto q e (drop (i + 1) slots) c'.next) c') more
      ∙ bring_step s proto q e (get_or slots i d) (drop (i + 1) slots) all c goal (moved, c') is
      (ap (λ (l : List SlotId). joined all (all_moved s proto q e l c.next) c) (sym (drop_more slots i d lt)) ∙ o)
