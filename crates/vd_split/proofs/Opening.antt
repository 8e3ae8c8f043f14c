-- A loop begins, host by host.
use Rattle.std.proofs.Common.{◌≡◌, ℕ, zero, suc, ◌+◌, ◌<◌, ◌≤◌, Bool, true, false, if◌then◌else◌, List, [], ◌∷◌, ◌++◌, length, take, drop, slice_index, slice_set, refl, sym, ap, ap₂, ◌∙◌, subst, arith, append_assoc, append-nil}
use Rattle.std.proofs.lemmas.List.{take_more_set, drop-set-lt}
use Rattle.vd_base.specs.HostSets.{host}
use Rattle.vd_execution.specs.declared.instructions.Line.{Line}
use Rattle.vd_execution.specs.declared.instructions.Line.TheVariants as line
use Rattle.vd_execution.specs.Text.{register}
use Rattle.vd_execution.specs.declared.instructions.Reg.{Reg}
use Rattle.vd_duet.specs.Builder.{Builder, marked, reserved, TakesAtMost}
use Rattle.vd_split.specs.Emission.{loop_registers, after_loop_registers}
use Rattle.vd_split.proofs.Loops.{after_known}
use Rattle.vd_split.specs.Lines.{for_lines}
use Rattle.vd_split.specs.Places.{opened_loop}
use Rattle.vd_split.proofs.Drops.{drop_next, drop_past}

pub record Opening (has : ℕ → Bool) (count : ℕ) (start : Builder) (loops : List (ℕ × ℕ)) (to : Builder) (number : ℕ) : Type 0 where
  pub marked : loops ++ loop_registers has number (drop number start.next) ≡ loop_registers has 0 start.next
  pub raised : take number to.next ++ after_loop_registers has number (drop number start.next) ≡ after_loop_registers has 0 start.next
  pub lines : to.lines ++ for_lines count (loop_registers has number (drop number start.next)) ≡ start.lines ++ for_lines count (loop_registers has 0 start.next)
  pub same : drop number to.next ≡ drop number start.next
  pub known : length to.next ≡ length start.next

first_of : (xs : List ℕ) (n : ℕ) → slice_index (drop n xs) 0 ≡ slice_index xs n
first_of [] zero = refl
first_of [] (suc n) = refl
first_of (x ∷ xs) zero = refl
first_of (x ∷ xs) (suc n) = first_of xs n

take_all : (xs : List ℕ) (n : ℕ) → length xs ≤ n → take n xs ≡ xs
take_all [] zero le = refl
take_all [] (suc n) le = refl
take_all (x ∷ xs) zero le = absurd (omega arith)
take_all (x ∷ xs) (suc n) le = ap (λ (l : List ℕ). x ∷ l) (take_all xs n (omega arith))

module _ (has : ℕ → Bool) (count : ℕ) (start : Builder) (loops : List (ℕ × ℕ)) (to : Builder) (number : ℕ) (o : Opening has count start loops to number) where
  pub opened : length start.next ≤ number → (loops, to) ≡ opened_loop has count start
  opened le =
      let none = drop_past start.next number le in
      ap₂ (λ (l : List (ℕ × ℕ)) (c : Builder). let r : List (ℕ × ℕ) × Builder = (l, c) in r) (sym (append-nil loops) ∙ ap (λ (z : List ℕ). loops ++ loop_registers has number z) (sym none) ∙ o.marked)
      (ap₂ (λ (a : List Line) (b : List ℕ). let r : Builder = record { lines = a; next = b } in r)
      (sym (append-nil to.lines) ∙ ap (λ (z : List ℕ). to.lines ++ for_lines count (loop_registers has number z)) (sym none) ∙ o.lines)
      (sym (take_all to.next number (subst (λ (n : ℕ). n ≤ number) (sym o.known) le)) ∙ sym (append-nil (take number to.next)) ∙ ap (λ (z : List ℕ). take number to.next ++ after_loop_registers has number z) (sym none) ∙ o.raised))

  abbrev r : ℕ
  r = slice_index to.next number

  abbrev rest : List ℕ
  rest = drop (number + 1) start.next

  pub as_before : r ≡ slice_index start.next number
  as_before = sym (first_of to.next number) ∙ ap (λ (l : List ℕ). slice_index l 0) o.same ∙ first_of start.next number

  next_is : number < length start.next → drop number start.next ≡ r ∷ rest
  next_is lt = drop_next start.next number 0 lt ∙ ap (λ (k : ℕ). k ∷ rest) (sym as_before)

  registers : (b : Bool) → number < length start.next → has number ≡ b → loop_registers has number (drop number start.next) ≡ (if b then (number, r) ∷ loop_registers has (number + 1) rest else loop_registers has (number + 1) rest)
  registers b lt is = ap (loop_registers has number) (next_is lt) ∙ ap (λ (t : Bool). if t then (number, r) ∷ loop_registers has (number + 1) rest else loop_registers has (number + 1) rest) is

  after : (b : Bool) → number < length start.next → has number ≡ b → after_loop_registers has number (drop number start.next) ≡ (if b then r + 1 else r) ∷ after_loop_registers has (number + 1) rest
  after b lt is = ap (after_loop_registers has number) (next_is lt) ∙ ap (λ (t : Bool). (if t then r + 1 else r) ∷ after_loop_registers has (number + 1) rest) is

  shorter : number < length start.next → number < length to.next
  shorter lt = subst (λ (n : ℕ). number < n) (sym o.known) lt

  left : number < length start.next → drop (number + 1) to.next ≡ rest
  left lt = tails (sym (drop_next to.next number 0 (shorter lt)) ∙ o.same ∙ next_is lt)
    where
      tail : List ℕ → List ℕ
      tail [] = []
      tail (x ∷ xs) = xs

      tails : {x y : ℕ} {xs ys : List ℕ} → x ∷ xs ≡ y ∷ ys → xs ≡ ys
      tails e = cc

  opening_yes : (loops' : List (ℕ × ℕ)) (to' : Builder) → number < length start.next → has number ≡ true → loops' ≡ loops ++ (number, r) ∷ []
      → to' ≡ marked (line.For (host number) (register r) count) (record { lines = to.lines; next = slice_set to.next number (r + 1) }) → Opening has count start loops' to' (number + 1)
  opening_yes loops' to' lt is more marks =
      let c1 : Builder = marked (line.For (host number) (register r) count) (record { lines = to.lines; next = slice_set to.next number (r + 1) }) in
      let rest_registers = loop_registers has (number + 1) rest in
      subst (λ (c : Builder). Opening has count start loops' c (number + 1)) (sym marks) (subst (λ (l : List (ℕ × ℕ)). Opening has count start l c1 (number + 1)) (sym more) (record {
        marked = append_assoc loops ((number, r) ∷ []) rest_registers ∙ ap (λ (l : List (ℕ × ℕ)). loops ++ l) (sym (registers true lt is)) ∙ o.marked;
        raised =
            ap (λ (l : List ℕ). l ++ after_loop_registers has (number + 1) rest) (take_more_set to.next number (r + 1) (shorter lt)) ∙ append_assoc (take number to.next) ((r + 1) ∷ []) (after_loop_registers has (number + 1) rest)
            ∙ ap (λ (l : List ℕ). take number to.next ++ l) (sym (after true lt is)) ∙ o.raised;
        lines =
            append_assoc to.lines (line.For (host number) (register r) count ∷ []) (for_lines count rest_registers)
            ∙ ap (λ (l : List (ℕ × ℕ)). to.lines ++ for_lines count l) (sym (registers true lt is)) ∙ o.lines;
        same = drop-set-lt (number + 1) to.next number (r + 1) (omega arith) ∙ left lt;
        known = length_set to.next number (r + 1) ∙ o.known;
      }))
    where
      length_set : (xs : List ℕ) (n y : ℕ) → length (slice_set xs n y) ≡ length xs
      length_set [] zero y = refl
      length_set [] (suc n) y = refl
      length_set (x ∷ xs) zero y = refl
      length_set (x ∷ xs) (suc n) y = ap suc (length_set xs n y)

  opening_no : number < length start.next → has number ≡ false → Opening has count start loops to (number + 1)
  opening_no lt is = record {
    marked = ap (λ (l : List (ℕ × ℕ)). loops ++ l) (sym (registers false lt is)) ∙ o.marked;
    raised =
        ap (λ (l : List ℕ). l ++ after_loop_registers has (number + 1) rest) (ap (λ (k : ℕ). take k to.next) (after_number number) ∙ take_next to.next number (shorter lt))
        ∙ append_assoc (take number to.next) (r ∷ []) (after_loop_registers has (number + 1) rest) ∙ ap (λ (l : List ℕ). take number to.next ++ l) (sym (after false lt is)) ∙ o.raised;
    lines = ap (λ (l : List (ℕ × ℕ)). to.lines ++ for_lines count l) (sym (registers false lt is)) ∙ o.lines;
    same = left lt;
    known = o.known;
  }
    where
      after_number : (n : ℕ) → n + 1 ≡ suc n
      after_number n = omega arith

      take_next : (xs : List ℕ) (n : ℕ) → n < length xs → take (suc n) xs ≡ take n xs ++ slice_index xs n ∷ []
      take_next [] n lt = absurd (omega arith)
      take_next (x ∷ xs) zero lt = refl
      take_next (x ∷ xs) (suc n) lt = ap (λ (l : List ℕ). x ∷ l) (take_next xs n (omega arith))

  pub opening_taken : (reg : Reg) (b : Builder) (loops' : List (ℕ × ℕ)) (to' : Builder) → number < length start.next → has number ≡ true → (reg, b) ≡ reserved (host number) 1 to → loops' ≡ loops ++ (number, reg.0) ∷ []
      → to' ≡ marked (line.For (host number) reg count) b → Opening has count start loops' to' (number + 1)
  opening_taken reg b loops' to' lt is e more marks =
      opening_yes loops' to' lt is (more ∙ ap (λ (z : Reg × Builder). loops ++ (number, z.0.0) ∷ []) e) (marks ∙ ap (λ (z : Reg × Builder). marked (line.For (host number) z.0 count) z.1) e)

  pub opening_passed : (loops' : List (ℕ × ℕ)) (to' : Builder) → number < length start.next → has number ≡ false → loops' ≡ loops → to' ≡ to → Opening has count start loops' to' (number + 1)
  opening_passed loops' to' lt is e f =
      subst (λ (l : List (ℕ × ℕ)). Opening has count start l to' (number + 1)) (sym e) (subst (λ (c : Builder). Opening has count start loops c (number + 1)) (sym f) (opening_no lt is))

raised_by : (has : ℕ → Bool) (k : ℕ) (next : List ℕ) (h : ℕ) → slice_index (after_loop_registers has k next) h ≤ slice_index next h + 1
raised_by has k [] h = at h
  where
    at : (h : ℕ) → slice_index (after_loop_registers has k []) h ≤ slice_index [] h + 1
    at h = omega arith
raised_by has k (r ∷ rs) zero = at (has k)
  where
    at : (b : Bool) → (if b then r + 1 else r) ≤ r + 1
    at true = omega arith
    at false = omega arith
raised_by has k (r ∷ rs) (suc h) = raised_by has (k + 1) rs h

-- a loop takes at most one register of each host
pub loop_takes : (has : ℕ → Bool) (count : ℕ) (loops : List (ℕ × ℕ)) (start to : Builder) → (loops, to) ≡ opened_loop has count start → TakesAtMost 1 start.next to.next
loop_takes has count loops start to is =
    subst (TakesAtMost 1 start.next) (sym (ap (λ (z : List (ℕ × ℕ) × Builder). z.1.next) is)) (after_known has 0 start.next, raised_by has 0 start.next)
