-- The text of a code that can stand in a file: no instruction breaks a range, and its lines follow each other as the grammar has it.
use Rattle.std.proofs.Common.{◌≡◌, ℕ, suc, ◌+◌, ◌-◌, ◌<◌, ◌≤◌, max, nat_le, Bool, true, false, ◌&&◌, ◌||◌, not, if◌then◌else◌, List, [], ◌∷◌, map, Some, None, refl, sym, ap, subst, ◌∙◌, arith}
use Rattle.std.specs.List.{list_any}
use Rattle.std.proofs.lemmas.Bool.Decides.{nat_tests}
use Rattle.vd_base.specs.HostSets.{host}
use Rattle.vd_base.specs.Limits.{most_open_blocks}
use Rattle.vd_base.specs.declared.ids.HostId.{HostId}
use Rattle.vd_execution.specs.declared.instructions.Action.{Action}
use Rattle.vd_execution.specs.declared.instructions.Action.TheVariants as action
use Rattle.vd_execution.specs.declared.instructions.Instr.{Instr}
use Rattle.vd_execution.specs.declared.instructions.Instr.TheVariants as instr
use Rattle.vd_execution.specs.Code.{Code, Finished, Then, Send, Recv, Choose, Repeat}
use Rattle.vd_execution.specs.Ranges.{depth}
use Rattle.vd_execution.specs.Text.{register, text}
use Rattle.vd_hostcode.specs.declared.host_text.blocks.Arrays.{Arrays}
use Rattle.vd_hostcode.specs.declared.host_text.blocks.Arrays.TheVariants as arrays
use Rattle.vd_hostcode.specs.declared.host_text.blocks.Block.{Block}
use Rattle.vd_hostcode.specs.declared.host_text.blocks.Block.TheVariants as block
use Rattle.vd_hostcode.specs.Words.{is_array, word_of}
use Rattle.vd_hostcode.specs.Lines.{Line, line_of, HasNumbers, State, may_array, may_stop, Leads, start}
use Rattle.vd_hostcode.specs.File.{has_arrays, from_version}
use Rattle.vd_hostcode.specs.Ranges.{is_within, opens, breaks, open_behind, numbers, first_broken}
use Rattle.vd_projection.proofs.Instrs.{AllCanStand}

-- ---- no instruction breaks a range

abbrev AllKept : ℕ → HostId → ℕ → List Instr → Type 0
AllKept hosts me before [] = Unit {0}
AllKept hosts me before (i ∷ is) = (breaks hosts me before i ≡ false) × AllKept hosts me (open_behind before i) is

none_breaks : (hosts : ℕ) (me : HostId) (numbered before : ℕ) (is : List Instr) → AllKept hosts me before is → first_broken hosts me numbered before is ≡ None
none_breaks hosts me numbered before [] k = refl
none_breaks hosts me numbered before (i ∷ is) k =
    ap (λ (b : Bool). if b then Some numbered else first_broken hosts me (numbered + numbers i) (open_behind before i) is) k.0
    ∙ none_breaks hosts me (numbered + numbers i) (open_behind before i) is k.1

kept_plain : (hosts : ℕ) (me : HostId) (before : ℕ) (i : Instr) → is_within hosts me i ≡ true → opens i ≡ false → breaks hosts me before i ≡ false
kept_plain hosts me before i w o = ap (λ (b : Bool). not b || (opens i && nat_le most_open_blocks before)) w ∙ ap (λ (b : Bool). b && nat_le most_open_blocks before) o

kept_open : (hosts : ℕ) (me : HostId) (before : ℕ) (i : Instr) → is_within hosts me i ≡ true → opens i ≡ true → before < most_open_blocks → breaks hosts me before i ≡ false
kept_open hosts me before i w o lt =
    ap (λ (b : Bool). not b || (opens i && nat_le most_open_blocks before)) w ∙ ap (λ (b : Bool). b && nat_le most_open_blocks before) o ∙ not_yet before lt
  where
    not_yet : (n : ℕ) → n < 512 → nat_le 512 n ≡ false
    not_yet n lt = grind (arith, nat_tests)

closed : (hosts : ℕ) (me : HostId) (before : ℕ) (is : List Instr) → AllKept hosts me before is → AllKept hosts me (before + 1 - 1) is
closed hosts me before is k = let same : before ≡ before + 1 - 1 = omega arith in subst (λ (n : ℕ). AllKept hosts me n is) same k

module _ (hosts h : ℕ) where
  kept : (c : Code) (before : ℕ) (behind : List Instr) → AllCanStand hosts h c → before + depth c ≤ most_open_blocks → AllKept hosts (host h) before behind
      → AllKept hosts (host h) before (text c behind)
  kept Finished before behind s le k = k
  kept (Then a c) before behind s le k = (kept_plain hosts (host h) before (instr.Do a) s.0.within refl, kept c before behind s.1 le k)
  kept (Send p rs c) before behind s le k = (kept_plain hosts (host h) before (instr.Send (host p) rs) s.0.within refl, kept c before behind s.1 le k)
  kept (Recv p rs c) before behind s le k = (kept_plain hosts (host h) before (instr.Recv (host p) rs) s.0.within refl, kept c before behind s.1 le k)
  kept (Choose g first other c) before behind s le k =
      let rest = kept c before behind s.1.1.1 (last (depth first) (depth other) (depth c) le) k in (
        kept_open hosts (host h) before (instr.If (register g)) s.0.within refl (room (depth first) (depth other) (depth c) le),
        kept first (before + 1) (instr.Else ∷ text other (instr.End ∷ text c behind)) s.1.0 (one (depth first) (depth other) (depth c) le)
            (refl, kept other (before + 1) (instr.End ∷ text c behind) s.1.1.0 (two (depth first) (depth other) (depth c) le) (refl, closed hosts (host h) before (text c behind) rest)),
      )
    where
      room : (a b d : ℕ) → before + max (suc (max a b)) d ≤ most_open_blocks → before < most_open_blocks
      room a b d le = omega (arith, le)

      one : (a b d : ℕ) → before + max (suc (max a b)) d ≤ most_open_blocks → before + 1 + a ≤ most_open_blocks
      one a b d le = omega (arith, le)

      two : (a b d : ℕ) → before + max (suc (max a b)) d ≤ most_open_blocks → before + 1 + b ≤ most_open_blocks
      two a b d le = omega (arith, le)

      last : (a b d : ℕ) → before + max (suc (max a b)) d ≤ most_open_blocks → before + d ≤ most_open_blocks
      last a b d le = omega (arith, le)
  kept (Repeat r turn count body c) before behind s le k =
      let rest = kept c before behind s.1.1 (last (depth body) (depth c) le) k in (
        kept_open hosts (host h) before (instr.For (register r) count) s.0.within refl (room (depth body) (depth c) le),
        kept body (before + 1) (instr.End ∷ text c behind) s.1.0 (one (depth body) (depth c) le) (refl, closed hosts (host h) before (text c behind) rest),
      )
    where
      room : (a d : ℕ) → before + max (suc a) d ≤ most_open_blocks → before < most_open_blocks
      room a d le = omega (arith, le)

      one : (a d : ℕ) → before + max (suc a) d ≤ most_open_blocks → before + 1 + a ≤ most_open_blocks
      one a d le = omega (arith, le)

      last : (a d : ℕ) → before + max (suc a) d ≤ most_open_blocks → before + d ≤ most_open_blocks
      last a d le = omega (arith, le)

  pub none_broken : (c : Code) → AllCanStand hosts h c → depth c ≤ most_open_blocks → first_broken hosts (host h) 0 0 (text c []) ≡ None
  none_broken c s le = none_breaks hosts (host h) 0 0 (text c []) (kept c 0 [] s (omega (arith, le)) tt)

-- ---- instructions on arrays

abbrev arrays_after : Arrays → Instr → Arrays
arrays_after a i = if is_array i then arrays.Free else a

-- they come only where they may, and where one must come it does
abbrev ArraysMay : Arrays → List Instr → Type 0
ArraysMay a [] = may_stop a ≡ true
ArraysMay a (i ∷ is) = (is_array i ≡ true → may_array a ≡ true) × ArraysMay (arrays_after a i) is

once_free : (is : List Instr) → ArraysMay arrays.Free is
once_free [] = refl
once_free (i ∷ is) = ((λ e. refl), at (is_array i) (once_free is))
  where
    at : (b : Bool) → ArraysMay arrays.Free is → ArraysMay (if b then arrays.Free else arrays.Free) is
    at true m = m
    at false m = m

none_come : (is : List Instr) → list_any is_array is ≡ false → ArraysMay arrays.Never is
none_come [] e = refl
none_come (i ∷ is) e = at (λ k. none_come is k) (is_array i) refl e
  where
    at : (list_any is_array is ≡ false → ArraysMay arrays.Never is) → (b : Bool) → is_array i ≡ b → (b || list_any is_array is) ≡ false
        → (is_array i ≡ true → may_array arrays.Never ≡ true) × ArraysMay (if is_array i then arrays.Free else arrays.Never) is
    at again true f g = cc
    at again false f g = ((λ t. cc), subst (λ (b : Bool). ArraysMay (if b then arrays.Free else arrays.Never) is) (sym f) (again g))

one_comes : (is : List Instr) → list_any is_array is ≡ true → ArraysMay arrays.Owed is
one_comes [] e = cc
one_comes (i ∷ is) e = ((λ t. refl), at (λ k. one_comes is k) (is_array i) e)
  where
    at : (list_any is_array is ≡ true → ArraysMay arrays.Owed is) → (b : Bool) → (b || list_any is_array is) ≡ true → ArraysMay (if b then arrays.Free else arrays.Owed) is
    at again true g = once_free is
    at again false g = again g

arrays_may : (is : List Instr) → ArraysMay (from_version (list_any is_array is)) is
arrays_may is = at (list_any is_array is) refl
  where
    at : (b : Bool) → list_any is_array is ≡ b → ArraysMay (if b then arrays.Owed else arrays.Never) is
    at true e = one_comes is e
    at false e = none_come is e

-- ---- the order of lines

abbrev state : Arrays → List Block → State
state a bs = record { arrays = a; blocks = bs }

abbrev lines : List Instr → List Line
lines is = map line_of is

do_leads : (x : Action) (a : Arrays) (bs : List Block) (ls : List Line) → (is_array (instr.Do x) ≡ true → may_array a ≡ true) → HasNumbers (word_of (instr.Do x)) (line_of (instr.Do x)).numbers
    → Leads (state (arrays_after a (instr.Do x)) bs) ls → Leads (state a bs) (line_of (instr.Do x) ∷ ls)
do_leads (action.Const r k) a bs ls m n l = (refl, (n, (refl, l)))
do_leads (action.Copy r x) a bs ls m n l = (refl, (n, (refl, l)))
do_leads (action.Apply o r x y) a bs ls m n l = (refl, (n, (refl, l)))
do_leads (action.Shl r x k) a bs ls m n l = (refl, (n, (refl, l)))
do_leads (action.Shr r x k) a bs ls m n l = (refl, (n, (refl, l)))
do_leads (action.Mux r c x y) a bs ls m n l = (refl, (n, (refl, l)))
do_leads (action.Own r) a bs ls m n l = (refl, (n, (refl, l)))
do_leads (action.Triple p x y z) a bs ls m n l = (refl, (n, (refl, l)))
do_leads (action.Bits p x y z) a bs ls m n l = (refl, (n, (refl, l)))
do_leads (action.Pair p s x) a bs ls m n l = (refl, (n, (refl, l)))
do_leads (action.Input r) a bs ls m n l = (refl, (n, (refl, l)))
do_leads (action.Print r) a bs ls m n l = (refl, (n, (refl, l)))
do_leads (action.Hash d k v) a bs ls m n l = (refl, (n, (refl, l)))
do_leads (action.Same x y) a bs ls m n l = (refl, (n, (refl, l)))
do_leads (action.Zero r count) a bs ls m n l = (m refl, (n, (refl, l)))
do_leads (action.Get r x count i) a bs ls m n l = (m refl, (n, (refl, l)))
do_leads (action.Put x count i s) a bs ls m n l = (m refl, (n, (refl, l)))

module _ (hosts h : ℕ) where
  -- where what stands behind leads to the end, whatever comes of arrays before
  abbrev LeadsBehind : List Block → List Instr → Type 0
  LeadsBehind bs is = (a : Arrays) → ArraysMay a is → Leads (state a bs) (lines is)

  leads : (c : Code) (bs : List Block) (behind : List Instr) → AllCanStand hosts h c → LeadsBehind bs behind → LeadsBehind bs (text c behind)
  leads Finished bs behind s f = f
  leads (Then x c) bs behind s f = λ a m. do_leads x a bs (lines (text c behind)) m.0 s.0.numbers (leads c bs behind s.1 f (arrays_after a (instr.Do x)) m.1)
  leads (Send p rs c) bs behind s f = λ a m. (refl, (s.0.numbers, (refl, leads c bs behind s.1 f a m.1)))
  leads (Recv p rs c) bs behind s f = λ a m. (refl, (s.0.numbers, (refl, leads c bs behind s.1 f a m.1)))
  leads (Choose g first other c) bs behind s f =
      let rest : LeadsBehind bs (text c behind) = leads c bs behind s.1.1.1 f in
      let last : LeadsBehind (block.Last ∷ bs) (instr.End ∷ text c behind) = λ a m. (refl, (nothing_behind, (refl, rest a m.1))) in
      let two : LeadsBehind (block.Last ∷ bs) (text other (instr.End ∷ text c behind)) = leads other (block.Last ∷ bs) (instr.End ∷ text c behind) s.1.1.0 last in
      let middle : LeadsBehind (block.First ∷ bs) (instr.Else ∷ text other (instr.End ∷ text c behind)) = λ a m. (refl, (nothing_else, (refl, two a m.1))) in
      let one = leads first (block.First ∷ bs) (instr.Else ∷ text other (instr.End ∷ text c behind)) s.1.0 middle in
      λ a m. (refl, (s.0.numbers, (refl, one a m.1)))
    where
      nothing_behind : HasNumbers (word_of instr.End) []
      nothing_behind = record { words = tt; enough = omega arith; exactly = λ e. refl }

      nothing_else : HasNumbers (word_of instr.Else) []
      nothing_else = record { words = tt; enough = omega arith; exactly = λ e. refl }
  leads (Repeat r turn count body c) bs behind s f =
      let rest : LeadsBehind bs (text c behind) = leads c bs behind s.1.1 f in
      let last : LeadsBehind (block.Last ∷ bs) (instr.End ∷ text c behind) = λ a m. (refl, (nothing_behind, (refl, rest a m.1))) in
      let one = leads body (block.Last ∷ bs) (instr.End ∷ text c behind) s.1.0 last in
      λ a m. (refl, (s.0.numbers, (refl, one a m.1)))
    where
      nothing_behind : HasNumbers (word_of instr.End) []
      nothing_behind = record { words = tt; enough = omega arith; exactly = λ e. refl }

  any_lines : (is : List Instr) → has_arrays (lines is) ≡ list_any is_array is
  any_lines [] = refl
  any_lines (i ∷ is) = ap (λ (b : Bool). is_array i || b) (any_lines is)

  pub text_leads : (c : Code) → AllCanStand hosts h c → Leads (start (from_version (has_arrays (lines (text c []))))) (lines (text c []))
  text_leads c s =
      subst (λ (b : Bool). Leads (start (from_version b)) (lines (text c []))) (sym (any_lines (text c [])))
      (leads c [] [] s (λ a m. (m, refl)) (from_version (list_any is_array (text c []))) (arrays_may (text c [])))
