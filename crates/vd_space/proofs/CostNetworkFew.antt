-- The problem of a program has few arcs: the branches of its guards name few slots.
use Rattle.std.proofs.Common.{◌≡◌, ℕ, suc, ◌+◌, ◌*◌, ◌<◌, ◌≤◌, Bool, true, ◌&&◌, List, [], ◌∷◌, ◌++◌, map, filter, flat_map, length, refl, sym, ap, ◌∙◌, subst, subst₂, arith, length-append, inl, inr}
use Rattle.std.specs.Prelude.{sum}
use Rattle.std.specs.List.{AllByRecursion, list_all, range_with_len}
use Rattle.std.proofs.lemmas.List.{length-map}
use Rattle.std.proofs.lemmas.List.FromFn.{length-range_with_len}
use Rattle.std.proofs.lemmas.List.Sums.{sum_by-cons}
use Rattle.std.proofs.lemmas.Bool.{and_parts, eqb-true, cases_Bool, cond-true, cond-false}
use Rattle.vd_base.specs.Arity.{arity}
use Rattle.vd_base.specs.declared.ids.HostId.{HostId}
use Rattle.vd_base.specs.declared.ids.SlotId.{SlotId}
use Rattle.vd_base.specs.HostSets.{host}
use Rattle.vd_core.specs.Facts.{IsWellMade, of_rights, operands_fit, blocks_meet, meets, all_meet, count_step, count_of, statement_count}
use Rattle.vd_core.specs.declared.normal.NormalForm.{NormalForm}
use Rattle.vd_core.specs.declared.normal.Right.{Right}
use Rattle.vd_core.specs.declared.normal.Right.TheVariants.{Lit, Turn, Copy, Apply, Input, Declassify, Endorse, Load, Get}
use Rattle.vd_core.specs.declared.normal.Stmt.{Stmt, roll-Stmt, map-Stmt, ind-Stmt}
use Rattle.vd_core.specs.declared.normal.Stmt.TheOpen.{Stmt-F}
use Rattle.vd_core.specs.declared.normal.Stmt.TheFolds.{fold-roll-Stmt}
use Rattle.vd_constraints.specs.declared.labels.Labels.{Labels}
use Rattle.vd_space.specs.declared.problem.Problem.{Problem}
use Rattle.vd_space.specs.declared.problem.Guard.{Guard}
use Rattle.vd_space.specs.Labelled.{IsLabelled}
use Rattle.vd_space.specs.Reading.{Read, all_parts, all_named, guard_of, named_by, read_step, read_stmt, problem_of}
use Rattle.vd_space.specs.Sizes.{IsWithinLimits}
use Rattle.vd_space.specs.Costs.{pairs, use_term, index_term}
use Rattle.vd_space.specs.Validity.{all_hosts}
use Rattle.vd_space.proofs.Weighed.{few_operands}
use Rattle.vd_space.proofs.Sized.{is_within_limits}
use Rattle.vd_space.proofs.Valued.{each_map}
use Rattle.vd_space.proofs.Tests.{each_leads}
use Rattle.vd_space.specs.Points.{Switch, switch_of, switches, may_bring, members}
use Rattle.vd_space.specs.Arcs.{in_parts, arcs, arcs_from, member_arc, switch_arcs}
use Rattle.vd_space.proofs.Items.{each_flat}

-- ---- the branches of guards name few slots

count_next : (n : ℕ) (ns : List ℕ) → sum (n ∷ ns) ≡ n + sum ns
count_next n ns = sum_by-cons (λ (k : ℕ). k) n ns

both : {X : Type 0} (P : X → Type 0) (xs ys : List X) → AllByRecursion P xs → AllByRecursion P ys → AllByRecursion P (xs ++ ys)
both P [] ys first second = second
both P (x ∷ xs) ys first second = (first.0, both P xs ys first.1 second)

-- what statements name, where they are so many
record NameFew (count : ℕ) (named : List SlotId) (guards : List Guard) : Type 0 where
  few : length named ≤ 4 * count
  each : AllByRecursion (λ (guard : Guard). length guard.slots ≤ 4 * count) guards

raised : (m n : ℕ) (guards : List Guard) → m ≤ n → AllByRecursion (λ (guard : Guard). length guard.slots ≤ 4 * m) guards → AllByRecursion (λ (guard : Guard). length guard.slots ≤ 4 * n) guards
raised m n guards low each = each_leads (λ (guard : Guard). length guard.slots ≤ 4 * m) (λ (guard : Guard). length guard.slots ≤ 4 * n) (λ guard few. omega (arith, few, low)) guards each

joined_few : (m n : ℕ) (xs ys : List SlotId) (gs hs : List Guard) → NameFew m xs gs → NameFew n ys hs → NameFew (m + n) (xs ++ ys) (gs ++ hs)
joined_few m n xs ys gs hs first second =
    let size = length-append xs ys in
    let a = first.few in
    let b = second.few in
    record {
      few = omega (arith, size, a, b);
      each = both (λ (guard : Guard). length guard.slots ≤ 4 * (m + n)) gs hs (raised m (m + n) gs (omega arith) first.each) (raised n (m + n) hs (omega arith) second.each);
    }

named_few : (x : SlotId) (r : Right) → operands_fit r ≡ true → length (x ∷ named_by r) ≤ 4
named_few x (Lit k) fits = omega arith
named_few x Turn fits = omega arith
named_few x (Copy y) fits = omega arith
named_few x (Apply o ys) fits =
    let many : length ys ≡ arity o = eqb-true (length ys) (arity o) fits in
    let three = few_operands o in
    omega (arith, many, three)
named_few x (Input h) fits = omega arith
named_few x (Declassify y to) fits = omega arith
named_few x (Endorse y to) fits = omega arith
named_few x (Load v) fits = omega arith
named_few x (Get v i) fits = omega arith

named_append : (a b : List Read) → all_named (a ++ b) ≡ all_named a ++ all_named b
named_append [] b = refl
named_append (read ∷ a) b = ap (λ rest. read.named ++ rest) (named_append a b) ∙ sym (append_three read.named (all_named a) (all_named b))
  where
    append_three : (xs ys zs : List SlotId) → (xs ++ ys) ++ zs ≡ xs ++ (ys ++ zs)
    append_three [] ys zs = refl
    append_three (x ∷ xs) ys zs = ap (λ rest. x ∷ rest) (append_three xs ys zs)

module _ (l : Labels) where
  abbrev IsFew : Bool → Read → ℕ → Type 0
  IsFew fits read count = fits ≡ true → (weight : ℕ) → NameFew count read.named (read.parts weight).guards

  abbrev fits_step : Stmt-F Bool → Bool
  fits_step s = of_rights operands_fit s && blocks_meet s

  abbrev fits_stmt : Stmt → Bool
  fits_stmt = meets (of_rights operands_fit)

  abbrev M : Type 0
  M = (s : Stmt) × IsFew (fits_stmt s) (read_stmt l s) (count_of s)

  abbrev statements : List M → List Stmt
  statements = map {B = Stmt} (λ (m : M). m.0)

  abbrev layer : Stmt-F M → Stmt-F Stmt
  layer = map-Stmt M Stmt (λ m. m.0)

  next_few : (read : Read) (count : ℕ) (reads : List Read) (counts : List ℕ) (weight : ℕ) → NameFew count read.named (read.parts weight).guards → NameFew (sum counts) (all_named reads) (all_parts reads weight).guards
      → NameFew (sum (count ∷ counts)) (all_named (read ∷ reads)) (all_parts (read ∷ reads) weight).guards
  next_few read count reads counts weight few rest =
      subst (λ n. NameFew n (all_named (read ∷ reads)) (all_parts (read ∷ reads) weight).guards) (sym (count_next count counts))
      (joined_few count (sum counts) read.named (all_named reads) (read.parts weight).guards (all_parts reads weight).guards few rest)

  none_few : (n : ℕ) → NameFew n [] []
  none_few n = record { few = omega arith; each = tt }

  all_few : (ms : List M) → list_all (λ b. b) (map fits_stmt (statements ms)) ≡ true → (weight : ℕ) → NameFew (sum (map count_of (statements ms))) (all_named (map (read_stmt l) (statements ms))) (all_parts (map (read_stmt l) (statements ms)) weight).guards
  all_few [] fits weight = none_few 0
  all_few (m ∷ ms) fits weight =
      let parts = and_parts (fits_stmt m.0) (list_all (λ b. b) (map fits_stmt (statements ms))) fits in
      next_few (read_stmt l m.0) (count_of m.0) (map (read_stmt l) (statements ms)) (map count_of (statements ms)) weight (m.1 parts.0 weight) (all_few ms parts.1 weight)

  if_few : (y : SlotId) (weight : ℕ) (a b : List Read) (m n : ℕ) → NameFew m (all_named a) (all_parts a weight).guards → NameFew n (all_named b) (all_parts b weight).guards
      → NameFew (1 + m + n) ((y ∷ all_named a) ++ all_named b) (guard_of y weight (a ++ b) ∷ ((all_parts a weight).guards ++ (all_parts b weight).guards))
  if_few y weight a b m n first second =
      let inner = joined_few m n (all_named a) (all_named b) (all_parts a weight).guards (all_parts b weight).guards first second in
      let size = length-append (y ∷ all_named a) (all_named b) in
      let own = ap length (named_append a b) in
      let whole = length-append (all_named a) (all_named b) in
      let f = first.few in
      let s = second.few in
      record {
        few = omega (arith, size, f, s);
        each = (omega (arith, own, whole, f, s), raised (m + n) (1 + m + n) ((all_parts a weight).guards ++ (all_parts b weight).guards) (omega arith) inner.each);
      }

  for_few : (named : List SlotId) (guards : List Guard) (c : ℕ) → NameFew c named guards → NameFew (1 + c) named guards
  for_few named guards c is = let few = is.few in record { few = omega (arith, few); each = raised c (1 + c) guards (omega arith) is.each }

  step : (y : Stmt-F M) → IsFew (fits_step (map-Stmt Stmt Bool fits_stmt (layer y))) (read_step l (map-Stmt Stmt Read (read_stmt l) (layer y))) (count_step (map-Stmt Stmt ℕ count_of (layer y)))
  step (Stmt-F.Let x r) fits weight = record { few = named_few x r (and_parts (operands_fit r) true fits).0; each = tt }
  step (Stmt-F.NewVar v y) fits weight = record { few = omega arith; each = tt }
  step (Stmt-F.NewArray v cells) fits weight = record { few = omega arith; each = tt }
  step (Stmt-F.Store v y) fits weight = record { few = omega arith; each = tt }
  step (Stmt-F.Put v i y) fits weight = record { few = omega arith; each = tt }
  step (Stmt-F.Output y h offset) fits weight = record { few = omega arith; each = tt }
  step (Stmt-F.If y a b offset) fits weight =
      let parts = and_parts (list_all (λ b. b) (map fits_stmt (statements a))) (list_all (λ b. b) (map fits_stmt (statements b))) fits in
      if_few y weight (map (read_stmt l) (statements a)) (map (read_stmt l) (statements b)) (sum (map count_of (statements a))) (sum (map count_of (statements b))) (all_few a parts.0 weight) (all_few b parts.1 weight)
  step (Stmt-F.For count body) fits weight =
      for_few (all_named (map (read_stmt l) (statements body))) (all_parts (map (read_stmt l) (statements body)) (weight * count)).guards (sum (map count_of (statements body))) (all_few body fits (weight * count))

  stmt_few : (s : Stmt) → IsFew (fits_stmt s) (read_stmt l s) (count_of s)
  stmt_few = ind-Stmt (λ s. IsFew (fits_stmt s) (read_stmt l s) (count_of s)) (λ x y is. subst (λ z. IsFew (fits_stmt (roll-Stmt z)) (read_stmt l (roll-Stmt z)) (count_of (roll-Stmt z))) is (at_roll y))
    where
      at_roll : (y : Stmt-F M) → IsFew (fits_stmt (roll-Stmt (layer y))) (read_stmt l (roll-Stmt (layer y))) (count_of (roll-Stmt (layer y)))
      at_roll y =
          subst (IsFew (fits_stmt (roll-Stmt (layer y))) (read_stmt l (roll-Stmt (layer y)))) (sym (fold-roll-Stmt ℕ count_step (layer y)))
          (subst₂ (λ fits read. IsFew fits read (count_step (map-Stmt Stmt ℕ count_of (layer y)))) (sym (fold-roll-Stmt Bool fits_step (layer y))) (sym (fold-roll-Stmt Read (read_step l) (layer y))) (step y))

  body_few : (body : List Stmt) → all_meet (of_rights operands_fit) body ≡ true → (weight : ℕ) → NameFew (statement_count body) (all_named (map (read_stmt l) body)) (all_parts (map (read_stmt l) body) weight).guards
  body_few [] fits weight = none_few 0
  body_few (s ∷ body) fits weight =
      let parts = and_parts (fits_stmt s) (all_meet (of_rights operands_fit) body) fits in
      next_few (read_stmt l s) (count_of s) (map (read_stmt l) body) (map count_of body) weight (stmt_few s parts.0 weight) (body_few body parts.1 weight)

-- ---- so there are few arcs

no_more : {X : Type 0} (keep : X → Bool) (xs : List X) → length (filter keep xs) ≤ length xs
no_more keep [] = omega arith
no_more keep (x ∷ xs) = elim (cases_Bool (keep x)) [
  | inl kept ↦ let rest = no_more keep xs in let size = ap length (cond-true (keep x) (x ∷ filter keep xs) (filter keep xs) kept) in omega (arith, rest, size)
  | inr other ↦ let rest = no_more keep xs in let size = ap length (cond-false (keep x) (x ∷ filter keep xs) (filter keep xs) other) in omega (arith, rest, size)
]

flat_size : {X Y : Type 0} (f : X → List Y) (most : ℕ) (xs : List X) → ((x : X) → length (f x) ≤ most) → length (flat_map f xs) ≤ most * length xs
flat_size f most [] few = omega arith
flat_size f most (x ∷ xs) few =
    let here = few x in
    let rest = flat_size f most xs few in
    let size = length-append (f x) (flat_map f xs) in
    let next : most * suc (length xs) ≡ most + most * length xs = times_suc most (length xs) in
    omega (arith, here, rest, size, next)
  where
    times_suc : (a b : ℕ) → a * suc b ≡ a + a * b
    times_suc a b = grind arith

module _ (problem : Problem) where
  abbrev FewMembers : Switch → Type 0
  FewMembers w = length w.guard.slots ≤ 2048

  arcs_from_size : (point : ℕ) (ws : List Switch) → AllByRecursion FewMembers ws → length (arcs_from problem point ws) ≤ 2049 * length ws
  arcs_from_size point [] few = omega arith
  arcs_from_size point (w ∷ ws) few =
      let size = length-append (switch_arcs problem point w) (arcs_from problem (point + 1) ws) in
      let own = length-map (members problem w) (member_arc problem point w.host) in
      let fewer = no_more (may_bring problem w.host) w.guard.slots in
      let here = few.0 in
      let rest = arcs_from_size (point + 1) ws few.1 in
      omega (arith, size, own, fewer, here, rest)

  switches_size : length problem.hosts ≤ 4 → length (switches problem) ≤ 4 * length problem.guards
  switches_size few = flat_size (λ guard. map (switch_of guard) (all_hosts problem)) 4 problem.guards (λ guard. let size = length-map (all_hosts problem) (switch_of guard) in let all = hosts_size in omega (arith, size, all, few))
    where
      hosts_size : length (all_hosts problem) ≡ length problem.hosts
      hosts_size = length-map (range_with_len 0 (length problem.hosts)) host ∙ length-range_with_len 0 (length problem.hosts)

  arcs_size : length problem.hosts ≤ 4 → IsWithinLimits problem → AllByRecursion (λ (guard : Guard). length guard.slots ≤ 2048) problem.guards → length (arcs problem) < 4294967296
  arcs_size few limits named =
      let uses = length-map problem.uses (use_term problem) in
      let indexes = length-map problem.indexes (index_term problem) in
      let both_pairs = length-append (map (use_term problem) problem.uses) (map (index_term problem) problem.indexes) in
      let scaled = length-map (pairs problem) in_parts in
      let whole = length-append (map in_parts (pairs problem)) (arcs_from problem (length problem.slots) (switches problem)) in
      let each = each_flat FewMembers (λ guard. map (switch_of guard) (all_hosts problem)) problem.guards
      (each_leads (λ (guard : Guard). length guard.slots ≤ 2048) (λ guard. AllByRecursion FewMembers (map (switch_of guard) (all_hosts problem)))
      (λ guard low. each_map FewMembers (switch_of guard) (all_hosts problem) (every (λ (h : HostId). length guard.slots ≤ 2048) (λ h. low) (all_hosts problem))) problem.guards named) in
      let from = arcs_from_size (length problem.slots) (switches problem) each in
      let switches_few = switches_size few in
      let count = limits.count in
      omega (arith, uses, indexes, both_pairs, scaled, whole, from, switches_few, count)
    where
      every : {X : Type 0} (P : X → Type 0) → ((x : X) → P x) → (xs : List X) → AllByRecursion P xs
      every P holds [] = tt
      every P holds (x ∷ xs) = (holds x, every P holds xs)

pub few_arcs : (p : NormalForm) (l : Labels) → IsWellMade p → IsLabelled (problem_of p l) → length (arcs (problem_of p l)) < 4294967296
few_arcs p l is labelled =
    let few = body_few l p.body is.operands 1 in
    let statements_few = is.limits.statements in
    arcs_size (problem_of p l) labelled.few_hosts (is_within_limits p l is)
    (each_leads (λ (guard : Guard). length guard.slots ≤ 4 * statement_count p.body) (λ (guard : Guard). length guard.slots ≤ 2048) (λ guard low. omega (arith, low, statements_few)) (problem_of p l).guards few.each)
