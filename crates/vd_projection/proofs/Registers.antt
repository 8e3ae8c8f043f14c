-- The registers of a program's code stay one below the last: so the first cell of an array is a register, even where it has none.
use Rattle.std.proofs.Common.{◌≡◌, ℕ, zero, suc, ◌+◌, ◌*◌, ◌<◌, ◌≤◌, Bool, true, ◌&&◌, List, [], ◌∷◌, length, map, replicate, refl, sym, ap, subst, ◌∙◌, arith}
use Rattle.std.specs.List.{list_all, sum}
use Rattle.std.proofs.lemmas.List.Sums.{sum_by-cons}
use Rattle.vd_base.specs.declared.protocols.Proto.{Proto}
use Rattle.vd_core.specs.declared.normal.NormalForm.{NormalForm}
use Rattle.vd_core.specs.declared.normal.Stmt.{Stmt}
use Rattle.vd_core.specs.declared.normal.Stmt.TheOpen.{Stmt-F}
use Rattle.vd_core.specs.Facts.{IsWellMade, meets, blocks_meet, of_rights, operands_fit, host_is_declared, count_step, cells_step, statement_count, cell_count}
use Rattle.vd_split.specs.Block.{Block, End, Let, NewVar, NewArray, Store, Put, Output, If, For, block_of, each}
use Rattle.vd_split.specs.Emission.{Emission, block_emission, emitting_at_start, in_turn, stmt_emission}
use Rattle.vd_split.proofs.Front.{fold_each}
use Rattle.vd_backend_laws.specs.Parts.{suite_calls}
use Rattle.vd_backend_laws.specs.Suite.{IsOver}
use Rattle.vd_backend_laws.specs.Whole.{plan_at}
use Rattle.vd_projection.specs.Fits.{IsLow}
use Rattle.vd_projection.proofs.Blocks.{cost, size, holds, BlockFits, StateFits, emission_of, block_fits}
use Rattle.vd_projection.proofs.Fits.{PlanFits}

list_all_map : {A : Type 0} (f : A → Bool) (xs : List A) → list_all f xs ≡ list_all (λ x. x) (map f xs)
list_all_map f [] = refl
list_all_map f (x ∷ xs) = ap (λ z. f x && z) (list_all_map f xs)

pub all_hold : (test : Stmt-F Bool → Bool) (body : List Stmt) → list_all (meets test) body ≡ true → holds test (block_of body) ≡ true
all_hold test body h = sym (list_all_map (meets test) body ∙ ap (list_all (λ x. x)) (fold_each (λ s. test s && blocks_meet s) body)) ∙ h

count_next : (n : ℕ) (ns : List ℕ) → sum (n ∷ ns) ≡ n + sum ns
count_next n ns = sum_by-cons (λ (k : ℕ). k) n ns

abbrev counted : Block → ℕ
counted b = sum (each count_step b)

abbrev cells : Block → ℕ
cells b = sum (each cells_step b)

-- what a block takes, by its statements and the cells of its arrays
abbrev IsCheap : Block → Type 0
IsCheap b = cost b ≤ 2560 * counted b + 8 * cells b

next_cheap : (b rest : Block) → IsCheap rest → cost b ≡ 2560 + cost rest → counted b ≡ 1 + counted rest → cells b ≡ 0 + cells rest → IsCheap b
next_cheap b rest c e g h = at (cost b) (cost rest) (counted b) (counted rest) (cells b) (cells rest) e g h c
  where
    at : (x y n k u v : ℕ) → x ≡ 2560 + y → n ≡ 1 + k → u ≡ 0 + v → y ≤ 2560 * k + 8 * v → x ≤ 2560 * n + 8 * u
    at x y n k u v e f g h = omega (arith, e, f, g, h)

is_cheap : (b : Block) → IsCheap b
is_cheap End = omega arith
is_cheap (Let x r rest) = next_cheap (Let x r rest) rest (is_cheap rest) refl (count_next 1 (each count_step rest)) (count_next 0 (each cells_step rest))
is_cheap (NewVar v x rest) = next_cheap (NewVar v x rest) rest (is_cheap rest) refl (count_next 1 (each count_step rest)) (count_next 0 (each cells_step rest))
is_cheap (NewArray v k rest) = sums (cost rest) (counted (NewArray v k rest)) (counted rest) (cells (NewArray v k rest)) (cells rest) (is_cheap rest) (count_next 1 (each count_step rest)) (count_next k (each cells_step rest))
  where
    sums : (y n m u w : ℕ) → y ≤ 2560 * m + 8 * w → n ≡ 1 + m → u ≡ k + w → 2560 + 8 * k + y ≤ 2560 * n + 8 * u
    sums y n m u w c e f = omega (arith, c, e, f)
is_cheap (Store v x rest) = next_cheap (Store v x rest) rest (is_cheap rest) refl (count_next 1 (each count_step rest)) (count_next 0 (each cells_step rest))
is_cheap (Put v i x rest) = next_cheap (Put v i x rest) rest (is_cheap rest) refl (count_next 1 (each count_step rest)) (count_next 0 (each cells_step rest))
is_cheap (Output x h offset rest) = next_cheap (Output x h offset rest) rest (is_cheap rest) refl (count_next 1 (each count_step rest)) (count_next 0 (each cells_step rest))
is_cheap (If x first other offset rest) =
    sums _ _ _ _ _ _ _ _ _ _ _ (is_cheap first) (is_cheap other) (is_cheap rest) (count_next (1 + counted first + counted other) (each count_step rest)) (count_next (cells first + cells other) (each cells_step rest))
  where
    sums : (a b c n m k t u v w y : ℕ) → a ≤ 2560 * n + 8 * u → b ≤ 2560 * m + 8 * v → c ≤ 2560 * k + 8 * w → t ≡ 1 + n + m + k → y ≡ u + v + w → 2560 + a + b + c ≤ 2560 * t + 8 * y
    sums a b c n m k t u v w y p q r e f = omega (arith, p, q, r, e, f)
is_cheap (For count body rest) =
    sums _ _ _ _ _ _ _ _ (is_cheap body) (is_cheap rest) (count_next (1 + counted body) (each count_step rest)) (count_next (cells body) (each cells_step rest))
  where
    sums : (a c n k t u w y : ℕ) → a ≤ 2560 * n + 8 * u → c ≤ 2560 * k + 8 * w → t ≡ 1 + n + k → y ≡ u + w → 2560 + a + c ≤ 2560 * t + 8 * y
    sums a c n k t u w y p r e f = omega (arith, p, r, e, f)

zeros_low : (n : ℕ) → IsLow 0 (replicate n 0)
zeros_low zero h = omega arith
zeros_low (suc n) zero = omega arith
zeros_low (suc n) (suc h) = zeros_low n h

-- the last register is never one
abbrev pub bound : ℕ
bound = 2097151

pub plan_below : (program : NormalForm) (proto : ℕ → Proto) → IsWellMade program → ((x : ℕ) → IsOver (length program.hosts) (proto x))
    → (d : ℕ) × PlanFits (length program.hosts) bound d (plan_at proto program)
plan_below program proto made over =
    let n = length program.hosts in
    let b = block_of program.body in
    let s = suite_calls n in
    let counts : counted b ≡ statement_count program.body = sym (ap sum (fold_each count_step program.body)) in
    let sizes : cells b ≡ cell_count program.body = sym (ap sum (fold_each cells_step program.body)) in
    let limits = made.limits in
    let start : StateFits n bound proto (λ x. (over x).known) limits.hosts 0 (emitting_at_start s proto) = record { next = zeros_low n; held = tt; loop = λ k. omega arith } in
    let fits = block_fits n bound proto (λ x. (over x).known) limits.hosts b (all_hold (of_rights operands_fit) program.body made.operands) (all_hold (host_is_declared n) program.body made.known_hosts)
    (emitting_at_start s proto) 0 (cost b) start (omega arith) (low _ _ _ _ _ (is_cheap b) counts sizes limits.statements limits.cells) in
    let same : block_emission s proto program.body ≡ emission_of n bound proto (λ x. (over x).known) limits.hosts b = ap (in_turn s proto) (fold_each (stmt_emission s proto) program.body) in
    let whole = subst (λ (f : Emission s proto). BlockFits n bound proto (λ x. (over x).known) limits.hosts (size b) (cost b) (f.emit (emitting_at_start s proto))) (sym same) fits in
    (size b, whole.plan)
  where
    low : (t a b c d : ℕ) → t ≤ 2560 * a + 8 * b → a ≡ c → b ≡ d → c ≤ 512 → d ≤ 65536 → t < bound
    low t a b c d p e f g h = omega (arith, p, e, f, g, h)
