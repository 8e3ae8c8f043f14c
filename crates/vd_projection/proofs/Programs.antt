-- The code of a program is within the ranges of host code.
use Rattle.std.proofs.Common.{◌≡◌, ℕ, zero, suc, ◌+◌, ◌*◌, ◌<◌, ◌≤◌, Bool, true, ◌&&◌, List, [], ◌∷◌, length, map, replicate, refl, sym, ap, subst, ◌∙◌, arith}
use Rattle.std.specs.List.{list_all, sum}
use Rattle.std.proofs.lemmas.List.Sums.{sum_by-cons}
use Rattle.vd_base.specs.declared.protocols.Proto.{Proto}
use Rattle.vd_core.specs.declared.normal.NormalForm.{NormalForm}
use Rattle.vd_core.specs.declared.normal.Stmt.{Stmt}
use Rattle.vd_core.specs.declared.normal.Stmt.TheOpen.{Stmt-F}
use Rattle.vd_core.specs.Facts.{IsWellMade, meets, blocks_meet, of_rights, operands_fit, host_is_declared, count_step, cells_step, statement_count, cell_count}
use Rattle.vd_execution.specs.Joint.{code_of}
use Rattle.vd_split.specs.Block.{Block, End, Let, NewVar, NewArray, Store, Put, Output, If, For, block_of, each}
use Rattle.vd_split.specs.Emission.{Emission, block_emission, emitting_at_start, in_turn, stmt_emission}
use Rattle.vd_split.proofs.Front.{fold_each}
use Rattle.vd_backend_laws.specs.Parts.{suite_calls}
use Rattle.vd_backend_laws.specs.Suite.{IsOver}
use Rattle.vd_backend_laws.specs.Whole.{plan_at, code_at}
use Rattle.vd_projection.specs.Ranges.{CodeIsInRange, CodeHasShortPackets}
use Rattle.vd_projection.specs.Fits.{IsLow}
use Rattle.vd_projection.proofs.Blocks.{cost, size, holds, BlockFits, StateFits, emission_of, block_fits}
use Rattle.vd_projection.proofs.Loading.{CodeIn, plan_in}

list_all_map : {A : Type 0} (f : A → Bool) (xs : List A) → list_all f xs ≡ list_all (λ x. x) (map f xs)
list_all_map f [] = refl
list_all_map f (x ∷ xs) = ap (λ z. f x && z) (list_all_map f xs)

all_hold : (test : Stmt-F Bool → Bool) (body : List Stmt) → list_all (meets test) body ≡ true → holds test (block_of body) ≡ true
all_hold test body h = sym (list_all_map (meets test) body ∙ ap (list_all (λ x. x)) (fold_each (λ s. test s && blocks_meet s) body)) ∙ h

count_next : (n : ℕ) (ns : List ℕ) → sum (n ∷ ns) ≡ n + sum ns
count_next n ns = sum_by-cons (λ (k : ℕ). k) n ns

abbrev counted : Block → ℕ
counted b = sum (each count_step b)

abbrev cells : Block → ℕ
cells b = sum (each cells_step b)

-- what a block takes, by its statements and the cells of its arrays
record Adds (b : Block) : Type 0 where
  cost_is : cost b ≤ 2560 * counted b + 8 * cells b
  size_is : size b ≤ counted b

next_adds : (b rest : Block) → Adds rest → cost b ≡ 2560 + cost rest → size b ≡ 1 + size rest → counted b ≡ 1 + counted rest → cells b ≡ 0 + cells rest → Adds b
next_adds b rest a e f g h =
    let c = a.cost_is in let z = a.size_is in
    record { cost_is = at (cost b) (cost rest) (counted b) (counted rest) (cells b) (cells rest) e g h c; size_is = omega (arith, z, f, g) }
  where
    at : (x y n k u v : ℕ) → x ≡ 2560 + y → n ≡ 1 + k → u ≡ 0 + v → y ≤ 2560 * k + 8 * v → x ≤ 2560 * n + 8 * u
    at x y n k u v e f g h = omega (arith, e, f, g, h)

adds : (b : Block) → Adds b
adds End = record { cost_is = omega arith; size_is = omega arith }
adds (Let x r rest) = next_adds (Let x r rest) rest (adds rest) refl refl (count_next 1 (each count_step rest)) (count_next 0 (each cells_step rest))
adds (NewVar v x rest) = next_adds (NewVar v x rest) rest (adds rest) refl refl (count_next 1 (each count_step rest)) (count_next 0 (each cells_step rest))
adds (NewArray v k rest) = at (adds rest) (count_next 1 (each count_step rest)) (count_next k (each cells_step rest))
  where
    at : Adds rest → counted (NewArray v k rest) ≡ 1 + counted rest → cells (NewArray v k rest) ≡ k + cells rest → Adds (NewArray v k rest)
    at a e f = let c = a.cost_is in let z = a.size_is in record { cost_is = sums (cost rest) (counted (NewArray v k rest)) (counted rest) (cells (NewArray v k rest)) (cells rest) c e f; size_is = omega (arith, z, e) }
      where
        sums : (y n m u w : ℕ) → y ≤ 2560 * m + 8 * w → n ≡ 1 + m → u ≡ k + w → 2560 + 8 * k + y ≤ 2560 * n + 8 * u
        sums y n m u w c e f = omega (arith, c, e, f)
adds (Store v x rest) = next_adds (Store v x rest) rest (adds rest) refl refl (count_next 1 (each count_step rest)) (count_next 0 (each cells_step rest))
adds (Put v i x rest) = next_adds (Put v i x rest) rest (adds rest) refl refl (count_next 1 (each count_step rest)) (count_next 0 (each cells_step rest))
adds (Output x h offset rest) = next_adds (Output x h offset rest) rest (adds rest) refl refl (count_next 1 (each count_step rest)) (count_next 0 (each cells_step rest))
adds (If x first other offset rest) =
    at (adds first) (adds other) (adds rest) (count_next (1 + counted first + counted other) (each count_step rest)) (count_next (cells first + cells other) (each cells_step rest))
  where
    sums : (a b c n m k t u v w y z : ℕ) → a ≤ 2560 * n + 8 * u → b ≤ 2560 * m + 8 * v → c ≤ 2560 * k + 8 * w → t ≡ 1 + n + m + k → y ≡ u + v + w → 2560 + a + b + c ≤ 2560 * t + 8 * y
    sums a b c n m k t u v w y z p q r e f = omega (arith, p, q, r, e, f)

    sizes : (a b c n m k t : ℕ) → a ≤ n → b ≤ m → c ≤ k → t ≡ 1 + n + m + k → 1 + a + b + c ≤ t
    sizes a b c n m k t p q r e = omega (arith, p, q, r, e)

    at : Adds first → Adds other → Adds rest → counted (If x first other offset rest) ≡ 1 + counted first + counted other + counted rest → cells (If x first other offset rest) ≡ cells first + cells other + cells rest → Adds (If x first other offset rest)
    at a b c e f = record {
      cost_is = sums _ _ _ _ _ _ _ _ _ _ _ 0 a.cost_is b.cost_is c.cost_is e f;
      size_is = sizes _ _ _ _ _ _ _ a.size_is b.size_is c.size_is e;
    }
adds (For count body rest) = at (adds body) (adds rest) (count_next (1 + counted body) (each count_step rest)) (count_next (cells body) (each cells_step rest))
  where
    sums : (a c n k t u w y : ℕ) → a ≤ 2560 * n + 8 * u → c ≤ 2560 * k + 8 * w → t ≡ 1 + n + k → y ≡ u + w → 2560 + a + c ≤ 2560 * t + 8 * y
    sums a c n k t u w y p r e f = omega (arith, p, r, e, f)

    sizes : (a c n k t : ℕ) → a ≤ n → c ≤ k → t ≡ 1 + n + k → 1 + a + c ≤ t
    sizes a c n k t p r e = omega (arith, p, r, e)

    at : Adds body → Adds rest → counted (For count body rest) ≡ 1 + counted body + counted rest → cells (For count body rest) ≡ cells body + cells rest → Adds (For count body rest)
    at a c e f = record { cost_is = sums _ _ _ _ _ _ _ _ a.cost_is c.cost_is e f; size_is = sizes _ _ _ _ _ a.size_is c.size_is e }

zeros_low : (n : ℕ) → IsLow 0 (replicate n 0)
zeros_low zero h = omega arith
zeros_low (suc n) zero = omega arith
zeros_low (suc n) (suc h) = zeros_low n h

code_in : (program : NormalForm) (proto : ℕ → Proto) → IsWellMade program → ((x : ℕ) → IsOver (length program.hosts) (proto x))
    → (h : ℕ) → CodeIn (length program.hosts) 2097152 h 512 (code_of h (code_at proto program))
code_in program proto made over h =
    let n = length program.hosts in
    let b = block_of program.body in
    let s = suite_calls n in
    let a = adds b in
    let counts : counted b ≡ statement_count program.body = sym (ap sum (fold_each count_step program.body)) in
    let sizes : cells b ≡ cell_count program.body = sym (ap sum (fold_each cells_step program.body)) in
    let limits = made.limits in
    let start : StateFits n 2097152 proto (λ x. (over x).known) limits.hosts 0 (emitting_at_start s proto) = record { next = zeros_low n; held = tt; loop = λ k. omega arith } in
    let fits = block_fits n 2097152 proto (λ x. (over x).known) limits.hosts b (all_hold (of_rights operands_fit) program.body made.operands) (all_hold (host_is_declared n) program.body made.known_hosts)
    (emitting_at_start s proto) 0 (cost b) start (omega arith) (low _ _ _ _ _ a.cost_is counts sizes limits.statements limits.cells) in
    let same : block_emission s proto program.body ≡ emission_of n 2097152 proto (λ x. (over x).known) limits.hosts b = ap (in_turn s proto) (fold_each (stmt_emission s proto) program.body) in
    let whole = subst (λ (f : Emission s proto). BlockFits n 2097152 proto (λ x. (over x).known) limits.hosts (size b) (cost b) (f.emit (emitting_at_start s proto))) (sym same) fits in
    let code = plan_in n 2097152 h (size b) (plan_at proto program) whole.plan in
    record { registers = code.registers; packets = code.packets; short = code.short; blocks = deep _ _ _ _ code.blocks a.size_is counts limits.statements }
  where
    low : (t a b c d : ℕ) → t ≤ 2560 * a + 8 * b → a ≡ c → b ≡ d → c ≤ 512 → d ≤ 65536 → t < 2097152
    low t a b c d p e f g h = omega (arith, p, e, f, g, h)

    deep : (d z a c : ℕ) → d ≤ z → z ≤ a → a ≡ c → c ≤ 512 → d ≤ 512
    deep d z a c p q e g = omega (arith, p, q, e, g)

pub code_is_in_range : CodeIsInRange
code_is_in_range program proto made over h = let code = code_in program proto made over h in record { registers = code.registers; packets = code.packets; blocks = code.blocks }

pub code_has_short_packets : CodeHasShortPackets
code_has_short_packets program proto made over h = let code = code_in program proto made over h in code.short
