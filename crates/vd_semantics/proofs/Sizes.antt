-- How far a run over a source can go down.
use Rattle.std.proofs.Common.{◌≡◌, ℕ, zero, suc, ◌+◌, ◌<◌, ◌≤◌, List, [], ◌∷◌, map, length, get_or, take, arith}
use Rattle.vd_core.specs.declared.source.Expr.{size-Expr}
use Rattle.vd_core.specs.declared.source.Statement.{Statement}
use Rattle.vd_core.specs.declared.source.Statement.TheOpen.{Statement-F}
use Rattle.vd_core.specs.declared.source.Statement.TheFolds.{fold-Statement}
use Rattle.vd_core.specs.declared.source.Function.{Function}

abbrev pub total : List ℕ → ℕ
total [] = 0
total (n ∷ ns) = n + total ns

abbrev pub statement_size : Statement-F ℕ → ℕ
statement_size (Statement-F.Let at x label e) = suc (size-Expr e)
statement_size (Statement-F.Var at x kind label e) = suc (size-Expr e)
statement_size (Statement-F.Array at x kind size label) = 1
statement_size (Statement-F.Store x e) = suc (size-Expr e)
statement_size (Statement-F.Put x i e) = suc (size-Expr i + size-Expr e)
statement_size (Statement-F.Output at e host) = suc (size-Expr e)
statement_size (Statement-F.If at guard then_block else_block) = suc (size-Expr guard + (total then_block + total else_block))
statement_size (Statement-F.For at x count body) = suc (total body)

abbrev pub size_of : Statement → ℕ
size_of = fold-Statement ℕ statement_size

abbrev pub sizes : List Statement → ℕ
sizes ss = total (map size_of ss)

abbrev pub function_size : Function → ℕ
function_size f = suc (sizes f.body + size-Expr f.gives)

abbrev pub code_size : List Function → ℕ
code_size [] = 0
code_size (f ∷ fs) = function_size f + code_size fs

pub function_fits : (fs : List Function) (k : ℕ) (d : Function) → k < length fs → code_size (take k fs) + function_size (get_or fs k d) ≤ code_size fs
function_fits [] k d h = absurd (omega arith)
function_fits (f ∷ fs) zero d h = omega arith
function_fits (f ∷ fs) (suc k) d h = let rest = function_fits fs k d (omega arith) in omega arith

size_at : (ss : List Statement) (k : ℕ) (d : Statement) → k < length ss → size_of (get_or ss k d) ≤ sizes ss
size_at [] k d h = absurd (omega arith)
size_at (s ∷ ss) zero d h = omega arith
size_at (s ∷ ss) (suc k) d h = let rest = size_at ss k d (omega arith) in omega arith

pub statement_fits : (ss : List Statement) (k : ℕ) (s : Statement) → k < length ss → s ≡ get_or ss k s → size_of s ≤ sizes ss
statement_fits ss k s lt is = let h = size_at ss k s lt in rw (← is) at h
