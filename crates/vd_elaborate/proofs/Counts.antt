-- The counts of statements, one after another.
use Rattle.std.proofs.Common.{◌≡◌, ℕ, ◌+◌, ◌*◌, max, List, [], ◌∷◌, ◌++◌, map, refl, sym, ap, ◌∙◌, subst, arith, rules}
use Rattle.std.specs.List.{sum}
use Rattle.std.proofs.lemmas.List.Sums.{sum_by-append}
use Rattle.vd_base.specs.declared.ids.SlotId.{SlotId}
use Rattle.vd_base.specs.declared.ids.HostId.{HostId}
use Rattle.vd_core.specs.declared.normal.Right.{Right}
use Rattle.vd_core.specs.declared.normal.Stmt.{Stmt, Let, NewVar, NewArray, Store, Put, Output, If, For, roll-Stmt, map-Stmt, ind-Stmt}
use Rattle.vd_core.specs.declared.normal.Stmt.TheOpen.{Stmt-F}
use Rattle.vd_core.specs.declared.normal.Stmt.TheFolds.{the_lemmas, fold-roll-Stmt}
use Rattle.vd_core.specs.Facts.{count_of, statement_count, Weighing, weigh_all, weigh_step, weighing, weight_sum, greatest, nesting_of, nesting, cells_of, cell_count}

map_push : {A B : Type 0} (f : A → B) (xs : List A) (x : A) → map f (xs ++ x ∷ []) ≡ map f xs ++ f x ∷ []
map_push f [] x = refl
map_push f (y ∷ ys) x = ap (λ z. f y ∷ z) (map_push f ys x)

sum_push : (xs : List ℕ) (x : ℕ) → sum (xs ++ x ∷ []) ≡ sum xs + x
sum_push xs x = let both = sum_by-append (λ (n : ℕ). n) xs (x ∷ []) in both ∙ ap (λ z. sum xs + z) (zero_add x)
  where
    zero_add : (k : ℕ) → 0 + k ≡ k
    zero_add k = omega arith

sum_cons : (x : ℕ) (xs : List ℕ) → sum (x ∷ xs) ≡ x + sum xs
sum_cons x xs = sum_by-append (λ (n : ℕ). n) (x ∷ []) xs ∙ ap (λ z. z + sum xs) (zero_add x)
  where
    zero_add : (k : ℕ) → 0 + k ≡ k
    zero_add k = omega arith

greatest_push : (xs : List ℕ) (x : ℕ) → greatest (xs ++ x ∷ []) ≡ max (greatest xs) x
greatest_push [] x = omega arith
greatest_push (y ∷ ys) x = let rest = greatest_push ys x in omega arith

pub count_push : (xs : List Stmt) (x : Stmt) → statement_count (xs ++ x ∷ []) ≡ statement_count xs + count_of x
count_push xs x = ap sum (map_push count_of xs x) ∙ sum_push (map count_of xs) (count_of x)

pub cells_push : (xs : List Stmt) (x : Stmt) → cell_count (xs ++ x ∷ []) ≡ cell_count xs + cells_of x
cells_push xs x = ap sum (map_push cells_of xs x) ∙ sum_push (map cells_of xs) (cells_of x)

pub nesting_push : (xs : List Stmt) (x : Stmt) → nesting (xs ++ x ∷ []) ≡ max (nesting xs) (nesting_of x)
nesting_push xs x = ap greatest (map_push nesting_of xs x) ∙ greatest_push (map nesting_of xs) (nesting_of x)

abbrev at_one : List Weighing → List ℕ
at_one ws = map (λ (w : Weighing). w 1) ws

pub weight_push : (xs : List Stmt) (x : Stmt) → weight_sum (xs ++ x ∷ []) ≡ weight_sum xs + weighing x 1
weight_push xs x = ap (λ z. sum (at_one z)) (map_push weighing xs x) ∙ ap sum (map_push (λ (w : Weighing). w 1) (map weighing xs) (weighing x)) ∙ sum_push (at_one (map weighing xs)) (weighing x 1)

-- A weight grows with the number of executions of what is around it.

abbrev IsLinear : Weighing → Type 0
IsLinear f = (around : ℕ) → f around ≡ around * f 1

abbrev M : Type 0
M = (s : Stmt) × IsLinear (weighing s)

abbrev weighings : List M → List Weighing
weighings ms = map weighing (map (λ (m : M). m.0) ms)

all_linear : (ms : List M) → IsLinear (weigh_all (weighings ms))
all_linear [] around = omega arith
all_linear (m ∷ ms) around =
    let one = m.1 around in
    let rest = all_linear ms around in
    let left = sum_cons (weighing m.0 around) (map (λ (w : Weighing). w around) (weighings ms)) in
    let right = sum_cons (weighing m.0 1) (map (λ (w : Weighing). w 1) (weighings ms)) in
    left ∙ ap (λ z. z + weigh_all (weighings ms) around) one ∙ ap (λ z. around * weighing m.0 1 + z) rest ∙ sym (ap (λ z. around * z) right ∙ spread around (weighing m.0 1) (weigh_all (weighings ms) 1))
  where
    spread : (a b c : ℕ) → a * (b + c) ≡ a * b + a * c
    spread a b c = omega arith

abbrev layer : Stmt-F M → Stmt-F Stmt
layer = map-Stmt M Stmt (λ m. m.0)

alone : (around : ℕ) → around ≡ around * 1
alone around = omega arith

two_more : (around a b c d : ℕ) → a ≡ around * c → b ≡ around * d → around + a + b ≡ around * (1 + c + d)
two_more around a b c d e f = rw (e, f) (omega arith)

in_loop : (around count a b c : ℕ) → a ≡ (around * count) * c → b ≡ (1 * count) * c → around + a ≡ around * (1 + b)
in_loop around count a b c e f = rw (e, f) (omega arith)

step : (y : Stmt-F M) → IsLinear (weigh_step (map-Stmt Stmt Weighing weighing (layer y)))
step (Stmt-F.Let x r) around = alone around
step (Stmt-F.NewVar v x) around = alone around
step (Stmt-F.NewArray v n) around = alone around
step (Stmt-F.Store v x) around = alone around
step (Stmt-F.Put v i x) around = alone around
step (Stmt-F.Output x h offset) around = alone around
step (Stmt-F.If x a b offset) around =
    two_more around (weigh_all (weighings a) around) (weigh_all (weighings b) around) (weigh_all (weighings a) 1) (weigh_all (weighings b) 1) (all_linear a around) (all_linear b around)
step (Stmt-F.For n body) around =
    in_loop around n (weigh_all (weighings body) (around * n)) (weigh_all (weighings body) (1 * n)) (weigh_all (weighings body) 1) (all_linear body (around * n)) (all_linear body (1 * n))

linear : (s : Stmt) → IsLinear (weighing s)
linear = ind-Stmt (λ s. IsLinear (weighing s)) (λ x y is. subst (λ z. IsLinear (weighing (roll-Stmt z))) is
    (subst IsLinear (sym (fold-roll-Stmt Weighing weigh_step (layer y))) (step y)))

body_linear : (body : List Stmt) → IsLinear (weigh_all (map weighing body))
body_linear [] around = omega arith
body_linear (s ∷ ss) around =
    let left = sum_cons (weighing s around) (map (λ (w : Weighing). w around) (map weighing ss)) in
    let right = sum_cons (weighing s 1) (map (λ (w : Weighing). w 1) (map weighing ss)) in
    left ∙ ap (λ z. z + weigh_all (map weighing ss) around) (linear s around) ∙ ap (λ z. around * weighing s 1 + z) (body_linear ss around) ∙ sym (ap (λ z. around * z) right ∙ spread around (weighing s 1) (weigh_all (map weighing ss) 1))
  where
    spread : (a b c : ℕ) → a * (b + c) ≡ a * b + a * c
    spread a b c = omega arith

-- The counts of each statement.

-- one statement, in no loop, without cells
pub record IsOne (x : Stmt) : Type 0 where
  pub statements : count_of x ≡ 1
  pub weights : weighing x 1 ≡ 1
  pub nesting : nesting_of x ≡ 0
  pub cells : cells_of x ≡ 0

pub let_one : (x : SlotId) (r : Right) → IsOne (Let x r)
let_one x r = record { statements = search (rules, the_lemmas); weights = search (rules, the_lemmas); nesting = search (rules, the_lemmas); cells = search (rules, the_lemmas) }

pub var_one : (v x : SlotId) → IsOne (NewVar v x)
var_one v x = record { statements = search (rules, the_lemmas); weights = search (rules, the_lemmas); nesting = search (rules, the_lemmas); cells = search (rules, the_lemmas) }

pub store_one : (v x : SlotId) → IsOne (Store v x)
store_one v x = record { statements = search (rules, the_lemmas); weights = search (rules, the_lemmas); nesting = search (rules, the_lemmas); cells = search (rules, the_lemmas) }

pub put_one : (v i x : SlotId) → IsOne (Put v i x)
put_one v i x = record { statements = search (rules, the_lemmas); weights = search (rules, the_lemmas); nesting = search (rules, the_lemmas); cells = search (rules, the_lemmas) }

pub output_one : (x : SlotId) (h : HostId) (offset : ℕ) → IsOne (Output x h offset)
output_one x h offset = record { statements = search (rules, the_lemmas); weights = search (rules, the_lemmas); nesting = search (rules, the_lemmas); cells = search (rules, the_lemmas) }

pub record IsArray (x : Stmt) (n : ℕ) : Type 0 where
  pub statements : count_of x ≡ 1
  pub weights : weighing x 1 ≡ 1
  pub nesting : nesting_of x ≡ 0
  pub cells : cells_of x ≡ n

pub array_is : (v : SlotId) (n : ℕ) → IsArray (NewArray v n) n
array_is v n = record { statements = search (rules, the_lemmas); weights = search (rules, the_lemmas); nesting = search (rules, the_lemmas); cells = search (rules, the_lemmas) }

pub record IsIf (x : Stmt) (a b : List Stmt) : Type 0 where
  pub statements : count_of x ≡ 1 + statement_count a + statement_count b
  pub weights : weighing x 1 ≡ 1 + weight_sum a + weight_sum b
  pub nesting : nesting_of x ≡ max (nesting a) (nesting b)
  pub cells : cells_of x ≡ cell_count a + cell_count b

pub if_is : (x : SlotId) (a b : List Stmt) (offset : ℕ) → IsIf (If x a b offset) a b
if_is x a b offset = record { statements = search (rules, the_lemmas); weights = search (rules, the_lemmas); nesting = search (rules, the_lemmas); cells = search (rules, the_lemmas) }

pub record IsFor (x : Stmt) (n : ℕ) (body : List Stmt) : Type 0 where
  pub statements : count_of x ≡ 1 + statement_count body
  pub weights : weighing x 1 ≡ 1 + (1 * n) * weight_sum body
  pub nesting : nesting_of x ≡ 1 + nesting body
  pub cells : cells_of x ≡ cell_count body

for_weight : (n : ℕ) (body : List Stmt) → weighing (For n body) 1 ≡ 1 + weigh_all (map weighing body) (1 * n)
for_weight n body = search (rules, the_lemmas)

pub for_is : (n : ℕ) (body : List Stmt) → IsFor (For n body) n body
for_is n body = record { statements = search (rules, the_lemmas); weights = for_weight n body ∙ ap (λ z. 1 + z) (body_linear body (1 * n)); nesting = search (rules, the_lemmas); cells = search (rules, the_lemmas) }
