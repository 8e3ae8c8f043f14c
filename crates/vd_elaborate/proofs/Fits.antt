-- Statements that are made are as many as a size says, which counts one more for each inlined call.
use Rattle.std.proofs.Common.{◌≡◌, ℕ, ◌+◌, ◌*◌, max, List, [], ◌∷◌, ◌++◌, ap, ◌∙◌, subst, arith}
use Rattle.vd_core.specs.declared.normal.Stmt.{Stmt, If, For}
use Rattle.vd_core.specs.Facts.{statement_count, weight_sum, nesting, cell_count}
use Rattle.vd_elaborate.specs.Normal.{slot}
use Rattle.vd_resolve.specs.declared.size.Size.{Size}
use Rattle.vd_resolve.specs.Sizes.{nothing, one, also, repeated, inlined, array_of}
use Rattle.vd_elaborate.proofs.Counts.{count_push, weight_push, nesting_push, cells_push, IsOne, IsArray, if_is, for_is}

-- what is added from xs to ys is of that size, with so many inlined calls
pub record Fits (xs ys : List Stmt) (s : Size) (calls : ℕ) : Type 0 where
  pub statements : statement_count ys + calls ≡ statement_count xs + s.statements
  pub weights : weight_sum ys ≡ weight_sum xs + s.weights
  pub nesting : nesting ys ≡ max (nesting xs) s.nesting
  pub cells : cell_count ys ≡ cell_count xs + s.cells

pub fits_none : (xs : List Stmt) → Fits xs xs nothing 0
fits_none xs = record { statements = omega arith; weights = omega arith; nesting = omega arith; cells = omega arith }

pub fits_same : (xs ys : List Stmt) (s : Size) (c d : ℕ) → c ≡ d → Fits xs ys s c → Fits xs ys s d
fits_same xs ys s c d same f = subst (Fits xs ys s) same f

pub fits_then : (xs ys zs : List Stmt) (a b : Size) (c d : ℕ) → Fits xs ys a c → Fits ys zs b d → Fits xs zs (also a b) (c + d)
unfolding also
fits_then xs ys zs a b c d f g =
    let f1 = f.statements in
    let f2 = f.weights in
    let f3 = f.nesting in
    let f4 = f.cells in
    let g1 = g.statements in
    let g2 = g.weights in
    let g3 = g.nesting in
    let g4 = g.cells in
    record { statements = omega arith; weights = omega arith; nesting = omega arith; cells = omega arith }

-- what is added last has no calls
pub fits_next : (xs ys zs : List Stmt) (a b : Size) (c : ℕ) → Fits xs ys a c → Fits ys zs b 0 → Fits xs zs (also a b) c
fits_next xs ys zs a b c f g = fits_same xs zs (also a b) (c + 0) c (omega arith) (fits_then xs ys zs a b c 0 f g)

pub fits_inlined : (xs ys : List Stmt) (a : Size) (c : ℕ) → Fits xs ys a c → Fits xs ys (inlined a) (c + 1)
unfolding inlined
fits_inlined xs ys a c f =
    let f1 = f.statements in
    let f2 = f.weights in
    let f3 = f.nesting in
    let f4 = f.cells in
    record { statements = omega arith; weights = omega arith; nesting = omega arith; cells = omega arith }

pub fits_one : (xs : List Stmt) (x : Stmt) → IsOne x → Fits xs (xs ++ x ∷ []) one 0
fits_one xs x is =
    let i1 = is.statements in
    let i2 = is.weights in
    let i3 = is.nesting in
    let i4 = is.cells in
    let p1 = count_push xs x in
    let p2 = weight_push xs x in
    let p3 = nesting_push xs x in
    let p4 = cells_push xs x in
    record { statements = omega arith; weights = omega arith; nesting = omega arith; cells = omega arith }

pub fits_array : (xs : List Stmt) (x : Stmt) (n : ℕ) → IsArray x n → Fits xs (xs ++ x ∷ []) (array_of n) 0
unfolding array_of
fits_array xs x n is =
    let i1 = is.statements in
    let i2 = is.weights in
    let i3 = is.nesting in
    let i4 = is.cells in
    let p1 = count_push xs x in
    let p2 = weight_push xs x in
    let p3 = nesting_push xs x in
    let p4 = cells_push xs x in
    record { statements = omega arith; weights = omega arith; nesting = omega arith; cells = omega arith }

-- an If, after its guard
pub fits_if : (xs ys a b : List Stmt) (k offset : ℕ) (g s t : Size) (c d e : ℕ) → Fits xs ys g c → Fits [] a s d → Fits [] b t e → Fits xs (ys ++ If (slot k) a b offset ∷ []) (also (also (also g one) s) t) (c + d + e)
unfolding also
fits_if xs ys a b k offset g s t c d e f fa fb =
    let is = if_is (slot k) a b offset in
    let i1 = is.statements in
    let i2 = is.weights in
    let i3 = is.nesting in
    let i4 = is.cells in
    let p1 = count_push ys (If (slot k) a b offset) in
    let p2 = weight_push ys (If (slot k) a b offset) in
    let p3 = nesting_push ys (If (slot k) a b offset) in
    let p4 = cells_push ys (If (slot k) a b offset) in
    let f1 = f.statements in
    let f2 = f.weights in
    let f3 = f.nesting in
    let f4 = f.cells in
    let a1 = fa.statements in
    let a2 = fa.weights in
    let a3 = fa.nesting in
    let a4 = fa.cells in
    let b1 = fb.statements in
    let b2 = fb.weights in
    let b3 = fb.nesting in
    let b4 = fb.cells in
    record { statements = omega arith; weights = omega arith; nesting = omega arith; cells = omega arith }

turns_weigh : (x b n w s : ℕ) → x ≡ b + (1 + (1 * n) * w) → w ≡ s → x ≡ b + (1 + s * n)
turns_weigh x b n w s e same = rw (e, same) (omega arith)

pub fits_for : (xs body : List Stmt) (n : ℕ) (s : Size) (c : ℕ) → Fits [] body s c → Fits xs (xs ++ For n body ∷ []) (also one (repeated n s)) c
unfolding also repeated
fits_for xs body n s c f =
    let is = for_is n body in
    let i1 = is.statements in
    let i2 = is.weights in
    let i3 = is.nesting in
    let i4 = is.cells in
    let p1 = count_push xs (For n body) in
    let p2 = weight_push xs (For n body) in
    let p3 = nesting_push xs (For n body) in
    let p4 = cells_push xs (For n body) in
    let f1 = f.statements in
    let f2 : weight_sum body ≡ s.weights = (let h = f.weights in omega arith) in
    let f3 = f.nesting in
    let f4 = f.cells in
    record {
      statements = omega arith;
      weights = turns_weigh (weight_sum (xs ++ For n body ∷ [])) (weight_sum xs) n (weight_sum body) s.weights (p2 ∙ ap (λ z. weight_sum xs + z) i2) f2;
      nesting = omega arith;
      cells = omega arith;
    }
