-- The instructions of a code, with the lengths of their blocks, are that code.
use Rattle.std.proofs.Common.{◌≡◌, ℕ, zero, suc, ◌≤◌, List, [], ◌∷◌, ◌++◌, length, take, drop, replicate, refl, sym, ap, ap₂, ◌∙◌, subst, arith, get_or, append_assoc}
use Rattle.std.proofs.Math.Seq.{take-append_seam}
use mathlib.Core.Path.{fun_ext}
use Rattle.vd_execution.specs.Code.{Code, Finished, Then, Send, Recv, Choose, Repeat}
use Rattle.vd_base.specs.HostSets.{host}
use Rattle.vd_execution.specs.Text.{IsUnbegun}
use Rattle.vd_execution.specs.Step.{Source, Inputs, OwnWords, Triples, BitTriples, Pairs}
use Rattle.vd_machine.specs.declared.ops.Plain.TheVariants as plain
use Rattle.vd_machine.specs.declared.ops.Op.{Op}
use Rattle.vd_machine.specs.declared.ops.Op.TheVariants.{Plain as One, If, For}
use Rattle.vd_machine.specs.Machines.{held, cursors_of}
use Rattle.vd_machine.specs.Kept.{code_of, IsFit, FitsWithin}
use Rattle.vd_machine.specs.Resolved.{size, ops_of}
use Rattle.vd_execution.specs.Ranges.{CodeFits}
use Rattle.vd_machine.proofs.Spans.{code_if, code_for, fits_enough}
use Rattle.vd_machine.proofs.Resolving.{ops_length}

ops_split : (c : Code) (behind : List Op) → ops_of c behind ≡ ops_of c [] ++ behind
ops_split Finished behind = refl
ops_split (Then a c) behind = ap (λ l. One (plain.Do a) ∷ l) (ops_split c behind)
ops_split (Send p rs c) behind = ap (λ l. One (plain.Send (host p) rs) ∷ l) (ops_split c behind)
ops_split (Recv p rs c) behind = ap (λ l. One (plain.Recv (host p) rs) ∷ l) (ops_split c behind)
ops_split (Choose g first other c) behind =
    ap (λ l. If g (size first) (size other) ∷ l)
    (ap (λ l. ops_of first (ops_of other l)) (ops_split c behind) ∙ ap (ops_of first) (pushed other (ops_of c []) behind (ops_split other)) ∙ pushed first (ops_of other (ops_of c [])) behind (ops_split first))
  where
    pushed : (d : Code) (x y : List Op) → ((z : List Op) → ops_of d z ≡ ops_of d [] ++ z) → ops_of d (x ++ y) ≡ ops_of d x ++ y
    pushed d x y e = e (x ++ y) ∙ sym (append_assoc (ops_of d []) x y) ∙ ap (λ l. l ++ y) (sym (e x))
ops_split (Repeat r i n body c) behind =
    ap (λ l. For r n (size body) ∷ l)
    (ap (ops_of body) (ops_split c behind) ∙ pushed body (ops_of c []) behind (ops_split body))
  where
    pushed : (d : Code) (x y : List Op) → ((z : List Op) → ops_of d z ≡ ops_of d [] ++ z) → ops_of d (x ++ y) ≡ ops_of d x ++ y
    pushed d x y e = e (x ++ y) ∙ sym (append_assoc (ops_of d []) x y) ∙ ap (λ l. l ++ y) (sym (e x))

own_length : (c : Code) → length (ops_of c []) ≡ size c
own_length c = let h = ops_length c [] in omega (arith, h)

drop_seam : {X : Type 0} (xs ys : List X) → drop (length xs) (xs ++ ys) ≡ ys
drop_seam [] ys = refl
drop_seam (x ∷ xs) ys = drop_seam xs ys

take_ops : (c : Code) (behind : List Op) → take (size c) (ops_of c behind) ≡ ops_of c []
take_ops c behind = ap₂ (λ (n : ℕ) (l : List Op). take n l) (sym (own_length c)) (ops_split c behind) ∙ take-append_seam (ops_of c []) behind

drop_ops : (c : Code) (behind : List Op) → drop (size c) (ops_of c behind) ≡ behind
drop_ops c behind = ap₂ (λ (n : ℕ) (l : List Op). drop n l) (sym (own_length c)) (ops_split c behind) ∙ drop_seam (ops_of c []) behind

pub code_back : (c : Code) → IsUnbegun c → code_of (ops_of c []) ≡ c
code_back Finished u = refl
code_back (Then a c) u = ap (λ d. Then a d) (code_back c u)
code_back (Send p rs c) u = ap (λ d. Send p rs d) (code_back c u)
code_back (Recv p rs c) u = ap (λ d. Recv p rs d) (code_back c u)
code_back (Choose g first other c) u =
    let behind : List Op = ops_of other (ops_of c []) in
    code_if g (size first) (size other) (ops_of first behind)
    ∙ ap₂ (λ (x y : List Op). Choose g (code_of x) (code_of (take (size other) y)) (code_of (drop (size other) y))) (take_ops first behind) (drop_ops first behind)
    ∙ ap₂ (λ (x y : List Op). Choose g (code_of (ops_of first [])) (code_of x) (code_of y)) (take_ops other (ops_of c [])) (drop_ops other (ops_of c []))
    ∙ ap (λ d. Choose g d (code_of (ops_of other [])) (code_of (ops_of c []))) (code_back first u.0)
    ∙ ap₂ (λ (d e : Code). Choose g first d e) (code_back other u.1.0) (code_back c u.1.1)
code_back (Repeat r i n body c) u =
    code_for r n (size body) (ops_of body (ops_of c []))
    ∙ ap₂ (λ (x y : List Op). Repeat r 0 n (code_of x) (code_of y)) (take_ops body (ops_of c [])) (drop_ops body (ops_of c []))
    ∙ ap₂ (λ (d e : Code). Repeat r 0 n d e) (code_back body u.1.0) (code_back c u.1.1)
    ∙ ap (λ t. Repeat r t n body c) (sym u.0)

-- each block ends within the list, and each register is in range
within : (r n : ℕ) (is js : List Op) → is ≡ js → IsFit r js → length js ≤ n → FitsWithin r n is
within r n is js e f h = subst (λ l. FitsWithin r n l) (sym e) (fits_enough r (length js) n js (omega arith) h f)

pub fit : (r : ℕ) (c : Code) → CodeFits r c → IsFit r (ops_of c [])
fit r Finished f = refl
fit r (Then a c) f = (f.0, fit r c f.1)
fit r (Send p rs c) f = (f.0, fit r c f.1)
fit r (Recv p rs c) f = (f.0, fit r c f.1)
fit r (Choose g first other c) f =
    let behind : List Op = ops_of other (ops_of c []) in
    let n : ℕ = length (ops_of first behind) in
    let x = ops_length first behind in let y = ops_length other (ops_of c []) in
    let a = own_length first in let b = own_length other in let d = own_length c in (
      f.0,
      omega (arith, x, y),
      within r n _ _ (take_ops first behind) (fit r first f.1.0) (omega (arith, x, a)),
      within r n _ _ (ap (take (size other)) (drop_ops first behind) ∙ take_ops other (ops_of c [])) (fit r other f.1.1.0) (omega (arith, x, y, b)),
      within r n _ _ (ap (drop (size other)) (drop_ops first behind) ∙ drop_ops other (ops_of c [])) (fit r c f.1.1.1) (omega (arith, x, y, d)),
    )
fit r (Repeat x i n body c) f =
    let m : ℕ = length (ops_of body (ops_of c [])) in
    let y = ops_length body (ops_of c []) in
    let a = own_length body in let d = own_length c in (
      f.0,
      omega (arith, y),
      within r m _ _ (take_ops body (ops_of c [])) (fit r body f.1.0) (omega (arith, y, a)),
      within r m _ _ (drop_ops body (ops_of c [])) (fit r c f.1.1) (omega (arith, y, d)),
    )

-- at the start
zeros_at : (n j : ℕ) → get_or (replicate n zero) j zero ≡ zero
zeros_at zero j = refl
zeros_at (suc n) zero = refl
zeros_at (suc n) (suc j) = zeros_at n j

pub zeros_held : (n : ℕ) → held (replicate n 0) ≡ (λ j. 0)
zeros_held n = fun_ext (zeros_at n)

none_at : (i j k : ℕ) (s : Source) → cursors_of (record { inputs = 0; own = 0; triples = replicate i 0; bits = replicate j 0; pairs = replicate k 0 }) s ≡ 0
none_at i j k Inputs = refl
none_at i j k OwnWords = refl
none_at i j k (Triples p) = zeros_at i p
none_at i j k (BitTriples p) = zeros_at j p
none_at i j k (Pairs p) = zeros_at k p

pub none_taken : (i j k : ℕ) → cursors_of (record { inputs = 0; own = 0; triples = replicate i 0; bits = replicate j 0; pairs = replicate k 0 }) ≡ (λ s. 0)
none_taken i j k = fun_ext (none_at i j k)
