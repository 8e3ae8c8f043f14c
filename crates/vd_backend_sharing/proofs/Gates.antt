-- The gates of each operation make what its circuit makes.
use Rattle.std.proofs.Common.{◌≡◌, ℕ, ◌<◌, ◌≤◌, lit<, lit≤, IsTrue, List, [], ◌∷◌, length, refl, sym, subst, arith}
use Rattle.vd_base.specs.declared.operations.Op.{Op}
use Rattle.vd_base.specs.declared.operations.Op.TheVariants as op
use Rattle.vd_base.specs.Arity.{arity}
use Rattle.vd_backend_sharing.specs.Circuits.{carries, all_of}
use Rattle.vd_backend_sharing.specs.Computing.{IsResult, circuit, HasCircuit, AreWords}
use Rattle.vd_backend_sharing.specs.Gates.{gates_of, after, newest, are_in_order}
use Rattle.vd_backend_sharing.proofs.Computing.{computes}

abbrev Makes : Op → List ℕ → Type 0
Makes o xs = newest (after (gates_of o) xs) ≡ circuit o xs

of_one : (o : Op) → ((x : ℕ) → Makes o (x ∷ [])) → (xs : List ℕ) → length xs ≡ 1 → Makes o xs
of_one o h [] e = absurd (omega arith)
of_one o h (x ∷ []) e = h x
of_one o h (x ∷ y ∷ xs) e = absurd (omega arith)

of_two : (o : Op) → ((x y : ℕ) → Makes o (x ∷ y ∷ [])) → (xs : List ℕ) → length xs ≡ 2 → Makes o xs
of_two o h [] e = absurd (omega arith)
of_two o h (x ∷ []) e = absurd (omega arith)
of_two o h (x ∷ y ∷ []) e = h x y
of_two o h (x ∷ y ∷ z ∷ xs) e = absurd (omega arith)

of_three : (o : Op) → ((x y z : ℕ) → Makes o (x ∷ y ∷ z ∷ [])) → (xs : List ℕ) → length xs ≡ 3 → Makes o xs
of_three o h [] e = absurd (omega arith)
of_three o h (x ∷ []) e = absurd (omega arith)
of_three o h (x ∷ y ∷ []) e = absurd (omega arith)
of_three o h (x ∷ y ∷ z ∷ []) e = h x y z
of_three o h (x ∷ y ∷ z ∷ v ∷ xs) e = absurd (omega arith)

makes : (o : Op) (xs : List ℕ) → HasCircuit o → length xs ≡ arity o → Makes o xs
unfolding gates_of carries all_of
makes op.Add xs h e = of_two op.Add (λ x y. refl) xs e
makes op.Sub xs h e = of_two op.Sub (λ x y. refl) xs e
makes op.And xs h e = of_two op.And (λ x y. refl) xs e
makes op.Or xs h e = of_two op.Or (λ x y. refl) xs e
makes op.Xor xs h e = of_two op.Xor (λ x y. refl) xs e
makes op.Not xs h e = of_one op.Not (λ x. refl) xs e
makes op.Flip xs h e = of_one op.Flip (λ x. refl) xs e
makes (op.Shl amount) xs h e = of_one (op.Shl amount) (λ x. refl) xs e
makes (op.Shr amount) xs h e = of_one (op.Shr amount) (λ x. refl) xs e
makes op.Eq xs h e = of_two op.Eq (λ x y. refl) xs e
makes op.Ne xs h e = of_two op.Ne (λ x y. refl) xs e
makes op.Lt xs h e = of_two op.Lt (λ x y. refl) xs e
makes op.Le xs h e = of_two op.Le (λ x y. refl) xs e
makes op.Min xs h e = of_two op.Min (λ x y. refl) xs e
makes op.Max xs h e = of_two op.Max (λ x y. refl) xs e
makes op.Mux xs h e = of_three op.Mux (λ x y z. refl) xs e
makes op.Mul xs h e = cc
makes (op.Scale factor) xs h e = cc
makes op.Div xs h e = cc
makes op.Rem xs h e = cc

pub gates_compute : (o : Op) (xs : List ℕ) → HasCircuit o → length xs ≡ arity o → AreWords xs → IsResult o xs (newest (after (gates_of o) xs))
gates_compute o xs h e w = subst (λ (z : ℕ). IsResult o xs z) (sym (makes o xs h e)) (computes o xs h w)

pub in_order : (o : Op) → IsTrue (are_in_order (arity o) (gates_of o))
unfolding gates_of
in_order op.Add = refl
in_order op.Sub = refl
in_order op.Mul = refl
in_order (op.Scale factor) = refl
in_order op.Div = refl
in_order op.Rem = refl
in_order op.And = refl
in_order op.Or = refl
in_order op.Xor = refl
in_order op.Not = refl
in_order op.Flip = refl
in_order (op.Shl amount) = refl
in_order (op.Shr amount) = refl
in_order op.Eq = refl
in_order op.Ne = refl
in_order op.Lt = refl
in_order op.Le = refl
in_order op.Min = refl
in_order op.Max = refl
in_order op.Mux = refl

pub few : (o : Op) → HasCircuit o → (0 < length (gates_of o)) × (length (gates_of o) ≤ 31)
unfolding gates_of
few op.Add h = (lit< tt, lit≤ tt)
few op.Sub h = (lit< tt, lit≤ tt)
few op.Mul h = cc
few (op.Scale factor) h = cc
few op.Div h = cc
few op.Rem h = cc
few op.And h = (lit< tt, lit≤ tt)
few op.Or h = (lit< tt, lit≤ tt)
few op.Xor h = (lit< tt, lit≤ tt)
few op.Not h = (lit< tt, lit≤ tt)
few op.Flip h = (lit< tt, lit≤ tt)
few (op.Shl amount) h = (lit< tt, lit≤ tt)
few (op.Shr amount) h = (lit< tt, lit≤ tt)
few op.Eq h = (lit< tt, lit≤ tt)
few op.Ne h = (lit< tt, lit≤ tt)
few op.Lt h = (lit< tt, lit≤ tt)
few op.Le h = (lit< tt, lit≤ tt)
few op.Min h = (lit< tt, lit≤ tt)
few op.Max h = (lit< tt, lit≤ tt)
few op.Mux h = (lit< tt, lit≤ tt)
