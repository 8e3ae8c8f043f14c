-- Whether one of the first hosts may read.
use Rattle.std.proofs.Common.{◌≡◌, ◌⊎◌, inl, inr, ℕ, zero, suc, ◌+◌, ◌<◌, ◌≤◌, Bool, true, false, ◌||◌, refl, sym, ap, ◌∙◌, subst, arith}
use Rattle.std.proofs.lemmas.Bool.{cases_lt}
use Rattle.vd_core.specs.declared.normal.NormalForm.{NormalForm}
use Rattle.vd_formula.specs.declared.label.Label.{Label}
use Rattle.vd_constraints.specs.Rules.{host_label}
use Rattle.vd_formula.specs.TruthTable.{acts}
use Rattle.vd_mux.specs.Hidden.{host, some_reads}

or_true : (b : Bool) → (b || true) ≡ true
or_true true = refl
or_true false = refl

module _ (p : NormalForm) (label : Label) where
  pub one_more : (n : ℕ) → some_reads p n label ≡ false → acts (host_label p (host n)).conf label.conf ≡ false → some_reads p (n + 1) label ≡ false
  one_more n before here =
      let e : suc n ≡ n + 1 = omega arith in
      subst (λ k. some_reads p k label ≡ false) e (rw (before, here) refl)

  pub found : (m n : ℕ) → n < m → acts (host_label p (host n)).conf label.conf ≡ true → some_reads p m label ≡ true
  found zero n lt here = absurd (omega arith)
  found (suc m) n lt here = by (cases_lt n m) (λ less. found m n less here)
    where
      last : n ≡ m → (some_reads p m label || acts (host_label p (host m)).conf label.conf) ≡ true
      last e = ap (λ b. some_reads p m label || b) (subst (λ k. acts (host_label p (host k)).conf label.conf ≡ true) e here) ∙ or_true (some_reads p m label)

      by : (n < m) ⊎ (m ≤ n) → (n < m → some_reads p m label ≡ true) → (some_reads p m label || acts (host_label p (host m)).conf label.conf) ≡ true
      by (inl less) earlier = ap (λ b. b || acts (host_label p (host m)).conf label.conf) (earlier less)
      by (inr le) earlier = last (omega arith)
