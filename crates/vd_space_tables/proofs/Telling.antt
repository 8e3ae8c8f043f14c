-- What it costs to tell an index, host by host.
use Rattle.std.proofs.Common.{◌≡◌, ℕ, suc, ◌+◌, ◌-◌, ◌<◌, ◌≤◌, Option, Some, None, List, ◌∷◌, map, filter, refl, sym, ap, ◌∙◌, arith, inl, inr}
use Rattle.std.specs.Prelude.{unwrap_or, if◌then◌else◌}
use Rattle.std.specs.List.{range_with_len}
use Rattle.std.proofs.lemmas.Bool.{cases_Bool, cond-true, cond-false}
use Rattle.vd_base.specs.declared.ids.HostId.{HostId}
use Rattle.vd_base.specs.HostSets.{host}
use Rattle.vd_space.specs.declared.problem.Problem.{Problem}
use Rattle.vd_space.specs.Validity.{holds_at, move_to_host}
use Rattle.vd_space.specs.Costs.{plus, moves_to}

plus_together : (a b c : Option ℕ) → plus (plus a b) c ≡ plus a (plus b c)
plus_together None b c = refl
plus_together (Some a) None c = refl
plus_together (Some a) (Some b) None = refl
plus_together (Some a) (Some b) (Some c) = ap Some (omega arith)

plus_nothing : (a : Option ℕ) → plus (Some 0) a ≡ a
plus_nothing None = refl
plus_nothing (Some a) = ap Some (omega arith)

pub plus_few : (a b : Option ℕ) (m n : ℕ) → unwrap_or a 0 ≤ m → unwrap_or b 0 ≤ n → unwrap_or (plus a b) 0 ≤ m + n
plus_few None b m n first second = omega arith
plus_few (Some a) None m n first second = omega arith
plus_few (Some a) (Some b) m n first second = omega (arith, first, second)

module _ (problem : Problem) (q p : ℕ) where
  abbrev pub told : HostId → Option ℕ
  told h = if holds_at problem h p then move_to_host problem h q else Some 0

  -- what is left from a host on
  abbrev pub rest_from : ℕ → ℕ → Option ℕ
  rest_from h n = moves_to problem q (filter (λ x. holds_at problem x p) (map host (range_with_len h (n - h))))

  next : (h : HostId) (hs : List HostId) → moves_to problem q (filter (λ x. holds_at problem x p) (h ∷ hs)) ≡ plus (told h) (moves_to problem q (filter (λ x. holds_at problem x p) hs))
  next h hs = elim (cases_Bool (holds_at problem h p)) [
    | inl holds ↦
        let others = filter (λ x. holds_at problem x p) hs in
        ap (moves_to problem q) (cond-true (holds_at problem h p) (h ∷ others) others holds)
        ∙ ap (λ a. plus a (moves_to problem q others)) (sym (cond-true (holds_at problem h p) (move_to_host problem h q) (Some 0) holds))
    | inr not_there ↦
        let others = filter (λ x. holds_at problem x p) hs in
        ap (moves_to problem q) (cond-false (holds_at problem h p) (h ∷ others) others not_there)
        ∙ sym (plus_nothing (moves_to problem q others))
        ∙ ap (λ a. plus a (moves_to problem q others)) (sym (cond-false (holds_at problem h p) (move_to_host problem h q) (Some 0) not_there))
  ]

  rest_next : (h n : ℕ) → h < n → rest_from h n ≡ plus (told (host h)) (rest_from (h + 1) n)
  rest_next h n low =
      let one : n - h ≡ suc (n - (h + 1)) = omega arith in
      ap (λ k. moves_to problem q (filter (λ x. holds_at problem x p) (map host (range_with_len h k)))) one
      ∙ next (host h) (map host (range_with_len (h + 1) (n - (h + 1))))

  pub telling_step : (h n : ℕ) (sum more price whole : Option ℕ) → h < n → plus sum (rest_from h n) ≡ whole → price ≡ told (host h) → more ≡ plus sum price → plus more (rest_from (h + 1) n) ≡ whole
  telling_step h n sum more price whole low so_far is added =
      ap (λ a. plus a (rest_from (h + 1) n)) (added ∙ ap (plus sum) is)
      ∙ plus_together sum (told (host h)) (rest_from (h + 1) n)
      ∙ ap (plus sum) (sym (rest_next h n low))
      ∙ so_far
