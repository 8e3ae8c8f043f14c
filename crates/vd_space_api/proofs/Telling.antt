-- What it costs to tell an index to the hosts of its array, from the last host to the first.
use Rattle.std.proofs.Common.{◌≡◌, ℕ, suc, ◌+◌, ◌-◌, ◌<◌, ◌≤◌, Bool, true, false, cond, Option, Some, List, ◌∷◌, length, map, filter, refl, sym, ap, ap₂, ◌∙◌, arith}
use Rattle.std.specs.List.{range_with_len}
use Rattle.vd_base.specs.declared.ids.HostId.{HostId}
use Rattle.vd_base.specs.declared.protocols.Proto.{Proto}
use Rattle.vd_base.specs.HostSets.{host}
use Rattle.vd_space.specs.declared.problem.Problem.{Problem}
use Rattle.vd_space.specs.Validity.{protocols, holds_at, move_to_host}
use Rattle.vd_space.specs.Costs.{moves_to, plus, hosts_at}
use Rattle.vd_space_api.specs.Low.{with_price}

module _ (problem : Problem) (q p : ℕ) where
  -- from a host on
  abbrev pub told_from : ℕ → Option ℕ
  told_from h = moves_to problem q (filter (λ k. holds_at problem k p) (map host (range_with_len h (length problem.hosts - h))))

  told_one : (test : Bool) (h : HostId) (rest : List HostId) → moves_to problem q (cond test (h ∷ rest) rest) ≡ cond test (plus (move_to_host problem h q) (moves_to problem q rest)) (moves_to problem q rest)
  told_one true h rest = refl
  told_one false h rest = refl

  pub told_start : (h : ℕ) → length problem.hosts ≤ h → Some 0 ≡ told_from h
  told_start h past =
      let none : length problem.hosts - h ≡ 0 = omega (arith, past) in
      sym (ap (λ k. moves_to problem q (filter (λ j. holds_at problem j p) (map host (range_with_len h k)))) none)

  pub told_next : (list : List Proto) → list ≡ protocols problem → (h after : ℕ) (sum more : Option ℕ) → after ≡ h + 1 → h < length problem.hosts → sum ≡ told_from after → more ≡ with_price list p q (host h) sum → more ≡ told_from h
  told_next list listed h after sum more one low so_far is =
      let left : length problem.hosts - h ≡ suc (length problem.hosts - (h + 1)) = omega (arith, low) in
      let rest = filter (λ k. holds_at problem k p) (map host (range_with_len (h + 1) (length problem.hosts - (h + 1)))) in
      is ∙ ap₂ (λ l s. with_price l p q (host h) s) listed (so_far ∙ ap told_from one)
      ∙ sym (told_one (holds_at problem (host h) p) (host h) rest)
      ∙ sym (ap (λ k. moves_to problem q (filter (λ j. holds_at problem j p) (map host (range_with_len h k)))) left)

  pub told_whole : (h : ℕ) → h ≡ 0 → told_from h ≡ moves_to problem q (hosts_at problem p)
  told_whole h none = ap told_from none ∙ ap (λ k. moves_to problem q (filter (λ j. holds_at problem j p) (map host (range_with_len 0 k)))) (omega arith)
