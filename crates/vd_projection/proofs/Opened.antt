-- The registers that the packets of each host open, in a list by host.
use Rattle.std.proofs.Common.{◌≡◌, ℕ, zero, suc, ◌+◌, ◌<◌, ◌≤◌, ◌⊎◌, inl, inr, List, [], ◌∷◌, map, slice_index_or, refl, sym, ap, ◌∙◌, subst, arith}
use mathlib.Core.Path.{fun_ext}
use Rattle.std.specs.List.{range_with_len}
use Rattle.std.proofs.lemmas.Bool.{cases_lt}
use Rattle.vd_execution.specs.declared.instructions.Instr.{Instr}
use Rattle.vd_execution.specs.declared.instructions.Line.{Line}
use Rattle.vd_execution.specs.declared.instructions.Reg.{Reg}
use Rattle.vd_execution.specs.Joint.{Joint, IsTidy, code_of}
use Rattle.vd_execution.specs.Text.{flat, pick, text}
use Rattle.vd_execution.proofs.Front.{picks}
use Rattle.vd_reorder.specs.Packets.{opened_in}
use Rattle.vd_choreography_reorder.specs.Testing.{opened_at}
use Rattle.vd_projection.specs.Early.{opened_of, IsOfHosts}

-- what a list by host has
item_at : {X : Type 0} (f : ℕ → X) (k n h : ℕ) (d : X) → h < n → slice_index_or (map f (range_with_len k n)) h d ≡ f (k + h)
item_at f k zero h d lt = absurd (omega (arith, lt))
item_at f k (suc n) zero d lt = let same : k ≡ k + 0 = omega arith in ap f same
item_at f k (suc n) (suc h) d lt = let same : k + 1 + h ≡ k + suc h = omega arith in item_at f (k + 1) n h d (omega (arith, lt)) ∙ ap f same

none_past : {X : Type 0} (f : ℕ → X) (k n h : ℕ) (d : X) → n ≤ h → slice_index_or (map f (range_with_len k n)) h d ≡ d
none_past f k zero h d le = refl
none_past f k (suc n) zero d le = absurd (omega (arith, le))
none_past f k (suc n) (suc h) d le = none_past f (k + 1) n h d (omega (arith, le))

module _ (hosts : ℕ) (j : Joint) (tidy : IsTidy j) (of : IsOfHosts hosts j) where
  abbrev each : ℕ → List Reg
  each h = opened_in [] (pick h (flat j []))

  picked : (h : ℕ) → each h ≡ opened_of j h
  picked h = ap (opened_in []) (picks h j tidy [])

  at_host : (h : ℕ) → (h < hosts) ⊎ (hosts ≤ h) → opened_at (map each (range_with_len 0 hosts)) h ≡ opened_of j h
  at_host h (inl lt) = let same : 0 + h ≡ h = omega arith in item_at each 0 hosts h [] lt ∙ ap each same ∙ picked h
  at_host h (inr le) = none_past each 0 hosts h [] le ∙ sym (ap (λ c. opened_in [] (text c [])) (of h le))

  pub opened_there : (opened : List (List Reg)) → opened ≡ map each (range_with_len 0 hosts) → opened_at opened ≡ opened_of j
  opened_there opened is = ap opened_at is ∙ fun_ext (λ h. at_host h (cases_lt h hosts))
