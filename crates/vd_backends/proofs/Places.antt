-- The register at a place of parts.
use Rattle.std.proofs.Common.{◌≡◌, ℕ, zero, suc, ◌≤◌, ltb, true, Option, Some, None, List, [], ◌∷◌, length, get_or, slice_get, refl, sym, ap, subst, ◌∙◌}
use Rattle.std.proofs.lemmas.Bool.{ltb-true}
use Rattle.std.proofs.lemmas.Option.{slice_get_read, slice_get_past}
use Rattle.vd_base.specs.declared.ids.HostId.{HostId}
use Rattle.vd_execution.specs.declared.instructions.Reg.{Reg}
use Rattle.vd_execution.specs.Text.{register}
use Rattle.vd_duet.specs.Calls.{in_clear}
use Rattle.vd_duet.specs.declared.parts.Part.{Part}
use Rattle.vd_backend_laws.specs.Commits.{place}

abbrev reg_of : Option (HostId × Part) → Reg
reg_of None = register 0
reg_of (Some q) = q.1.0

place_got : (xs : List (HostId × Part)) (i : ℕ) → place (in_clear xs) i ≡ reg_of (slice_get xs i)
place_got [] zero = refl
place_got [] (suc i) = refl
place_got (x ∷ xs) zero = refl
place_got (x ∷ xs) (suc i) = place_got xs i

module _ (xs slice : List (HostId × Part)) (same : slice ≡ xs) (i : ℕ) where
  pub place_some : (q : HostId × Part) → true ≡ ltb i (length slice) → q ≡ get_or slice i q → q.1.0 ≡ place (in_clear xs) i
  place_some q low read =
      let at : slice_get slice i ≡ Some q = slice_get_read slice (length slice) i q refl (ltb-true i (length slice) (sym low)) read in
      subst (λ (ys : List (HostId × Part)). q.1.0 ≡ place (in_clear ys) i) same (sym (place_got slice i ∙ ap reg_of at))

  pub place_none : length slice ≤ i → register 0 ≡ place (in_clear xs) i
  place_none past = subst (λ (ys : List (HostId × Part)). register 0 ≡ place (in_clear ys) i) same (sym (place_got slice i ∙ ap reg_of (slice_get_past slice i past)))
