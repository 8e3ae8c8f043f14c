use Rattle.std.proofs.Common.{◌≡◌, ◌++◌, ℕ, List, [], ◌∷◌, length, ◌⊎◌, inl, inr, refl, ap, sym, ◌∙◌, append-nil, arith}
use Rattle.vd_deal_needs.specs.declared.taking.HostNeeds.{HostNeeds}
use Rattle.vd_cmd_needs.specs.Lines.{host_lines}
use Rattle.vd_cmd_needs.proofs.lines.host_lines.Goals as goal

no_line : (names : List (List ℕ)) (needs : List HostNeeds) → (length names ≡ 0) ⊎ (length needs ≡ 0) → host_lines names needs ≡ []
no_line [] needs e = refl
no_line (name ∷ names) [] e = refl
no_line (name ∷ names) (host ∷ needs) (inl e) = absurd (omega arith)
no_line (name ∷ names) (host ∷ needs) (inr e) = absurd (omega arith)

pub returns : goal.returns
returns c =
    let at = c.loop-name.name-iterator in
    let ended : (length at.a.rest.now ≡ 0) ⊎ (length at.b.rest.now ≡ 0) = elim c.in-None.ensures.steps [ inl e ↦ inl e.1.0 | inr e ↦ inr e.1.0 ] in
    sym (append-nil c.loop-name.text) ∙ ap (λ more. c.loop-name.text ++ more) (sym (no_line at.a.rest.now at.b.rest.now ended)) ∙ c.loop-name.invariant
