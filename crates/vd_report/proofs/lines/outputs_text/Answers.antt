use Rattle.std.proofs.Common.{◌≡◌, ◌++◌, ℕ, List, [], ◌∷◌, length, ◌⊎◌, inl, inr, refl, ap, sym, ◌∙◌, append-nil, arith}
use Rattle.vd_report.specs.Lines.{output_lines}
use Rattle.vd_report.proofs.lines.outputs_text.Goals as goal

no_line : (hosts outputs : List (List ℕ)) → (length hosts ≡ 0) ⊎ (length outputs ≡ 0) → output_lines hosts outputs ≡ []
no_line [] outputs e = refl
no_line (host ∷ hosts) [] e = refl
no_line (host ∷ hosts) (words ∷ outputs) (inl e) = absurd (omega arith)
no_line (host ∷ hosts) (words ∷ outputs) (inr e) = absurd (omega arith)

pub returns : goal.returns
returns c =
    let at = c.loop-host.host-iterator in
    let ended : (length at.a.rest.now ≡ 0) ⊎ (length at.b.rest.now ≡ 0) = elim c.in-None.ensures.steps [ inl e ↦ inl e.1.0 | inr e ↦ inr e.1.0 ] in
    sym (append-nil c.loop-host.text) ∙ ap (λ more. c.loop-host.text ++ more) (sym (no_line at.a.rest.now at.b.rest.now ended)) ∙ c.loop-host.invariant
