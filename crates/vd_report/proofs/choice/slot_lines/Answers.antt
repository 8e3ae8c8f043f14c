use Rattle.std.proofs.Common.{◌≡◌, ◌++◌, ℕ, List, [], ◌∷◌, length, ◌⊎◌, inl, inr, refl, ap, sym, ◌∙◌, append-nil, arith}
use Rattle.vd_base.specs.declared.protocols.Proto.{Proto}
use Rattle.vd_core.specs.declared.normal.Slot.{Slot}
use Rattle.vd_report.specs.ChoiceLines.{slot_lines}
use Rattle.vd_report.proofs.choice.slot_lines.Goals as goal

no_line : (names : List (List ℕ)) (number : ℕ) (slots : List Slot) (protocols : List Proto) → (length slots ≡ 0) ⊎ (length protocols ≡ 0) → slot_lines names number slots protocols ≡ []
no_line names number [] protocols e = refl
no_line names number (slot ∷ slots) [] e = refl
no_line names number (slot ∷ slots) (protocol ∷ protocols) (inl e) = absurd (omega arith)
no_line names number (slot ∷ slots) (protocol ∷ protocols) (inr e) = absurd (omega arith)

pub returns : goal.returns
returns c =
    let at = c.loop-number.number-iterator in
    let names = c.args.form.now.hosts in
    let ended : (length at.iter.a.rest.now ≡ 0) ⊎ (length at.iter.b.rest.now ≡ 0) = elim c.in-None.ensures.steps.0 [ inl e ↦ inl e.1.0 | inr e ↦ inr e.1.0 ] in
    sym (append-nil c.loop-number.text) ∙ ap (λ more. c.loop-number.text ++ more) (sym (no_line names at.count at.iter.a.rest.now at.iter.b.rest.now ended)) ∙ c.loop-number.invariant
