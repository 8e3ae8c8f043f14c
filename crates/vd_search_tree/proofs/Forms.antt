-- The forms of a certificate with a cost.
use Rattle.std.specs.Prelude.{Result, OnOk, ⊤}
use Rattle.std.proofs.Common.{◌≡◌, ℕ, ◌<◌, Bool, Some, Ok, Err, List, [], ◌∷◌, ◌++◌, length, codes, refl, ap, ◌∙◌, append_assoc, arith}
use Rattle.vd_search_tree.specs.declared.shift.Shift.{Shift}
use Rattle.vd_search_tree.specs.Texts.{claim_text, cost_text, heading, shifts_text}

pub first_form : (cost : ℕ) (by_arcs : Bool) (shifts : List Shift) → length shifts ≡ 0 → claim_text (Some cost) by_arcs shifts ≡ codes "viaduct-cert 1\n" ++ cost_text cost
first_form cost by_arcs [] none = refl
first_form cost by_arcs (shift ∷ shifts) none = absurd (omega arith)

pub further_form : (cost : ℕ) (by_arcs : Bool) (shifts : List Shift) → 0 < length shifts → claim_text (Some cost) by_arcs shifts ≡ heading by_arcs ++ cost_text cost ++ shifts_text shifts
further_form cost by_arcs [] some = absurd (omega arith)
further_form cost by_arcs (shift ∷ shifts) some = refl

-- what a call that may fail says, of a text before it
pub appended : {E : Type 0} (r : Result ⊤ E) (old front text new more : List ℕ) → text ≡ old ++ front → OnOk r (new ≡ text ++ more) → OnOk r (new ≡ old ++ (front ++ more))
appended (Ok x) old front text new more is then = then ∙ ap (λ t. t ++ more) is ∙ append_assoc old front more
appended (Err e) old front text new more is then = tt
