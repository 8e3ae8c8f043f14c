-- The names of a set, one after another.
use Rattle.std.proofs.Common.{◌≡◌, ℕ, ◌+◌, ◌<◌, Bool, true, false, if◌then◌else◌, List, ◌∷◌, ◌++◌, length, drop, get_or, ap, sym, ◌∙◌}
use Rattle.std.proofs.lemmas.List.{append_assoc, drop_more}
use Rattle.vd_formula.specs.TruthTable.{has}
use Rattle.vd_report.specs.LabelLines.{all_behind, joined, members}

-- a part that is put behind the text, and the parts that are still to come
part_more : (separator part : List ℕ) (rest : List (List ℕ)) (first : Bool) (text : List ℕ)
    → (text ++ (if first then part else separator ++ part)) ++ all_behind separator rest ≡ text ++ (if first then joined separator (part ∷ rest) else all_behind separator (part ∷ rest))
part_more separator part rest true text = append_assoc text part (all_behind separator rest)
part_more separator part rest false text = append_assoc text (separator ++ part) (all_behind separator rest)

member_here : (names : List (List ℕ)) (place set : ℕ) (d : List ℕ) → place < length names → has set place ≡ true
    → members place (drop place names) set ≡ get_or names place d ∷ members (place + 1) (drop (place + 1) names) set
member_here names place set d lt e =
    ap (λ z. members place z set) (drop_more names place d lt)
    ∙ ap (λ b. if b then get_or names place d ∷ members (place + 1) (drop (place + 1) names) set else members (place + 1) (drop (place + 1) names) set) e

member_not_here : (names : List (List ℕ)) (place set : ℕ) (d : List ℕ) → place < length names → has set place ≡ false
    → members place (drop place names) set ≡ members (place + 1) (drop (place + 1) names) set
member_not_here names place set d lt e =
    ap (λ z. members place z set) (drop_more names place d lt)
    ∙ ap (λ b. if b then get_or names place d ∷ members (place + 1) (drop (place + 1) names) set else members (place + 1) (drop (place + 1) names) set) e

-- a place that is a member: its name is put behind the text
pub member_put : (separator : List ℕ) (names : List (List ℕ)) (place set : ℕ) (d : List ℕ) (first : Bool) (text text' all : List ℕ) → place < length names → has set place ≡ true
    → text' ≡ text ++ (if first then get_or names place d else separator ++ get_or names place d)
    → text ++ (if first then joined separator (members place (drop place names) set) else all_behind separator (members place (drop place names) set)) ≡ all
    → text' ++ all_behind separator (members (place + 1) (drop (place + 1) names) set) ≡ all
member_put separator names place set d first text text' all lt e is known =
    ap (λ z. z ++ all_behind separator (members (place + 1) (drop (place + 1) names) set)) is
    ∙ part_more separator (get_or names place d) (members (place + 1) (drop (place + 1) names) set) first text
    ∙ ap (λ z. text ++ (if first then joined separator z else all_behind separator z)) (sym (member_here names place set d lt e)) ∙ known

-- a place that is none: nothing is put
pub member_left : (separator : List ℕ) (names : List (List ℕ)) (place set : ℕ) (d : List ℕ) (first : Bool) (text all : List ℕ) → place < length names → has set place ≡ false
    → text ++ (if first then joined separator (members place (drop place names) set) else all_behind separator (members place (drop place names) set)) ≡ all
    → text ++ (if first then joined separator (members (place + 1) (drop (place + 1) names) set) else all_behind separator (members (place + 1) (drop (place + 1) names) set)) ≡ all
member_left separator names place set d first text all lt e known =
    ap (λ z. text ++ (if first then joined separator z else all_behind separator z)) (sym (member_not_here names place set d lt e)) ∙ known
