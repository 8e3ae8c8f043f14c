-- A valid prefix grows choice by choice.
use Rattle.std.proofs.Common.{◌≡◌, ℕ, ◌+◌, ◌<◌, ◌≤◌, true, false, ◌&&◌, List, ◌∷◌, ◌++◌, length, take, drop, get_or, sym, ap, ◌∙◌, subst, arith, inl, inr, add-one, ℤ}
use Rattle.std.specs.Prelude.{IsTrue}
use Rattle.std.specs.List.{list_all}
use Rattle.std.proofs.lemmas.Bool.{true≢false}
use Rattle.std.proofs.lemmas.List.{length-take-le, take-append-drop, take_more}
use Rattle.std.proofs.lemmas.List.Elements.{All-from_get_or, All-get_or, All-take}
use Rattle.std.proofs.Math.Seq.{drop-cons}
use Rattle.vd_base.specs.declared.protocols.Proto.{Proto}
use Rattle.vd_search_tree.specs.declared.shift.Shift.{Shift}
use Rattle.vd_space.specs.declared.problem.Problem.{Problem}
use Rattle.vd_space.specs.Bounds.{high}
use Rattle.vd_space.specs.Validity.{protocols, use_joins, output_joins, guard_told, index_told, is_valid}
use Rattle.vd_space.proofs.Front.{valid_listed, too_many, listed_or_not}
use Rattle.vd_space_prefix.specs.Tables.{AreListed, IsStep}
use Rattle.vd_space_api.specs.Places.{places_in, places_of}

module _ (problem : Problem) (prefix : List ℕ) (valid : IsTrue (is_valid problem prefix)) where
  short : length prefix ≤ length problem.slots
  short = elim (listed_or_not (length prefix) (length problem.slots)) [
    | inl long ↦ absurd (true≢false (sym valid ∙ ap (λ b. b && list_all (use_joins problem prefix) problem.uses && list_all (output_joins problem prefix) problem.outputs && list_all (guard_told problem prefix) problem.guards && list_all (index_told problem prefix) problem.indexes)
        (too_many problem problem.slots prefix long)))
    | inr within ↦ within
  ]

  split : (i : ℕ) → i < length prefix → take i prefix ++ (get_or prefix i 0 ∷ drop (i + 1) prefix) ≡ prefix
  split i low = ap (λ rest. take i prefix ++ rest) (ap (λ n. get_or prefix i 0 ∷ drop n prefix) (add-one i) ∙ sym (drop-cons prefix i 0 low)) ∙ take-append-drop i prefix

  pub all_listed : AreListed problem prefix
  all_listed = All-from_get_or (λ p. p < length (protocols problem)) prefix 0
      (λ i low. valid_listed problem (take i prefix) (drop (i + 1) prefix) (get_or prefix i 0) (subst (λ list. IsTrue (is_valid problem list)) (sym (split i low)) valid))

  pub step : (slot : ℕ) → slot < length prefix → IsStep problem (take slot prefix) (get_or prefix slot 0) (take (slot + 1) prefix)
  step slot low = record {
    listed = All-take (λ p. p < length (protocols problem)) slot prefix all_listed;
    room = let size = length-take-le slot prefix (omega arith) in let within = short in omega (arith, size, within, low);
    choice_listed = All-get_or (λ p. p < length (protocols problem)) prefix slot 0 low all_listed;
    grown = take_more prefix slot 0 low;
  }

-- the bound, by a space's own problem and list
pub high_same : (problem p : Problem) (list prefix : List Proto) (shifts : List Shift) (bound : ℤ) → p ≡ problem → list ≡ protocols p → bound ≡ high p shifts (places_of list prefix) → bound ≡ high problem shifts (places_in problem prefix)
high_same problem p list prefix shifts bound same listed is = is ∙ ap (λ l. high p shifts (places_of l prefix)) listed ∙ ap (λ q. high q shifts (places_in q prefix)) same
