-- What a certificate that the checker accepts shows of the valid lists of a problem.
use Rattle.std.proofs.Common.{◌≡◌, ℕ, Bool, true, false, if◌then◌else◌, Option, Some, None, List, Result, Ok, Err, sym, ◌∙◌, subst, ℤ, pos, ◌≤ℤ◌}
use Rattle.std.specs.Option.{option_map_or}
use Rattle.vd_bound.specs.Checking.{Proves, checked}
use Rattle.vd_bound.specs.Shifts.{certificate_checked, first_bad}
use Rattle.vd_bound.specs.declared.checking.CheckFault.{CheckFault}
use Rattle.vd_bound.specs.declared.checking.CheckFault.TheVariants.{BadShift}
use Rattle.vd_bound.specs.declared.checking.Proved.{Proved}
use Rattle.vd_bound.specs.declared.checking.Proved.TheVariants.{Empty, Least}
use Rattle.vd_bound.proofs.Front.{checked_proves}
use Rattle.vd_search_tree.specs.declared.search_certificate.certificate.Certificate.{Certificate}
use Rattle.vd_space.specs.Cheapest.{IsValid}
use Rattle.vd_space.specs.Network.{network_tree}
use Rattle.vd_space.proofs.Front.{network_high_whole, network_tree_bounded}
use Rattle.vd_search_tree.specs.Trees.{IsWhole, Tree}
use Rattle.vd_search_tree.specs.declared.shift.Shift.{Shift}
use Rattle.vd_search_stages.specs.Confirming.{confirmed, names_by, tree_by}
use Rattle.vd_search_stages.specs.SoFar.{so_far_tree}
use Rattle.vd_search_stages.proofs.Front.{so_far_bounded, whole_same}
use Rattle.vd_space.specs.declared.problem.Problem.{Problem}
use Rattle.vd_space.specs.Costs.{cost}
use Rattle.vd_space.specs.Spaces.{IsProblem}
use Rattle.vd_space.proofs.Front.{high_whole}

-- its shifts name what there is, and its marks are accepted
pub unshifted : (uses : ℕ) (tree : Tree) (c : Certificate) (proved : Proved) → certificate_checked uses tree c ≡ Ok proved → checked tree c.cost c.marks ≡ Ok proved
unshifted uses tree c proved is = by (first_bad uses tree.choices 0 c.shifts) is
  where
    by : (bad : Option ℕ) → option_map_or (λ shift. Err (BadShift shift)) bad (checked tree c.cost c.marks) ≡ Ok proved → checked tree c.cost c.marks ≡ Ok proved
    by None same = same
    by (Some shift) same = absurd (cc same)

-- what a yes says of a problem, with no tree
abbrev pub Shown : Problem → Proved → Type 0
Shown problem (Least list number) = IsValid problem list × (cost problem list ≡ pos number) × ((other : List ℕ) → IsValid problem other → pos number ≤ℤ cost problem other)
Shown problem Empty = (list : List ℕ) → IsValid problem list → ⊥

-- a tree whose whole lists are the valid ones, at their costs
record IsTreeFor (problem : Problem) (tree : Tree) : Type 0 where
  whole : (list : List ℕ) → IsValid problem list → IsWhole tree list
  valid : (list : List ℕ) → IsWhole tree list → IsValid problem list
  costs : (list : List ℕ) → IsValid problem list → tree.bound list ≡ cost problem list

module _ (problem : Problem) (holds : IsProblem problem) where
  by_uses : (shifts : List Shift) → IsTreeFor problem (so_far_tree problem shifts)
  by_uses shifts = record {
    whole = λ list v. record { full = v.whole; valid = whole_same problem list v.whole ∙ v.valid };
    valid = λ list w. record { whole = w.full; valid = sym (whole_same problem list w.full) ∙ w.valid };
    costs = λ list v. high_whole problem holds shifts list v.whole v.valid;
  }

  with_arcs : (shifts : List Shift) → IsTreeFor problem (network_tree problem shifts)
  with_arcs shifts = record {
    whole = λ list v. record { full = v.whole; valid = v.valid };
    valid = λ list w. record { whole = w.full; valid = w.valid };
    costs = λ list v. network_high_whole problem holds shifts list v.whole v.valid;
  }

  shown_by : (tree : Tree) (proved : Proved) → IsTreeFor problem tree → Proves tree proved → Shown problem proved
  shown_by tree (Least list number) for p =
      let v = for.valid list p.0 in
      (v, sym (for.costs list v) ∙ p.1, λ other o. subst (λ (z : ℤ). pos number ≤ℤ z) (for.costs other o) (p.2 other (for.whole other o)))
  shown_by tree Empty for none = λ list v. none list (for.whole list v)

  -- a certificate that is accepted shows what its yes says
  pub confirmed_shows : (c : Certificate) (proved : Proved) → confirmed problem c ≡ Ok proved → Shown problem proved
  confirmed_shows c proved is = by c.by_arcs (unshifted (names_by problem c) (tree_by problem c) c proved is)
    where
      by : (by_arcs : Bool) → checked (if by_arcs then network_tree problem c.shifts else so_far_tree problem c.shifts) c.cost c.marks ≡ Ok proved → Shown problem proved
      by true accepted =
          shown_by (network_tree problem c.shifts) proved (with_arcs c.shifts) (checked_proves (network_tree problem c.shifts) (network_tree_bounded problem holds c.shifts) c.marks proved c.cost accepted)
      by false accepted =
          shown_by (so_far_tree problem c.shifts) proved (by_uses c.shifts) (checked_proves (so_far_tree problem c.shifts) (so_far_bounded problem holds c.shifts) c.marks proved c.cost accepted)
