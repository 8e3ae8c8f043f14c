-- The loops over uses and indexes, one further.
use Rattle.std.proofs.Common.{◌≡◌, ℕ, ◌+◌, ◌<◌, ◌≤◌, Bool, Option, List, [], ◌∷◌, ◌++◌, length, take, get_or, map, sym, ap, ap₂, ◌∙◌, subst, ℤ}
use Rattle.std.proofs.lemmas.List.{take_all}
use Rattle.vd_search_tree.specs.declared.shift.Shift.{Shift}
use Rattle.vd_space.specs.declared.problem.Problem.{Problem}
use Rattle.vd_space.specs.declared.problem.Use.{Use}
use Rattle.vd_space.specs.declared.problem.Index.{Index}
use Rattle.vd_space.specs.Labelled.{IsLabelled}
use Rattle.vd_space.specs.Sizes.{IsWithinLimits}
use Rattle.vd_space.specs.Spaces.{IsProblem}
use Rattle.vd_space.specs.Validity.{protocols}
use Rattle.vd_space.specs.Costs.{Pair, index_term}
use Rattle.vd_space.specs.Bounds.{shifted_uses}
use Rattle.vd_space_prefix.specs.declared.transfers.Arc.{Arc}
use Rattle.vd_space_prefix.specs.Transfers.{IsTransfer}
use Rattle.vd_space_tables.specs.Arcs.{AreArcsOf, use_transfer, index_transfer, arc_between}
use Rattle.vd_space_tables.specs.Prices.{candidates_of, moves_of, tells_of}
use Rattle.vd_space_tables.specs.Sums.{AreSmallShifts}
use Rattle.vd_space_tables.proofs.SpaceTermsMade.{get_or_any}
use Rattle.vd_space_tables.proofs.Placing.{sources, targets, use_is_transfer, use_step, index_step}

pub all_network : (problem : Problem) (prices : List (List (Option ℕ))) (terms : List Pair) (arcs : List Arc) (n : ℕ) → length terms ≤ n → AreArcsOf problem prices (take n terms) arcs → AreArcsOf problem prices terms arcs
all_network problem prices terms arcs n past are = subst (λ ts. AreArcsOf problem prices ts arcs) (take_all n terms past) are

module _ (problem : Problem) (labelled : IsLabelled problem) (limits : IsWithinLimits problem) where
  pub use_transfer_is : (shifts : List Shift) (few : length shifts ≤ 131072) (small : AreSmallShifts shifts) (uses : List Use) (n : ℕ) (d : Use) (from to : List ℤ) → uses ≡ problem.uses → n < length uses
      → from ≡ sources problem labelled shifts few small n (get_or uses n d) → to ≡ targets problem labelled shifts few small n (get_or uses n d) → IsTransfer (use_transfer (get_or uses n d) from to)
  use_transfer_is shifts few small uses n d from to mine low from_is to_is =
      let u = get_or uses n d in
      let light : u.weight ≤ 65536 = subst (λ (xs : List Use). (get_or xs n d).weight ≤ 65536) (sym mine) (limits.uses n d (subst (λ xs. n < length xs) mine low)) in
      subst (λ ys. IsTransfer (use_transfer u from ys)) (sym to_is) (subst (λ xs. IsTransfer (use_transfer u xs (targets problem labelled shifts few small n u))) (sym from_is) (use_is_transfer problem labelled shifts few small n u light))

  module _ (holds : IsProblem problem) (candidates : List (List Bool)) (candidates_are : candidates ≡ candidates_of problem) where
    pub index_next : (tells : List (List (Option ℕ))) → tells ≡ tells_of problem → (indexes : List Index) → indexes ≡ problem.indexes → (n : ℕ) (d : Index) (arcs more : List Arc) (arc : Arc) → n < length indexes
        → AreArcsOf problem tells (take n (map (index_term problem) problem.indexes)) arcs → arc ≡ arc_between tells (index_transfer (get_or indexes n d)) candidates → more ≡ arcs ++ arc ∷ []
        → AreArcsOf problem tells (take (n + 1) (map (index_term problem) problem.indexes)) more
    index_next tells tells_are indexes mine n d arcs more arc low are is pushed =
        let i = get_or indexes n d in
        let at : i ≡ get_or problem.indexes n i = get_or_any indexes n d i low ∙ ap (λ xs. get_or xs n i) mine in
        let same : arc ≡ arc_between (tells_of problem) (index_transfer i) (candidates_of problem) = is ∙ ap₂ (λ ps cs. arc_between ps (index_transfer i) cs) tells_are candidates_are in
        subst (λ ps. AreArcsOf problem ps (take (n + 1) (map (index_term problem) problem.indexes)) more) (sym tells_are)
        (index_step problem labelled holds limits n i arcs more arc (subst (λ xs. n < length xs) mine low) at
        (subst (λ ps. AreArcsOf problem ps (take n (map (index_term problem) problem.indexes)) arcs) tells_are are) same pushed)

    pub use_next : (moves : List (List (Option ℕ))) → moves ≡ moves_of (protocols problem) → (shifts : List Shift) (few : length shifts ≤ 131072) (small : AreSmallShifts shifts) (uses : List Use) → uses ≡ problem.uses
        → (n : ℕ) (d : Use) (from to : List ℤ) (arcs more : List Arc) (arc : Arc) → n < length uses
        → from ≡ sources problem labelled shifts few small n (get_or uses n d) → to ≡ targets problem labelled shifts few small n (get_or uses n d)
        → AreArcsOf problem moves (take n (shifted_uses problem shifts 0 problem.uses)) arcs → arc ≡ arc_between moves (use_transfer (get_or uses n d) from to) candidates → more ≡ arcs ++ arc ∷ []
        → AreArcsOf problem moves (take (n + 1) (shifted_uses problem shifts 0 problem.uses)) more
    use_next moves moves_are shifts few small uses mine n d from to arcs more arc low from_is to_is are is pushed =
        let u = get_or uses n d in
        let at : u ≡ get_or problem.uses n u = get_or_any uses n d u low ∙ ap (λ xs. get_or xs n u) mine in
        let same : arc ≡ arc_between (moves_of (protocols problem)) (use_transfer u (sources problem labelled shifts few small n u) (targets problem labelled shifts few small n u)) (candidates_of problem) =
        is ∙ (λ j. arc_between (moves_are j) (use_transfer u (from_is j) (to_is j)) (candidates_are j)) in
        subst (λ ps. AreArcsOf problem ps (take (n + 1) (shifted_uses problem shifts 0 problem.uses)) more) (sym moves_are)
        (use_step problem labelled holds limits shifts few small n u arcs more arc (subst (λ xs. n < length xs) mine low) at
        (subst (λ ps. AreArcsOf problem ps (take n (shifted_uses problem shifts 0 problem.uses)) arcs) moves_are are) same pushed)
