-- The arcs of uses and indexes are those of their terms.
use Rattle.std.proofs.Common.{◌≡◌, ℕ, ◌+◌, add-one, ◌<◌, ◌≤◌, cond, ◌&&◌, List, [], ◌∷◌, ◌++◌, length, take, get_or, map, refl, sym, ap, ap₂, ◌∙◌, subst, arith, ℤ, pos, inl, inr}
use Rattle.std.specs.Prelude.{◌==◌}
use Rattle.std.proofs.lemmas.Int.{ints}
use Rattle.std.proofs.lemmas.Option.{slice_get_read}
use Rattle.std.proofs.lemmas.List.{take_more, get_or_past, get_or-map, length-map}
use Rattle.vd_search_tree.specs.declared.shift.Shift.{Shift}
use Rattle.vd_space.specs.declared.problem.Problem.{Problem}
use Rattle.vd_space.specs.declared.problem.Use.{Use}
use Rattle.vd_space.specs.declared.problem.Index.{Index}
use Rattle.vd_space.specs.Labelled.{IsLabelled}
use Rattle.vd_space.specs.Sizes.{IsWithinLimits}
use Rattle.vd_space.specs.Spaces.{IsProblem, IsUse, IsIndex}
use Rattle.vd_space.specs.Validity.{protocols}
use Rattle.vd_space.specs.Costs.{index_term, total}
use Rattle.vd_space.specs.Bounds.{least_pair, side_of, signed, shifted_use, shifted_uses, slot_shift, use_shift}
use Rattle.vd_space.proofs.Front.{listed_or_not, each_at}
use Rattle.vd_space_prefix.specs.declared.transfers.Arc.{Arc}
use Rattle.vd_space_prefix.specs.Transfers.{IsTransfer, IsWithin, by_place, arc_of, taken}
use Rattle.vd_space_prefix.specs.Steps.{IsArc, under}
use Rattle.vd_space_prefix.specs.Tables.{AreListed}
use Rattle.vd_space_prefix.proofs.Front.{candidates, under_is, at_place, size_by_place}
use Rattle.vd_space_tables.specs.declared.space_terms.sums.Rows.{Rows}
use Rattle.vd_space_tables.specs.declared.space_terms.sums.Rows.TheVariants.{Firsts, Seconds, Ends}
use Rattle.vd_space_tables.specs.Arcs.{AreArcsOf, use_transfer, index_transfer, arc_between}
use Rattle.vd_space_tables.specs.Prices.{candidates_of, moves_of, tells_of}
use Rattle.vd_space_tables.specs.Sums.{AreSmallShifts, AreSmallSums, part, slot_shifts_of, sums_of}
use Rattle.vd_space_tables.proofs.SpaceTermsMade.{same_by_place}
use Rattle.vd_space_tables.proofs.SpaceTermsSmall.{arc_small, place_within}
use Rattle.vd_space_tables.proofs.Counting.{total_within, no_longer, if_within, part_within, sides_together, slots_shifted}
use Rattle.vd_space_tables.proofs.Cells.{moves_small, tells_small, use_cell, index_cell}
use Rattle.vd_space_tables.proofs.Network.{candidates_at, network_more, shifted_at}

-- ---- sums of shifts are small

pub whole_within : (f : Shift → ℤ) (shifts : List Shift) → length shifts ≤ 131072 → AreSmallShifts shifts → ((shift : Shift) → IsWithin 4294967296 (signed shift) → IsWithin 4294967296 (f shift)) → IsWithin 562949953421312 (total f shifts)
whole_within f shifts few small each =
    let within = total_within f shifts (λ k d low. each (get_or shifts k d) (small k d low)) in
    let low = within.low in
    let high = within.high in
    record { low = omega (arith, ints, low, few); high = omega (arith, ints, high, few) }

-- a row of the table of sums
pub row_is : {X : Type 0} (ends : X → ℕ → ℕ) (items own : List X) (rows : Rows) (count places many : ℕ) (shifts : List Shift) (sums : List (List ℤ)) (r : ℕ) (line d : List ℤ) → items ≡ own → sums ≡ sums_of ends items rows count places shifts → r < count → places ≡ many → line ≡ get_or sums r d
    → line ≡ by_place many (λ place. total (part ends own rows r place) shifts)
row_is ends items own rows count places many shifts sums r line d mine are low same at =
    at
    ∙ ap (λ xs. get_or xs r d) are
    ∙ at_place count (λ row. by_place places (λ place. total (part ends items rows row place) shifts)) r d low
    ∙ ap₂ (λ us n. by_place n (λ place. total (part ends us rows r place) shifts)) mine same

-- an entry of it, in the loop over shifts
pub here_within : {X : Type 0} (ends : X → ℕ → ℕ) (items : List X) (rows : Rows) (count places i : ℕ) (shifts : List Shift) (sums : List (List ℤ)) (row place : ℕ) (line : List ℤ) → length shifts ≤ 131072 → AreSmallShifts (take i shifts)
    → sums ≡ sums_of ends items rows count places (take i shifts) → row < count → place < places → line ≡ get_or sums row line → IsWithin 562949953421312 (get_or line place (pos 0))
here_within ends items rows count places i shifts sums row place line few small are low_row low_place at =
    let line_is : line ≡ by_place places (λ p. total (part ends items rows row p) (take i shifts)) =
    at ∙ ap (λ xs. get_or xs row line) are ∙ at_place count (λ r. by_place places (λ p. total (part ends items rows r p) (take i shifts))) row line low_row in
    let is = ap (λ xs. get_or xs place (pos 0)) line_is ∙ at_place places (λ p. total (part ends items rows row p) (take i shifts)) place (pos 0) low_place in
    subst (IsWithin 562949953421312) (sym is) (whole_within (part ends items rows row place) (take i shifts) (let shorter = no_longer i shifts in omega (arith, shorter, few)) small (part_within ends items rows row place))

-- what shifts put on slots
pub slot_sums : (problem : Problem) (shifts : List Shift) (places : ℕ) → sums_of side_of problem.uses Ends (length problem.slots) places shifts ≡ slot_shifts_of problem shifts places
slot_sums problem shifts places =
    same_by_place (length problem.slots) (λ slot. by_place places (λ p. total (part side_of problem.uses Ends slot p) shifts)) (λ slot. by_place places (λ p. total (slot_shift problem slot p) shifts))
    (λ slot low. same_by_place places (λ p. total (part side_of problem.uses Ends slot p) shifts) (λ p. total (slot_shift problem slot p) shifts) (λ p low_p. slots_shifted problem slot p shifts))

pub sums_small : {X : Type 0} (ends : X → ℕ → ℕ) (items : List X) (rows : Rows) (count places : ℕ) (shifts : List Shift) → length shifts ≤ 131072 → AreSmallShifts shifts → AreSmallSums (sums_of ends items rows count places shifts)
sums_small ends items rows count places shifts few small row place =
    let line : ℕ → List ℤ = λ r. by_place places (λ p. total (part ends items rows r p) shifts) in
    elim (listed_or_not count row) [
      | inl low ↦
          subst (λ xs. IsWithin 562949953421312 (get_or xs place (pos 0))) (sym (at_place count line row [] low))
          (place_within 562949953421312 places (λ p. total (part ends items rows row p) shifts) place (λ p low_p. whole_within (part ends items rows row p) shifts few small (part_within ends items rows row p)))
      | inr past ↦
          subst (λ xs. IsWithin 562949953421312 (get_or xs place (pos 0))) (sym (get_or_past (by_place count line) row [] (subst (λ n. n ≤ row) (sym (size_by_place count line)) past)))
          (record { low = omega (arith, ints); high = omega (arith, ints) })
    ]

module _ (problem : Problem) (labelled : IsLabelled problem) where
  abbrev many : ℕ
  many = length (protocols problem)

  -- ---- a use

  module _ (shifts : List Shift) (few : length shifts ≤ 131072) (small : AreSmallShifts shifts) (k : ℕ) (u : Use) where
    abbrev pub sources : List ℤ
    sources = by_place many (λ p. total (part side_of problem.uses Firsts k p) shifts)

    abbrev pub targets : List ℤ
    targets = by_place many (λ q. total (part side_of problem.uses Seconds k q) shifts)

    taken_is : (p q : ℕ) → p < many → q < many → taken (use_transfer u sources targets) p q ≡ total (use_shift k p q) shifts
    taken_is p q low low_q =
        let first = at_place many (λ a. total (part side_of problem.uses Firsts k a) shifts) p (pos 0) low in
        let second = at_place many (λ b. total (part side_of problem.uses Seconds k b) shifts) q (pos 0) low_q in
        let both = sides_together side_of problem.uses k p q shifts in
        omega (arith, ints, first, second, both)

    source_within : (p : ℕ) → IsWithin 562949953421312 (get_or sources p (pos 0))
    source_within p = place_within 562949953421312 many (λ a. total (part side_of problem.uses Firsts k a) shifts) p (λ a low. whole_within (part side_of problem.uses Firsts k a) shifts few small (part_within side_of problem.uses Firsts k a))

    target_within : (q : ℕ) → IsWithin 562949953421312 (get_or targets q (pos 0))
    target_within q = place_within 562949953421312 many (λ b. total (part side_of problem.uses Seconds k b) shifts) q (λ b low. whole_within (part side_of problem.uses Seconds k b) shifts few small (part_within side_of problem.uses Seconds k b))

    past_is : (f : ℕ → ℤ) (p : ℕ) → many ≤ p → get_or (by_place many f) p (pos 0) ≡ pos 0
    past_is f p past = get_or_past (by_place many f) p (pos 0) (subst (λ n. n ≤ p) (sym (size_by_place many f)) past)

    taken_within : (p q : ℕ) → IsWithin 562949953421312 (taken (use_transfer u sources targets) p q)
    taken_within p q = elim (listed_or_not many p) [
      | inl low ↦ elim (listed_or_not many q) [
        | inl low_q ↦
            let is = taken_is p q low low_q in
            let within = whole_within (use_shift k p q) shifts few small (λ shift less. if_within (shift.at == k && shift.proto == cond (shift.side == 0) p q) (signed shift) less) in
            let within_low = within.low in
            let within_high = within.high in
            record { low = omega (arith, ints, is, within_low); high = omega (arith, ints, is, within_high) }
        | inr past ↦
            let none = past_is (λ b. total (part side_of problem.uses Seconds k b) shifts) q past in
            let within_low = (source_within p).low in
            let within_high = (source_within p).high in
            record { low = omega (arith, ints, none, within_low); high = omega (arith, ints, none, within_high) }
      ]
      | inr past ↦
          let none = past_is (λ a. total (part side_of problem.uses Firsts k a) shifts) p past in
          let within_low = (target_within q).low in
          let within_high = (target_within q).high in
          record { low = omega (arith, ints, none, within_low); high = omega (arith, ints, none, within_high) }
    ]

    pub use_is_transfer : u.weight ≤ 65536 → IsTransfer (use_transfer u sources targets)
    use_is_transfer light = record { weight = light; taken = taken_within }

    use_network : (arc : Arc) → u.weight ≤ 65536 → IsUse (length problem.slots) u → arc ≡ arc_between (moves_of (protocols problem)) (use_transfer u sources targets) (candidates_of problem)
        → IsArc arc × ((front : List ℕ) → AreListed problem front → under (moves_of (protocols problem)) arc front ≡ least_pair problem front (shifted_use problem shifts k u))
    use_network arc light known is =
        let prices = moves_of (protocols problem) in
        let t = use_transfer u sources targets in
        let same : arc ≡ arc_of prices t (candidates problem u.source.0) (candidates problem u.target.0) = is ∙ ap₂ (arc_of prices t) (candidates_at problem u.source.0 known.source) (candidates_at problem u.target.0 known.target) in (
          subst IsArc (sym same) (arc_small prices t (candidates problem u.source.0) (candidates problem u.target.0) (moves_small problem labelled) (use_is_transfer light)),
          λ front listed. ap (λ l. under prices l front) same ∙ under_is problem prices t (shifted_use problem shifts k u) refl refl (λ p q low low_q. use_cell problem shifts k u sources targets p q low low_q (taken_is p q low low_q)) front listed,
        )

  -- ---- an index

  index_is_transfer : (i : Index) → i.weight ≤ 65536 → IsTransfer (index_transfer i)
  index_is_transfer i light = record { weight = light; taken = λ p q. record { low = omega (arith, ints); high = omega (arith, ints) } }

  index_network : (i : Index) (arc : Arc) → i.weight ≤ 65536 → IsIndex (length problem.slots) i → arc ≡ arc_between (tells_of problem) (index_transfer i) (candidates_of problem)
      → IsArc arc × ((front : List ℕ) → AreListed problem front → under (tells_of problem) arc front ≡ least_pair problem front (index_term problem i))
  index_network i arc light known is =
      let prices = tells_of problem in
      let t = index_transfer i in
      let same : arc ≡ arc_of prices t (candidates problem i.array.0) (candidates problem i.index.0) = is ∙ ap₂ (arc_of prices t) (candidates_at problem i.array.0 known.array) (candidates_at problem i.index.0 known.index) in (
        subst IsArc (sym same) (arc_small prices t (candidates problem i.array.0) (candidates problem i.index.0) (tells_small problem labelled) (index_is_transfer i light)),
        λ front listed. ap (λ l. under prices l front) same ∙ under_is problem prices t (index_term problem i) refl refl (index_cell problem i) front listed,
      )

  -- ---- one more in a loop

  module _ (holds : IsProblem problem) (limits : IsWithinLimits problem) where
    pub index_step : (n : ℕ) (i : Index) (arcs more : List Arc) (arc : Arc) → n < length problem.indexes → i ≡ get_or problem.indexes n i
        → AreArcsOf problem (tells_of problem) (take n (map (index_term problem) problem.indexes)) arcs → arc ≡ arc_between (tells_of problem) (index_transfer i) (candidates_of problem) → more ≡ arcs ++ arc ∷ []
        → AreArcsOf problem (tells_of problem) (take (n + 1) (map (index_term problem) problem.indexes)) more
    index_step n i arcs more arc low at are is pushed =
        let terms = map (index_term problem) problem.indexes in
        let here = slice_get_read problem.indexes (length problem.indexes) n i refl low at in
        let light : i.weight ≤ 65536 = subst (λ (x : Index). x.weight ≤ 65536) (sym at) (limits.indexes n i low) in
        let by_arcs = index_network i arc light (each_at (IsIndex (length problem.slots)) problem.indexes n i here holds.indexes) is in
        let d = index_term problem i in
        let size = length-map problem.indexes (index_term problem) in
        let next : take (n + 1) terms ≡ take n terms ++ index_term problem i ∷ [] =
        take_more terms n d (omega (arith, size, low)) ∙ ap (λ x. take n terms ++ x ∷ []) (get_or-map (index_term problem) problem.indexes n i d low ∙ ap (index_term problem) (sym at)) in
        subst (λ l. AreArcsOf problem (tells_of problem) (take (n + 1) terms) l) (sym pushed)
        (subst (λ ts. AreArcsOf problem (tells_of problem) ts (arcs ++ arc ∷ [])) (sym next) (network_more problem (tells_of problem) (take n terms) arcs (index_term problem i) arc are by_arcs.0 by_arcs.1))

    pub use_step : (shifts : List Shift) (few : length shifts ≤ 131072) (small : AreSmallShifts shifts) (n : ℕ) (u : Use) (arcs more : List Arc) (arc : Arc) → n < length problem.uses → u ≡ get_or problem.uses n u
        → AreArcsOf problem (moves_of (protocols problem)) (take n (shifted_uses problem shifts 0 problem.uses)) arcs
        → arc ≡ arc_between (moves_of (protocols problem)) (use_transfer u (sources shifts few small n u) (targets shifts few small n u)) (candidates_of problem) → more ≡ arcs ++ arc ∷ []
        → AreArcsOf problem (moves_of (protocols problem)) (take (n + 1) (shifted_uses problem shifts 0 problem.uses)) more
    use_step shifts few small n u arcs more arc low at are is pushed =
        let prices = moves_of (protocols problem) in
        let terms = shifted_uses problem shifts 0 problem.uses in
        let here = slice_get_read problem.uses (length problem.uses) n u refl low at in
        let light : u.weight ≤ 65536 = subst (λ (x : Use). x.weight ≤ 65536) (sym at) (limits.uses n u low) in
        let by_arcs = use_network shifts few small n u arc light (each_at (IsUse (length problem.slots)) problem.uses n u here holds.uses) is in
        let next : take (n + 1) terms ≡ take n terms ++ shifted_use problem shifts n u ∷ [] = ap (λ m. take m terms) (add-one n) ∙ shifted_at problem shifts 0 n problem.uses u here ∙ ap (λ m. take n terms ++ shifted_use problem shifts m u ∷ []) (omega arith) in
        subst (λ l. AreArcsOf problem prices (take (n + 1) terms) l) (sym pushed)
        (subst (λ ts. AreArcsOf problem prices ts (arcs ++ arc ∷ [])) (sym next) (network_more problem prices (take n terms) arcs (shifted_use problem shifts n u) arc are by_arcs.0 by_arcs.1))
