-- What moves and tellings cost at two places.
use Rattle.std.proofs.Common.{◌≡◌, ℕ, ◌<◌, ◌≤◌, Option, Some, None, List, [], length, get_or, refl, ap, ap₂, ◌∙◌, arith, ℤ, pos, ◌+ℤ◌, ◌-ℤ◌, option_map, inl, inr, map}
use Rattle.std.specs.Prelude.{unwrap_or}
use Rattle.std.proofs.lemmas.Int.{ints}
use Rattle.std.proofs.lemmas.List.{get_or-map, get_or_past, length-map}
use Rattle.vd_base.specs.declared.protocols.Proto.{Proto}
use Rattle.vd_base.specs.declared.protocols.Proto.TheVariants.{Local}
use Rattle.vd_base.specs.HostSets.{host}
use Rattle.vd_base.specs.Moves.{move_at}
use Rattle.vd_search_tree.specs.declared.shift.Shift.{Shift}
use Rattle.vd_space.specs.declared.problem.Problem.{Problem}
use Rattle.vd_space.specs.declared.problem.Use.{Use}
use Rattle.vd_space.specs.declared.problem.Index.{Index}
use Rattle.vd_space.specs.Labelled.{IsLabelled}
use Rattle.vd_space.specs.Validity.{protocols, protocol, move}
use Rattle.vd_space.specs.Costs.{weigh, index_term, moves_to, hosts_at, total}
use Rattle.vd_space.specs.Bounds.{shifted_use, use_shift}
use Rattle.vd_space.proofs.Front.{move_price, small, index_price, listed_or_not}
use Rattle.vd_space_prefix.specs.Transfers.{ArePrices, by_place, cell, priced, taken}
use Rattle.vd_space_prefix.proofs.Front.{size_by_place, at_place}
use Rattle.vd_space_tables.specs.Arcs.{use_transfer, index_transfer}
use Rattle.vd_space_tables.specs.Prices.{moves_of, tells_of}

-- a table of rows, of which each is a list by place
row_past : {X : Type 0} (rows : List (List X)) (p q : ℕ) (d : X) → length rows ≤ p → get_or (get_or rows p []) q d ≡ d
row_past rows p q d past = ap (λ row. get_or row q d) (get_or_past rows p [] past)

module _ (problem : Problem) where
  pub moves_size : length (moves_of (protocols problem)) ≡ length (protocols problem)
  moves_size = length-map (protocols problem) (λ from. map (move_at from) (protocols problem))

  priced_moves : (p q : ℕ) → p < length (protocols problem) → q < length (protocols problem) → priced (moves_of (protocols problem)) p q ≡ move problem p q
  priced_moves p q low low_q =
      let list = protocols problem in
      let d : Proto = Local (host 0) in
      ap (λ row. get_or row q None) (get_or-map (λ from. map (move_at from) list) list p d [] low)
      ∙ get_or-map (move_at (get_or list p d)) list q d None low_q

  priced_tells : (p q : ℕ) → p < length (protocols problem) → q < length (protocols problem) → priced (tells_of problem) p q ≡ moves_to problem q (hosts_at problem p)
  priced_tells p q low low_q =
      let many = length (protocols problem) in
      ap (λ row. get_or row q None) (at_place many (λ a. by_place many (λ b. moves_to problem b (hosts_at problem a))) p [] low)
      ∙ at_place many (λ b. moves_to problem b (hosts_at problem p)) q None low_q

  -- ---- small prices

  few_moves : IsLabelled problem → (p q : ℕ) → p < length (protocols problem) → q < length (protocols problem) → unwrap_or (priced (moves_of (protocols problem)) p q) 0 ≤ 848
  few_moves labelled p q low low_q =
      let is = ap (λ o. unwrap_or o 0) (priced_moves p q low low_q) in
      let price = move_price (protocol problem p) (protocol problem q) (small problem labelled.few_hosts p) (small problem labelled.few_hosts q) in
      omega (arith, is, price)

  pub moves_small : IsLabelled problem → ArePrices (moves_of (protocols problem))
  moves_small labelled =
      let list = protocols problem in
      let d : Proto = Local (host 0) in
      record {
        few = λ p q. elim (listed_or_not (length list) p) [
          | inl low ↦ elim (listed_or_not (length list) q) [
            | inl low_q ↦ few_moves labelled p q low low_q
            | inr past ↦
                let row = get_or-map (λ from. map (move_at from) list) list p d [] low in
                let size = length-map list (move_at (get_or list p d)) in
                let none = ap (λ r. get_or r q None) row ∙ get_or_past (map (move_at (get_or list p d)) list) q None (omega (arith, size, past)) in
                let is = ap (λ o. unwrap_or o 0) none in
                omega (arith, is)
          ]
          | inr past ↦
              let size = moves_size in
              let none = row_past (moves_of list) p q None (omega (arith, size, past)) in
              let is = ap (λ o. unwrap_or o 0) none in
              omega (arith, is)
        ];
      }

  pub tells_small : IsLabelled problem → ArePrices (tells_of problem)
  tells_small labelled =
      let many = length (protocols problem) in
      let line : ℕ → List (Option ℕ) = λ a. by_place many (λ b. moves_to problem b (hosts_at problem a)) in
      record {
        few = λ p q. elim (listed_or_not many p) [
          | inl low ↦ elim (listed_or_not many q) [
            | inl low_q ↦
                let is = ap (λ o. unwrap_or o 0) (priced_tells p q low low_q) in
                let price = index_price problem labelled.few_hosts p q in
                omega (arith, is, price)
            | inr past ↦
                let row = at_place many line p [] low in
                let size = size_by_place many (λ b. moves_to problem b (hosts_at problem p)) in
                let none = ap (λ r. get_or r q None) row ∙ get_or_past (line p) q None (omega (arith, size, past)) in
                let is = ap (λ o. unwrap_or o 0) none in
                omega (arith, is)
          ]
          | inr past ↦
              let size = size_by_place many line in
              let none = row_past (tells_of problem) p q None (omega (arith, size, past)) in
              let is = ap (λ o. unwrap_or o 0) none in
              omega (arith, is)
        ];
      }

  -- ---- what transfers cost

  pub use_cell : (shifts : List Shift) (k : ℕ) (u : Use) (from to : List ℤ) (p q : ℕ) → p < length (protocols problem) → q < length (protocols problem)
      → taken (use_transfer u from to) p q ≡ total (use_shift k p q) shifts → cell (moves_of (protocols problem)) (use_transfer u from to) p q ≡ (shifted_use problem shifts k u).value p q
  use_cell shifts k u from to p q low low_q is =
      ap₂ (λ less price. option_map (λ v. v -ℤ less) (weigh u.weight price)) is (priced_moves p q low low_q)

  nothing_taken : (o : Option ℤ) → option_map (λ v. v -ℤ (pos 0 +ℤ pos 0)) o ≡ o
  nothing_taken None = refl
  nothing_taken (Some v) = ap Some (omega (arith, ints))

  pub index_cell : (i : Index) (p q : ℕ) → p < length (protocols problem) → q < length (protocols problem) → cell (tells_of problem) (index_transfer i) p q ≡ (index_term problem i).value p q
  index_cell i p q low low_q = nothing_taken (weigh i.weight (priced (tells_of problem) p q)) ∙ ap (weigh i.weight) (priced_tells p q low low_q)
