use Rattle.std.proofs.Common.{◌≡◌, ◌<◌, ◌+◌, ℕ, ℤ, pos, ◌+ℤ◌, false, List, length, get_or, set, take, sym, ap, ◌∙◌, subst, arith, to_z, of_z, w64, inl, inr}
use Rattle.std.proofs.lemmas.Int.{to_z-of_z}
use Rattle.std.proofs.lemmas.List.Elements.{All-more}
use Rattle.vd_search_tree.specs.declared.shift.Shift.{Shift}
use Rattle.vd_space.specs.Bounds.{signed}
use Rattle.vd_space.specs.Costs.{total}
use Rattle.vd_space_prefix.specs.Transfers.{IsWithin, by_place}
use Rattle.vd_space_prefix.proofs.Front.{at_place, size_by_place}
use Rattle.vd_space_tables.specs.Sums.{sums_of, part}
use Rattle.vd_space_tables.proofs.SpaceTermsMade.{get_or_any}
use Rattle.vd_space_tables.proofs.Counting.{none_yet, added, unchanged, no_row, other_row, other_place}
use Rattle.vd_space_tables.proofs.Placing.{here_within}
use Rattle.vd_space_tables.proofs.space_terms.sums.shift_sums.Goals as goal
use Rattle.vd_space_tables.proofs.space_terms.sums.shift_sums.Goals.{in-Some+then-row-count+then-place-places, in-Some+else-row-count, in_default}

abbrev none : Shift
none = record { at = 0; side = 0; proto = 0; add = false; amount = 0 }

pub loop-shift-init : goal.loop-shift-init
loop-shift-init g c = record {
  sums = c.in_ok-sums.ensures ∙ none_yet g.T.HasEnds.ends c.args.items.now c.args.rows c.args.count c.args.places c.args.shifts.now;
  small = λ k d low. absurd (omega (arith, low));
}

pub add_at-requires-clause-place : goal.add_at-requires-clause-place
add_at-requires-clause-place g c =
    let line : ℕ → List ℤ = λ row. by_place c.args.places (λ place. total (part g.T.HasEnds.ends c.args.items.now c.args.rows row place) (take c.loop-shift.shift-index c.args.shifts.now)) in
    let is : c.index_mut.result.now ≡ line c.in-Some.row =
    c.index_mut.ensures.value ∙ ap (λ xs. get_or xs c.in-Some.row c.index_mut.result.now) c.loop-shift.invariant.sums ∙ at_place c.args.count line c.in-Some.row c.index_mut.result.now c.if-row-count.true in
    let same = ap length is in
    let size = size_by_place c.args.places (λ place. total (part g.T.HasEnds.ends c.args.items.now c.args.rows c.in-Some.row place) (take c.loop-shift.shift-index c.args.shifts.now)) in
    let low = c.if-place-places.true in
    omega (arith, same, size, low)

pub add_at-requires-clause-here : goal.add_at-requires-clause-here
add_at-requires-clause-here g c =
    here_within g.T.HasEnds.ends c.args.items.now c.args.rows c.args.count c.args.places c.loop-shift.shift-index c.args.shifts.now c.loop-shift.sums.items c.in-Some.row c.from-place.result c.index_mut.result.now
    c.requires.few c.loop-shift.invariant.small c.loop-shift.invariant.sums c.if-row-count.true c.if-place-places.true c.index_mut.ensures.value

pub loop-shift-preserved : goal.loop-shift-preserved
loop-shift-preserved g c =
    let shifts = c.args.shifts.now in
    let i = c.loop-shift.shift-index in
    let low = c.loop-shift-test.true in
    let shift = get_or shifts i none in
    let is : shift ≡ get_or shifts i shift = get_or_any shifts i none shift low in
    let ends = g.T.HasEnds.ends in
    let items = c.args.items.now in
    let rows = c.args.rows in
    let count = c.args.count in
    let places = c.args.places in
    let more : c.match-row_number.sums.items ≡ sums_of g.T.HasEnds.ends c.args.items.now c.args.rows c.args.count c.args.places (take (c.loop-shift.shift-index + 1) c.args.shifts.now) =
    elim c.match-row_number.branch [
      | in-Some+then-row-count+then-place-places w ↦
          let line = w.index_mut.result.now in
          let place = w.from-place.ensures in
          let amount : to_z w64 (of_z w64 c.amount_of-amount.result) ≡ signed shift = to_z-of_z w64 c.amount_of-amount.result (record { sfits = c.amount_of-amount.type_inv }) ∙ c.amount_of-amount.ensures.amount in
          let changed : w.add_at.new.row ≡ set line shift.proto (get_or line shift.proto (pos 0) +ℤ signed shift) = w.add_at.ensures ∙ (λ j. set line (place j) (get_or line (place j) (pos 0) +ℤ amount j)) in
          added ends items rows count places shifts i shift low is c.loop-shift.sums.items c.match-row_number.sums.items w.in-Some.row line w.add_at.new.row c.loop-shift.invariant.sums (sym c.row_number.ensures ∙ w.in-Some.is)
          w.if-row-count.true (subst (λ p. p < places) place w.if-place-places.true) w.index_mut.ensures.value changed (ap (λ v. v.items) w.sums-is)
      | in-Some+else-row-count w ↦
          let here = w.in-Some.row in
          let found = sym c.row_number.ensures ∙ w.in-Some.is in
          let place = w.from-place.ensures in
          let no_part : (r p : ℕ) → r < count → p < places → part ends items rows r p shift ≡ pos 0 = λ r p low_r low_p. elim w.else-row-count.either [
            | inl both ↦ let past = both.1 in other_place ends items rows r p shift (λ same. absurd (omega (arith, same, place, past, low_p)))
            | inr past ↦ other_row ends items rows here r p shift found (λ same. absurd (omega (arith, same, past, low_r)))
          ] in
          ap (λ v. v.items) w.sums-is ∙ unchanged ends items rows count places shifts i shift low is c.loop-shift.sums.items c.loop-shift.invariant.sums no_part
      | in_default w ↦
          let missing = sym c.row_number.ensures ∙ w.in_default.is in
          ap (λ v. v.items) w.sums-is ∙ unchanged ends items rows count places shifts i shift low is c.loop-shift.sums.items c.loop-shift.invariant.sums (λ r p low_r low_p. no_row ends items rows r p shift missing)
    ] in
    let within : IsWithin 4294967296 (signed (get_or c.args.shifts.now c.loop-shift.shift-index none)) = subst (IsWithin 4294967296) c.amount_of-amount.ensures.amount c.amount_of-amount.ensures.within in
    record {
      sums = more;
      small = All-more (λ (shift : Shift). IsWithin 4294967296 (signed shift)) c.args.shifts.now c.loop-shift.shift-index none c.loop-shift-test.true c.loop-shift.invariant.small within;
    }
