-- Rows of numbers by the place of a protocol in the list.
use Rattle.std.specs.Prelude.{ℕ, zero, suc, ◌+◌, ◌*◌, min, Bool, false, if◌then◌else◌, Option, Some, None, option_map, unwrap_or, List, map, length, slice_index_or}
use Rattle.std.specs.List.{range_with_len}
use Rattle.vd_base.specs.declared.protocols.Proto.{Proto}
use Rattle.vd_base.specs.Holders.{proto_in}
use Rattle.vd_base.specs.Moves.{move_at}

abbrev pub if_passes : Bool → Option ℕ → Option ℕ
if_passes test value = if test then value else None

abbrev pub weighed : ℕ → Option ℕ → Option ℕ
weighed weight price = option_map (λ c. weight * c) price

abbrev pub by_place : {X : Type 0} → ℕ → (ℕ → X) → List X
by_place n f = map f (range_with_len 0 n)

-- ---- what is taken from a row

abbrev pub amounts_of : List (Option ℕ) → List ℕ
amounts_of row = map (λ o. unwrap_or o 0) row

abbrev pub emptied_of : List (Option ℕ) → List (Option ℕ)
emptied_of row = map (λ o. option_map (λ v. 0) o) row

-- ---- what is put on a row

abbrev pub raised_of : List (Option ℕ) → List ℕ → List (Option ℕ)
raised_of row amounts = by_place (length row) (λ p. option_map (λ v. v + slice_index_or amounts p 0) (slice_index_or row p None))

-- ---- what a use costs at least

abbrev pub lesser_number : Option ℕ → Option ℕ → Option ℕ
lesser_number None b = b
lesser_number (Some a) None = Some a
lesser_number (Some a) (Some b) = Some (min a b)

abbrev pub least_number : ℕ → (ℕ → Option ℕ) → Option ℕ
least_number zero value = None
least_number (suc n) value = lesser_number (least_number n value) (value n)

-- from a protocol to a place at which the target can stand, with what the target hands on there
abbrev pub given_at : List Proto → ℕ → List Bool → List ℕ → Proto → ℕ → Option ℕ
given_at list weight targets taken from q = if_passes (slice_index_or targets q false) (option_map (λ v. v + slice_index_or taken q 0) (weighed weight (move_at from (proto_in list q))))

abbrev pub given_from : List Proto → ℕ → List Bool → List ℕ → Proto → Option ℕ
given_from list weight targets taken from = least_number (length list) (given_at list weight targets taken from)

-- from each place at which the source can stand
abbrev pub given_by_place : List Proto → ℕ → List Bool → List Bool → List ℕ → ℕ → ℕ
given_by_place list weight sources targets taken p = unwrap_or (if_passes (slice_index_or sources p false) (given_from list weight targets taken (proto_in list p))) 0

abbrev pub givens_of : List Proto → ℕ → List Bool → List Bool → List ℕ → List ℕ
givens_of list weight sources targets taken = by_place (length list) (given_by_place list weight sources targets taken)
