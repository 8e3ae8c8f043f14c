-- The deal that is made of some sizes has them.
use Rattle.std.proofs.Common.{◌≡◌, ◌≢◌, ℕ, ◌-◌, ◌<◌, ◌≤◌, List, [], length, get_or, Some, sym, ap, ◌∙◌, arith}
use Rattle.std.specs.Prelude.{slice_get, unwrap_or}
use Rattle.std.proofs.lemmas.Bool.Decides.{nat_tests}
use Rattle.std.proofs.lemmas.List.FromFn.{get_or-map-range_with_len, length-map-range_with_len}
use Rattle.std.proofs.lemmas.Option.{get_or_from_slice_get, slice_get_within, unwrap_or-slice_get}
use Rattle.vd_tape.specs.declared.deal_items.deal.Counts.{Counts}
use Rattle.vd_tape.specs.declared.deal_items.deal.Deal.{Deal}
use Rattle.vd_tape.specs.Validity.{peer_at, peer_place, shared_with}
use Rattle.vd_tape.specs.Made.{and_item, first_of, keyed_deal, keyed_deals, keyed_word, mul_item, pair_item}
use Rattle.vd_deal_needs.specs.Enough.{DealsHaveTheirSizes, HasSizes}

place_below : (n h p : ℕ) → h < n → p < n → p ≢ h → peer_place h p < n - 1
place_below n h p x y ne = grind (arith, nat_tests)

-- a list of each peer, of so many items
module _ {X : Type 0} (n m : ℕ) (item : ℕ → ℕ → X) where
  abbrev lists : List (List X)
  lists = first_of (n - 1) (λ place. first_of m (item place))

  shared_length : (h p : ℕ) → h < n → p < n → p ≢ h → length (shared_with lists h p) ≡ m
  shared_length h p x y ne =
      let place = peer_place h p in
      ap (λ (l : List X). length l) (unwrap_or-slice_get lists place [] ∙ get_or-map-range_with_len (λ place. first_of m (item place)) 0 (n - 1) place place [] (place_below n h p x y ne) (omega arith))
      ∙ length-map-range_with_len (item place) 0 m

module _ (sizes : Counts) (key : List ℕ) where
  abbrev deals : List Deal
  deals = keyed_deals sizes key

  count : length deals ≡ sizes.hosts
  count = length-map-range_with_len (keyed_deal sizes key) 0 sizes.hosts

  declared : (h : ℕ) (deal : Deal) → slice_get deals h ≡ Some deal → h < sizes.hosts
  declared h deal is = let w = slice_get_within deals h deal is in let n = count in omega (arith, w, n)

  deal_is : (h : ℕ) (deal : Deal) → slice_get deals h ≡ Some deal → deal ≡ keyed_deal sizes key h
  deal_is h deal is = sym (get_or_from_slice_get deals h deal deal is) ∙ get_or-map-range_with_len (keyed_deal sizes key) 0 sizes.hosts h h deal (declared h deal is) (omega arith)

  own_length : (h : ℕ) (deal : Deal) → slice_get deals h ≡ Some deal → length deal.own ≡ sizes.own
  own_length h deal is = ap (λ (d : Deal). length d.own) (deal_is h deal is) ∙ length-map-range_with_len (keyed_word key h) 0 sizes.own

  among : (h p : ℕ) (deal : Deal) → slice_get deals h ≡ Some deal → p < length deals → p < sizes.hosts
  among h p deal is lt = let n = count in omega (arith, lt, n)

  muls_length : (h p : ℕ) (deal : Deal) → slice_get deals h ≡ Some deal → p < length deals → p ≢ h → length (shared_with deal.triples h p) ≡ sizes.muls
  muls_length h p deal is lt ne =
      ap (λ (d : Deal). length (shared_with d.triples h p)) (deal_is h deal is)
      ∙ shared_length sizes.hosts sizes.muls (λ place. mul_item key h (peer_at h place)) h p (declared h deal is) (among h p deal is lt) ne

  ands_length : (h p : ℕ) (deal : Deal) → slice_get deals h ≡ Some deal → p < length deals → p ≢ h → length (shared_with deal.bits h p) ≡ sizes.ands
  ands_length h p deal is lt ne =
      ap (λ (d : Deal). length (shared_with d.bits h p)) (deal_is h deal is)
      ∙ shared_length sizes.hosts sizes.ands (λ place. and_item key h (peer_at h place)) h p (declared h deal is) (among h p deal is lt) ne

  pairs_length : (h p : ℕ) (deal : Deal) → slice_get deals h ≡ Some deal → p < length deals → p ≢ h → length (shared_with deal.pairs h p) ≡ sizes.pairs
  pairs_length h p deal is lt ne =
      ap (λ (d : Deal). length (shared_with d.pairs h p)) (deal_is h deal is)
      ∙ shared_length sizes.hosts sizes.pairs (λ place. pair_item key h (peer_at h place)) h p (declared h deal is) (among h p deal is lt) ne

  as_many : (a b : ℕ) → a ≡ b → b ≤ a
  as_many a b e = omega (arith, e)

  has_sizes : HasSizes sizes deals
  has_sizes = record {
    own = λ h deal is. as_many _ _ (own_length h deal is);
    muls = λ h p deal is lt ne. as_many _ _ (muls_length h p deal is lt ne);
    ands = λ h p deal is lt ne. as_many _ _ (ands_length h p deal is lt ne);
    pairs = λ h p deal is lt ne. as_many _ _ (pairs_length h p deal is lt ne);
  }

pub deals_have_their_sizes : DealsHaveTheirSizes
deals_have_their_sizes sizes key = has_sizes sizes key
