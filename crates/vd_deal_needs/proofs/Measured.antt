-- What each host takes is within the sizes, and in a list that has as many items.
use Rattle.std.proofs.Common.{◌≡◌, ◌≢◌, inl, inr, ℕ, ◌<◌, ◌≤◌, max, List, [], length, get_or, Option, Some, None, sym, ap, ◌∙◌, arith}
use Rattle.std.specs.Prelude.{slice_get}
use Rattle.std.proofs.lemmas.Bool.{cases_lt}
use Rattle.std.proofs.lemmas.List.{get_or-map, length-map}
use Rattle.std.proofs.lemmas.List.FromFn.{get_or-map-range_with_len, length-map-range_with_len}
use Rattle.std.proofs.lemmas.Option.{slice_get_cases, slice_get_past}
use Rattle.vd_base.specs.declared.protocols.Proto.{Proto}
use Rattle.vd_core.specs.declared.normal.NormalForm.{NormalForm}
use Rattle.vd_execution.specs.declared.instructions.Instr.{Instr}
use Rattle.vd_execution.specs.Joint.{Joint, IsTidy, code_of}
use Rattle.vd_execution.specs.Step.{Source, OwnWords}
use Rattle.vd_machine.specs.Machines.{item_or_none}
use Rattle.vd_deal_needs.specs.DealNeedsLawsNeeds.{counts, takes}
use Rattle.vd_deal_needs.proofs.ReadOff.{read_off}
use Rattle.vd_deal_needs.specs.declared.taking.HostNeeds.{HostNeeds}
use Rattle.vd_deal_needs.specs.declared.taking.Shared.{Shared}
use Rattle.vd_deal_needs.specs.Counted.{code_in}
use Rattle.vd_deal_needs.specs.Needs.{needs_by, shared_by}
use Rattle.vd_deal_needs.specs.Sizes.{greater, most_of, most_own, nothing}
use Rattle.vd_deal_needs.proofs.Greatest.{above, below, most_above, most_below}
use Rattle.vd_projection.specs.Programs.{CanRunAt, host_codes, joint_of}
use Rattle.vd_projection.proofs.Front.{joint_is_tidy}
use Rattle.vd_deal_needs.specs.Enough.{needs_for}
use Rattle.vd_deal_needs.proofs.Countable.{code_at, count_codes, counted_code, hosts}

-- ---- items of a list

module _ {X : Type 0} (f : X → List ℕ) (xs : List X) where
  some_item : (o : Option X) (x : X) → o ≡ Some x → item_or_none f o ≢ None
  some_item o x e none = let wrong : Some (f x) ≡ None = sym (ap (item_or_none f) e) ∙ none in cc wrong

  pub any_there : (i : ℕ) → i < length xs → item_or_none f (slice_get xs i) ≢ None
  any_there i lt = elim (slice_get_cases xs i).1 [ inl there ↦ some_item (slice_get xs i) there.0 there.2 | inr past ↦ absurd (omega (arith, lt, past.0)) ]

  -- a list of which the first m items are there is as long
  pub as_long : (m : ℕ) → ((i : ℕ) → i < m → item_or_none f (slice_get xs i) ≢ None) → m ≤ length xs
  as_long m all = elim (cases_lt (length xs) m) [
    | inl short ↦ absurd (all (length xs) short (ap (item_or_none f) (slice_get_past xs (length xs) (omega arith))))
    | inr le ↦ le
  ]

-- ---- what hosts take

module _ (program : NormalForm) (list : List Proto) (can : CanRunAt program list) where
  abbrev pub joint_code : Joint
  joint_code = joint_of program list

  abbrev pub counted : ℕ → Source → ℕ
  counted h r = counts (code_of h joint_code) r

  tidy : IsTidy joint_code
  tidy = joint_is_tidy program list can

  pub taken : (h : ℕ) (r : Source) → takes joint_code h r ≡ counted h r
  taken h r = sym (read_off joint_code h r tidy)

  abbrev all_needs : List HostNeeds
  all_needs = needs_for program list

  abbrev host_needs : ℕ → HostNeeds
  host_needs h = needs_by (hosts program list can) (counted h)

  abbrev needs_of_code : List Instr → HostNeeds
  needs_of_code c = needs_by (length (host_codes program list)) (counts (code_in c))

  pub count_needs : length all_needs ≡ hosts program list can
  count_needs = length-map (host_codes program list) needs_of_code ∙ count_codes program list can

  pub needs_at : (h : ℕ) (d : HostNeeds) → h < hosts program list can → get_or all_needs h d ≡ host_needs h
  needs_at h d lt =
      let n = count_codes program list can in
      get_or-map needs_of_code (host_codes program list) h [] d (omega (arith, lt, n))
      ∙ ap needs_of_code (code_at program list can h [] lt)
      ∙ (λ i. needs_by (n i) (counts (counted_code program list can h i)))

  declared : (h : ℕ) → h < length all_needs → h < hosts program list can
  declared h lt = let n = count_needs in omega (arith, lt, n)

  among : (h : ℕ) → h < hosts program list can → h < length all_needs
  among h lt = let n = count_needs in omega (arith, lt, n)

  -- own words
  pub own_within : (h : ℕ) → h < hosts program list can → counted h OwnWords ≤ most_own all_needs
  own_within h lt =
      let d = host_needs h in
      let e : (get_or all_needs h d).own ≡ counted h OwnWords = ap (λ (x : HostNeeds). x.own) (needs_at h d lt) in
      let a = above (λ (x : HostNeeds). x.own) 0 all_needs h d (among h lt) in
      omega (arith, e, a)

  pub own_below : (m : ℕ) → ((h : ℕ) → h < hosts program list can → counted h OwnWords ≤ m) → most_own all_needs ≤ m
  own_below m all = below (λ (x : HostNeeds). x.own) 0 m all_needs (omega arith) (λ h d lt.
      let e : (get_or all_needs h d).own ≡ counted h OwnWords = ap (λ (x : HostNeeds). x.own) (needs_at h d (declared h lt)) in
      let a = all h (declared h lt) in
      omega (arith, e, a))

  shared_count : (h : ℕ) (d : HostNeeds) → h < hosts program list can → length (get_or all_needs h d).shared ≡ hosts program list can
  shared_count h d lt =
      ap (λ (x : HostNeeds). length x.shared) (needs_at h d lt) ∙ length-map-range_with_len (shared_by (counted h)) 0 (hosts program list can)

  shared_at : (h p : ℕ) (d : HostNeeds) (s : Shared) → h < hosts program list can → p < hosts program list can → get_or (get_or all_needs h d).shared p s ≡ shared_by (counted h) p
  shared_at h p d s lt there =
      ap (λ (x : HostNeeds). get_or x.shared p s) (needs_at h d lt) ∙ get_or-map-range_with_len (shared_by (counted h)) 0 (hosts program list can) p p s there (omega arith)

  -- what is shared, of one kind
  pub shared_within : (kind : Shared → ℕ) → ((s t : Shared) → kind (greater s t) ≡ max (kind s) (kind t)) → (h p : ℕ) → h < hosts program list can → p < hosts program list can
      → kind (shared_by (counted h) p) ≤ kind (most_of all_needs)
  shared_within kind kept h p lt there =
      let d = host_needs h in
      let e = ap kind (shared_at h p d nothing lt there) in
      let n = shared_count h d lt in
      let a = most_above kind kept all_needs h p d nothing (among h lt) (omega (arith, there, n)) in
      omega (arith, e, a)

  pub shared_below : (kind : Shared → ℕ) → ((s t : Shared) → kind (greater s t) ≡ max (kind s) (kind t)) → (m : ℕ) → kind nothing ≤ m
      → ((h p : ℕ) → h < hosts program list can → p < hosts program list can → kind (shared_by (counted h) p) ≤ m) → kind (most_of all_needs) ≤ m
  shared_below kind kept m none all = most_below kind kept all_needs m none (λ h p d s lt there.
      let n = shared_count h d (declared h lt) in
      let within : p < hosts program list can = omega (arith, there, n) in
      let e = ap kind (shared_at h p d s (declared h lt) within) in
      let a = all h p (declared h lt) within in
      omega (arith, e, a))
