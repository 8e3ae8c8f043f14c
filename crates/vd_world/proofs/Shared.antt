-- What two hosts share, where it is followed by zeros.
use Rattle.std.proofs.Common.{◌≡◌, ℕ, ◌+◌, ◌-◌, ◌<◌, ◌≤◌, nat_eq, nat_lt, Bool, true, false, List, [], inl, inr, Option, Some, None, length, refl, sym, ap, ◌∙◌, subst, arith}
use Rattle.std.specs.Prelude.{◌≢◌, slice_get, unwrap_or}
use Rattle.std.proofs.lemmas.Bool.{cases_lt, eqb-true}
use Rattle.std.proofs.lemmas.Bool.Decides.{nat_tests}
use Rattle.std.proofs.lemmas.Option.{slice_get_past, slice_get_within, slice_get_cases}
use Rattle.vd_tape.specs.declared.deal_items.deal.Deal.{Deal}
use Rattle.vd_tape.specs.Validity.{peer_place, shared_with}
use Rattle.vd_machine.specs.Machines.{list_of}

-- a list has an item at each place within it
pub none_past : {X : Type 0} (xs : List X) (i : ℕ) → slice_get xs i ≡ None → length xs ≤ i
none_past xs i e = elim ((slice_get_cases xs i).1) [ inl some ↦ absurd (cc (e, some.2)) | inr past ↦ past.0 ]

other_than : (a b : ℕ) → a ≢ b → nat_eq b a ≡ false
other_than a b ne = at (nat_eq b a) refl
  where
    at : (z : Bool) → nat_eq b a ≡ z → nat_eq b a ≡ false
    at true e = absurd (ne (sym (eqb-true b a e)))
    at false e = e

not_below : (a b : ℕ) → b ≤ a → nat_lt a b ≡ false
not_below a b le = grind (arith, nat_tests)

-- with another host it shares what stands in its place
with_other : {X : Type 0} (lists : List (List X)) (me peer : ℕ) → me ≢ peer → list_of lists me peer ≡ shared_with lists me peer
with_other lists me peer ne = rw (other_than me peer ne) refl

-- with a host that there is not it shares nothing
with_none : {X : Type 0} (lists : List (List X)) (me peer hosts : ℕ) → length lists + 1 ≡ hosts → me < hosts → hosts ≤ peer → list_of lists me peer ≡ []
with_none lists me peer hosts count here past =
    with_other lists me peer (λ e. absurd (omega (arith, e, here, past)))
    ∙ ap (λ (place : ℕ). unwrap_or (slice_get lists place) []) place
    ∙ ap (λ o. unwrap_or o []) (slice_get_past lists (peer - 1) (omega (arith, count, here, past)))
  where
    place : peer_place me peer ≡ peer - 1
    place = rw (not_below peer me (omega (arith, here, past))) refl

-- Items of one kind, with what two of them keep.
module _ {X : Type 0} (lists : Deal → List (List X)) (none : X) where
  -- the item at a place of what a host shares with a peer, or a zero item
  abbrev pub item_in : List X → ℕ → X
  item_in items i = unwrap_or (slice_get items i) none

  abbrev pub part : Option Deal → ℕ → ℕ → X
  part None peer i = none
  part (Some d) peer i = item_in (list_of (lists d) d.me.0 peer) i

  module _ (Meet : X → X → Type 0) (turned : (x y : X) → Meet x y → Meet y x) (zeros : Meet none none) (deals : List Deal) (me : (h : ℕ) (d : Deal) → slice_get deals h ≡ Some d → d.me.0 ≡ h)
      (counted : (h : ℕ) (d : Deal) → slice_get deals h ≡ Some d → length (lists d) + 1 ≡ length deals)
      (meets : (g h : ℕ) (p q : Deal) → g < h → slice_get deals g ≡ Some p → slice_get deals h ≡ Some q
      → (i : ℕ) → Meet (item_in (shared_with (lists p) p.me.0 q.me.0) i) (item_in (shared_with (lists q) q.me.0 p.me.0) i)) where
    nothing : (g h : ℕ) (d : Deal) → slice_get deals g ≡ Some d → slice_get deals h ≡ None → (i : ℕ) → part (Some d) h i ≡ none
    nothing g h d e f i =
        let past = none_past deals h f in
        let here = slice_get_within deals g d e in
        let own = me g d e in
        ap (λ (xs : List X). item_in xs i) (with_none (lists d) d.me.0 h (length deals) (counted g d e) (omega (arith, own, here)) past)

    both : (g h : ℕ) (p q : Deal) → g < h → slice_get deals g ≡ Some p → slice_get deals h ≡ Some q → (i : ℕ) → Meet (part (Some p) h i) (part (Some q) g i)
    both g h p q lt e f i =
        let own = me g p e in
        let peer = me h q f in
        let first : list_of (lists p) p.me.0 h ≡ shared_with (lists p) p.me.0 q.me.0 =
        with_other (lists p) p.me.0 h (λ z. absurd (omega (arith, z, own, lt))) ∙ ap (shared_with (lists p) p.me.0) (sym peer) in
        let second : list_of (lists q) q.me.0 g ≡ shared_with (lists q) q.me.0 p.me.0 =
        with_other (lists q) q.me.0 g (λ z. absurd (omega (arith, z, peer, lt))) ∙ ap (shared_with (lists q) q.me.0) (sym own) in
        subst (λ (xs : List X). Meet (item_in xs i) (part (Some q) g i)) (sym first)
        (subst (λ (ys : List X). Meet (item_in (shared_with (lists p) p.me.0 q.me.0) i) (item_in ys i)) (sym second) (meets g h p q lt e f i))

    at_two : (g h i : ℕ) → g ≢ h → (o r : Option Deal) → slice_get deals g ≡ o → slice_get deals h ≡ r → Meet (part o h i) (part r g i)
    at_two g h i ne None None e f = zeros
    at_two g h i ne (Some p) None e f = subst (λ (x : X). Meet x none) (sym (nothing g h p e f i)) zeros
    at_two g h i ne None (Some q) e f = subst (λ (x : X). Meet none x) (sym (nothing h g q f e i)) zeros
    at_two g h i ne (Some p) (Some q) e f = elim (cases_lt g h) [
      | inl lt ↦ both g h p q lt e f i
      | inr le ↦ turned _ _ (both h g q p (grind (arith, ne)) f e i)
    ]

    pub all_meet : (g h i : ℕ) → g ≢ h → Meet (part (slice_get deals g) h i) (part (slice_get deals h) g i)
    all_meet g h i ne = at_two g h i ne (slice_get deals g) (slice_get deals h) refl refl
