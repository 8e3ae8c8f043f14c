-- Gadgets of two hosts on their fresh registers, as a call of a back end: what it gives.
use Rattle.std.proofs.Common.{◌≡◌, ◌≢◌, ℕ, ◌+◌, ◌<◌, ◌≤◌, true, ◌&&◌, List, [], ◌∷◌, ◌⊎◌, inl, inr, length, refl, sym, subst, subst₂, arith}
use Rattle.std.specs.Prelude.{slice_index}
use native.Mathlib.Decide.{ℕ_discrete}
use Rattle.vd_execution.specs.Step.{Pairs}
use Rattle.vd_execution.specs.Joint.{Hosts}
use Rattle.vd_execution.specs.Acts.{run_acts}
use Rattle.vd_execution.specs.World.{Tape}
use Rattle.vd_execution.specs.Deals.{IsValidDeal}
use Rattle.vd_execution.specs.Gadgets.{Sharing, BySums, ByXors, source_of, acts_of_gadgets, IsFresh, GadgetIsTidy, GadgetsAreTidy, IsSound}
use Rattle.vd_execution.proofs.Front.{gadgets_sound}
use Rattle.vd_duet.specs.Calls.{Places, Made}
use Rattle.vd_duet.specs.Laws.{IsIn, AreBelow, Gives}
use Rattle.vd_backend_sharing.proofs.Deeds.{Side, First, Second, other, Place, Old, New, Pair, nth_register, register_at, places_of, Deed, Number, Copied, Applied, ShiftedLeft, ShiftedRight, GivenAway, BothGive, Opened, Multiplied, Drawn, masking_of, gadget_of, further, gadgets_of, count_all, is_known, deed_is_known, all_known, places_known, NumberIsWord, NumbersAreWords, Left, words_of, nothing_left, no_count, value, after_all}
use Rattle.vd_backend_sharing.proofs.Runs.{both_first, both_second, fresh_is, place_low, others_differ, value_here, Stands, Reaches, deeds_run}

pub gives_so : {made : Made Places} (count : ℕ) (t : Tape) (next : List ℕ) (source : ℕ → ℕ → Type 0) (w : Hosts) (P Q : Hosts → Type 0)
    → ((u : Hosts) → P u → Q u) → Gives count t next source made w P → Gives count t next source made w Q
gives_so count t next source w P Q f g = record { orderly = g.orderly; reached = g.reached; leads = g.leads; is = f g.reached g.is }

module _ (t : Tape) (p : Pair) (w : Hosts) (next : List ℕ) (apart : (p.host First).0 ≢ (p.host Second).0)
    (marks : (s : Side) → p.mark s ≡ slice_index next (p.host s).0) (low : (s : Side) (j : ℕ) → j < length (p.operands s) → (nth_register (p.operands s) j).0 < p.mark s) where
  -- ---- tidy

  masking_fresh : (c : Side → ℕ) (s : Side) (x y : Place) → is_known p c s x ≡ true → is_known p c s y ≡ true → IsFresh (masking_of p c s x y)
  masking_fresh c s x y x_known y_known =
      let i = place_low t p w next apart marks low c s x x_known in
      let j = place_low t p w next apart marks low c s y y_known in
      let a = fresh_is (p.mark s) (c s + 0) in
      let b = fresh_is (p.mark s) (c s + 1) in
      let z = fresh_is (p.mark s) (c s + 2) in
      let d = fresh_is (p.mark s) (c s + 3) in
      let e = fresh_is (p.mark s) (c s + 4) in
      let f = fresh_is (p.mark s) (c s + 5) in
      let g = fresh_is (p.mark s) (c s + 6) in
      record {
        x_a = λ k. omega (arith, i, a, k);
        x_b = λ k. omega (arith, i, b, k);
        x_c = λ k. omega (arith, i, z, k);
        y_a = λ k. omega (arith, j, a, k);
        y_b = λ k. omega (arith, j, b, k);
        y_c = λ k. omega (arith, j, z, k);
        y_d = λ k. omega (arith, j, d, k);
        a_b = λ k. omega (arith, a, b, k);
        a_c = λ k. omega (arith, a, z, k);
        b_c = λ k. omega (arith, b, z, k);
        b_d = λ k. omega (arith, b, d, k);
        d_e = λ k. omega (arith, d, e, k);
        d_heard = (λ k. omega (arith, d, f, k), λ k. omega (arith, d, g, k));
        e_heard = (λ k. omega (arith, e, f, k), λ k. omega (arith, e, g, k));
      }

  gadget_tidy : (d : Deed) (c : Side → ℕ) → deed_is_known p c d ≡ true → NumberIsWord d → GadgetIsTidy (gadget_of p c d)
  gadget_tidy (Number s k) c known small = small
  gadget_tidy (Copied s x) c known small = tt
  gadget_tidy (Applied s o x y) c known small = tt
  gadget_tidy (ShiftedLeft s x k) c known small = tt
  gadget_tidy (ShiftedRight s x k) c known small = tt
  gadget_tidy (GivenAway s) c known small = others_differ t p w next apart marks low s
  gadget_tidy BothGive c known small =
      (apart, λ k. let a = fresh_is (p.mark Second) (c Second + 0) in let b = fresh_is (p.mark Second) (c Second + 1) in omega (arith, a, b, k))
  gadget_tidy (Opened sharing s x y) c known small = others_differ t p w next apart marks low s
  gadget_tidy (Multiplied sharing x y x' y') c known small =
      let one = both_first (is_known p c First x && is_known p c First y) (is_known p c Second x' && is_known p c Second y') known in
      let two = both_second (is_known p c First x && is_known p c First y) (is_known p c Second x' && is_known p c Second y') known in (
        apart,
        (
          masking_fresh c First x y (both_first (is_known p c First x) (is_known p c First y) one) (both_second (is_known p c First x) (is_known p c First y) one),
          masking_fresh c Second x' y' (both_first (is_known p c Second x') (is_known p c Second y') two) (both_second (is_known p c Second x') (is_known p c Second y') two),
        ),
      )
  gadget_tidy (Drawn x x') c known small = apart

  gadgets_tidy : (ds : List Deed) (c : Side → ℕ) → all_known p c ds ≡ true → NumbersAreWords ds → GadgetsAreTidy (gadgets_of p c ds)
  gadgets_tidy [] c known small = tt
  gadgets_tidy (d ∷ ds) c known small = (
    gadget_tidy d c (both_first (deed_is_known p c d) (all_known p (further c d) ds) known) small.0,
    gadgets_tidy ds (further c d) (both_second (deed_is_known p c d) (all_known p (further c d) ds) known) small.1,
  )

  -- ---- the start

  start_items : IsSound w → (g : Sharing) (s : Side)
      → (w (p.host s).0).cursors (source_of g (p.host (other s)).0) ≡ (w (p.host First).0).cursors (source_of g (p.host Second).0)
  start_items sound g First = refl
  start_items sound BySums Second = sound.triples (p.host Second).0 (p.host First).0
  start_items sound ByXors Second = sound.bit_triples (p.host Second).0 (p.host First).0

  start_pairs : IsSound w → (s : Side) → (w (p.host s).0).cursors (Pairs (p.host (other s)).0) ≡ (w (p.host First).0).cursors (Pairs (p.host Second).0)
  start_pairs sound First = refl
  start_pairs sound Second = sound.pairs (p.host Second).0 (p.host First).0

  nothing_low : (n : ℕ) → n < 0 → ⊥
  nothing_low n e = omega (arith, e)

  start : IsSound w → Reaches t p w next apart marks low nothing_left w
  start sound = record {
    stands = record {
      first = λ i few. absurd (nothing_low i few);
      second = λ i few. absurd (nothing_low i few);
      kept = λ h r b. refl;
      printed = λ h. refl;
      inputs = λ h. refl;
    };
    taken = record { owns = λ s. omega arith; items = λ g s. (let e = start_items sound g s in omega (arith, e)); pairs = λ s. (let e = start_pairs sound s in omega (arith, e)) };
  }

  -- ---- the registers that are taken

  -- each of the two hosts has so many registers less
  pub record Grows (c : Side → ℕ) (next' : List ℕ) : Type 0 where
    pub known : length next' ≡ length next
    pub there : (s : Side) → slice_index next' (p.host s).0 ≡ slice_index next (p.host s).0 + c s
    pub others : (h : ℕ) → h ≢ (p.host First).0 → h ≢ (p.host Second).0 → slice_index next' h ≡ slice_index next h

  bounds : (c : Side → ℕ) (next' : List ℕ) (count : ℕ) → Grows c next' → ((s : Side) → c s ≤ count) → (h : ℕ)
      → (slice_index next h ≤ slice_index next' h) × (slice_index next' h ≤ slice_index next h + count)
  bounds c next' count grows few h =
      elim (ℕ_discrete h (p.host First).0) [
        | yes e ↦ at First e
        | no d ↦ elim (ℕ_discrete h (p.host Second).0) [
          | yes e ↦ at Second e
          | no f ↦ let g = grows.others h d f in (omega (arith, g), omega (arith, g))
        ]
      ]
    where
      at : (s : Side) → h ≡ (p.host s).0 → (slice_index next h ≤ slice_index next' h) × (slice_index next' h ≤ slice_index next h + count)
      at s e =
          let P : ℕ → Type 0 = λ z. (slice_index next z ≤ slice_index next' z) × (slice_index next' z ≤ slice_index next z + count) in
          let g = grows.there s in let f = few s in subst P (sym e) (omega (arith, g), omega (arith, g, f))

  -- ---- what is given

  -- an operand that is given on is from the operands
  abbrev pub IsNamed : (ℕ → ℕ → Type 0) → Side → Place → Type 0
  IsNamed source s (Old j) = source (p.host s).0 (nth_register (p.operands s) j).0
  IsNamed source s (New i) = Unit {0}

  abbrev pub AreNamed : (ℕ → ℕ → Type 0) → List (Side × Place) → Type 0
  AreNamed source [] = Unit {0}
  AreNamed source (q ∷ qs) = IsNamed source q.0 q.1 × AreNamed source qs

  -- the words at these places are those that were left
  abbrev pub Hold : Left → List (Side × Place) → Hosts → Type 0
  Hold m [] u = Unit {0}
  Hold m (q ∷ qs) u = ((u (p.host q.0).0).registers (register_at p q.0 q.1).0 ≡ value t p w m q.0 q.1) × Hold m qs u

  given_below : (c : Side → ℕ) (next' : List ℕ) → Grows c next' → (given : List (Side × Place)) → places_known p c given ≡ true → AreBelow next' (places_of p given)
  given_below c next' grows [] known = tt
  given_below c next' grows (q ∷ qs) known =
      let i = place_low t p w next apart marks low c q.0 q.1 (both_first (is_known p c q.0 q.1) (places_known p c qs) known) in
      let g = grows.there q.0 in
      let e = marks q.0 in
      (omega (arith, i, g, e), given_below c next' grows qs (both_second (is_known p c q.0 q.1) (places_known p c qs) known))

  given_from : (source : ℕ → ℕ → Type 0) (given : List (Side × Place)) → AreNamed source given → (h r : ℕ) → IsIn (places_of p given) h r → (slice_index next h ≤ r) ⊎ source h r
  given_from source [] named h r i = absurd i
  given_from source (q ∷ qs) named h r (inl i) = at q.0 q.1 named.0 i.0 i.1
    where
      at : (s : Side) (x : Place) → IsNamed source s x → h ≡ (p.host s).0 → r ≡ (register_at p s x).0 → (slice_index next h ≤ r) ⊎ source h r
      at s (Old j) is e f = inr (subst₂ source (sym e) (sym f) is)
      at s (New i) is e f =
          let far = fresh_is (p.mark s) i in
          let mark = marks s in
          inl (subst (λ z. slice_index next z ≤ r) (sym e) (omega (arith, far, mark, f)))
  given_from source (q ∷ qs) named h r (inr i) = given_from source qs named.1 h r i

  given_hold : (ds : List Deed) (c : Side → ℕ) (m : Left) (u : Hosts) → ((s : Side) → c s ≡ length (words_of m s))
      → Stands t p w next apart marks low m.first m.second u → (given : List (Side × Place)) → places_known p c given ≡ true → Hold m given u
  given_hold ds c m u counts stands [] known = tt
  given_hold ds c m u counts stands (q ∷ qs) known = (
    value_here t p w next apart marks low c m u counts stands q.0 q.1 (both_first (is_known p c q.0 q.1) (places_known p c qs) known),
    given_hold ds c m u counts stands qs (both_second (is_known p c q.0 q.1) (places_known p c qs) known),
  )

  -- ---- the call

  pub gives : IsValidDeal t → IsSound w → (count : ℕ) (source : ℕ → ℕ → Type 0) (ds : List Deed) (given : List (Side × Place)) (next' : List ℕ)
      → all_known p no_count ds ≡ true → NumbersAreWords ds → places_known p (count_all no_count ds) given ≡ true → AreNamed source given
      → Grows (count_all no_count ds) next' → ((s : Side) → count_all no_count ds s ≤ count)
      → Gives count t next source (record { given = places_of p given; gadgets = gadgets_of p no_count ds; next = next' }) w (Hold (after_all t p w nothing_left ds) given)
  gives deal sound count source ds given next' known numbers placed named grows few =
      let tidy : GadgetsAreTidy (gadgets_of p no_count ds) = gadgets_tidy ds no_count known numbers in
      let ran = deeds_run t p w next apart marks low ds no_count nothing_left w (λ s. none s) (start sound) known in
      let u : Hosts = run_acts t (acts_of_gadgets (gadgets_of p no_count ds)) w in
      record {
        orderly = record {
          tidy = tidy;
          few = (grows.known, λ h. (bounds (count_all no_count ds) next' count grows few h).1);
          longer = λ h. (bounds (count_all no_count ds) next' count grows few h).0;
          below = given_below (count_all no_count ds) next' grows given placed;
          from = given_from source given named;
        };
        reached = u;
        leads = record {
          runs = refl;
          agrees = ran.agrees;
          sound = gadgets_sound t deal (gadgets_of p no_count ds) tidy w sound;
          kept = λ h r b not. ran.reaches.stands.kept h r b;
          printed = ran.reaches.stands.printed;
          inputs = ran.reaches.stands.inputs;
        };
        is = given_hold ds (count_all no_count ds) (after_all t p w nothing_left ds) u ran.counts ran.reaches.stands given placed;
      }
    where
      none : (s : Side) → no_count s ≡ length (words_of nothing_left s)
      none First = refl
      none Second = refl
