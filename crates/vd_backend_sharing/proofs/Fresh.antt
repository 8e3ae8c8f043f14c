-- Two hosts whose fresh registers begin at their next free ones: a call that both or one of them take registers for.
use Rattle.std.proofs.Common.{◌≡◌, ◌≢◌, ℕ, zero, suc, ◌+◌, ◌<◌, ◌≤◌, true, List, [], ◌∷◌, length, refl, sym, ap, subst, subst₂, ◌∙◌, arith}
use Rattle.std.specs.Prelude.{slice_index}
use Rattle.vd_base.specs.declared.ids.HostId.{HostId}
use Rattle.vd_execution.specs.declared.instructions.Reg.{Reg}
use Rattle.vd_execution.specs.Joint.{Hosts}
use Rattle.vd_execution.specs.World.{Tape}
use Rattle.vd_execution.specs.Deals.{IsValidDeal}
use Rattle.vd_execution.specs.Gadgets.{Gadget, IsSound}
use Rattle.vd_duet.specs.Builder.{taken}
use Rattle.vd_duet.specs.Calls.{Places, Made}
use Rattle.vd_duet.specs.Laws.{Each, Gives}
use Rattle.vd_duet.proofs.Front.{taken_known, taken_there, taken_other}
use Rattle.vd_backend_sharing.specs.PairCalls.{fresh_at}
use Rattle.vd_backend_sharing.proofs.Deeds.{Side, First, Second, sides, Place, Pair, nth_register, places_of, Deed, gadgets_of, count_all, all_known, places_known, NumbersAreWords, Left, nothing_left, no_count, after_all}
use Rattle.vd_backend_sharing.proofs.Blocks.{gives_so, AreNamed, Hold, gives}

-- two hosts with the registers of their operands
abbrev pub pair_at : HostId → HostId → List Reg → List Reg → List ℕ → Pair
pair_at a b xs ys next = record { host = sides a b; operands = sides xs ys; mark = sides (slice_index next a.0) (slice_index next b.0) }

all_low : (n : ℕ) (rs : List Reg) → Each (λ r. r.0 < n) rs → (j : ℕ) → j < length rs → (nth_register rs j).0 < n
all_low n [] low j few = absurd (none j few)
  where
    none : (j : ℕ) → j < 0 → ⊥
    none j e = omega (arith, e)
all_low n (r ∷ rs) low zero few = low.0
all_low n (r ∷ rs) low (suc j) few = all_low n rs low.1 j (omega (arith, few))

module _ (t : Tape) (deal : IsValidDeal t) (next : List ℕ) (w : Hosts) (sound : IsSound w) (a b : HostId) (apart : a.0 ≢ b.0)
    (a_known : a.0 < length next) (b_known : b.0 < length next) (xs ys : List Reg)
    (xs_low : Each (λ r. r.0 < slice_index next a.0) xs) (ys_low : Each (λ r. r.0 < slice_index next b.0) ys) where
  pub marks : (s : Side) → (pair_at a b xs ys next).mark s ≡ slice_index next ((pair_at a b xs ys next).host s).0
  marks First = refl
  marks Second = refl

  pub low : (s : Side) (j : ℕ) → j < length ((pair_at a b xs ys next).operands s) → (nth_register ((pair_at a b xs ys next).operands s) j).0 < (pair_at a b xs ys next).mark s
  low First j few = all_low (slice_index next a.0) xs xs_low j few
  low Second j few = all_low (slice_index next b.0) ys ys_low j few

  -- what the deeds leave
  abbrev pub left : List Deed → Left
  left ds = after_all t (pair_at a b xs ys next) w nothing_left ds

  abbrev pub Holding : List Deed → List (Side × Place) → Hosts → Type 0
  Holding ds given u = Hold t (pair_at a b xs ys next) w next apart marks low (left ds) given u

  few_of : (i j : ℕ) (ds : List Deed) (count : ℕ) → count_all no_count ds First ≡ i → count_all no_count ds Second ≡ j → i ≤ count → j ≤ count
      → (s : Side) → count_all no_count ds s ≤ count
  few_of i j ds count e f i_few j_few First = subst (λ n. n ≤ count) (sym e) i_few
  few_of i j ds count e f i_few j_few Second = subst (λ n. n ≤ count) (sym f) j_few

  -- both hosts take fresh registers, the first host's first
  pub fresh_gives : (count i j : ℕ) (source : ℕ → ℕ → Type 0) (given : ℕ → ℕ → Places) (gadgets : ℕ → ℕ → List Gadget) (Is : Places → Hosts → Type 0)
      (ds : List Deed) (places : List (Side × Place))
      → given (slice_index next a.0) (slice_index next b.0) ≡ places_of (pair_at a b xs ys next) places
      → gadgets (slice_index next a.0) (slice_index next b.0) ≡ gadgets_of (pair_at a b xs ys next) no_count ds
      → all_known (pair_at a b xs ys next) no_count ds ≡ true → NumbersAreWords ds → places_known (pair_at a b xs ys next) (count_all no_count ds) places ≡ true
      → AreNamed t (pair_at a b xs ys next) w next apart marks low source places
      → count_all no_count ds First ≡ i → count_all no_count ds Second ≡ j → i ≤ count → j ≤ count
      → ((u : Hosts) → Holding ds places u → Is (places_of (pair_at a b xs ys next) places) u)
      → let made : Made Places = fresh_at a i b j given gadgets next in
      Gives count t next source made w (λ u. Is (given (slice_index next a.0) (slice_index (taken a i next) b.0)) u)
  fresh_gives count i j source given gadgets Is ds places given_is gadgets_is known numbers placed named first_count second_count i_few j_few is =
      let second : slice_index (taken a i next) b.0 ≡ slice_index next b.0 = taken_other a i next b.0 (λ e. apart (sym e)) in
      let done : List ℕ = taken b j (taken a i next) in
      let P : ℕ → Type 0 = λ m. Gives count t next source (record { given = given (slice_index next a.0) m; gadgets = gadgets (slice_index next a.0) m; next = taken b j (taken a i next) }) w
      (λ u. Is (given (slice_index next a.0) m) u) in
      let Q : Places → List Gadget → Type 0 = λ x l. Gives count t next source (record { given = x; gadgets = l; next = taken b j (taken a i next) }) w (λ u. Is x u) in
      let there_first : slice_index (taken b j (taken a i next)) a.0 ≡ slice_index next a.0 + i = taken_other b j (taken a i next) a.0 apart ∙ taken_there a i next a_known in
      let there_second : slice_index (taken b j (taken a i next)) b.0 ≡ slice_index next b.0 + j =
      taken_there b j (taken a i next) (subst (λ n. b.0 < n) (sym (taken_known a i next)) b_known) ∙ ap (λ n. n + j) second in
      subst P (sym second)
      (subst₂ Q (sym given_is) (sym gadgets_is)
      (gives_so count t next source w (Holding ds places) (Is (places_of (pair_at a b xs ys next) places)) is
      (gives t (pair_at a b xs ys next) w next apart marks low deal sound count source ds places (taken b j (taken a i next)) known numbers placed named
      (record {
        known = taken_known b j (taken a i next) ∙ taken_known a i next;
        there = λ s. there s there_first there_second;
        others = λ h d e. taken_other b j (taken a i next) h e ∙ taken_other a i next h d;
      }) (few_of i j ds count first_count second_count i_few j_few))))
    where
      there : (s : Side) → slice_index (taken b j (taken a i next)) a.0 ≡ slice_index next a.0 + i → slice_index (taken b j (taken a i next)) b.0 ≡ slice_index next b.0 + j
          → slice_index (taken b j (taken a i next)) ((pair_at a b xs ys next).host s).0 ≡ slice_index next ((pair_at a b xs ys next).host s).0 + count_all no_count ds s
      there First e f = e ∙ ap (λ n. slice_index next a.0 + n) (sym first_count)
      there Second e f = f ∙ ap (λ n. slice_index next b.0 + n) (sym second_count)

  -- only the first host takes fresh registers
  pub one_gives : (count i : ℕ) (source : ℕ → ℕ → Type 0) (Is : Hosts → Type 0) (ds : List Deed) (places : List (Side × Place))
      → all_known (pair_at a b xs ys next) no_count ds ≡ true → NumbersAreWords ds → places_known (pair_at a b xs ys next) (count_all no_count ds) places ≡ true
      → AreNamed t (pair_at a b xs ys next) w next apart marks low source places
      → count_all no_count ds First ≡ i → count_all no_count ds Second ≡ 0 → i ≤ count
      → ((u : Hosts) → Holding ds places u → Is u)
      → Gives count t next source (record { given = places_of (pair_at a b xs ys next) places; gadgets = gadgets_of (pair_at a b xs ys next) no_count ds; next = taken a i next }) w Is
  one_gives count i source Is ds places known numbers placed named first_count second_count i_few is =
      gives_so count t next source w (Holding ds places) Is is
      (gives t (pair_at a b xs ys next) w next apart marks low deal sound count source ds places (taken a i next) known numbers placed named
      (record {
        known = taken_known a i next;
        there = λ s. there s (taken_there a i next a_known) (taken_other a i next b.0 (λ e. apart (sym e)));
        others = λ h d e. taken_other a i next h d;
      }) (few_of i 0 ds count first_count second_count i_few (omega arith)))
    where
      there : (s : Side) → slice_index (taken a i next) a.0 ≡ slice_index next a.0 + i → slice_index (taken a i next) b.0 ≡ slice_index next b.0
          → slice_index (taken a i next) ((pair_at a b xs ys next).host s).0 ≡ slice_index next ((pair_at a b xs ys next).host s).0 + count_all no_count ds s
      there First e f = e ∙ ap (λ n. slice_index next a.0 + n) (sym first_count)
      there Second e f = f ∙ (omega (arith, second_count))
