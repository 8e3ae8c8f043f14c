-- A word shared by exclusive or becomes one shared by sums.
use Rattle.std.proofs.Common.{◌≡◌, ◌≢◌, ℕ, ◌+◌, ◌-◌, ◌%◌, ◌^◌, ◌<◌, ◌≤◌, List, [], ◌∷◌, ◌++◌, ◌⊎◌, inl, inr, length, refl, sym, ap, ap₂, subst, ◌∙◌, arith, lit≤, bit_xor}
use Rattle.std.specs.Prelude.{slice_index}
use Rattle.std.proofs.lemmas.Nat.{xor_lt}
use Rattle.vd_base.specs.declared.ids.HostId.{HostId}
use Rattle.vd_base.specs.declared.operations.Op.TheVariants as op
use Rattle.vd_execution.specs.declared.instructions.Reg.{Reg}
use Rattle.vd_execution.specs.declared.instructions.Binary.TheVariants as binary
use Rattle.vd_execution.specs.Joint.{Hosts}
use Rattle.vd_execution.specs.Step.{Pairs}
use Rattle.vd_execution.specs.World.{Tape}
use Rattle.vd_execution.specs.Gadgets.{BySums, ByXors, Opens, Paired}
use Rattle.vd_execution.specs.Text.{register}
use Rattle.vd_duet.specs.Builder.{most_taken}
use Rattle.vd_duet.specs.Calls.{Places, Made}
use Rattle.vd_duet.specs.Laws.{IsIn, IsInOne, AreBelow, Gives, GivesWord, StandFor, Operand, IsReady}
use Rattle.vd_duet.proofs.Front.{Since, orderly_wider}
use Rattle.vd_backend_sharing.specs.declared.shares.PartRegisters.{PartRegisters}
use Rattle.vd_backend_sharing.specs.PairCalls.{two, shares_of, places_at, at_hosts}
use Rattle.vd_backend_sharing.proofs.Front.{First, Second, Old, New, Drawn, Opened, Applied, nothing_left, pair_word, pair_at, fresh_gives, Parts, parts_of, parts_named, both_known, stands_by, gives_then, parts_later}
use Rattle.vd_words.specs.AddCalls.{add_serves, add_apply, add_calls}
use Rattle.vd_bits.specs.BitCalls.{circuit_shares, computed, bit_serves, bit_calls}
use Rattle.vd_bits.proofs.Front.{gives_wider, circuit_gives_few}
use Rattle.vd_convert.specs.Convert.{pairing, drawn, finishing, finished, to_add_made}

-- a dealt pair: its sum, and its exclusive or
abbrev HoldPair : Hosts → Places → ℕ → Type 0
HoldPair u (p ∷ q ∷ r ∷ s ∷ []) x =
    (((u p.0.0).registers p.1.0 + (u q.0.0).registers q.1.0) % 2 ^ 32 ≡ x) × (bit_xor ((u r.0.0).registers r.1.0) ((u s.0.0).registers s.1.0) ≡ x)
HoldPair u l x = ⊥

-- the pair is put on again, host by host
put_on_again : (x pair s0 s1 : ℕ) → x < 2 ^ 32 → pair < 2 ^ 32 → (s0 + s1) % 2 ^ 32 ≡ pair → (((x + (2 ^ 32 - pair)) % 2 ^ 32 + s0) % 2 ^ 32 + s1) % 2 ^ 32 ≡ x
put_on_again x pair s0 s1 hx hp e = omega arith

-- the same with more sources
gives_from : {made : Made Places} (count : ℕ) (t : Tape) (next : List ℕ) (source source' : ℕ → ℕ → Type 0) (w : Hosts) (P : Hosts → Type 0)
    → ((h r : ℕ) → source h r → source' h r) → Gives count t next source made w P → Gives count t next source' made w P
gives_from {made = made} count t next source source' w P wider g = record {
  orderly = orderly_wider count count next source source' made (omega arith) wider g.orderly;
  reached = g.reached;
  leads = g.leads;
  is = g.is;
}

module _ (a b : HostId) (apart : a.0 ≢ b.0) (t : Tape) where
  -- what is left is opened, and the first host adds its part of the sum
  finished_gives : (next : List ℕ) (w : Hosts) → IsReady (bit_calls a b) t next w → (source : ℕ → ℕ → Type 0) (rest sum : PartRegisters) (d v : ℕ) → Parts ByXors a b next w rest d
      → sum.first.0 < slice_index next a.0 → sum.second.0 < slice_index next b.0 → source b.0 sum.second.0
      → ((d + (w a.0).registers sum.first.0) % 2 ^ 32 + (w b.0).registers sum.second.0) % 2 ^ 32 ≡ v
      → Gives 32 t next source (at_hosts a b (finished a b rest sum next)) w (λ u. StandFor (add_calls a b) u (places_at a b (finished a b rest sum next).given) v)
  finished_gives next w ready source rest sum d v p first_low second_low named is =
      let known = both_known a b bit_serves (circuit_shares a b) ByXors next ready.known in
      fresh_gives t ready.deal next w ready.sound a b apart known.0 known.1 (rest.first ∷ sum.first ∷ []) (rest.second ∷ sum.second ∷ [])
      (p.first_low, (first_low, tt)) (p.second_low, (second_low, tt)) 32 3 2 source
      (λ n m. places_at a b (record { first = register (n + 2); second = sum.second }))
      (λ n m. Opens ByXors a rest.first b rest.second (register m) ∷ Opens ByXors b rest.second a rest.first (register n) ∷ finishing a b rest sum n m)
      (λ y u. StandFor (add_calls a b) u y v)
      (Opened ByXors First (Old 0) (Old 0) ∷ Opened ByXors Second (Old 0) (Old 0) ∷ Applied First binary.Xor (Old 0) (New 0) ∷ Applied First binary.Add (New 1) (Old 1)
      ∷ Applied Second binary.Xor (Old 0) (New 0) ∷ [])
      ((First, New 2) ∷ (Second, Old 1) ∷ []) refl refl refl (tt, (tt, (tt, (tt, (tt, tt))))) refl (tt, (named, tt)) refl refl (lit≤ tt) (lit≤ tt)
      (λ u h. stands_by a b add_serves (add_apply a b) BySums u (register (slice_index next a.0 + 2)) sum.second v
      (ap₂ (λ (i j : ℕ). (i + j) % 2 ^ 32) (h.0 ∙ ap (λ (z : ℕ). (z + (w a.0).registers sum.first.0) % 2 ^ 32) p.word) h.1.0 ∙ is))

  module _ (next : List ℕ) (w : Hosts) (ready : IsReady (bit_calls a b) t next w) (x : Places) (v : ℕ) (o : Operand (bit_calls a b) next w x v) where
    abbrev pair_there : Made Places
    pair_there = record {
      given = places_at a b (drawn a b (shares_of x) next).given.0 ++ places_at a b (drawn a b (shares_of x) next).given.1;
      gadgets = (drawn a b (shares_of x) next).gadgets;
      next = (drawn a b (shares_of x) next).next;
    }

    -- the word of the pair that is next
    abbrev dealt : ℕ
    dealt =
        bit_xor (pair_word t (pair_at a b ((shares_of x).first ∷ []) ((shares_of x).second ∷ []) next) w nothing_left First 1)
        (pair_word t (pair_at a b ((shares_of x).first ∷ []) ((shares_of x).second ∷ []) next) w nothing_left Second 1)

    dealt_small : dealt < 2 ^ 32
    dealt_small =
        xor_lt 32 (pair_word t (pair_at a b ((shares_of x).first ∷ []) ((shares_of x).second ∷ []) next) w nothing_left First 1)
        (pair_word t (pair_at a b ((shares_of x).first ∷ []) ((shares_of x).second ∷ []) next) w nothing_left Second 1)
        (ready.deal.words a.0 (Pairs b.0) ((w a.0).cursors (Pairs b.0) + 0) 1) (ready.deal.words b.0 (Pairs a.0) ((w a.0).cursors (Pairs b.0) + 0) 1)

    drawn_gives : Gives 32 t next (IsIn x) pair_there w (λ u. HoldPair u pair_there.given dealt)
    drawn_gives =
        let p : Parts ByXors a b next w (shares_of x) v = parts_of a b bit_serves (circuit_shares a b) ByXors next w x v o in
        let known = both_known a b bit_serves (circuit_shares a b) ByXors next ready.known in
        fresh_gives t ready.deal next w ready.sound a b apart known.0 known.1 ((shares_of x).first ∷ []) ((shares_of x).second ∷ []) (p.first_low, tt) (p.second_low, tt) 32 2 2 (IsIn x)
        (λ n m. places_at a b (two n m) ++ places_at a b (two (n + 1) (m + 1))) (λ n m. Paired (pairing a (shares_of x).first n) (pairing b (shares_of x).second m) ∷ [])
        (λ l u. HoldPair u l dealt) (Drawn (Old 0) (Old 0) ∷ []) ((First, New 0) ∷ (Second, New 0) ∷ (First, New 1) ∷ (Second, New 1) ∷ [])
        refl refl refl (tt, tt) refl (tt, (tt, (tt, (tt, tt)))) refl refl (lit≤ tt) (lit≤ tt)
        (λ u h. (
          ap₂ (λ (i j : ℕ). (i + j) % 2 ^ 32) h.0 h.1.0 ∙ ready.deal.pairs a.0 b.0 ((w a.0).cursors (Pairs b.0) + 0) apart,
          ap₂ (λ (i j : ℕ). bit_xor i j) h.1.1.0 h.1.1.1.0,
        ))

    word_small : v < 2 ^ 32
    word_small =
        let p : Parts ByXors a b next w (shares_of x) v = parts_of a b bit_serves (circuit_shares a b) ByXors next w x v o in
        subst (λ (z : ℕ). z < 2 ^ 32) p.word
        (xor_lt 32 ((w a.0).registers (shares_of x).first.0) ((w b.0).registers (shares_of x).second.0)
        (ready.sound.words a.0 (shares_of x).first.0) (ready.sound.words b.0 (shares_of x).second.0))

    -- a register of the operand or of the pair's word is an old one or fresh
    from_either : ((h r : ℕ) → IsIn pair_there.given h r → (slice_index next h ≤ r) ⊎ IsIn x h r)
        → (h r : ℕ) → IsInOne (places_at a b (shares_of x) ∷ places_at a b (drawn a b (shares_of x) next).given.1 ∷ []) h r → (slice_index next h ≤ r) ⊎ IsIn x h r
    from_either from h r (inl (inl i)) =
        let n = parts_named a b bit_serves (circuit_shares a b) ByXors next w x v o in
        let P : ℕ → Type 0 = λ z. IsIn x z r in let Q : ℕ → Type 0 = λ z. IsIn x a.0 z in inr (subst P (sym i.0) (subst Q (sym i.1) n.0))
    from_either from h r (inl (inr (inl i))) =
        let n = parts_named a b bit_serves (circuit_shares a b) ByXors next w x v o in
        let P : ℕ → Type 0 = λ z. IsIn x z r in let Q : ℕ → Type 0 = λ z. IsIn x b.0 z in inr (subst P (sym i.0) (subst Q (sym i.1) n.1))
    from_either from h r (inl (inr (inr i))) = absurd i
    from_either from h r (inr (inl i)) = from h r (inr (inr i))
    from_either from h r (inr (inr i)) = absurd i

    pub to_add_gives : GivesWord (add_calls a b) t next (IsIn x) (to_add_made a b x next) w v
    to_add_gives =
        let p : Parts ByXors a b next w (shares_of x) v = parts_of a b bit_serves (circuit_shares a b) ByXors next w x v o in
        let pair : Made (PartRegisters × PartRegisters) = drawn a b (shares_of x) next in
        let one = drawn_gives in
        let below = one.orderly.below in
        let xs : List Places = places_at a b (shares_of x) ∷ places_at a b pair.given.1 ∷ [] in
        let rest : Made Places = computed a b op.Sub xs pair.next in
        let end : Made PartRegisters = finished a b (shares_of rest.given) pair.given.0 rest.next in
        let more : Made Places = record { given = places_at a b end.given; gadgets = rest.gadgets ++ end.gadgets; next = end.next } in
        let Is : Hosts → Type 0 = λ u. StandFor (add_calls a b) u (places_at a b end.given) v in
        let d : ℕ = (v + (2 ^ 32 - dealt)) % 2 ^ 32 in
        let wide : ℕ → ℕ → Type 0 = λ h r. (slice_index next h ≤ r) ⊎ IsIn x h r in
        gives_wider 1088 most_taken t next (IsIn x) w Is (lit≤ tt)
        (gives_then 32 1056 t next (IsIn x) wide pair_there more w (λ u. HoldPair u pair_there.given dealt) Is ready.sound one
        (λ u since is.
        let known : (a.0 < length pair.next) × ((b.0 < length pair.next) × Unit {0}) = (
          (let k = ready.known.0 in let l = since.known in omega (arith, k, l)),
          ((let k = ready.known.1.0 in let l = since.known in omega (arith, k, l)), tt),
        ) in
        let q = parts_later ByXors a b next pair.next w u (shares_of x) v since p in
        let two_words = circuit_gives_few a b apart bit_serves (circuit_shares a b) t pair.next u (record { deal = ready.deal; sound = since.sound; known = known })
        op.Sub refl xs (v ∷ dealt ∷ []) refl (
          record { below = (q.first_low, (q.second_low, tt)); stands = stands_by a b bit_serves (circuit_shares a b) ByXors u (shares_of x).first (shares_of x).second v q.word },
          (
            record { below = (below.1.1.0, (below.1.1.1.0, tt)); stands = stands_by a b bit_serves (circuit_shares a b) ByXors u pair.given.1.first pair.given.1.second dealt is.1 },
            tt,
          ),
        ) in
        let fresh = two_words.orderly.below in
        gives_then 1024 32 t pair.next wide wide rest (at_hosts a b end) u (λ z. StandFor (bit_calls a b) z rest.given d) Is since.sound
        (gives_from 1024 t pair.next (IsInOne xs) wide u (λ z. StandFor (bit_calls a b) z rest.given d) (λ h r i. from_either one.orderly.from h r i) two_words)
        (λ z later has.
        finished_gives rest.next z
        (record {
          deal = ready.deal;
          sound = later.sound;
          known = (
            (let k = known.0 in let l = later.known in omega (arith, k, l)),
            ((let k = known.1.0 in let l = later.known in omega (arith, k, l)), tt),
          );
        })
        wide (shares_of rest.given) pair.given.0 d v (record { first_low = fresh.0; second_low = fresh.1.0; word = has.word })
        (let k = below.0 in let l = later.longer a.0 in omega (arith, k, l)) (let k = below.1.0 in let l = later.longer b.0 in omega (arith, k, l))
        (one.orderly.from b.0 pair.given.0.second.0 (inr (inl (refl, refl))))
        (ap₂ (λ (i j : ℕ). ((d + i) % 2 ^ 32 + j) % 2 ^ 32) (later.kept a.0 pair.given.0.first.0 below.0) (later.kept b.0 pair.given.0.second.0 below.1.0)
        ∙ put_on_again v dealt ((u a.0).registers pair.given.0.first.0) ((u b.0).registers pair.given.0.second.0) word_small dealt_small is.0))
        (λ h r s. inr s))
        (λ h r s. s))
