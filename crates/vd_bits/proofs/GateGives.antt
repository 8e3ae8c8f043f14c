-- What each gate gives.
use Rattle.std.proofs.Common.{◌≡◌, ◌≢◌, ℕ, ◌+◌, ◌^◌, ◌<◌, nat_lt, Bool, true, ◌&&◌, IsTrue, List, [], ◌∷◌, ◌++◌, length, refl, sym, ap, ap₂, ◌∙◌, arith, bit_and, bit_xor, lit<}
use Rattle.std.specs.Prelude.{slice_index}
use Rattle.std.specs.List.{list_all}
use Rattle.std.proofs.lemmas.Nat.{and_mask, xor_mod}
use Rattle.vd_base.specs.declared.ids.HostId.{HostId}
use Rattle.vd_base.specs.declared.operations.Op.{Op}
use Rattle.vd_execution.specs.declared.instructions.Binary.{Binary}
use Rattle.vd_execution.specs.declared.instructions.Binary.TheVariants as binary
use Rattle.vd_execution.specs.declared.instructions.Action.TheVariants as action
use Rattle.vd_execution.specs.Joint.{Hosts}
use Rattle.vd_execution.specs.World.{Tape}
use Rattle.vd_execution.specs.Gadgets.{ByXors, Alone}
use Rattle.vd_execution.specs.Text.{register}
use Rattle.vd_duet.specs.Builder.{most_taken, TakesAtMost}
use Rattle.vd_duet.specs.Calls.{Places, Made}
use Rattle.vd_duet.specs.Laws.{Gives, GivesWord, StandFor, IsReady}
use Rattle.vd_backend_sharing.specs.Circuits.{shl, shr, mask_of}
use Rattle.vd_backend_sharing.specs.Gates.{Gate, And, Xor, Shl, Shr, Not, Flip, Lowest, Mask, made_by, taken_by}
use Rattle.vd_backend_sharing.proofs.Front.{xor_past, xor_turn, shl_each, shr_each, mask_each, bit_product}
use Rattle.vd_backend_sharing.specs.declared.shares.PartRegisters.{PartRegisters}
use Rattle.vd_backend_sharing.specs.Sharings.{joined}
use Rattle.vd_backend_sharing.specs.PairCalls.{two, places_at, at_hosts, pair_calls}
use Rattle.vd_backend_sharing.proofs.Front.{Side, First, Second, Old, New, Deed, Number, Applied, ShiftedLeft, ShiftedRight, both_first, both_second, low_of, fresh_gives, one_gives, Parts, stands_by, both_known, ItemsMultiply, applied_gives, numbered_gives, product_gives}
use Rattle.vd_bits.specs.BitCalls.{parts_at, shifted_left, shifted_right, turned_first, mask_at, masked_shares, gate_shares}
use Rattle.vd_bits.proofs.Places.{AreParts, AreFrom, parts_there, from_there}
use Rattle.vd_bits.proofs.GateRooms.{gate_few}

-- dealt bit triples multiply bit by bit
bits_multiply : ItemsMultiply ByXors
bits_multiply x0 x1 y0 y1 a0 a1 b0 b1 c0 c1 p q r s u v item =
    bit_product (record { x = x0; y = y0; item = record { a = a0; b = b0; c = c0 } }) (record { x = x1; y = y1; item = record { a = a1; b = b1; c = c1 } }) item

lowest_each : (p q : ℕ) → bit_xor (bit_and p 1) (bit_and q 1) ≡ bit_and (bit_xor p q) 1
lowest_each p q = ap₂ (λ (i j : ℕ). bit_xor i j) (and_mask p 1) (and_mask q 1) ∙ sym (xor_mod p q 1) ∙ sym (and_mask (bit_xor p q) 1)

one_low : (x n : ℕ) → (nat_lt x n && true) ≡ true → x < n
one_low x n i = low_of x n (both_first (nat_lt x n) true i)

two_low : (x y n : ℕ) → (nat_lt x n && (nat_lt y n && true)) ≡ true → (x < n) × (y < n)
two_low x y n i = (low_of x n (both_first (nat_lt x n) (nat_lt y n && true) i), one_low y n (both_second (nat_lt x n) (nat_lt y n && true) i))

-- a call that takes fewer registers than its law says
tightened : {made : Made Places} (count count' : ℕ) (t : Tape) (next : List ℕ) (source : ℕ → ℕ → Type 0) (w : Hosts) (P : Hosts → Type 0)
    → TakesAtMost count' next made.next → Gives count t next source made w P → Gives count' t next source made w P
tightened count count' t next source w P few g = record {
  orderly = record { tidy = g.orderly.tidy; few = few; longer = g.orderly.longer; below = g.orderly.below; from = g.orderly.from };
  reached = g.reached;
  leads = g.leads;
  is = g.is;
}

masking : Side → List Deed
masking s = Number s 1 ∷ Applied s binary.And (New 0) (Old 0) ∷ Number s 0 ∷ Applied s binary.Sub (New 2) (New 1) ∷ []

module _ (a b : HostId) (apart : a.0 ≢ b.0) (serves : Op → Bool) (apply : Op → List Places → List ℕ → Made PartRegisters) (t : Tape) (next : List ℕ) (w : Hosts)
    (ready : IsReady (pair_calls ByXors a b serves apply) t next w) (source : ℕ → ℕ → Type 0) where
  abbrev GivesParts : Made PartRegisters → ℕ → Type 0
  GivesParts made v = GivesWord (pair_calls ByXors a b serves apply) t next source (at_hosts a b made) w v

  shifted_left_gives : (k : ℕ) (x : PartRegisters) (v : ℕ) → Parts ByXors a b next w x v → GivesParts (shifted_left k a b x next) (shl v k)
  shifted_left_gives k x v p =
      let known = both_known a b serves apply ByXors next ready.known in
      fresh_gives t ready.deal next w ready.sound a b apart known.0 known.1 (x.first ∷ []) (x.second ∷ []) (p.first_low, tt) (p.second_low, tt) most_taken 1 1 source
      (λ n m. places_at a b (two n m)) (λ n m. Alone a (action.Shl (register n) x.first k) ∷ Alone b (action.Shl (register m) x.second k) ∷ [])
      (λ y u. StandFor (pair_calls ByXors a b serves apply) u y (shl v k))
      (ShiftedLeft First (Old 0) k ∷ ShiftedLeft Second (Old 0) k ∷ []) ((First, New 0) ∷ (Second, New 0) ∷ []) refl refl refl (tt, (tt, tt)) refl (tt, (tt, tt)) refl refl
      (omega arith) (omega arith)
      (λ u h. stands_by a b serves apply ByXors u (register (slice_index next a.0)) (register (slice_index next b.0)) (shl v k)
      (ap₂ (joined ByXors) h.0 h.1.0 ∙ shl_each k ((w a.0).registers x.first.0) ((w b.0).registers x.second.0) ∙ ap (λ (z : ℕ). shl z k) p.word))

  shifted_right_gives : (k : ℕ) (x : PartRegisters) (v : ℕ) → Parts ByXors a b next w x v → GivesParts (shifted_right k a b x next) (shr v k)
  shifted_right_gives k x v p =
      let known = both_known a b serves apply ByXors next ready.known in
      fresh_gives t ready.deal next w ready.sound a b apart known.0 known.1 (x.first ∷ []) (x.second ∷ []) (p.first_low, tt) (p.second_low, tt) most_taken 1 1 source
      (λ n m. places_at a b (two n m)) (λ n m. Alone a (action.Shr (register n) x.first k) ∷ Alone b (action.Shr (register m) x.second k) ∷ [])
      (λ y u. StandFor (pair_calls ByXors a b serves apply) u y (shr v k))
      (ShiftedRight First (Old 0) k ∷ ShiftedRight Second (Old 0) k ∷ []) ((First, New 0) ∷ (Second, New 0) ∷ []) refl refl refl (tt, (tt, tt)) refl (tt, (tt, tt)) refl refl
      (omega arith) (omega arith)
      (λ u h. stands_by a b serves apply ByXors u (register (slice_index next a.0)) (register (slice_index next b.0)) (shr v k)
      (ap₂ (joined ByXors) h.0 h.1.0 ∙ shr_each k ((w a.0).registers x.first.0) ((w b.0).registers x.second.0) ∙ ap (λ (z : ℕ). shr z k) p.word))

  turned_gives : (k : ℕ) → k < 2 ^ 32 → (x : PartRegisters) (v : ℕ) → source b.0 x.second.0 → Parts ByXors a b next w x v
      → GivesParts (turned_first k a b x next) (bit_xor v k)
  turned_gives k small x v named p =
      let known = both_known a b serves apply ByXors next ready.known in
      one_gives t ready.deal next w ready.sound a b apart known.0 known.1 (x.first ∷ []) (x.second ∷ []) (p.first_low, tt) (p.second_low, tt) most_taken 2 source
      (λ u. StandFor (pair_calls ByXors a b serves apply) u (places_at a b (record { first = register (slice_index next a.0 + 1); second = x.second })) (bit_xor v k))
      (Number First k ∷ Applied First binary.Xor (Old 0) (New 0) ∷ []) ((First, New 1) ∷ (Second, Old 0) ∷ []) refl (small, (tt, tt)) refl (tt, (named, tt)) refl refl
      (omega arith)
      (λ u h. stands_by a b serves apply ByXors u (register (slice_index next a.0 + 1)) x.second (bit_xor v k)
      (ap₂ (joined ByXors) h.0 h.1.0 ∙ xor_past k ((w a.0).registers x.first.0) ((w b.0).registers x.second.0) ∙ ap (λ (z : ℕ). bit_xor z k) p.word))

  masked_gives : (x : PartRegisters) (v : ℕ) → Parts ByXors a b next w x v → GivesParts (masked_shares a b x next) (mask_of v)
  unfolding masking
  masked_gives x v p =
      let known = both_known a b serves apply ByXors next ready.known in
      fresh_gives t ready.deal next w ready.sound a b apart known.0 known.1 (x.first ∷ []) (x.second ∷ []) (p.first_low, tt) (p.second_low, tt) most_taken 4 4 source
      (λ n m. places_at a b (two (n + 3) (m + 3))) (λ n m. mask_at a x.first n ++ mask_at b x.second m)
      (λ y u. StandFor (pair_calls ByXors a b serves apply) u y (mask_of v))
      (masking First ++ masking Second) ((First, New 3) ∷ (Second, New 3) ∷ []) refl refl refl
      (lit< tt, (tt, (lit< tt, (tt, (lit< tt, (tt, (lit< tt, (tt, tt)))))))) refl (tt, (tt, tt)) refl refl
      (omega arith) (omega arith)
      (λ u h. stands_by a b serves apply ByXors u (register (slice_index next a.0 + 3)) (register (slice_index next b.0 + 3)) (mask_of v)
      (ap₂ (joined ByXors) h.0 h.1.0 ∙ mask_each ((w a.0).registers x.first.0) ((w b.0).registers x.second.0) ∙ ap mask_of p.word))

  -- ---- all gates

  gate_gives_word : (g : Gate) (words : List PartRegisters) (vs : List ℕ) → AreParts a b next w words vs → AreFrom source a b words
      → list_all (λ place. nat_lt place (length words)) (taken_by g) ≡ true → GivesParts (gate_shares a b g words next) (made_by g vs)
  gate_gives_word (And x y) words vs p f i =
      let x_low : x < length words = (two_low x y (length words) i).0 in
      let y_low : y < length words = (two_low x y (length words) i).1 in
      product_gives ByXors a b apart serves apply t next w ready source bits_multiply (parts_at words x) (parts_at words y) (slice_index vs x) (slice_index vs y)
      (parts_there a b next w words vs p x x_low) (parts_there a b next w words vs p y y_low)
  gate_gives_word (Xor x y) words vs p f i =
      let x_low : x < length words = (two_low x y (length words) i).0 in
      let y_low : y < length words = (two_low x y (length words) i).1 in
      let q = parts_there a b next w words vs p x x_low in
      let r = parts_there a b next w words vs p y y_low in
      applied_gives ByXors a b apart serves apply t next w ready source binary.Xor (parts_at words x) (parts_at words y) (slice_index vs x) (slice_index vs y)
      (made_by (Xor x y) vs) q r
      (xor_turn ((w a.0).registers (parts_at words x).first.0) ((w a.0).registers (parts_at words y).first.0) ((w b.0).registers (parts_at words x).second.0)
      ((w b.0).registers (parts_at words y).second.0) ∙ ap₂ (λ (m n : ℕ). bit_xor m n) q.word r.word)
  gate_gives_word (Shl k x) words vs p f i =
      shifted_left_gives k (parts_at words x) (slice_index vs x) (parts_there a b next w words vs p x (one_low x (length words) i))
  gate_gives_word (Shr k x) words vs p f i =
      shifted_right_gives k (parts_at words x) (slice_index vs x) (parts_there a b next w words vs p x (one_low x (length words) i))
  gate_gives_word (Not x) words vs p f i =
      let low : x < length words = one_low x (length words) i in
      turned_gives 4294967295 (lit< tt) (parts_at words x) (slice_index vs x) (from_there source a b words f x low).1 (parts_there a b next w words vs p x low)
  gate_gives_word (Flip x) words vs p f i =
      let low : x < length words = one_low x (length words) i in
      turned_gives 1 (lit< tt) (parts_at words x) (slice_index vs x) (from_there source a b words f x low).1 (parts_there a b next w words vs p x low)
  gate_gives_word (Lowest x) words vs p f i =
      let low : x < length words = one_low x (length words) i in
      let q = parts_there a b next w words vs p x low in
      numbered_gives ByXors a b apart serves apply t next w ready source binary.And 1 (lit< tt) (parts_at words x) (slice_index vs x) (made_by (Lowest x) vs) q
      (lowest_each ((w a.0).registers (parts_at words x).first.0) ((w b.0).registers (parts_at words x).second.0) ∙ ap (λ (z : ℕ). bit_and z 1) q.word)
  gate_gives_word (Mask x) words vs p f i =
      masked_gives (parts_at words x) (slice_index vs x) (parts_there a b next w words vs p x (one_low x (length words) i))

  -- a gate takes few registers
  pub gate_gives : (g : Gate) (words : List PartRegisters) (vs : List ℕ) → AreParts a b next w words vs → AreFrom source a b words
      → list_all (λ place. nat_lt place (length words)) (taken_by g) ≡ true
      → Gives 32 t next source (at_hosts a b (gate_shares a b g words next)) w
      (λ u. StandFor (pair_calls ByXors a b serves apply) u (places_at a b (gate_shares a b g words next).given) (made_by g vs))
  gate_gives g words vs p f i =
      let known = both_known a b serves apply ByXors next ready.known in
      tightened most_taken 32 t next source w
      (λ u. StandFor (pair_calls ByXors a b serves apply) u (places_at a b (gate_shares a b g words next).given) (made_by g vs))
      (gate_few a b g words next known.0 known.1) (gate_gives_word g words vs p f i)
