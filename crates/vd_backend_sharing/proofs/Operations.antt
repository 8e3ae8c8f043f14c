-- What operations on shared words give: by an instruction at each host, with a number, and by a dealt item.
use Rattle.std.proofs.Common.{◌≡◌, ◌≢◌, ℕ, ◌+◌, ◌^◌, ◌<◌, Bool, List, [], ◌∷◌, ◌++◌, refl, ap₂, ◌∙◌, arith}
use Rattle.std.specs.Prelude.{slice_index}
use Rattle.vd_base.specs.declared.ids.HostId.{HostId}
use Rattle.vd_base.specs.declared.operations.Op.{Op}
use Rattle.vd_base.specs.Identities.{mul_left, mul_right, and_left, and_right}
use Rattle.vd_execution.specs.declared.instructions.Binary.{Binary}
use Rattle.vd_execution.specs.declared.instructions.Action.TheVariants as action
use Rattle.vd_execution.specs.Registers.{applied}
use Rattle.vd_execution.specs.Step.{Triples, BitTriples}
use Rattle.vd_execution.specs.Joint.{Hosts}
use Rattle.vd_execution.specs.World.{Tape}
use Rattle.vd_execution.specs.Gadgets.{Sharing, BySums, ByXors, source_of, Alone}
use Rattle.vd_execution.specs.Text.{register}
use Rattle.vd_duet.specs.Builder.{most_taken}
use Rattle.vd_duet.specs.Calls.{Places, Made}
use Rattle.vd_duet.specs.Laws.{GivesWord, StandFor, IsReady}
use Rattle.vd_backend_sharing.specs.declared.shares.PartRegisters.{PartRegisters}
use Rattle.vd_backend_sharing.specs.Sharings.{join, multiply, joined, hidden, multiplied}
use Rattle.vd_backend_sharing.specs.PairCalls.{two, applied_shares, numbered_shares, product_gadgets, product_shares, places_at, at_hosts, pair_calls}
use Rattle.vd_backend_sharing.proofs.Deeds.{Side, First, Second, Old, New, Deed, Number, Applied, Multiplied, nothing_left, item_word}
use Rattle.vd_backend_sharing.proofs.Fresh.{pair_at, fresh_gives}
use Rattle.vd_backend_sharing.proofs.Parts.{Parts, stands_by, both_known}

-- ---- the arithmetic of a product by an item

-- the parts of an item
abbrev pub IsItem : Sharing → (a0 a1 b0 b1 c0 c1 : ℕ) → Type 0
IsItem BySums a0 a1 b0 b1 c0 c1 = mul_left a0 a1 b0 b1 ≡ mul_right c0 c1
IsItem ByXors a0 a1 b0 b1 c0 c1 = and_left a0 a1 b0 b1 ≡ and_right c0 c1

-- from the opened words d and e and a host's part of the item
abbrev pub product_part : Sharing → (d e a b c : ℕ) → ℕ
product_part s d e a b c = joined s (joined s (multiplied s d b) c) (multiplied s e a)

-- the two parts of a product join to the product
abbrev pub ItemsMultiply : Sharing → Type 0
ItemsMultiply s = (x0 x1 y0 y1 a0 a1 b0 b1 c0 c1 : ℕ) → a0 < 2 ^ 32 → a1 < 2 ^ 32 → b0 < 2 ^ 32 → b1 < 2 ^ 32 → c0 < 2 ^ 32 → c1 < 2 ^ 32 → IsItem s a0 a1 b0 b1 c0 c1
    → let d : ℕ = joined s (hidden s x0 a0) (hidden s x1 a1) in
    let e : ℕ = joined s (hidden s y0 b0) (hidden s y1 b1) in
    let d' : ℕ = joined s (hidden s x1 a1) (hidden s x0 a0) in
    let e' : ℕ = joined s (hidden s y1 b1) (hidden s y0 b0) in
    joined s (joined s (product_part s d e a0 b0 c0) (multiplied s d e)) (product_part s d' e' a1 b1 c1) ≡ multiplied s (joined s x0 x1) (joined s y0 y1)

-- ---- calls

abbrev unmasking : Sharing → Side → List Deed
unmasking s side =
    Applied side (join s) (New 3) (New 5) ∷ Applied side (join s) (New 4) (New 6) ∷ Applied side (multiply s) (New 7) (New 1)
    ∷ Applied side (join s) (New 9) (New 2) ∷ Applied side (multiply s) (New 8) (New 0) ∷ Applied side (join s) (New 10) (New 11) ∷ []

abbrev multiplying : Sharing → List Deed
multiplying s =
    Multiplied s (Old 0) (Old 1) (Old 0) (Old 1)
    ∷ (unmasking s First ++ (Applied First (multiply s) (New 7) (New 8) ∷ Applied First (join s) (New 12) (New 13) ∷ unmasking s Second))

module _ (s : Sharing) (a b : HostId) (apart : a.0 ≢ b.0) (serves : Op → Bool) (apply : Op → List Places → List ℕ → Made PartRegisters)
    (t : Tape) (next : List ℕ) (w : Hosts) (ready : IsReady (pair_calls s a b serves apply) t next w) (source : ℕ → ℕ → Type 0) where
  abbrev word_first : PartRegisters → ℕ
  word_first x = (w a.0).registers x.first.0

  abbrev word_second : PartRegisters → ℕ
  word_second x = (w b.0).registers x.second.0

  pub applied_gives : (o : Binary) (x y : PartRegisters) (u v r : ℕ) → Parts s a b next w x u → Parts s a b next w y v
      → joined s (applied o ((w a.0).registers x.first.0) ((w a.0).registers y.first.0)) (applied o ((w b.0).registers x.second.0) ((w b.0).registers y.second.0)) ≡ r
      → GivesWord (pair_calls s a b serves apply) t next source (at_hosts a b (applied_shares o a b x y next)) w r
  applied_gives o x y u v r p q is =
      let known = both_known a b serves apply s next ready.known in
      fresh_gives t ready.deal next w ready.sound a b apart known.0 known.1 (x.first ∷ y.first ∷ []) (x.second ∷ y.second ∷ [])
      (p.first_low, (q.first_low, tt)) (p.second_low, (q.second_low, tt)) most_taken 1 1 source (λ n m. places_at a b (two n m))
      (λ n m. Alone a (action.Apply o (register n) x.first y.first) ∷ Alone b (action.Apply o (register m) x.second y.second) ∷ [])
      (λ y u. StandFor (pair_calls s a b serves apply) u y r)
      (Applied First o (Old 0) (Old 1) ∷ Applied Second o (Old 0) (Old 1) ∷ []) ((First, New 0) ∷ (Second, New 0) ∷ []) refl refl refl (tt, (tt, tt)) refl (tt, (tt, tt)) refl refl
      (omega arith) (omega arith)
      (λ u h. stands_by a b serves apply s u (register (slice_index next a.0)) (register (slice_index next b.0)) r (ap₂ (joined s) h.0 h.1.0 ∙ is))

  pub numbered_gives : (o : Binary) (k : ℕ) → k < 2 ^ 32 → (x : PartRegisters) (u r : ℕ) → Parts s a b next w x u
      → joined s (applied o ((w a.0).registers x.first.0) k) (applied o ((w b.0).registers x.second.0) k) ≡ r
      → GivesWord (pair_calls s a b serves apply) t next source (at_hosts a b (numbered_shares o k a b x next)) w r
  numbered_gives o k small x u r p is =
      let known = both_known a b serves apply s next ready.known in
      fresh_gives t ready.deal next w ready.sound a b apart known.0 known.1 (x.first ∷ []) (x.second ∷ []) (p.first_low, tt) (p.second_low, tt) most_taken 2 2 source
      (λ n m. places_at a b (two (n + 1) (m + 1)))
      (λ n m. Alone a (action.Const (register n) k) ∷ Alone a (action.Apply o (register (n + 1)) x.first (register n))
      ∷ Alone b (action.Const (register m) k) ∷ Alone b (action.Apply o (register (m + 1)) x.second (register m)) ∷ [])
      (λ y u. StandFor (pair_calls s a b serves apply) u y r)
      (Number First k ∷ Applied First o (Old 0) (New 0) ∷ Number Second k ∷ Applied Second o (Old 0) (New 0) ∷ []) ((First, New 1) ∷ (Second, New 1) ∷ [])
      refl refl refl (small, (tt, (small, (tt, tt)))) refl (tt, (tt, tt)) refl refl (omega arith) (omega arith)
      (λ u h. stands_by a b serves apply s u (register (slice_index next a.0 + 1)) (register (slice_index next b.0 + 1)) r (ap₂ (joined s) h.0 h.1.0 ∙ is))

  -- the items that are next
  abbrev item : PartRegisters → PartRegisters → Side → ℕ → ℕ
  item x y side i = item_word t (pair_at a b (x.first ∷ y.first ∷ []) (x.second ∷ y.second ∷ []) next) w nothing_left s side i

  item_meets : (s : Sharing) (x y : PartRegisters)
      → let it : Side → ℕ → ℕ = λ side i. item_word t (pair_at a b (x.first ∷ y.first ∷ []) (x.second ∷ y.second ∷ []) next) w nothing_left s side i in
      IsItem s (it First 0) (it Second 0) (it First 1) (it Second 1) (it First 2) (it Second 2)
  item_meets BySums x y = ready.deal.triples a.0 b.0 ((w a.0).cursors (Triples b.0) + 0) apart
  item_meets ByXors x y = ready.deal.bit_triples a.0 b.0 ((w a.0).cursors (BitTriples b.0) + 0) apart

  item_small : (x y : PartRegisters) (side : Side) (i : ℕ) → item x y side i < 2 ^ 32
  item_small x y First i = ready.deal.words a.0 (source_of s b.0) ((w a.0).cursors (source_of s b.0) + 0) i
  item_small x y Second i = ready.deal.words b.0 (source_of s a.0) ((w a.0).cursors (source_of s b.0) + 0) i

  pub product_gives : ItemsMultiply s → (x y : PartRegisters) (u v : ℕ) → Parts s a b next w x u → Parts s a b next w y v
      → GivesWord (pair_calls s a b serves apply) t next source (at_hosts a b (product_shares s a b x y next)) w (multiplied s u v)
  unfolding product_shares
  product_gives law x y u v p q =
      let known = both_known a b serves apply s next ready.known in
      fresh_gives t ready.deal next w ready.sound a b apart known.0 known.1 (x.first ∷ y.first ∷ []) (x.second ∷ y.second ∷ [])
      (p.first_low, (q.first_low, tt)) (p.second_low, (q.second_low, tt)) most_taken 15 13 source (λ n m. places_at a b (two (n + 14) (m + 12)))
      (product_gadgets s a b x y) (λ y r. StandFor (pair_calls s a b serves apply) r y (multiplied s u v)) (multiplying s) ((First, New 14) ∷ (Second, New 12) ∷ [])
      refl refl refl (tt, (tt, (tt, (tt, (tt, (tt, (tt, (tt, (tt, (tt, (tt, (tt, (tt, (tt, (tt, tt))))))))))))))) refl (tt, (tt, tt)) refl refl (omega arith) (omega arith)
      (λ r h. stands_by a b serves apply s r (register (slice_index next a.0 + 14)) (register (slice_index next b.0 + 12)) (multiplied s u v)
      (ap₂ (joined s) h.0 h.1.0
      ∙ law (word_first x) (word_second x) (word_first y) (word_second y) (item x y First 0) (item x y Second 0) (item x y First 1) (item x y Second 1)
      (item x y First 2) (item x y Second 2) (item_small x y First 0) (item_small x y Second 0) (item_small x y First 1) (item_small x y Second 1) (item_small x y First 2) (item_small x y Second 2) (item_meets s x y)
      ∙ ap₂ (multiplied s) p.word q.word))
