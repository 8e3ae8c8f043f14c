-- The two parts of a word that two hosts share.
use Rattle.std.proofs.Common.{◌≡◌, ℕ, ◌<◌, List, [], ◌∷◌, inl, inr, length, get_or, refl, sym, ap, subst₂, arith}
use Rattle.std.specs.Prelude.{Bool, slice_index}
use Rattle.vd_base.specs.declared.ids.HostId.{HostId}
use Rattle.vd_base.specs.declared.operations.Op.{Op}
use Rattle.vd_base.specs.Holders.{holders}
use Rattle.vd_execution.specs.declared.instructions.Reg.{Reg}
use Rattle.vd_execution.specs.Joint.{Hosts}
use Rattle.vd_execution.specs.Gadgets.{Sharing, BySums, ByXors}
use Rattle.vd_duet.specs.Calls.{Places, hosts_of, Made, Join}
use Rattle.vd_duet.specs.Laws.{IsIn, IsHost, words_at, AreKnown, AreBelow, StandFor, Operand, Operands}
use Rattle.vd_backend_sharing.specs.declared.shares.PartRegisters.{PartRegisters}
use Rattle.vd_backend_sharing.specs.Sharings.{shared_by, joined}
use Rattle.vd_backend_sharing.specs.PairCalls.{shares_of, operand, pair_calls}

-- the registers of a word's parts, one at each host
pub record Parts (s : Sharing) (a b : HostId) (next : List ℕ) (w : Hosts) (x : PartRegisters) (v : ℕ) : Type 0 where
  pub first_low : x.first.0 < slice_index next a.0
  pub second_low : x.second.0 < slice_index next b.0
  pub word : joined s ((w a.0).registers x.first.0) ((w b.0).registers x.second.0) ≡ v

record Named (f : ℕ → ℕ → ℕ) (a b : HostId) (next : List ℕ) (w : Hosts) (x : Places) (y : PartRegisters) (v : ℕ) : Type 0 where
  first_low : y.first.0 < slice_index next a.0
  second_low : y.second.0 < slice_index next b.0
  word : f ((w a.0).registers y.first.0) ((w b.0).registers y.second.0) ≡ v
  first_named : IsIn x a.0 y.first.0
  second_named : IsIn x b.0 y.second.0

named : (f : ℕ → ℕ → ℕ) (a b : HostId) (next : List ℕ) (w : Hosts) (x : Places) (v : ℕ) → hosts_of x ≡ a ∷ b ∷ [] → AreBelow next x → Join f (words_at w x) v
    → Named f a b next w x (shares_of x) v
named f a b next w [] v at below word = absurd word
named f a b next w (q ∷ []) v at below word = absurd word
named f a b next w (q ∷ r ∷ []) v at below word =
    let e : q.0 ≡ a = ap (λ (l : List HostId). get_or l 0 a) at in
    let g : r.0 ≡ b = ap (λ (l : List HostId). get_or l 1 b) at in
    subst₂ (λ (h k : HostId). Named f h k next w (q ∷ r ∷ []) (shares_of (q ∷ r ∷ [])) v) e g
    (record { first_low = below.0; second_low = below.1.0; word = word; first_named = inl (refl, refl); second_named = inr (inl (refl, refl)) })
named f a b next w (q ∷ r ∷ z ∷ x) v at below word = absurd word

-- what other words the same registers have
rejoined : (f : ℕ → ℕ → ℕ) (a b : HostId) (w u : Hosts) (x : Places) (v v' : ℕ) → hosts_of x ≡ a ∷ b ∷ [] → Join f (words_at w x) v
    → f ((u a.0).registers (shares_of x).first.0) ((u b.0).registers (shares_of x).second.0) ≡ v' → Join f (words_at u x) v'
rejoined f a b w u [] v v' at word is = absurd word
rejoined f a b w u (q ∷ []) v v' at word is = absurd word
rejoined f a b w u (q ∷ r ∷ []) v v' at word is =
    let e : q.0 ≡ a = ap (λ (l : List HostId). get_or l 0 a) at in
    let g : r.0 ≡ b = ap (λ (l : List HostId). get_or l 1 b) at in
    subst₂ (λ (h k : HostId). f ((u h.0).registers q.1.0) ((u k.0).registers r.1.0) ≡ v') (sym e) (sym g) is
rejoined f a b w u (q ∷ r ∷ z ∷ x) v v' at word is = absurd word

module _ (a b : HostId) (serves : Op → Bool) (apply : Op → List Places → List ℕ → Made PartRegisters) where
  pub stands_by : (s : Sharing) (u : Hosts) (r q : Reg) (v : ℕ) → joined s ((u a.0).registers r.0) ((u b.0).registers q.0) ≡ v
      → StandFor (pair_calls s a b serves apply) u ((a, r) ∷ (b, q) ∷ []) v
  stands_by BySums u r q v e = record { at = refl; word = e }
  stands_by ByXors u r q v e = record { at = refl; word = e }

  pub held : (s : Sharing) → a ∷ b ∷ [] ≡ holders (shared_by s a b)
  held BySums = refl
  held ByXors = refl

  pub first_holds : (s : Sharing) → IsHost (holders (shared_by s a b)) a.0
  first_holds BySums = inl refl
  first_holds ByXors = inl refl

  pub both_known : (s : Sharing) (next : List ℕ) → AreKnown (holders (shared_by s a b)) next → (a.0 < length next) × (b.0 < length next)
  both_known BySums next k = (k.0, k.1.0)
  both_known ByXors next k = (k.0, k.1.0)

  named_parts : (s : Sharing) (next : List ℕ) (w : Hosts) (x : Places) (v : ℕ) → Operand (pair_calls s a b serves apply) next w x v
      → Named (joined s) a b next w x (shares_of x) v
  named_parts BySums next w x v o = named (joined BySums) a b next w x v o.stands.at o.below o.stands.word
  named_parts ByXors next w x v o = named (joined ByXors) a b next w x v o.stands.at o.below o.stands.word

  -- the parts of an operand
  pub parts_of : (s : Sharing) (next : List ℕ) (w : Hosts) (x : Places) (v : ℕ) → Operand (pair_calls s a b serves apply) next w x v
      → Parts s a b next w (shares_of x) v
  parts_of s next w x v o = let n = named_parts s next w x v o in record { first_low = n.first_low; second_low = n.second_low; word = n.word }

  pub parts_named : (s : Sharing) (next : List ℕ) (w : Hosts) (x : Places) (v : ℕ) → Operand (pair_calls s a b serves apply) next w x v
      → IsIn x a.0 (shares_of x).first.0 × IsIn x b.0 (shares_of x).second.0
  parts_named s next w x v o = let n = named_parts s next w x v o in (n.first_named, n.second_named)

  -- an operand's registers stand for another word in another state
  pub stands_anew : (s : Sharing) (next : List ℕ) (w u : Hosts) (x : Places) (v v' : ℕ) → Operand (pair_calls s a b serves apply) next w x v
      → joined s ((u a.0).registers (shares_of x).first.0) ((u b.0).registers (shares_of x).second.0) ≡ v' → StandFor (pair_calls s a b serves apply) u x v'
  stands_anew BySums next w u x v v' o e = record { at = o.stands.at; word = rejoined (joined BySums) a b w u x v v' o.stands.at o.stands.word e }
  stands_anew ByXors next w u x v v' o e = record { at = o.stands.at; word = rejoined (joined ByXors) a b w u x v v' o.stands.at o.stands.word e }

  -- ---- operands by number

  pub first_operand : (s : Sharing) (next : List ℕ) (w : Hosts) (xs : List Places) (vs : List ℕ) → 0 < length xs → Operands (pair_calls s a b serves apply) next w xs vs
      → Parts s a b next w (operand xs 0) (slice_index vs 0)
  first_operand s next w [] vs many o = absurd (none many)
    where
      none : 0 < 0 → ⊥
      none e = omega (arith, e)
  first_operand s next w (x ∷ xs) [] many o = absurd o
  first_operand s next w (x ∷ xs) (v ∷ vs) many o = parts_of s next w x v o.0

  pub second_operand : (s : Sharing) (next : List ℕ) (w : Hosts) (xs : List Places) (vs : List ℕ) → 1 < length xs → Operands (pair_calls s a b serves apply) next w xs vs
      → Parts s a b next w (operand xs 1) (slice_index vs 1)
  second_operand s next w [] vs many o = absurd (none many)
    where
      none : 1 < 0 → ⊥
      none e = omega (arith, e)
  second_operand s next w (x ∷ xs) [] many o = absurd o
  second_operand s next w (x ∷ xs) (v ∷ vs) many o = first_operand s next w xs vs (omega (arith, many)) o.1
