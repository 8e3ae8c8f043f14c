-- What the step of one host gives.
use Rattle.std.proofs.Common.{◌≡◌, ◌≢◌, ℕ, ◌+◌, ◌-◌, ◌*◌, ◌%◌, ◌^◌, ◌<◌, bit_and, bit_xor, nat_eq, Bool, true, false, if◌then◌else◌, List, [], ◌∷◌, inl, inr, length, slice_index, refl, sym, ap, ap₂, subst, subst₂, ◌∙◌, arith}
use Rattle.std.specs.Int.Bits.{xor_add_and}
use Rattle.std.proofs.lemmas.Nat.{and_mask}
use Rattle.std.proofs.Math.Nat.{mod-eq_of_lt}
use Rattle.vd_base.specs.declared.ids.HostId.{HostId}
use Rattle.vd_base.specs.declared.operations.Op.{Op}
use Rattle.vd_base.specs.declared.operations.Op.TheVariants as op
use Rattle.vd_base.specs.Arity.{arity}
use Rattle.vd_base.specs.Operations.{operation}
use Rattle.vd_execution.specs.declared.instructions.Reg.{Reg}
use Rattle.vd_execution.specs.declared.instructions.Action.{Action}
use Rattle.vd_execution.specs.declared.instructions.Action.TheVariants as action
use Rattle.vd_execution.specs.declared.instructions.Binary.{Binary}
use Rattle.vd_execution.specs.declared.instructions.Binary.TheVariants as binary
use Rattle.vd_execution.specs.Registers.{put, operation_of}
use Rattle.vd_execution.specs.Text.{register}
use Rattle.vd_execution.specs.World.{Tape}
use Rattle.vd_execution.specs.Deals.{IsValidDeal}
use Rattle.vd_execution.specs.Joint.{Hosts, after_do, after_msg, Agrees}
use Rattle.vd_execution.specs.Gadgets.{Alone, Tells, TakesNoPart, IsSound}
use Rattle.vd_duet.specs.Builder.{next_at, taken}
use Rattle.vd_duet.specs.Calls.{Places, Made, register_of}
use Rattle.vd_duet.specs.Laws.{Leads, GivesThere, IsIn, nowhere, NumberFits}
use Rattle.vd_duet.proofs.Front.{Found, Holds, differ_of, equal_of, Writes, wrote, writes_own, writes_heard, leads_nothing, leads_writing, leads_on, orderly_still, orderly_fresh, taken_there, taken_bounds}
use Rattle.vd_clear.specs.Copies.{written_by, with_number, passed, adopted, operated}

-- a copy that a host has already
pub adopted_there : (t : Tape) (next : List ℕ) (w : Hosts) (x : Places) (h : HostId) (v : ℕ) → IsSound w → Found next w x h v
    → GivesThere 8 t next (IsIn x) h (adopted x h next) w v
adopted_there t next w x h v sound f = record {
  orderly = orderly_still 8 next (IsIn x) ((h, register_of x h.0) ∷ []) (f.holds.low, tt)
      (λ k q is. elim is [ inl p ↦ subst₂ (IsIn x) (sym p.0) (sym p.1) f.named | inr p ↦ absurd p ]);
  reached = w;
  leads = leads_nothing t next nowhere w sound;
  is = f.holds.here;
}

-- ---- one action, and a message

module _ (t : Tape) (deal : IsValidDeal t) (next : List ℕ) (w : Hosts) (sound : IsSound w) (h : HostId) (known : h.0 < length next) (source : ℕ → ℕ → Type 0) where
  -- an action that writes a fresh register
  pub written_there : (act : Reg → Action) (v : ℕ) → TakesNoPart (act (next_at next h))
      → after_do t h.0 (act (next_at next h)) w ≡ put w h.0 (wrote (next_at next h).0 v (w h.0))
      → Agrees (w h.0).registers (act (next_at next h))
      → GivesThere 8 t next source h (written_by h act next) w v
  written_there act v own runs agrees = record {
    orderly = orderly_fresh h 1 8 next source (Alone h (act (next_at next h)) ∷ []) (next_at next h) known (omega arith) (own, tt) (omega arith) (omega arith);
    reached = put w h.0 (wrote (next_at next h).0 v (w h.0));
    leads = leads_writing t deal next nowhere (Alone h (act (next_at next h)) ∷ []) h.0 (next_at next h).0 v w (put w h.0 (wrote (next_at next h).0 v (w h.0)))
        runs (agrees, tt) (own, tt) sound (writes_own h.0 (next_at next h).0 v w) (inl (omega arith));
    is = (writes_own h.0 (next_at next h).0 v w).there;
  }

  -- a word goes from a host to this one, or stays
  pub passed_there : (a : HostId) (x : Reg) (v : ℕ) → Holds next w a x v → source a.0 x.0 → GivesThere 8 t next source h (passed a x h next) w v
  passed_there a x v holds named = at (nat_eq a.0 h.0) refl
    where
      at : (same : Bool) → nat_eq a.0 h.0 ≡ same
          → let made : Made Reg = if same then record { given = x; gadgets = []; next = next } else record { given = next_at next h; gadgets = Tells a (x ∷ []) h (next_at next h ∷ []) ∷ []; next = taken h 1 next } in
          GivesThere 8 t next source h made w v
      at true e =
          let i : a.0 ≡ h.0 = equal_of a.0 h.0 e in
          record {
            orderly = orderly_still 8 next source ((h, x) ∷ []) (subst (λ z. x.0 < slice_index next z) i holds.low, tt)
                (λ k q is. elim is [ inl p ↦ subst₂ source (i ∙ sym p.0) (sym p.1) named | inr p ↦ absurd p ]);
            reached = w;
            leads = leads_nothing t next nowhere w sound;
            is = ap (λ z. (w z).registers x.0) (sym i) ∙ holds.here;
          }
      at false e =
          let apart : a.0 ≢ h.0 = differ_of a.0 h.0 e in
          let heard = writes_heard a.0 x h.0 (next_at next h) w apart in
          record {
            orderly = orderly_fresh h 1 8 next source (Tells a (x ∷ []) h (next_at next h ∷ []) ∷ []) (next_at next h) known (omega arith) ((apart, refl), tt) (omega arith) (omega arith);
            reached = after_msg a.0 (x ∷ []) h.0 (next_at next h ∷ []) w;
            leads = leads_writing t deal next nowhere (Tells a (x ∷ []) h (next_at next h ∷ []) ∷ []) h.0 (next_at next h).0 ((w a.0).registers x.0) w
                (after_msg a.0 (x ∷ []) h.0 (next_at next h ∷ []) w) refl (tt, tt) ((apart, refl), tt) sound heard (inl (omega arith));
            is = heard.there ∙ holds.here;
          }

  -- ---- operations

  two : (o : Binary) (x y : Reg) (a b : ℕ) → Holds next w h x a → Holds next w h y b
      → GivesThere 8 t next source h (written_by h (λ r. action.Apply o r x y) next) w (operation (operation_of o) a b 0)
  two o x y a b p q =
      written_there (λ r. action.Apply o r x y) (operation (operation_of o) a b 0) tt
      (ap (λ z. put w h.0 (wrote (next_at next h).0 z (w h.0))) (ap₂ (λ (c d : ℕ). operation (operation_of o) c d 0) p.here q.here)) tt

  -- two instructions: a number, and the operation on it
  numbered : (k : ℕ) → k < 2 ^ 32 → (o : Binary) (x : Reg) (a : ℕ) → Holds next w h x a
      → GivesThere 8 t next source h (with_number h k o x next) w (operation (operation_of o) a k 0)
  numbered k small o x a p =
      let n : ℕ = slice_index next h.0 in
      let u : Hosts = put w h.0 (wrote (slice_index next h.0) k (w h.0)) in
      let c : Writes h.0 n k w u = writes_own h.0 (slice_index next h.0) k w in
      let same : (u h.0).registers x.0 ≡ a = c.elsewhere h.0 x.0 (λ i j. let low = p.low in omega (arith, low, j)) ∙ p.here in
      let value : ℕ = operation (operation_of o) a k 0 in
      let e : operation (operation_of o) ((u h.0).registers x.0) ((u h.0).registers n) 0 ≡ value = ap₂ (λ (y z : ℕ). operation (operation_of o) y z 0) same c.there in
      let v : Hosts = put u h.0 (wrote (slice_index next h.0 + 1) value (u h.0)) in
      let d : Writes h.0 (slice_index next h.0 + 1) value u v = writes_own h.0 (slice_index next h.0 + 1) value u in
      let there = taken_there h 1 next known in
      let first : Leads t next nowhere (Alone h (action.Const (next_at next h) k) ∷ []) w u =
      leads_writing t deal next nowhere (Alone h (action.Const (next_at next h) k) ∷ []) h.0 n k w u refl (tt, tt) (small, tt) sound c (inl (omega arith)) in
      record {
        orderly = orderly_fresh h 2 8 next source (with_number h k o x next).gadgets (register (slice_index next h.0 + 1)) known (omega arith) (small, (tt, tt)) (omega arith) (omega arith);
        reached = v;
        leads = leads_on t next (taken h 1 next) nowhere (Alone h (action.Const (next_at next h) k) ∷ [])
            (Alone h (action.Apply o (register (slice_index next h.0 + 1)) x (next_at next h)) ∷ []) w u v
            (λ q. (taken_bounds h 1 next known q).0) first
            (leads_writing t deal (taken h 1 next) nowhere (Alone h (action.Apply o (register (slice_index next h.0 + 1)) x (next_at next h)) ∷ []) h.0 (slice_index next h.0 + 1) value u v
            (ap (λ z. put u h.0 (wrote (slice_index next h.0 + 1) z (u h.0))) e) (tt, tt) (tt, tt) first.sound d (inl (omega (arith, there))));
        is = d.there;
      }

  turned : (x : ℕ) → x < 2 ^ 32 → bit_xor x 4294967295 ≡ 2 ^ 32 - 1 - x
  turned x small =
      let a : bit_xor x 4294967295 + bit_and x 4294967295 * 2 ≡ x + 4294967295 = xor_add_and x 4294967295 in
      let b : bit_and x 4294967295 ≡ x % 2 ^ 32 = and_mask x 32 in
      let c : x % 2 ^ 32 ≡ x = mod-eq_of_lt small in
      omega (arith, a, b, c, small)

  -- an operation, where as many registers as it takes have their words
  pub operated_there : (o : Op) → NumberFits o → (x y z : Reg) (a b c : ℕ)
      → (0 < arity o → Holds next w h x a) → (1 < arity o → Holds next w h y b) → (2 < arity o → Holds next w h z c)
      → GivesThere 8 t next source h (operated o x y z h next) w (operation o a b c)
  operated_there op.Add fits x y z a b c p q r = two binary.Add x y a b (p (omega arith)) (q (omega arith))
  operated_there op.Sub fits x y z a b c p q r = two binary.Sub x y a b (p (omega arith)) (q (omega arith))
  operated_there op.Mul fits x y z a b c p q r = two binary.Mul x y a b (p (omega arith)) (q (omega arith))
  operated_there (op.Scale k) fits x y z a b c p q r = numbered k fits binary.Mul x a (p (omega arith))
  operated_there op.Div fits x y z a b c p q r = two binary.Div x y a b (p (omega arith)) (q (omega arith))
  operated_there op.Rem fits x y z a b c p q r = two binary.Rem x y a b (p (omega arith)) (q (omega arith))
  operated_there op.And fits x y z a b c p q r = two binary.And x y a b (p (omega arith)) (q (omega arith))
  operated_there op.Or fits x y z a b c p q r = two binary.Or x y a b (p (omega arith)) (q (omega arith))
  operated_there op.Xor fits x y z a b c p q r = two binary.Xor x y a b (p (omega arith)) (q (omega arith))
  operated_there op.Not fits x y z a b c p q r =
      let f = p (omega arith) in
      let small : a < 2 ^ 32 = subst (λ i. i < 2 ^ 32) f.here (sound.words h.0 x.0) in
      subst (λ i. GivesThere 8 t next source h (operated op.Not x y z h next) w i) (turned a small) (numbered 4294967295 (omega arith) binary.Xor x a f)
  operated_there op.Flip fits x y z a b c p q r = numbered 1 (omega arith) binary.Xor x a (p (omega arith))
  operated_there (op.Shl k) fits x y z a b c p q r =
      written_there (λ i. action.Shl i x k) (operation (op.Shl k) a 0 0) tt
      (ap (λ i. put w h.0 (wrote (next_at next h).0 (operation (op.Shl k) i 0 0) (w h.0))) (p (omega arith)).here) tt
  operated_there (op.Shr k) fits x y z a b c p q r =
      written_there (λ i. action.Shr i x k) (operation (op.Shr k) a 0 0) tt
      (ap (λ i. put w h.0 (wrote (next_at next h).0 (operation (op.Shr k) i 0 0) (w h.0))) (p (omega arith)).here) tt
  operated_there op.Eq fits x y z a b c p q r = two binary.Eq x y a b (p (omega arith)) (q (omega arith))
  operated_there op.Ne fits x y z a b c p q r = two binary.Ne x y a b (p (omega arith)) (q (omega arith))
  operated_there op.Lt fits x y z a b c p q r = two binary.Lt x y a b (p (omega arith)) (q (omega arith))
  operated_there op.Le fits x y z a b c p q r = two binary.Le x y a b (p (omega arith)) (q (omega arith))
  operated_there op.Min fits x y z a b c p q r = two binary.Min x y a b (p (omega arith)) (q (omega arith))
  operated_there op.Max fits x y z a b c p q r = two binary.Max x y a b (p (omega arith)) (q (omega arith))
  operated_there op.Mux fits x y z a b c p q r =
      written_there (λ i. action.Mux i x y z) (operation op.Mux a b c) tt
      (ap (λ i. put w h.0 (wrote (next_at next h).0 i (w h.0)))
      (ap (λ i. operation op.Mux i ((w h.0).registers y.0) ((w h.0).registers z.0)) (p (omega arith)).here
      ∙ ap₂ (λ (i j : ℕ). operation op.Mux a i j) (q (omega arith)).here (r (omega arith)).here)) tt
