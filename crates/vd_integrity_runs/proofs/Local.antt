-- What the step of one host gives, where others may depart.
use Rattle.std.proofs.Common.{◌≡◌, ◌≢◌, ℕ, ◌+◌, ◌-◌, ◌*◌, ◌%◌, ◌^◌, ◌<◌, ◌≤◌, bit_and, bit_xor, nat_eq, Bool, true, false, if◌then◌else◌, List, [], ◌∷◌, ◌⊎◌, inl, inr, length, slice_index, refl, sym, ap, ap₂, subst, ◌∙◌, arith}
use Rattle.std.specs.Int.Bits.{xor_add_and}
use Rattle.std.proofs.lemmas.Nat.{and_mask}
use Rattle.std.proofs.Math.Nat.{mod-eq_of_lt}
use Rattle.vd_base.specs.declared.ids.HostId.{HostId}
use Rattle.vd_base.specs.declared.operations.Op.{Op}
use Rattle.vd_base.specs.declared.operations.Op.TheVariants as op
use Rattle.vd_base.specs.Arity.{arity}
use Rattle.vd_base.specs.Operations.{operation}
use Rattle.vd_execution.specs.declared.instructions.Reg.{Reg}
use Rattle.vd_execution.specs.declared.instructions.Action.{Action}
use Rattle.vd_execution.specs.declared.instructions.Action.TheVariants as action
use Rattle.vd_execution.specs.declared.instructions.Binary.{Binary}
use Rattle.vd_execution.specs.declared.instructions.Binary.TheVariants as binary
use Rattle.vd_execution.specs.Gadgets.{Tells}
use Rattle.vd_execution.specs.Joint.{Hosts, after_do}
use Rattle.vd_execution.specs.Registers.{operation_of, put}
use Rattle.vd_execution.specs.World.{Tape}
use Rattle.vd_duet.specs.Builder.{next_at, taken}
use Rattle.vd_duet.specs.Calls.{Made, Places, hosts_of, register_of}
use Rattle.vd_duet.specs.Laws.{AreBelow, IsHost}
use Rattle.vd_duet.proofs.Front.{taken_bounds, taken_known, taken_there, wrote}
use Rattle.vd_clear.specs.Copies.{operated, passed, with_number, written_by}
use Rattle.vd_integrity_runs.specs.Departing.{AreRight, AreStill, RunsGadgets, after_telling}
use Rattle.vd_integrity_runs.proofs.Steps.{Wrote, differ_of, equal_of, heard_word, still_on, still_start, still_written, wrote_own}

-- a register of a host that keeps to its program has the word, and is taken
pub record Has (keeps : ℕ → Bool) (next : List ℕ) (w : Hosts) (h : HostId) (x : Reg) (v : ℕ) : Type 0 where
  pub right : keeps h.0 ≡ true → (w h.0).registers x.0 ≡ v
  pub low : x.0 < slice_index next h.0

pub has_later : (keeps : ℕ → Bool) (next next' : List ℕ) (w u : Hosts) (h : HostId) (x : Reg) (v : ℕ) → ((k : ℕ) → slice_index next k ≤ slice_index next' k) → AreStill next w u
    → Has keeps next w h x v → Has keeps next' u h x v
has_later keeps next next' w u h x v longer still has = record {
  right = λ is. still h.0 x.0 has.low ∙ has.right is;
  low = let le = longer h.0 in let low = has.low in omega (arith, le, low);
}

-- the register of a host among these
pub found : (keeps : ℕ → Bool) (next : List ℕ) (w : Hosts) (x : Places) (h : HostId) (v : ℕ) → IsHost (hosts_of x) h.0 → AreBelow next x → AreRight keeps w x v → Has keeps next w h (register_of x h.0) v
found keeps next w [] h v i below right = absurd i
found keeps next w (q ∷ x) h v i below right = at (λ j. found keeps next w x h v j below.1 right.1) (nat_eq h.0 q.0.0) refl
  where
    rest : (IsHost (hosts_of x) h.0 → Has keeps next w h (register_of x h.0) v) → nat_eq h.0 q.0.0 ≡ false → (h.0 ≡ q.0.0) ⊎ IsHost (hosts_of x) h.0 → Has keeps next w h (register_of x h.0) v
    rest again e (inl f) = absurd (differ_of h.0 q.0.0 e f)
    rest again e (inr j) = again j

    at : (IsHost (hosts_of x) h.0 → Has keeps next w h (register_of x h.0) v) → (same : Bool) → nat_eq h.0 q.0.0 ≡ same → Has keeps next w h (register_of (q ∷ x) h.0) v
    at again true e =
        let f : h.0 ≡ q.0.0 = equal_of h.0 q.0.0 e in
        let g : register_of (q ∷ x) h.0 ≡ q.1 = ap (λ (b : Bool). if b then q.1 else register_of x h.0) e in
        record {
          right = λ is. ap (λ (r : Reg). (w h.0).registers r.0) g ∙ ap (λ z. (w z).registers q.1.0) f ∙ right.0 (subst (λ z. keeps z ≡ true) f is);
          low = subst (λ (r : Reg). r.0 < slice_index next h.0) (sym g) (subst (λ z. q.1.0 < slice_index next z) (sym f) below.0);
        }
    at again false e =
        let f = rest again e i in
        let g : register_of (q ∷ x) h.0 ≡ register_of x h.0 = ap (λ (b : Bool). if b then q.1 else register_of x h.0) e in
        subst (λ (r : Reg). Has keeps next w h r v) (sym g) f

-- the step of one host: fresh registers alone are written, and what it gives is right if it keeps to its program
pub record IsStep (keeps : ℕ → Bool) (next : List ℕ) (h : HostId) (made : Made Reg) (w w' : Hosts) (v : ℕ) : Type 0 where
  pub still : AreStill next w w'
  pub longer : (k : ℕ) → slice_index next k ≤ slice_index made.next k
  pub known : length made.next ≡ length next
  pub low : made.given.0 < slice_index made.next h.0
  pub right : keeps h.0 ≡ true → (w' h.0).registers made.given.0 ≡ v

module _ (keeps : ℕ → Bool) (t : Tape) (next : List ℕ) (w w' : Hosts) (h : HostId) (known : h.0 < length next) where
  -- one action, which writes a fresh register
  pub written : (act : Reg → Action) (v z : ℕ) → after_do t h.0 (act (next_at next h)) w ≡ put w h.0 (wrote (next_at next h).0 z (w h.0)) → (keeps h.0 ≡ true → z ≡ v)
      → RunsGadgets keeps t (written_by h act next).gadgets w w' → IsStep keeps next h (written_by h act next) w w' v
  written act v z runs is run =
      let r = slice_index next h.0 in
      let there = taken_there h 1 next known in
      let now : w' ≡ put w h.0 (wrote r z (w h.0)) = run.1 ∙ runs in
      let own : Wrote h.0 r z w w' = subst (Wrote h.0 r z w) (sym now) (wrote_own h.0 r z w) in
      record {
        still = still_written next h.0 r z w w' (omega arith) own;
        longer = λ k. (taken_bounds h 1 next known k).0;
        known = taken_known h 1 next;
        low = omega (arith, there);
        right = λ keep. own.there ∙ is keep;
      }

  -- a register that the host has
  pub there_already : (x : Reg) (v : ℕ) → Has keeps next w h x v → w' ≡ w → IsStep keeps next h (record { given = x; gadgets = []; next = next }) w w' v
  there_already x v has is = record {
    still = still_start next w w' is;
    longer = λ k. omega arith;
    known = refl;
    low = has.low;
    right = λ keep. ap (λ (u : Hosts). (u h.0).registers x.0) is ∙ has.right keep;
  }

  -- a word that comes from a host that keeps to its program, or stays
  pub came : (from : HostId) (x : Reg) → x.0 < slice_index next from.0 → keeps from.0 ≡ true
      → RunsGadgets keeps t (passed from x h next).gadgets w w' → IsStep keeps next h (passed from x h next) w w' ((w from.0).registers x.0)
  came from x low keep run = at (nat_eq from.0 h.0) refl run
    where
      at : (same : Bool) → nat_eq from.0 h.0 ≡ same
          → let made : Made Reg = if same then record { given = x; gadgets = []; next = next } else record { given = next_at next h; gadgets = Tells from (x ∷ []) h (next_at next h ∷ []) ∷ []; next = taken h 1 next } in
          RunsGadgets keeps t made.gadgets w w' → IsStep keeps next h made w w' ((w from.0).registers x.0)
      at true e run =
          let i : from.0 ≡ h.0 = equal_of from.0 h.0 e in
          there_already x ((w from.0).registers x.0) (record { right = λ is. ap (λ z. (w z).registers x.0) (sym i); low = subst (λ z. x.0 < slice_index next z) i low }) run
      at false e run =
          let r = slice_index next h.0 in
          let there = taken_there h 1 next known in
          let apart : from.0 ≢ h.0 = differ_of from.0 h.0 e in
          let words : run.0 ≡ (w from.0).registers x.0 ∷ [] = run.1.0.own keep in
          let now : w' ≡ after_telling from.0 ((w from.0).registers x.0 ∷ []) h.0 (next_at next h ∷ []) w = run.1.1 ∙ ap (λ ws. after_telling from.0 ws h.0 (next_at next h ∷ []) w) words in
          let own : Wrote h.0 r ((w from.0).registers x.0) w w' = subst (Wrote h.0 r ((w from.0).registers x.0) w) (sym now) (heard_word from.0 ((w from.0).registers x.0) h.0 (next_at next h) w apart) in
          record {
            still = still_written next h.0 r ((w from.0).registers x.0) w w' (omega arith) own;
            longer = λ k. (taken_bounds h 1 next known k).0;
            known = taken_known h 1 next;
            low = omega (arith, there);
            right = λ is. own.there;
          }

  two : (o : Binary) (x y : Reg) (a b : ℕ) → Has keeps next w h x a → Has keeps next w h y b → RunsGadgets keeps t (written_by h (λ r. action.Apply o r x y) next).gadgets w w'
      → IsStep keeps next h (written_by h (λ r. action.Apply o r x y) next) w w' (operation (operation_of o) a b 0)
  two o x y a b p q run =
      written (λ r. action.Apply o r x y) (operation (operation_of o) a b 0) (operation (operation_of o) ((w h.0).registers x.0) ((w h.0).registers y.0) 0) refl
      (λ is. ap₂ (λ (c d : ℕ). operation (operation_of o) c d 0) (p.right is) (q.right is)) run

  -- a number, and the operation on it
  numbered : (k : ℕ) (o : Binary) (x : Reg) (a : ℕ) → Has keeps next w h x a → RunsGadgets keeps t (with_number h k o x next).gadgets w w'
      → IsStep keeps next h (with_number h k o x next) w w' (operation (operation_of o) a k 0)
  numbered k o x a p run =
      let n : ℕ = slice_index next h.0 in
      let u : Hosts = put w h.0 (wrote (slice_index next h.0) k (w h.0)) in
      let c : Wrote h.0 n k w u = wrote_own h.0 (slice_index next h.0) k w in
      let z : ℕ = operation (operation_of o) ((u h.0).registers x.0) ((u h.0).registers (slice_index next h.0)) 0 in
      let v : Hosts = put u h.0 (wrote (slice_index next h.0 + 1) (operation (operation_of o) ((u h.0).registers x.0) ((u h.0).registers (slice_index next h.0)) 0) (u h.0)) in
      let d : Wrote h.0 (n + 1) z u v = wrote_own h.0 (slice_index next h.0 + 1) (operation (operation_of o) ((u h.0).registers x.0) ((u h.0).registers (slice_index next h.0)) 0) u in
      let now : w' ≡ v = run.1.1 in
      let e : Wrote h.0 (n + 1) z u w' = subst (Wrote h.0 (n + 1) z u) (sym now) d in
      let there = taken_there h 2 next known in
      let same : (u h.0).registers x.0 ≡ (w h.0).registers x.0 = c.elsewhere h.0 x.0 (λ i j. let low = p.low in omega (arith, low, j)) in
      record {
        still = still_on next next w u w' (λ k. omega arith) (still_written next h.0 n k w u (omega arith) c) (still_written next h.0 (n + 1) z u w' (omega arith) e);
        longer = λ k. (taken_bounds h 2 next known k).0;
        known = taken_known h 2 next;
        low = omega (arith, there);
        right = λ is. e.there ∙ ap₂ (λ (y i : ℕ). operation (operation_of o) y i 0) (same ∙ p.right is) c.there;
      }

  turned : (x : ℕ) → x < 2 ^ 32 → bit_xor x 4294967295 ≡ 2 ^ 32 - 1 - x
  turned x small =
      let a : bit_xor x 4294967295 + bit_and x 4294967295 * 2 ≡ x + 4294967295 = xor_add_and x 4294967295 in
      let b : bit_and x 4294967295 ≡ x % 2 ^ 32 = and_mask x 32 in
      let c : x % 2 ^ 32 ≡ x = mod-eq_of_lt small in
      omega (arith, a, b, c, small)

  -- an operation, where as many registers as it takes have their words
  pub worked_out : (o : Op) (x y z : Reg) (a b c : ℕ) → a < 2 ^ 32 → (0 < arity o → Has keeps next w h x a) → (1 < arity o → Has keeps next w h y b) → (2 < arity o → Has keeps next w h z c)
      → RunsGadgets keeps t (operated o x y z h next).gadgets w w' → IsStep keeps next h (operated o x y z h next) w w' (operation o a b c)
  worked_out op.Add x y z a b c small p q r run = two binary.Add x y a b (p (omega arith)) (q (omega arith)) run
  worked_out op.Sub x y z a b c small p q r run = two binary.Sub x y a b (p (omega arith)) (q (omega arith)) run
  worked_out op.Mul x y z a b c small p q r run = two binary.Mul x y a b (p (omega arith)) (q (omega arith)) run
  worked_out (op.Scale k) x y z a b c small p q r run = numbered k binary.Mul x a (p (omega arith)) run
  worked_out op.Div x y z a b c small p q r run = two binary.Div x y a b (p (omega arith)) (q (omega arith)) run
  worked_out op.Rem x y z a b c small p q r run = two binary.Rem x y a b (p (omega arith)) (q (omega arith)) run
  worked_out op.And x y z a b c small p q r run = two binary.And x y a b (p (omega arith)) (q (omega arith)) run
  worked_out op.Or x y z a b c small p q r run = two binary.Or x y a b (p (omega arith)) (q (omega arith)) run
  worked_out op.Xor x y z a b c small p q r run = two binary.Xor x y a b (p (omega arith)) (q (omega arith)) run
  worked_out op.Not x y z a b c small p q r run =
      subst (λ i. IsStep keeps next h (operated op.Not x y z h next) w w' i) (turned a small) (numbered 4294967295 binary.Xor x a (p (omega arith)) run)
  worked_out op.Flip x y z a b c small p q r run = numbered 1 binary.Xor x a (p (omega arith)) run
  worked_out (op.Shl k) x y z a b c small p q r run =
      written (λ i. action.Shl i x k) (operation (op.Shl k) a 0 0) (operation (op.Shl k) ((w h.0).registers x.0) 0 0) refl (λ is. ap (λ i. operation (op.Shl k) i 0 0) ((p (omega arith)).right is)) run
  worked_out (op.Shr k) x y z a b c small p q r run =
      written (λ i. action.Shr i x k) (operation (op.Shr k) a 0 0) (operation (op.Shr k) ((w h.0).registers x.0) 0 0) refl (λ is. ap (λ i. operation (op.Shr k) i 0 0) ((p (omega arith)).right is)) run
  worked_out op.Eq x y z a b c small p q r run = two binary.Eq x y a b (p (omega arith)) (q (omega arith)) run
  worked_out op.Ne x y z a b c small p q r run = two binary.Ne x y a b (p (omega arith)) (q (omega arith)) run
  worked_out op.Lt x y z a b c small p q r run = two binary.Lt x y a b (p (omega arith)) (q (omega arith)) run
  worked_out op.Le x y z a b c small p q r run = two binary.Le x y a b (p (omega arith)) (q (omega arith)) run
  worked_out op.Min x y z a b c small p q r run = two binary.Min x y a b (p (omega arith)) (q (omega arith)) run
  worked_out op.Max x y z a b c small p q r run = two binary.Max x y a b (p (omega arith)) (q (omega arith)) run
  worked_out op.Mux x y z a b c small p q r run =
      written (λ i. action.Mux i x y z) (operation op.Mux a b c) (operation op.Mux ((w h.0).registers x.0) ((w h.0).registers y.0) ((w h.0).registers z.0)) refl
      (λ is. ap (λ i. operation op.Mux i ((w h.0).registers y.0) ((w h.0).registers z.0)) ((p (omega arith)).right is) ∙ ap₂ (λ (i j : ℕ). operation op.Mux a i j) ((q (omega arith)).right is) ((r (omega arith)).right is)) run
