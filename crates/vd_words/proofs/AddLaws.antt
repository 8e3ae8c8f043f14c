-- The operations on shared sums do what a back end's are to do, where they are said to.
use Rattle.std.proofs.Common.{◌≡◌, ◌≢◌, ℕ, ◌+◌, ◌-◌, ◌*◌, ◌%◌, ◌^◌, ◌<◌, IsTrue, List, length, ap, ap₂, ◌∙◌, arith}
use Rattle.std.specs.Prelude.{slice_index}
use Rattle.vd_base.specs.declared.ids.HostId.{HostId}
use Rattle.vd_base.specs.declared.operations.Op.{Op}
use Rattle.vd_base.specs.declared.operations.Op.TheVariants as op
use Rattle.vd_base.specs.declared.protocols.Proto.TheVariants.{Add}
use Rattle.vd_base.specs.Arity.{arity}
use Rattle.vd_base.specs.Operations.{result_of}
use Rattle.vd_execution.specs.declared.instructions.Binary.TheVariants as binary
use Rattle.vd_execution.specs.World.{Tape}
use Rattle.vd_execution.specs.Joint.{Hosts}
use Rattle.vd_execution.specs.Gadgets.{BySums}
use Rattle.vd_duet.specs.Calls.{Places}
use Rattle.vd_duet.specs.Acting.{acts_at, apply_at, ActsWhereItSays}
use Rattle.vd_duet.specs.Laws.{IsInOne, GivesWord, Operands, IsReady, NumberFits, BackendLaws}
use Rattle.vd_backend_sharing.proofs.Front.{word_product, scale_each}
use Rattle.vd_backend_sharing.specs.PairCalls.{operand, at_hosts}
use Rattle.vd_backend_sharing.proofs.Front.{first_operand, second_operand, ItemsMultiply, applied_gives, numbered_gives, product_gives, pair_laws, applied_acts, numbered_acts, product_acts, pair_acts}
use Rattle.vd_words.specs.AddCalls.{add_serves, add_apply, add_calls}

-- dealt triples multiply
triples_multiply : ItemsMultiply BySums
triples_multiply x0 x1 y0 y1 a0 a1 b0 b1 c0 c1 p q r s u v item =
    word_product (record { x = x0; y = y0; item = record { a = a0; b = b0; c = c0 } }) (record { x = x1; y = y1; item = record { a = a1; b = b1; c = c1 } }) (p, r, u) (q, s, v) item

sums_added : (x0 x1 y0 y1 : ℕ) → ((x0 + y0) % 2 ^ 32 + (x1 + y1) % 2 ^ 32) % 2 ^ 32 ≡ ((x0 + x1) % 2 ^ 32 + (y0 + y1) % 2 ^ 32) % 2 ^ 32
sums_added x0 x1 y0 y1 = omega arith

differences_added : (x0 x1 y0 y1 : ℕ) → y0 < 2 ^ 32 → y1 < 2 ^ 32
    → ((x0 + (2 ^ 32 - y0)) % 2 ^ 32 + (x1 + (2 ^ 32 - y1)) % 2 ^ 32) % 2 ^ 32 ≡ ((x0 + x1) % 2 ^ 32 + (2 ^ 32 - (y0 + y1) % 2 ^ 32)) % 2 ^ 32
differences_added x0 x1 y0 y1 a b = omega (arith, a, b)

module _ (a b : HostId) (apart : a.0 ≢ b.0) (t : Tape) (next : List ℕ) (w : Hosts) (ready : IsReady (add_calls a b) t next w) where
  abbrev GivesResult : Op → List Places → List ℕ → Type 0
  GivesResult o xs vs = GivesWord (add_calls a b) t next (IsInOne xs) (at_hosts a b (add_apply a b o xs next)) w (result_of o vs)

  apply_law : (o : Op) → IsTrue (add_serves o) → NumberFits o → (xs : List Places) (vs : List ℕ) → length xs ≡ arity o → Operands (add_calls a b) next w xs vs
      → GivesResult o xs vs
  apply_law op.Add can fits xs vs e os =
      let p = first_operand a b add_serves (add_apply a b) BySums next w xs vs (omega (arith, e)) os in
      let q = second_operand a b add_serves (add_apply a b) BySums next w xs vs (omega (arith, e)) os in
      let x = operand xs 0 in
      let y = operand xs 1 in
      applied_gives BySums a b apart add_serves (add_apply a b) t next w ready (IsInOne xs) binary.Add (operand xs 0) (operand xs 1) (slice_index vs 0) (slice_index vs 1)
      (result_of op.Add vs) p q
      (sums_added ((w a.0).registers x.first.0) ((w b.0).registers x.second.0) ((w a.0).registers y.first.0) ((w b.0).registers y.second.0)
      ∙ ap₂ (λ (i j : ℕ). (i + j) % 2 ^ 32) p.word q.word)
  apply_law op.Sub can fits xs vs e os =
      let p = first_operand a b add_serves (add_apply a b) BySums next w xs vs (omega (arith, e)) os in
      let q = second_operand a b add_serves (add_apply a b) BySums next w xs vs (omega (arith, e)) os in
      let x = operand xs 0 in
      let y = operand xs 1 in
      let y0 : (w a.0).registers y.first.0 < 2 ^ 32 = ready.sound.words a.0 y.first.0 in
      let y1 : (w b.0).registers y.second.0 < 2 ^ 32 = ready.sound.words b.0 y.second.0 in
      applied_gives BySums a b apart add_serves (add_apply a b) t next w ready (IsInOne xs) binary.Sub (operand xs 0) (operand xs 1) (slice_index vs 0) (slice_index vs 1)
      (result_of op.Sub vs) p q
      (differences_added ((w a.0).registers x.first.0) ((w b.0).registers x.second.0) ((w a.0).registers y.first.0) ((w b.0).registers y.second.0) y0 y1
      ∙ ap₂ (λ (i j : ℕ). (i + (2 ^ 32 - j)) % 2 ^ 32) p.word q.word)
  apply_law (op.Scale k) can fits xs vs e os =
      let p = first_operand a b add_serves (add_apply a b) BySums next w xs vs (omega (arith, e)) os in
      let x = operand xs 0 in
      numbered_gives BySums a b apart add_serves (add_apply a b) t next w ready (IsInOne xs) binary.Mul k fits (operand xs 0) (slice_index vs 0)
      (result_of (op.Scale k) vs) p
      (scale_each k ((w a.0).registers x.first.0) ((w b.0).registers x.second.0) ∙ ap (λ (i : ℕ). (i * k) % 2 ^ 32) p.word)
  apply_law op.Mul can fits xs vs e os =
      let p = first_operand a b add_serves (add_apply a b) BySums next w xs vs (omega (arith, e)) os in
      let q = second_operand a b add_serves (add_apply a b) BySums next w xs vs (omega (arith, e)) os in
      product_gives BySums a b apart add_serves (add_apply a b) t next w ready (IsInOne xs) triples_multiply (operand xs 0) (operand xs 1) (slice_index vs 0) (slice_index vs 1) p q
  apply_law o can fits xs vs e os = cc

apply_acts : (a b : HostId) (o : Op) → IsTrue (add_serves o) → (xs : List Places) (next : List ℕ) (h : ℕ)
    → acts_at (add_apply a b o xs next).gadgets h ≡ apply_at o (Add a b) h
apply_acts a b op.Add can xs next h = applied_acts a b h binary.Add (operand xs 0) (operand xs 1) next
apply_acts a b op.Sub can xs next h = applied_acts a b h binary.Sub (operand xs 0) (operand xs 1) next
apply_acts a b (op.Scale k) can xs next h = numbered_acts a b h binary.Mul k (operand xs 0) next
apply_acts a b op.Mul can xs next h = product_acts a b h BySums (operand xs 0) (operand xs 1) next
apply_acts a b o can xs next h = cc

pub add_laws : (a b : HostId) → a.0 ≢ b.0 → BackendLaws (add_calls a b)
add_laws a b apart =
    pair_laws BySums a b apart add_serves (add_apply a b) (λ t next w ready o can fits xs vs e os. apply_law a b apart t next w ready o can fits xs vs e os)

pub add_acts : (a b : HostId) → ActsWhereItSays (add_calls a b)
add_acts a b = pair_acts BySums a b add_serves (add_apply a b) (λ o can xs next h. apply_acts a b o can xs next h)
