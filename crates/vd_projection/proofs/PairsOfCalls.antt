-- The calls of two hosts that share words, as back ends.
use Rattle.std.proofs.Common.{ℕ, ◌+◌, ◌<◌, ◌≤◌, Bool, List, [], map, lit≤, arith}
use Rattle.vd_base.specs.declared.ids.HostId.{HostId}
use Rattle.vd_base.specs.declared.operations.Op.{Op}
use Rattle.vd_base.specs.declared.operations.Op.TheVariants as op
use Rattle.vd_execution.specs.declared.instructions.Binary.TheVariants as binary
use Rattle.vd_execution.specs.Gadgets.{Sharing, BySums, ByXors}
use Rattle.vd_backend_sharing.specs.Gates.{gates_of}
use Rattle.vd_duet.specs.Calls.{Places, Made}
use Rattle.vd_duet.specs.Laws.{Each}
use Rattle.vd_backend_sharing.specs.declared.shares.PartRegisters.{PartRegisters}
use Rattle.vd_backend_sharing.specs.PairCalls.{two, literal_shares, shared_from, adopted_shares, shown_at, shown_to_both, kept_shares, shares_of, operand, pair_calls}
use Rattle.vd_words.specs.AddCalls.{add_serves, add_apply, add_calls}
use Rattle.vd_bits.specs.BitCalls.{circuit_shares}
use Rattle.vd_circuit.specs.CircuitCalls.{circuit_serves, circuit_calls}
use Rattle.vd_projection.specs.Fits.{IsLow, PartsFit, CallsFit}
use Rattle.vd_projection.proofs.Bounds.{low_more, roomy, host_word}
use Rattle.vd_projection.proofs.Pairs.{SharesMade, shares_fit, operand_fits, operands_fit, shared_word}
use Rattle.vd_projection.proofs.Gates.{applied_made, numbered_made, product_made, gates_made, few_gates, gates_cost}
use Rattle.vd_projection.proofs.Shares.{literal_made, kept_made, renewed_made, adopted_made, shown_made, shared_made, opened_to_one}

module _ (hosts N : ℕ) (a b : HostId) (here : a.0 < hosts) (there : b.0 < hosts) where
  -- what is made of operands
  abbrev OperationFits : (Op → List Places → List ℕ → Made PartRegisters) → Type 0
  OperationFits apply =
      (o : Op) (xs : List Places) (m n : ℕ) (next : List ℕ) → Each (PartsFit hosts 0 m) xs → IsLow m next → m + 360 ≤ n → n ≤ N
      → SharesMade hosts N n (apply o xs next)

  pair_fits : (s : Sharing) (serves : Op → Bool) (apply : Op → List Places → List ℕ → Made PartRegisters) → OperationFits apply → CallsFit hosts N (pair_calls s a b serves apply)
  pair_fits s serves apply law = record {
    literal = λ v m n next room.
        let r = roomy N 2 m n next (lit≤ tt) room in
        shared_word hosts N a b here there (m + 2) n (literal_shares a b v next) r.0 (literal_made hosts N a b here there v m (m + 2) next room.low (omega arith) r.1);
    share = λ from known x m n next below room.
        let r = roomy N 3 m n next (lit≤ tt) room in
        shared_word hosts N a b here there (m + 3) n (shared_from s a b from x next) r.0 (shared_made hosts N a b here there s from x m (m + 3) next below room.low (omega arith) r.1);
    adopt = λ x m n next f room.
        let r = roomy N 2 m n next (lit≤ tt) room in
        shared_word hosts N a b here there (m + 2) n (adopted_shares a b x next) r.0 (adopted_made hosts N a b here there x m (m + 2) next f.at room.low (omega arith) r.1);
    show = λ to known x m n next f room.
        let r = roomy N 2 m n next (lit≤ tt) room in
        let more : m + 2 ≤ n = (let lt = r.0 in omega (arith, lt)) in
        host_word hosts N to (shown_at s a b (shares_of x) to next) n known
        (opened_to_one hosts N a b here there s (shares_of x) to m n next (shares_fit hosts m x f.at) room.low more room.within);
    show_all = λ x m n next f room.
        let r = roomy N 4 m n next (lit≤ tt) room in
        shared_word hosts N a b here there (m + 4) n (shown_to_both s a b (shares_of x) next) r.0
        (shown_made hosts N a b here there s (shares_of x) m (m + 4) next (shares_fit hosts m x f.at) room.low (omega arith) r.1);
    keep = λ x m n next f room.
        let r = roomy N 2 m n next (lit≤ tt) room in
        shared_word hosts N a b here there (m + 2) n (kept_shares a b (shares_of x) next) r.0
        (kept_made hosts N a b here there (shares_of x) m (m + 2) next (shares_fit hosts m x f.at) room.low (omega arith) r.1);
    renew = λ kept x n f g lt. renewed_made hosts N a b here there (shares_of kept) (shares_of x) n (shares_fit hosts n kept f.at) (shares_fit hosts n x g.at) lt;
    apply = λ o xs m n next f room.
        let r = roomy N 360 m n next (lit≤ tt) room in
        shared_word hosts N a b here there (m + 360) n (apply o xs next) r.0 (law o xs m (m + 360) next f room.low (omega arith) r.1);
  }

  -- an operation that is not served
  no_shares : (m n : ℕ) (next : List ℕ) → IsLow m next → m + 360 ≤ n → SharesMade hosts N n (record { given = two 0 0; gadgets = []; next = next })
  no_shares m n next low le = record { low = low_more m n next (omega (arith, le)) low; given = (omega arith, omega arith); gadgets = tt }

  added_made : OperationFits (add_apply a b)
  added_made op.Add xs m n next f low le most =
      applied_made hosts N a b here there binary.Add (operand xs 0) (operand xs 1) m n next (operand_fits hosts m xs 0 f) (operand_fits hosts m xs 1 f) low (omega (arith, le)) most
  added_made op.Sub xs m n next f low le most =
      applied_made hosts N a b here there binary.Sub (operand xs 0) (operand xs 1) m n next (operand_fits hosts m xs 0 f) (operand_fits hosts m xs 1 f) low (omega (arith, le)) most
  added_made (op.Scale k) xs m n next f low le most = numbered_made hosts N a b here there binary.Mul k (operand xs 0) m n next (operand_fits hosts m xs 0 f) low (omega (arith, le)) most
  added_made op.Mul xs m n next f low le most =
      product_made hosts N a b here there BySums (operand xs 0) (operand xs 1) m n next (operand_fits hosts m xs 0 f) (operand_fits hosts m xs 1 f) low (omega (arith, le)) most
  added_made o xs m n next f low le most = no_shares m n next low le

  circuit_made : OperationFits (circuit_shares a b)
  circuit_made o xs m n next f low le most =
      let few = few_gates o in
      gates_made hosts N a b here there (gates_of o) (map shares_of xs) m n next (operands_fit hosts m xs f) low (within (gates_cost (gates_of o)) few) most
    where
      within : (k : ℕ) → k ≤ 360 → m + k ≤ n
      within k few = omega (arith, few, le)

  pub sums_fit : CallsFit hosts N (add_calls a b)
  sums_fit = pair_fits BySums add_serves (add_apply a b) added_made

  pub circuits_fit : CallsFit hosts N (circuit_calls a b)
  circuits_fit = pair_fits ByXors circuit_serves (circuit_shares a b) circuit_made
