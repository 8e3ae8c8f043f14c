-- The conversions between words that two hosts share by sums and by exclusive or.
use Rattle.std.proofs.Common.{ℕ, ◌+◌, ◌<◌, ◌≤◌, List, [], ◌∷◌, ◌++◌, slice_index, lit≤, arith}
use Rattle.vd_base.specs.declared.ids.HostId.{HostId}
use Rattle.vd_base.specs.declared.operations.Op.TheVariants as op
use Rattle.vd_execution.specs.Text.{register}
use Rattle.vd_backend_sharing.specs.Gates.{gates_of}
use Rattle.vd_duet.specs.Builder.{taken}
use Rattle.vd_duet.specs.Calls.{Made}
use Rattle.vd_duet.specs.Laws.{Each}
use Rattle.vd_backend_sharing.specs.declared.shares.PartRegisters.{PartRegisters}
use Rattle.vd_backend_sharing.specs.PairCalls.{shares_of}
use Rattle.vd_bits.specs.BitCalls.{gates_shares}
use Rattle.vd_convert.specs.Convert.{masked_parts, to_xor_made, drawn, finished, to_add_made}
use Rattle.vd_projection.specs.Fits.{IsLow, GadgetFits, MoveFits}
use Rattle.vd_projection.proofs.Bounds.{roomy, one_fits, gadgets_fit}
use Rattle.vd_projection.proofs.Pairs.{both_low, starts, SharesFit, SharesMade, shares_more, shares_fit, shared_word}
use Rattle.vd_projection.proofs.Gates.{gates_made, gates_cost, few_gates}

module _ (hosts N : ℕ) (a b : HostId) (here : a.0 < hosts) (there : b.0 < hosts) where
  -- two shared words
  record BothMade (n : ℕ) (made : Made (PartRegisters × PartRegisters)) : Type 0 where
    low : IsLow n made.next
    first : SharesFit n made.given.0
    second : SharesFit n made.given.1
    gadgets : Each (GadgetFits hosts N) made.gadgets

  masked_fit : (x : PartRegisters) (m n : ℕ) (next : List ℕ) → SharesFit m x → IsLow m next → m + 6 ≤ n → n ≤ N → BothMade n (masked_parts a b x next)
  masked_fit x m n next f low le most =
      let z = starts a b m n 3 3 next low le in
      let p = z.0 in
      let q = z.1 in
      let x0 = f.0 in
      let x1 = f.1 in
      let r : ℕ = slice_index next a.0 in
      let k : ℕ = slice_index (taken a 3 next) b.0 in
      record {
        low = both_low a b 3 3 m n next low le;
        first = (omega (arith, p), omega (arith, q));
        second = (omega (arith, p), omega (arith, q));
        gadgets = (
          (
            omega (arith, p, most),
            (
              omega (arith, q, most),
              (
                (here, there, one_fits N (register r) (omega (arith, p, most)), one_fits N (register (k + 1)) (omega (arith, q, most))),
                ((there, here, one_fits N (register k) (omega (arith, q, most)), one_fits N (register (r + 1)) (omega (arith, p, most))), tt),
              ),
            ),
          ),
          (
            ((omega (arith, p, most), omega (arith, x0, le, most), omega (arith, p, most)), tt),
            (((omega (arith, q, most), omega (arith, x1, le, most), omega (arith, q, most)), tt), tt),
          ),
        );
      }

  drawn_fit : (x : PartRegisters) (m n : ℕ) (next : List ℕ) → SharesFit m x → IsLow m next → m + 4 ≤ n → n ≤ N → BothMade n (drawn a b x next)
  drawn_fit x m n next f low le most =
      let z = starts a b m n 2 2 next low le in
      let p = z.0 in
      let q = z.1 in
      record {
        low = both_low a b 2 2 m n next low le;
        first = (omega (arith, p), omega (arith, q));
        second = (omega (arith, p), omega (arith, q));
        gadgets = (((omega (arith, p, most), omega (arith, p, most)), ((omega (arith, q, most), omega (arith, q, most)), tt)), tt);
      }

  finished_fit : (rest sum : PartRegisters) (m n : ℕ) (next : List ℕ) → SharesFit m rest → SharesFit m sum → IsLow m next → m + 5 ≤ n → n ≤ N → SharesMade hosts N n (finished a b rest sum next)
  finished_fit rest sum m n next f g low le most =
      let z = starts a b m n 3 2 next low le in
      let p = z.0 in
      let q = z.1 in
      let x0 = f.0 in
      let x1 = f.1 in
      let y0 = g.0 in
      let y1 = g.1 in
      let r : ℕ = slice_index next a.0 in
      let k : ℕ = slice_index (taken a 3 next) b.0 in
      record {
        low = both_low a b 3 2 m n next low le;
        given = (omega (arith, p), omega (arith, y1, le));
        gadgets = (
          ((here, there, one_fits N rest.first (omega (arith, x0, le, most)), one_fits N (register k) (omega (arith, q, most))), tt),
          (
            ((there, here, one_fits N rest.second (omega (arith, x1, le, most)), one_fits N (register r) (omega (arith, p, most))), tt),
            (
              ((omega (arith, p, most), omega (arith, x0, le, most), omega (arith, p, most)), tt),
              (
                ((omega (arith, p, most), omega (arith, p, most), omega (arith, y0, le, most)), tt),
                (((omega (arith, q, most), omega (arith, x1, le, most), omega (arith, q, most)), tt), tt),
              ),
            ),
          ),
        );
      }

  pub to_bits_fit : MoveFits hosts N (to_xor_made a b)
  to_bits_fit x m n next f room =
      let part = roomy N 6 m n next (lit≤ tt) room in
      let all = roomy N 366 m n next (lit≤ tt) room in
      let words : Made (PartRegisters × PartRegisters) = masked_parts a b (shares_of x) next in
      let parts : List PartRegisters = words.given.0 ∷ words.given.1 ∷ [] in
      let sum : Made PartRegisters = gates_shares a b (gates_of op.Add) parts words.next in
      let one = masked_fit (shares_of x) m (m + 6) next (shares_fit hosts m x f.at) room.low (omega arith) part.1 in
      let few = few_gates op.Add in
      let two = gates_made hosts N a b here there (gates_of op.Add) parts (m + 6) (m + 366) words.next (one.first, (one.second, tt)) one.low (within (gates_cost (gates_of op.Add)) few) all.1 in
      let whole : SharesMade hosts N (m + 366) (record { given = sum.given; gadgets = words.gadgets ++ sum.gadgets; next = sum.next }) = record {
        low = two.low;
        given = two.given;
        gadgets = gadgets_fit hosts N words.gadgets sum.gadgets one.gadgets two.gadgets;
      } in
      shared_word hosts N a b here there (m + 366) n (record { given = sum.given; gadgets = words.gadgets ++ sum.gadgets; next = sum.next }) all.0 whole
    where
      within : (k : ℕ) → k ≤ 360 → m + 6 + k ≤ m + 366
      within k few = omega (arith, few)

  pub to_sums_fit : MoveFits hosts N (to_add_made a b)
  to_sums_fit x m n next f room =
      let begun = roomy N 4 m n next (lit≤ tt) room in
      let part = roomy N 364 m n next (lit≤ tt) room in
      let all = roomy N 369 m n next (lit≤ tt) room in
      let pair : Made (PartRegisters × PartRegisters) = drawn a b (shares_of x) next in
      let parts : List PartRegisters = shares_of x ∷ pair.given.1 ∷ [] in
      let rest : Made PartRegisters = gates_shares a b (gates_of op.Sub) parts pair.next in
      let end : Made PartRegisters = finished a b rest.given pair.given.0 rest.next in
      let word = shares_fit hosts m x f.at in
      let one = drawn_fit (shares_of x) m (m + 4) next word room.low (omega arith) begun.1 in
      let few = few_gates op.Sub in
      let two = gates_made hosts N a b here there (gates_of op.Sub) parts (m + 4) (m + 364) pair.next (shares_more m (m + 4) (shares_of x) (omega arith) word, (one.second, tt)) one.low (within (gates_cost (gates_of op.Sub)) few) part.1 in
      let three = finished_fit rest.given pair.given.0 (m + 364) (m + 369) rest.next two.given (shares_more (m + 4) (m + 364) pair.given.0 (omega arith) one.first) two.low (omega arith) all.1 in
      let whole : SharesMade hosts N (m + 369) (record { given = end.given; gadgets = pair.gadgets ++ (rest.gadgets ++ end.gadgets); next = end.next }) = record {
        low = three.low;
        given = three.given;
        gadgets = gadgets_fit hosts N pair.gadgets (rest.gadgets ++ end.gadgets) one.gadgets (gadgets_fit hosts N rest.gadgets end.gadgets two.gadgets three.gadgets);
      } in
      shared_word hosts N a b here there (m + 369) n (record { given = end.given; gadgets = pair.gadgets ++ (rest.gadgets ++ end.gadgets); next = end.next }) all.0 whole
    where
      within : (k : ℕ) → k ≤ 360 → m + 4 + k ≤ m + 364
      within k few = omega (arith, few)
