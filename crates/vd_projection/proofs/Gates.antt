-- The gates of two hosts that share words take few registers, and all their registers are below a bound.
use Rattle.std.proofs.Common.{ℕ, zero, suc, ◌+◌, ◌-◌, ◌<◌, ◌≤◌, List, [], ◌∷◌, ◌++◌, length, slice_index, lit≤, arith}
use Rattle.vd_base.specs.declared.ids.HostId.{HostId}
use Rattle.vd_base.specs.declared.operations.Op.{Op}
use Rattle.vd_base.specs.declared.operations.Op.TheVariants as op
use Rattle.vd_execution.specs.declared.instructions.Reg.{Reg}
use Rattle.vd_execution.specs.declared.instructions.Binary.{Binary}
use Rattle.vd_execution.specs.declared.instructions.Binary.TheVariants as binary
use Rattle.vd_execution.specs.declared.instructions.Act.{Act}
use Rattle.vd_execution.specs.Gadgets.{Sharing, BySums, ByXors, Masking, take, masking, told_by}
use Rattle.vd_execution.specs.Ranges.{ActionFits}
use Rattle.vd_execution.specs.Text.{register}
use Rattle.vd_duet.specs.Builder.{taken}
use Rattle.vd_duet.specs.Calls.{Made}
use Rattle.vd_duet.specs.Laws.{Each}
use Rattle.vd_backend_sharing.specs.Gates.{Gate, And, Xor, Shl, Shr, Not, Flip, Lowest, Mask, gates_of}
use Rattle.vd_backend_sharing.specs.declared.shares.PartRegisters.{PartRegisters}
use Rattle.vd_backend_sharing.specs.PairCalls.{applied_shares, numbered_shares, masking_from, unmasked, completed, product_shares}
use Rattle.vd_bits.specs.BitCalls.{parts_at, shifted_left, shifted_right, turned_first, mask_at, masked_shares, gate_shares, newest_of, gates_shares}
use Rattle.vd_projection.specs.Fits.{IsLow, ActFits, GadgetFits}
use Rattle.vd_projection.proofs.Bounds.{low_more, taken_low, two_fit, gadgets_fit}
use Rattle.vd_projection.proofs.Pairs.{both_low, starts, SharesFit, SharesMade, shares_more}

-- what a gate takes of the two hosts together
abbrev pub gate_cost : Gate → ℕ
gate_cost (And x y) = 28
gate_cost (Xor x y) = 2
gate_cost (Shl k x) = 2
gate_cost (Shr k x) = 2
gate_cost (Not x) = 2
gate_cost (Flip x) = 2
gate_cost (Lowest x) = 4
gate_cost (Mask x) = 8

abbrev pub gates_cost : List Gate → ℕ
gates_cost [] = 0
gates_cost (g ∷ gates) = gate_cost g + gates_cost gates

module _ (hosts N : ℕ) (a b : HostId) (here : a.0 < hosts) (there : b.0 < hosts) where
  pub applied_made : (o : Binary) (x y : PartRegisters) (m n : ℕ) (next : List ℕ) → SharesFit m x → SharesFit m y → IsLow m next → m + 2 ≤ n → n ≤ N → SharesMade hosts N n (applied_shares o a b x y next)
  applied_made o x y m n next f g low le most =
      let s = starts a b m n 1 1 next low le in
      let p = s.0 in
      let q = s.1 in
      let x0 = f.0 in
      let x1 = f.1 in
      let y0 = g.0 in
      let y1 = g.1 in
      record {
        low = both_low a b 1 1 m n next low le;
        given = (omega (arith, p), omega (arith, q));
        gadgets = (
          ((omega (arith, p, most), omega (arith, x0, le, most), omega (arith, y0, le, most)), tt),
          (((omega (arith, q, most), omega (arith, x1, le, most), omega (arith, y1, le, most)), tt), tt),
        );
      }

  -- ---- shifts, bits that are turned, and masks

  shifted_left_made : (k : ℕ) (x : PartRegisters) (m n : ℕ) (next : List ℕ) → SharesFit m x → IsLow m next → m + 2 ≤ n → n ≤ N → SharesMade hosts N n (shifted_left k a b x next)
  shifted_left_made k x m n next f low le most =
      let s = starts a b m n 1 1 next low le in
      let p = s.0 in
      let q = s.1 in
      let x0 = f.0 in
      let x1 = f.1 in
      record {
        low = both_low a b 1 1 m n next low le;
        given = (omega (arith, p), omega (arith, q));
        gadgets = (((omega (arith, p, most), omega (arith, x0, le, most)), tt), (((omega (arith, q, most), omega (arith, x1, le, most)), tt), tt));
      }

  shifted_right_made : (k : ℕ) (x : PartRegisters) (m n : ℕ) (next : List ℕ) → SharesFit m x → IsLow m next → m + 2 ≤ n → n ≤ N → SharesMade hosts N n (shifted_right k a b x next)
  shifted_right_made k x m n next f low le most =
      let s = starts a b m n 1 1 next low le in
      let p = s.0 in
      let q = s.1 in
      let x0 = f.0 in
      let x1 = f.1 in
      record {
        low = both_low a b 1 1 m n next low le;
        given = (omega (arith, p), omega (arith, q));
        gadgets = (((omega (arith, p, most), omega (arith, x0, le, most)), tt), (((omega (arith, q, most), omega (arith, x1, le, most)), tt), tt));
      }

  turned_made : (k : ℕ) (x : PartRegisters) (m n : ℕ) (next : List ℕ) → SharesFit m x → IsLow m next → m + 2 ≤ n → n ≤ N → SharesMade hosts N n (turned_first k a b x next)
  turned_made k x m n next f low le most =
      let p = low a.0 in
      let x0 = f.0 in
      let x1 = f.1 in
      record {
        low = low_more (m + 2) n (taken a 2 next) le (taken_low a 2 m next low);
        given = (omega (arith, p, le), omega (arith, x1, le));
        gadgets = ((omega (arith, p, le, most), tt), (((omega (arith, p, le, most), omega (arith, x0, le, most), omega (arith, p, le, most)), tt), tt));
      }

  pub numbered_made : (o : Binary) (k : ℕ) (x : PartRegisters) (m n : ℕ) (next : List ℕ) → SharesFit m x → IsLow m next → m + 4 ≤ n → n ≤ N → SharesMade hosts N n (numbered_shares o k a b x next)
  numbered_made o k x m n next f low le most =
      let s = starts a b m n 2 2 next low le in
      let p = s.0 in
      let q = s.1 in
      let x0 = f.0 in
      let x1 = f.1 in
      record {
        low = both_low a b 2 2 m n next low le;
        given = (omega (arith, p), omega (arith, q));
        gadgets = (
          (omega (arith, p, most), tt),
          (
            ((omega (arith, p, most), omega (arith, x0, le, most), omega (arith, p, most)), tt),
            ((omega (arith, q, most), tt), (((omega (arith, q, most), omega (arith, x1, le, most), omega (arith, q, most)), tt), tt)),
          ),
        );
      }

  -- ---- products

  take_fits : (s : Sharing) (p : HostId) (r : ℕ) → r + 3 ≤ N → ActionFits N (take s p (register r) (register (r + 1)) (register (r + 2)))
  take_fits BySums p r le = (omega (arith, le), omega (arith, le), omega (arith, le))
  take_fits ByXors p r le = (omega (arith, le), omega (arith, le), omega (arith, le))

  -- what one host does before it tells
  side_fits : (s : Sharing) (h peer : HostId) (x y : Reg) (r : ℕ) → x.0 < N → y.0 < N → r + 7 ≤ N → Each (ActFits hosts N) (masking s (masking_from h x y r) peer)
  side_fits s h peer x y r p q le = (
    take_fits s peer r (omega (arith, le)),
    ((omega (arith, le), p, omega (arith, le)), ((omega (arith, le), q, omega (arith, le)), tt)),
  )

  told_fits : (h k : HostId) (x y u v : Reg) (r q : ℕ) → h.0 < hosts → k.0 < hosts → r + 7 ≤ N → q + 7 ≤ N → Each (ActFits hosts N) (told_by (masking_from h x y r) (masking_from k u v q))
  told_fits h k x y u v r q p o le low = ((p, o, two_fit N (register (r + 3)) (register (r + 4)) (omega (arith, le)) (omega (arith, le)), two_fit N (register (q + 5)) (register (q + 6)) (omega (arith, low)) (omega (arith, low))), tt)

  acts_both : (xs ys : List Act) → Each (ActFits hosts N) xs → Each (ActFits hosts N) ys → Each (ActFits hosts N) (xs ++ ys)
  acts_both [] ys f g = g
  acts_both (x ∷ xs) ys f g = (f.0, acts_both xs ys f.1 g)

  unmasked_fits : (s : Sharing) (h : HostId) (r : ℕ) → r + 13 ≤ N → Each (GadgetFits hosts N) (unmasked s h r)
  unmasked_fits s h r le = (
    ((omega (arith, le), omega (arith, le), omega (arith, le)), tt),
    (
      ((omega (arith, le), omega (arith, le), omega (arith, le)), tt),
      (
        ((omega (arith, le), omega (arith, le), omega (arith, le)), tt),
        (
          ((omega (arith, le), omega (arith, le), omega (arith, le)), tt),
          (
            ((omega (arith, le), omega (arith, le), omega (arith, le)), tt),
            (((omega (arith, le), omega (arith, le), omega (arith, le)), tt), tt),
          ),
        ),
      ),
    ),
  )

  completed_fits : (s : Sharing) (h : HostId) (r : ℕ) → r + 15 ≤ N → Each (GadgetFits hosts N) (completed s h r)
  completed_fits s h r le = (((omega (arith, le), omega (arith, le), omega (arith, le)), tt), (((omega (arith, le), omega (arith, le), omega (arith, le)), tt), tt))

  pub product_made : (s : Sharing) (x y : PartRegisters) (m n : ℕ) (next : List ℕ) → SharesFit m x → SharesFit m y → IsLow m next → m + 28 ≤ n → n ≤ N → SharesMade hosts N n (product_shares s a b x y next)
  unfolding product_shares
  product_made s x y m n next f g low le most =
      let z = starts a b m n 15 13 next low le in
      let p = z.0 in
      let q = z.1 in
      let x0 = f.0 in
      let x1 = f.1 in
      let y0 = g.0 in
      let y1 = g.1 in
      let r : ℕ = slice_index next a.0 in
      let k : ℕ = slice_index (taken a 15 next) b.0 in
      let one = side_fits s a b x.first y.first r (omega (arith, x0, le, most)) (omega (arith, y0, le, most)) (omega (arith, p, most)) in
      let other = side_fits s b a x.second y.second k (omega (arith, x1, le, most)) (omega (arith, y1, le, most)) (omega (arith, q, most)) in
      let said = told_fits a b x.first y.first x.second y.second r k here there (omega (arith, p, most)) (omega (arith, q, most)) in
      let heard = told_fits b a x.second y.second x.first y.first k r there here (omega (arith, q, most)) (omega (arith, p, most)) in
      let u : Masking = masking_from a x.first y.first r in
      let v : Masking = masking_from b x.second y.second k in
      record {
        low = both_low a b 15 13 m n next low le;
        given = (omega (arith, p), omega (arith, q));
        gadgets = (
          acts_both (masking s u b) (masking s v a ++ (told_by u v ++ told_by v u)) one (acts_both (masking s v a) (told_by u v ++ told_by v u) other (acts_both (told_by u v) (told_by v u) said heard)),
          gadgets_fit hosts N (unmasked s a r) (completed s a r ++ unmasked s b k) (unmasked_fits s a r (omega (arith, p, most)))
              (gadgets_fit hosts N (completed s a r) (unmasked s b k) (completed_fits s a r (omega (arith, p, most))) (unmasked_fits s b k (omega (arith, q, most)))),
        );
      }

  masked_made : (x : PartRegisters) (m n : ℕ) (next : List ℕ) → SharesFit m x → IsLow m next → m + 8 ≤ n → n ≤ N → SharesMade hosts N n (masked_shares a b x next)
  masked_made x m n next f low le most =
      let z = starts a b m n 4 4 next low le in
      let p = z.0 in
      let q = z.1 in
      let x0 = f.0 in
      let x1 = f.1 in
      record {
        low = both_low a b 4 4 m n next low le;
        given = (omega (arith, p), omega (arith, q));
        gadgets = gadgets_fit hosts N (mask_at a x.first (slice_index next a.0)) (mask_at b x.second (slice_index (taken a 4 next) b.0))
            (mask_fits a x.first (slice_index next a.0) (omega (arith, x0, le, most)) (omega (arith, p, most)))
            (mask_fits b x.second (slice_index (taken a 4 next) b.0) (omega (arith, x1, le, most)) (omega (arith, q, most)));
      }
    where
      mask_fits : (h : HostId) (y : Reg) (r : ℕ) → y.0 < N → r + 4 ≤ N → Each (GadgetFits hosts N) (mask_at h y r)
      mask_fits h y r p le = (
        (omega (arith, le), tt),
        (((omega (arith, le), omega (arith, le), p), tt), ((omega (arith, le), tt), (((omega (arith, le), omega (arith, le), omega (arith, le)), tt), tt))),
      )

  -- ---- one gate, and gates one after the other

  part_fits : (m : ℕ) (words : List PartRegisters) (place : ℕ) → Each (SharesFit m) words → SharesFit m (parts_at words place)
  part_fits m [] place f = (omega arith, omega arith)
  part_fits m (x ∷ words) zero f = f.0
  part_fits m (x ∷ words) (suc place) f = part_fits m words place f.1

  gate_made : (g : Gate) (words : List PartRegisters) (m n : ℕ) (next : List ℕ) → Each (SharesFit m) words → IsLow m next → m + gate_cost g ≤ n → n ≤ N → SharesMade hosts N n (gate_shares a b g words next)
  gate_made (And x y) words m n next f low le most = product_made ByXors (parts_at words x) (parts_at words y) m n next (part_fits m words x f) (part_fits m words y f) low le most
  gate_made (Xor x y) words m n next f low le most = applied_made binary.Xor (parts_at words x) (parts_at words y) m n next (part_fits m words x f) (part_fits m words y f) low le most
  gate_made (Shl k x) words m n next f low le most = shifted_left_made k (parts_at words x) m n next (part_fits m words x f) low le most
  gate_made (Shr k x) words m n next f low le most = shifted_right_made k (parts_at words x) m n next (part_fits m words x f) low le most
  gate_made (Not x) words m n next f low le most = turned_made 4294967295 (parts_at words x) m n next (part_fits m words x f) low le most
  gate_made (Flip x) words m n next f low le most = turned_made 1 (parts_at words x) m n next (part_fits m words x f) low le most
  gate_made (Lowest x) words m n next f low le most = numbered_made binary.And 1 (parts_at words x) m n next (part_fits m words x f) low le most
  gate_made (Mask x) words m n next f low le most = masked_made (parts_at words x) m n next (part_fits m words x f) low le most

  words_more : (m n : ℕ) (words : List PartRegisters) (x : PartRegisters) → m ≤ n → Each (SharesFit m) words → SharesFit n x → Each (SharesFit n) (words ++ x ∷ [])
  words_more m n [] x le f g = (g, tt)
  words_more m n (w ∷ words) x le f g = (shares_more m n w le f.0, words_more m n words x le f.1 g)

  pub gates_made : (gates : List Gate) (words : List PartRegisters) (m n : ℕ) (next : List ℕ) → Each (SharesFit m) words → IsLow m next → m + gates_cost gates ≤ n → n ≤ N
      → SharesMade hosts N n (gates_shares a b gates words next)
  gates_made [] words m n next f low le most = record {
    low = low_more m n next (omega (arith, le)) low;
    given = shares_more m n (newest_of words) (omega (arith, le)) (part_fits m words (length words - 1) f);
    gadgets = tt;
  }
  gates_made (g ∷ gates) words m n next f low le most =
      let first : Made PartRegisters = gate_shares a b g words next in
      let one = gate_made g words m (m + gate_cost g) next f low (omega arith) (within (gate_cost g) (gates_cost gates) le) in
      let rest = gates_made gates (words ++ first.given ∷ []) (m + gate_cost g) n first.next (words_more m (m + gate_cost g) words first.given (omega arith) f one.given) one.low (later (gate_cost g) (gates_cost gates) le) most in
      record {
        low = rest.low;
        given = rest.given;
        gadgets = gadgets_fit hosts N first.gadgets (gates_shares a b gates (words ++ first.given ∷ []) first.next).gadgets one.gadgets rest.gadgets;
      }
    where
      within : (c d : ℕ) → m + (c + d) ≤ n → m + c ≤ N
      within c d e = omega (arith, e, most)

      later : (c d : ℕ) → m + (c + d) ≤ n → m + c + d ≤ n
      later c d e = omega (arith, e)

-- ---- the gates of operations

-- those of MIN and MAX are the dearest
pub few_gates : (o : Op) → gates_cost (gates_of o) ≤ 360
unfolding gates_of
few_gates op.Add = lit≤ tt
few_gates op.Sub = lit≤ tt
few_gates op.Mul = lit≤ tt
few_gates (op.Scale k) = lit≤ tt
few_gates op.Div = lit≤ tt
few_gates op.Rem = lit≤ tt
few_gates op.And = lit≤ tt
few_gates op.Or = lit≤ tt
few_gates op.Xor = lit≤ tt
few_gates op.Not = lit≤ tt
few_gates op.Flip = lit≤ tt
few_gates (op.Shl k) = lit≤ tt
few_gates (op.Shr k) = lit≤ tt
few_gates op.Eq = lit≤ tt
few_gates op.Ne = lit≤ tt
few_gates op.Lt = lit≤ tt
few_gates op.Le = lit≤ tt
few_gates op.Min = lit≤ tt
few_gates op.Max = lit≤ tt
few_gates op.Mux = lit≤ tt
