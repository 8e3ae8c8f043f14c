-- The other calls of two hosts that share words.
use Rattle.std.proofs.Common.{ℕ, ◌+◌, ◌<◌, ◌≤◌, nat_eq, Bool, true, false, if◌then◌else◌, List, slice_index, arith}
use Rattle.vd_base.specs.declared.ids.HostId.{HostId}
use Rattle.vd_execution.specs.declared.instructions.Reg.{Reg}
use Rattle.vd_execution.specs.Gadgets.{Sharing}
use Rattle.vd_execution.specs.Text.{register}
use Rattle.vd_duet.specs.Builder.{next_at, taken}
use Rattle.vd_duet.specs.Calls.{Places}
use Rattle.vd_duet.specs.Laws.{Each}
use Rattle.vd_backend_sharing.specs.declared.shares.PartRegisters.{PartRegisters}
use Rattle.vd_backend_sharing.specs.PairCalls.{literal_shares, split_off, exchanged, shared_from, adopted_shares, opened_by, shown_at, shown_to_both, kept_shares, renewed_shares}
use Rattle.vd_projection.specs.Fits.{IsLow, GadgetFits, PlacesFit}
use Rattle.vd_projection.proofs.Bounds.{low_more, taken_low, one_fits, RegFits}
use Rattle.vd_projection.proofs.Clear.{register_fits}
use Rattle.vd_projection.proofs.Pairs.{both_low, starts, SharesFit, SharesMade}

-- a word goes into two parts, and a part is opened
module _ (hosts N : ℕ) where
  split_made : (s : Sharing) (h q : HostId) → h.0 < hosts → q.0 < hosts → (x : Reg) (m n : ℕ) (next : List ℕ) → x.0 ≤ m → IsLow m next → m + 3 ≤ n → n ≤ N
      → SharesMade hosts N n (split_off s h q x next)
  split_made s h q here there x m n next below low le most =
      let z = starts h q m n 2 1 next low le in
      let p = z.0 in
      let r = z.1 in
      record {
        low = both_low h q 2 1 m n next low le;
        given = (omega (arith, p), omega (arith, r));
        gadgets = (
          (
            omega (arith, p, most),
            ((here, there, one_fits N (register (slice_index next h.0)) (omega (arith, p, most)), one_fits N (register (slice_index (taken h 2 next) q.0)) (omega (arith, r, most))), tt),
          ),
          (((omega (arith, p, most), omega (arith, below, le, most), omega (arith, p, most)), tt), tt),
        );
      }

  opened_made : (s : Sharing) (q h : HostId) → q.0 < hosts → h.0 < hosts → (part own : Reg) (m n : ℕ) (next : List ℕ) → part.0 ≤ m → own.0 ≤ m → IsLow m next → m + 2 ≤ n → n ≤ N
      → RegFits hosts N 1 n (opened_by s q part h own next)
  opened_made s q h there here part own m n next f g low le most =
      let p = low h.0 in
      record {
        low = low_more (m + 2) n (taken h 2 next) le (taken_low h 2 m next low);
        given = omega (arith, p, le);
        gadgets = (
          ((there, here, one_fits N part (omega (arith, f, le, most)), one_fits N (next_at next h) (omega (arith, p, le, most))), tt),
          (((omega (arith, p, le, most), omega (arith, g, le, most), omega (arith, p, le, most)), tt), tt),
        );
      }

module _ (hosts N : ℕ) (a b : HostId) (here : a.0 < hosts) (there : b.0 < hosts) where
  pub literal_made : (v m n : ℕ) (next : List ℕ) → IsLow m next → m + 2 ≤ n → n ≤ N → SharesMade hosts N n (literal_shares a b v next)
  literal_made v m n next low le most =
      let z = starts a b m n 1 1 next low le in
      let p = z.0 in
      let q = z.1 in
      record { low = both_low a b 1 1 m n next low le; given = (omega (arith, p), omega (arith, q)); gadgets = ((omega (arith, p, most), tt), ((omega (arith, q, most), tt), tt)) }

  pub kept_made : (x : PartRegisters) (m n : ℕ) (next : List ℕ) → SharesFit m x → IsLow m next → m + 2 ≤ n → n ≤ N → SharesMade hosts N n (kept_shares a b x next)
  kept_made x m n next f low le most =
      let z = starts a b m n 1 1 next low le in
      let p = z.0 in
      let q = z.1 in
      let x0 = f.0 in
      let x1 = f.1 in
      record {
        low = both_low a b 1 1 m n next low le;
        given = (omega (arith, p), omega (arith, q));
        gadgets = (((omega (arith, p, most), omega (arith, x0, le, most)), tt), (((omega (arith, q, most), omega (arith, x1, le, most)), tt), tt));
      }

  pub renewed_made : (kept x : PartRegisters) (n : ℕ) → SharesFit n kept → SharesFit n x → n < N → Each (GadgetFits hosts N) (renewed_shares a b kept x)
  renewed_made kept x n f g lt =
      let k0 = f.0 in
      let k1 = f.1 in
      let x0 = g.0 in
      let x1 = g.1 in
      (((omega (arith, k0, lt), omega (arith, x0, lt)), tt), (((omega (arith, k1, lt), omega (arith, x1, lt)), tt), tt))

  pub adopted_made : (x : Places) (m n : ℕ) (next : List ℕ) → PlacesFit hosts 0 m x → IsLow m next → m + 2 ≤ n → n ≤ N → SharesMade hosts N n (adopted_shares a b x next)
  adopted_made x m n next f low le most =
      let p = low b.0 in
      let r = register_fits hosts N 0 m x a.0 (omega arith) f in
      record { low = low_more (m + 1) n (taken b 1 next) (omega (arith, le)) (taken_low b 1 m next low); given = (omega (arith, r, le), omega (arith, p, le)); gadgets = ((omega (arith, p, le, most), tt), tt) }

  -- both open their parts
  pub shown_made : (s : Sharing) (x : PartRegisters) (m n : ℕ) (next : List ℕ) → SharesFit m x → IsLow m next → m + 4 ≤ n → n ≤ N → SharesMade hosts N n (shown_to_both s a b x next)
  shown_made s x m n next f low le most =
      let z = starts a b m n 2 2 next low le in
      let p = z.0 in
      let q = z.1 in
      let x0 = f.0 in
      let x1 = f.1 in
      record {
        low = both_low a b 2 2 m n next low le;
        given = (omega (arith, p), omega (arith, q));
        gadgets = (
          ((here, there, one_fits N x.first (omega (arith, x0, le, most)), one_fits N (register (slice_index (taken a 2 next) b.0)) (omega (arith, q, most))), tt),
          (
            ((there, here, one_fits N x.second (omega (arith, x1, le, most)), one_fits N (register (slice_index next a.0)) (omega (arith, p, most))), tt),
            (((omega (arith, p, most), omega (arith, x0, le, most), omega (arith, p, most)), tt), (((omega (arith, q, most), omega (arith, x1, le, most), omega (arith, q, most)), tt), tt)),
          ),
        );
      }

  -- one of them has a word, and shares it
  pub shared_made : (s : Sharing) (from : HostId) (x : Reg) (m n : ℕ) (next : List ℕ) → x.0 ≤ m → IsLow m next → m + 3 ≤ n → n ≤ N → SharesMade hosts N n (shared_from s a b from x next)
  shared_made s from x m n next below low le most = at (nat_eq from.0 a.0)
    where
      at : (z : Bool) → SharesMade hosts N n (if z then split_off s a b x next else exchanged (split_off s b a x next))
      at true = split_made hosts N s a b here there x m n next below low le most
      at false =
          let f = split_made hosts N s b a there here x m n next below low le most in
          record { low = f.low; given = (f.given.1, f.given.0); gadgets = f.gadgets }

  -- one of them is shown the word
  pub opened_to_one : (s : Sharing) (x : PartRegisters) (to : HostId) (m n : ℕ) (next : List ℕ) → SharesFit m x → IsLow m next → m + 2 ≤ n → n ≤ N → RegFits hosts N 1 n (shown_at s a b x to next)
  opened_to_one s x to m n next f low le most = at (nat_eq to.0 a.0)
    where
      at : (z : Bool) → RegFits hosts N 1 n (if z then opened_by s b x.second a x.first next else opened_by s a x.first b x.second next)
      at true = opened_made hosts N s b a there here x.second x.first m n next f.1 f.0 low le most
      at false = opened_made hosts N s a b here there x.first x.second m n next f.0 f.1 low le most
