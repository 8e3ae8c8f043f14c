-- What commitments take.
use Rattle.std.proofs.Common.{ℕ, zero, suc, ◌+◌, ◌<◌, ◌≤◌, List, [], ◌∷◌, length, slice_index, lit≤, arith}
use Rattle.std.specs.Prelude.{All}
use Rattle.vd_base.specs.declared.ids.HostId.{HostId}
use Rattle.vd_execution.specs.declared.instructions.Reg.{Reg}
use Rattle.vd_execution.specs.declared.instructions.Action.TheVariants as action
use Rattle.vd_execution.specs.Gadgets.{Gadget, Alone, Tells}
use Rattle.vd_execution.specs.Text.{register}
use Rattle.vd_duet.specs.Builder.{taken}
use Rattle.vd_duet.specs.Laws.{Each}
use Rattle.vd_commit.specs.declared.ends.Held.{Held}
use Rattle.vd_commit.specs.declared.ends.Seen.{Seen}
use Rattle.vd_commit.specs.Commit.{eight, own_each, same_each, committed, revealed}
use Rattle.vd_projection.specs.Fits.{PacketFits, GadgetFits, EndsMade, RegisterMade, Room}
use Rattle.vd_projection.specs.Sizes.{CommittingFits, RevealingFits}
use Rattle.vd_projection.proofs.Bounds.{low_more, taken_low, roomy, gadgets_fit}
use Rattle.vd_projection.proofs.Pairs.{both_low, starts}

-- registers below a number
abbrev pub AreUnder : ℕ → List Reg → Type 0
AreUnder bound rs = Each (λ (r : Reg). r.0 < bound) rs

-- a row of eight
pub eight_under : (bound n : ℕ) → n + 8 ≤ bound → AreUnder bound (eight n)
eight_under bound n le = (
  omega (arith, le),
  (
    omega (arith, le),
    (omega (arith, le), (omega (arith, le), (omega (arith, le), (omega (arith, le), (omega (arith, le), (omega (arith, le), tt)))))),
  ),
)

all_under : (bound : ℕ) (rs : List Reg) → AreUnder bound rs → All (λ (r : Reg). r.0 < bound) rs
all_under bound [] f k d lt = absurd (omega (arith, lt))
all_under bound (r ∷ rs) f zero d lt = f.0
all_under bound (r ∷ rs) f (suc k) d lt = all_under bound rs f.1 k d (omega (arith, lt))

packet_fits : (bound : ℕ) (rs : List Reg) → 0 < length rs → length rs ≤ 9 → AreUnder bound rs → PacketFits bound rs
packet_fits bound rs some few f = (all_under bound rs f, some, few)

module _ (hosts N : ℕ) where
  owns_fit : (h : HostId) (rs : List Reg) → AreUnder N rs → Each (GadgetFits hosts N) (own_each h rs)
  owns_fit h [] f = tt
  owns_fit h (r ∷ rs) f = ((f.0, tt), owns_fit h rs f.1)

  compares_fit : (h : HostId) (xs ys : List Reg) → AreUnder N xs → AreUnder N ys → Each (GadgetFits hosts N) (same_each h xs ys)
  compares_fit h [] ys f g = tt
  compares_fit h (x ∷ xs) [] f g = tt
  compares_fit h (x ∷ xs) (y ∷ ys) f g = (((f.0, g.0), tt), compares_fit h xs ys f.1 g.1)

  pub committing_fits : (p v : HostId) → p.0 < hosts → v.0 < hosts → (x : Reg) (m n : ℕ) (next : List ℕ) → x.0 ≤ m → Room N m n next → EndsMade hosts N n (committed p v x next)
  committing_fits p v here there x m n next below room =
      let all = roomy N 24 m n next (lit≤ tt) room in
      let lt = all.0 in
      let most = all.1 in
      let z = starts p v m (m + 24) 16 8 next room.low (omega arith) in
      let a = z.0 in
      let b = z.1 in
      let r : ℕ = slice_index next p.0 in
      let k : ℕ = slice_index (taken p 16 next) v.0 in
      let hashes : List Gadget = Alone p (action.Hash (register (r + 8)) (register r) x) ∷ Tells p (eight (r + 8)) v (eight k) ∷ [] in
      record {
        low = low_more (m + 24) n (taken v 8 (taken p 16 next)) (omega (arith, lt)) (both_low p v 16 8 m (m + 24) next room.low (omega arith));
        value = omega (arith, below, lt);
        nonce = omega (arith, a, lt);
        digest = omega (arith, b, lt);
        gadgets = gadgets_fit hosts N (own_each p (eight r)) hashes (owns_fit p (eight r) (eight_under N r (omega (arith, a, most)))) (
          ((omega (arith, a, most), omega (arith, a, most), omega (arith, below, most)), tt),
          (
            (
              (
                here,
                there,
                packet_fits N (eight (r + 8)) (omega arith) (omega arith) (eight_under N (r + 8) (omega (arith, a, most))),
                packet_fits N (eight k) (omega arith) (omega arith) (eight_under N k (omega (arith, b, most))),
              ),
              tt,
            ),
            tt,
          ),
        );
      }

  pub revealing_fits : (p v : HostId) → p.0 < hosts → v.0 < hosts → (held : Held) (seen : Seen) (m n : ℕ) (next : List ℕ) → held.value.0 ≤ m → held.nonce.0 ≤ m → seen.digest.0 ≤ m
      → Room N m n next → RegisterMade hosts N n (revealed p v held seen next)
  revealing_fits p v here there held seen m n next value nonce digest room =
      let all = roomy N 17 m n next (lit≤ tt) room in
      let lt = all.0 in
      let most = all.1 in
      let low = room.low v.0 in
      let r : ℕ = slice_index next v.0 in
      record {
        low = low_more (m + 17) n (taken v 17 next) (omega (arith, lt)) (taken_low v 17 m next room.low);
        given = omega (arith, low, lt);
        gadgets = (
          (
            (
              here,
              there,
              packet_fits N (held.value ∷ eight held.nonce.0) (omega arith) (omega arith) (omega (arith, value, most), eight_under N held.nonce.0 (omega (arith, nonce, most))),
              packet_fits N (register r ∷ eight (r + 1)) (omega arith) (omega arith) (omega (arith, low, most), eight_under N (r + 1) (omega (arith, low, most))),
            ),
            tt,
          ),
          (
            ((omega (arith, low, most), omega (arith, low, most), omega (arith, low, most)), tt),
            compares_fit v (eight (r + 9)) (eight seen.digest.0) (eight_under N (r + 9) (omega (arith, low, most))) (eight_under N seen.digest.0 (omega (arith, digest, most))),
          ),
        );
      }

pub committing_fit : CommittingFits
committing_fit hosts bound p v here there x m n next below room = committing_fits hosts bound p v here there x m n next below room

pub revealing_fit : RevealingFits
revealing_fit hosts bound p v here there held seen m n next value nonce digest room = revealing_fits hosts bound p v here there held seen m n next value nonce digest room
