-- The calls of a commitment take few registers.
use Rattle.std.proofs.Common.{ℕ, zero, suc, ◌+◌, ◌<◌, ◌≤◌, nat_eq, Bool, true, false, if◌then◌else◌, List, [], ◌∷◌, ◌++◌, arith}
use Rattle.vd_base.specs.declared.ids.HostId.{HostId}
use Rattle.vd_execution.specs.declared.instructions.Reg.{Reg}
use Rattle.vd_duet.specs.Calls.{Places, Made}
use Rattle.vd_commit.specs.declared.ends.Held.{Held}
use Rattle.vd_commit.specs.declared.ends.Seen.{Seen}
use Rattle.vd_commit.specs.Commit.{eight, committed, revealed}
use Rattle.vd_backend_laws.specs.Commits.{at_one, committed_at, place, held_of, seen_of, nothing_made, taken_over, bound, shown_bound, shown_to_all, commit_calls}
use Rattle.vd_projection.specs.Fits.{PlacesFit, PartsFit, WordMade, RegisterMade, Room, CallsFit}
use Rattle.vd_projection.proofs.Bounds.{low_more, RegFits, host_word}
use Rattle.vd_projection.proofs.CommitmentSizes.{AreUnder, eight_under, committing_fits, revealing_fits}

module _ (hosts N : ℕ) where
  -- registers of one host
  row_fits : (h : HostId) (n : ℕ) (rs : List Reg) → h.0 < hosts → AreUnder n rs → PlacesFit hosts 1 n (at_one h rs)
  row_fits h n [] here f = tt
  row_fits h n (r ∷ rs) here f = ((here, let p = f.0 in omega (arith, p)), row_fits h n rs here f.1)

  one_then : (n : ℕ) (x y : Places) → PlacesFit hosts 1 n x → PlacesFit hosts 1 n y → PlacesFit hosts 1 n (x ++ y)
  one_then n [] y f g = g
  one_then n (q ∷ x) y f g = (f.0, one_then n x y f.1 g)

  -- those of a commitment are as many as parts can have
  bound_parts : (p v : HostId) → p.0 < hosts → v.0 < hosts → (ends : Held × Seen) (n : ℕ) → ends.0.value.0 < n → ends.0.nonce.0 + 8 ≤ n → ends.1.digest.0 + 8 ≤ n
      → PartsFit hosts 1 n (committed_at p v ends)
  bound_parts p v here there ends n value nonce digest = record {
    few = omega arith;
    at = one_then n (at_one p (ends.0.value ∷ eight ends.0.nonce.0)) (at_one v (eight ends.1.digest.0))
        (row_fits p n (ends.0.value ∷ eight ends.0.nonce.0) here (value, eight_under n ends.0.nonce.0 nonce)) (row_fits v n (eight ends.1.digest.0) there (eight_under n ends.1.digest.0 digest));
  }

  -- a register at a place is at most as great as all are
  place_fits : (m : ℕ) (x : Places) (i : ℕ) → PlacesFit hosts 0 m x → (place x i).0 ≤ m
  place_fits m [] i f = omega arith
  place_fits m (q ∷ x) zero f = let p = f.0.1 in omega (arith, p)
  place_fits m (q ∷ x) (suc i) f = place_fits m x i f.1

  nothing_fits : (m n : ℕ) (next : List ℕ) → Room N m n next → WordMade hosts N n (nothing_made next)
  nothing_fits m n next room =
      let more : m + 384 ≤ n = room.more in
      record { low = low_more m n next (omega (arith, more)) room.low; given = record { few = omega arith; at = tt }; gadgets = tt }

  -- ---- its calls

  module _ (p v : HostId) (here : p.0 < hosts) (there : v.0 < hosts) where
    bound_fits : (x : Reg) (m n : ℕ) (next : List ℕ) → x.0 ≤ m → Room N m n next → WordMade hosts N n (bound p v x next)
    bound_fits x m n next below room =
        let f = committing_fits hosts N p v here there x m n next below room in
        record { low = f.low; given = bound_parts p v here there (committed p v x next).given n f.value f.nonce f.digest; gadgets = f.gadgets }

    revealed_fits : (x : Places) (m n : ℕ) (next : List ℕ) → PlacesFit hosts 0 m x → Room N m n next → RegisterMade hosts N n (revealed p v (held_of x) (seen_of x) next)
    revealed_fits x m n next f room =
        revealing_fits hosts N p v here there (held_of x) (seen_of x) m n next (place_fits m x 0 f) (place_fits m x 1 f) (place_fits m x 9 f) room

    shown_fits : (to : HostId) (x : Places) (m n : ℕ) (next : List ℕ) → PlacesFit hosts 0 m x → Room N m n next → RegFits hosts N 1 n (shown_bound p v x to next)
    shown_fits to x m n next f room = at (nat_eq to.0 p.0)
      where
        at : (b : Bool) → RegFits hosts N 1 n (if b then taken_over (place x 0) next else revealed p v (held_of x) (seen_of x) next)
        at true =
            let more : m + 384 ≤ n = room.more in
            let low = place_fits m x 0 f in
            record { low = low_more m n next (omega (arith, more)) room.low; given = omega (arith, low, more); gadgets = tt }
        at false = let r = revealed_fits x m n next f room in let lt = r.given in record { low = r.low; given = omega (arith, lt); gadgets = r.gadgets }

    both_fit : (x : Places) (m n : ℕ) (next : List ℕ) → PlacesFit hosts 0 m x → Room N m n next → WordMade hosts N n (shown_to_all p v x next)
    both_fit x m n next f room =
        let more : m + 384 ≤ n = room.more in
        let low = place_fits m x 0 f in
        let r = revealed_fits x m n next f room in
        let lt = r.given in
        record {
          low = r.low;
          given = record { few = omega arith; at = ((here, omega (arith, low, more)), ((there, omega (arith, lt)), tt)) };
          gadgets = r.gadgets;
        }

    -- the same registers, as those of these hosts
    pub same_bound_fits : (x : Places) (m n : ℕ) (next : List ℕ) → PlacesFit hosts 0 m x → Room N m n next
        → WordMade hosts N n (let made : Made Places = record { given = committed_at p v (held_of x, seen_of x); gadgets = []; next = next } in made)
    same_bound_fits x m n next f room =
        let more : m + 384 ≤ n = room.more in
        let value = place_fits m x 0 f in
        let nonce = place_fits m x 1 f in
        let digest = place_fits m x 9 f in
        record {
          low = low_more m n next (omega (arith, more)) room.low;
          given = bound_parts p v here there (held_of x, seen_of x) n (omega (arith, value, more)) (omega (arith, nonce, more)) (omega (arith, digest, more));
          gadgets = tt;
        }

    pub commit_fits : CallsFit hosts N (commit_calls p v)
    commit_fits = record {
      literal = λ k m n next room. nothing_fits m n next room;
      share = λ from known x m n next below room. bound_fits x m n next below room;
      adopt = λ x m n next f room. nothing_fits m n next room;
      show = λ to known x m n next f room. host_word hosts N to (shown_bound p v x to next) n known (shown_fits to x m n next f.at room);
      show_all = λ x m n next f room. both_fit x m n next f.at room;
      keep = λ x m n next f room. nothing_fits m n next room;
      renew = λ kept x n f g lt. tt;
      apply = λ o xs m n next f room. nothing_fits m n next room;
    }
