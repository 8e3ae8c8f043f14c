-- Commitments of which one of the two hosts departs from its program.
use Rattle.std.specs.Prelude.{◌≡◌, ◌≢◌, ℕ, ◌+◌, ◌%◌, ◌^◌, ◌≤◌, ◌⊎◌, Bool, true, List, slice_index}
use Rattle.vd_base.specs.declared.ids.HostId.{HostId}
use Rattle.vd_execution.specs.Joint.{Hosts}
use Rattle.vd_execution.specs.Registers.{digest_of, words_from}
use Rattle.vd_execution.specs.World.{Tape}
use Rattle.vd_commit.specs.declared.ends.Held.{Held}
use Rattle.vd_commit.specs.declared.ends.Seen.{Seen}
use Rattle.vd_commit.specs.Commit.{committed, revealed}
use Rattle.vd_commit.specs.Law.{IsCommitted}
use Rattle.vd_execution.specs.Gadgets.{acts_of_gadgets}
use Rattle.vd_integrity_runs.specs.Departing.{AreStill, RunsGadgets, SendersKeep}
use Rattle.vd_integrity_runs.specs.Digests.{Collide}
use Rattle.vd_execution.specs.declared.instructions.Reg.{Reg}

-- The host that is bound has the word, if it keeps to its program; the other, if it does, the digest of the word and some nonce.
pub record IsBoundTo (keeps : ℕ → Bool) (p v : HostId) (next : List ℕ) (w : Hosts) (held : Held) (seen : Seen) (x : ℕ) : Type 0 where
  pub digest_low : seen.digest.0 + 8 ≤ slice_index next v.0
  pub value : keeps p.0 ≡ true → (w p.0).registers held.value.0 ≡ x
  pub digest : keeps v.0 ≡ true → (nonce : List ℕ) × (words_from (w v.0).registers seen.digest.0 8 ≡ digest_of nonce x)

-- after an opening: what was free is written, and the digest that was kept is that of the word that was told, with the nonce that was
pub record IsOpened (keeps : ℕ → Bool) (v : HostId) (next : List ℕ) (seen : Seen) (w w' : Hosts) : Type 0 where
  pub still : AreStill next w w'
  pub bound : keeps v.0 ≡ true → (nonce : List ℕ)
      × (words_from (w' v.0).registers seen.digest.0 8 ≡ digest_of nonce ((w' v.0).registers (slice_index next v.0)))

-- after an opening of a commitment to a word: that word of 32 bits was told, or two texts collide
pub record IsOpenedTo (keeps : ℕ → Bool) (p v : HostId) (next : List ℕ) (w' : Hosts) (x : ℕ) : Type 0 where
  pub word : keeps v.0 ≡ true → ((w' v.0).registers (slice_index next v.0) % 2 ^ 32 ≡ x % 2 ^ 32) ⊎ Collide
  pub own : keeps p.0 ≡ true → (w' v.0).registers (slice_index next v.0) ≡ x

-- Of a commitment that is made by a host that keeps to its program, and of one whose digest is kept by such a host.
pub record Binds (keeps : ℕ → Bool) (p v : HostId) (t : Tape) (next : List ℕ) (w : Hosts) : Type 0 where
  -- the host that is bound is the only one that sends
  pub commit : (x : Reg) → keeps p.0 ≡ true → SendersKeep keeps (acts_of_gadgets (committed p v x next).gadgets)
  -- what a joint run leads to binds, whoever then departs
  pub committed : (held : Held) (seen : Seen) (x : ℕ) → IsCommitted p v next w held seen x → IsBoundTo keeps p v next w held seen x
  -- Whatever a host that departs had sent as its digest, the first word that it opens is one to which it is bound.
  pub opens : (held : Held) (seen : Seen) → seen.digest.0 + 8 ≤ slice_index next v.0 → (w' : Hosts)
      → RunsGadgets keeps t (revealed p v held seen next).gadgets w w' → IsOpened keeps v next seen w w'
  -- Each time it is opened, the word is that one.
  pub gives : (held : Held) (seen : Seen) (x : ℕ) → IsBoundTo keeps p v next w held seen x → (w' : Hosts)
      → RunsGadgets keeps t (revealed p v held seen next).gadgets w w' → IsOpenedTo keeps p v next w' x

abbrev pub CommitmentsBind : Type 0
CommitmentsBind = (keeps : ℕ → Bool) (p v : HostId) (t : Tape) (next : List ℕ) (w : Hosts) → p.0 ≢ v.0 → Binds keeps p v t next w
