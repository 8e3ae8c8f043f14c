-- What is proved of commitments.
use Rattle.std.specs.Prelude.{◌≡◌, ◌≢◌, ℕ, ◌+◌, ◌<◌, ◌≤◌, List, length, slice_index}
use Rattle.vd_base.specs.declared.ids.HostId.{HostId}
use Rattle.vd_execution.specs.declared.instructions.Reg.{Reg}
use Rattle.vd_execution.specs.Registers.{digest_of, words_from}
use Rattle.vd_execution.specs.World.{Tape}
use Rattle.vd_execution.specs.Joint.{Hosts}
use Rattle.vd_execution.specs.Deals.{IsValidDeal}
use Rattle.vd_execution.specs.Gadgets.{GadgetsAreTidy, IsSound}
use Rattle.vd_duet.specs.Acting.{is_either, acts_at}
use Rattle.vd_duet.specs.Builder.{TakesFew}
use Rattle.vd_duet.specs.Calls.{Made}
use Rattle.vd_duet.specs.Laws.{nowhere, Leads}
use Rattle.vd_commit.specs.declared.ends.Held.{Held}
use Rattle.vd_commit.specs.declared.ends.Seen.{Seen}
use Rattle.vd_commit.specs.Commit.{committed, revealed}

-- the first host has the word, and the second the digest of it and the first host's nonce; the registers were all taken before
pub record IsCommitted (p v : HostId) (next : List ℕ) (w : Hosts) (held : Held) (seen : Seen) (x : ℕ) : Type 0 where
  pub value_low : held.value.0 < slice_index next p.0
  pub nonce_low : held.nonce.0 + 8 ≤ slice_index next p.0
  pub digest_low : seen.digest.0 + 8 ≤ slice_index next v.0
  pub value : (w p.0).registers held.value.0 ≡ x
  pub digest : words_from (w v.0).registers seen.digest.0 8 ≡ digest_of (words_from (w p.0).registers held.nonce.0 8) x

-- a deal and a state in which a call of two hosts that differ can be made
pub record AreReady (p v : HostId) (t : Tape) (next : List ℕ) (w : Hosts) : Type 0 where
  pub apart : p.0 ≢ v.0
  pub deal : IsValidDeal t
  pub sound : IsSound w
  pub first : p.0 < length next
  pub second : v.0 < length next

-- what a call makes is tidy, takes few registers, and leads to a state
pub record LeadsTo {X : Type 0} (t : Tape) (next : List ℕ) (made : Made X) (w : Hosts) (Is : Hosts → Type 0) : Type 0 where
  pub tidy : GadgetsAreTidy made.gadgets
  pub few : TakesFew next made.next
  pub reached : Hosts
  pub leads : Leads t next nowhere made.gadgets w reached
  pub is : Is reached

abbrev pub CommittingBinds : Type 0
CommittingBinds =
    (p v : HostId) (t : Tape) (next : List ℕ) (w : Hosts) → AreReady p v t next w → (x : Reg) → x.0 < slice_index next p.0
    → let made = committed p v x next in
    LeadsTo t next made w (λ u. IsCommitted p v made.next u made.given.0 made.given.1 ((w p.0).registers x.0))

-- the word that is revealed is the one that was committed to; that no comparison fails is a part of where gadgets lead
abbrev pub RevealingGivesTheWord : Type 0
RevealingGivesTheWord =
    (p v : HostId) (t : Tape) (next : List ℕ) (w : Hosts) → AreReady p v t next w → (held : Held) (seen : Seen) (x : ℕ)
    → IsCommitted p v next w held seen x
    → let made = revealed p v held seen next in
    LeadsTo t next made w (λ u. (u v.0).registers made.given.0 ≡ x)

pub record CommitmentsActAtBoth : Type 0 where
  pub commit : (p v : HostId) (x : Reg) (next : List ℕ) (h : ℕ) → acts_at (committed p v x next).gadgets h ≡ is_either h p v
  pub reveal : (p v : HostId) (held : Held) (seen : Seen) (next : List ℕ) (h : ℕ) → acts_at (revealed p v held seen next).gadgets h ≡ is_either h p v
