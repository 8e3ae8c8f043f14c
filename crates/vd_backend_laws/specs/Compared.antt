-- What fails where copies or digests differ, and what a nonce is.
use Rattle.std.specs.Prelude.{◌≡◌, ◌≢◌, ◌<◌, ◌≤◌, ℕ, zero, suc, ◌+◌, false, List, [], ◌∷◌, length, slice_index}
use Rattle.vd_base.specs.declared.ids.HostId.{HostId}
use Rattle.vd_base.specs.Holders.{is_among}
use Rattle.vd_execution.specs.declared.instructions.Reg.{Reg}
use Rattle.vd_execution.specs.Registers.{nth, words_from, digest_of}
use Rattle.vd_execution.specs.Step.{OwnWords}
use Rattle.vd_execution.specs.World.{Tape}
use Rattle.vd_execution.specs.Joint.{Hosts}
use Rattle.vd_execution.specs.Acts.{run_acts, ActsAgree}
use Rattle.vd_execution.specs.Gadgets.{Gadget, acts_of_gadgets}
use Rattle.vd_duet.specs.Calls.{Places, hosts_of, Made}
use Rattle.vd_duet.specs.Laws.{Copies}
use Rattle.vd_clear.specs.Copies.{shown}
use Rattle.vd_commit.specs.declared.ends.Held.{Held}
use Rattle.vd_commit.specs.declared.ends.Seen.{Seen}
use Rattle.vd_commit.specs.Commit.{committed, revealed}

-- the state after gadgets
abbrev pub after : Tape → List Gadget → Hosts → Hosts
after t gadgets w = run_acts t (acts_of_gadgets gadgets) w

-- where copies are shown to a host that has none and no comparison fails, each copy is the word that the host has then
abbrev pub CopiesAreCompared : Type 0
CopiesAreCompared =
    (x : Places) (to : HostId) (t : Tape) (next : List ℕ) (w : Hosts) → to.0 < length next → is_among (hosts_of x) to.0 ≡ false
    → let made : Made Reg = shown x to next in
    ActsAgree t (acts_of_gadgets made.gadgets) w → Copies w x ((after t made.gadgets w to.0).registers made.given.0)

-- so many own words of a host, from a place on
abbrev pub own_words_from : Tape → (h place count : ℕ) → List ℕ
own_words_from t h place zero = []
own_words_from t h place (suc count) = nth (t h OwnWords place) 0 ∷ own_words_from t h (suc place) count

-- the nonce of a commitment is the host's next eight own words, and they are taken
pub record NonceIsDrawn (p v : HostId) (t : Tape) (next : List ℕ) (w : Hosts) (x : Reg) : Type 0 where
  pub words : words_from (after t (committed p v x next).gadgets w p.0).registers (committed p v x next).given.0.nonce.0 8
      ≡ own_words_from t p.0 ((w p.0).cursors OwnWords) 8
  pub taken : (after t (committed p v x next).gadgets w p.0).cursors OwnWords ≡ (w p.0).cursors OwnWords + 8

abbrev pub NoncesAreDrawn : Type 0
NoncesAreDrawn = (p v : HostId) (t : Tape) (next : List ℕ) (w : Hosts) (x : Reg) → p.0 ≢ v.0 → NonceIsDrawn p v t next w x

-- where a commitment is revealed and no comparison fails, the digest that was kept is that of the nonce and the value that are told
abbrev pub DigestsAreCompared : Type 0
DigestsAreCompared =
    (p v : HostId) (t : Tape) (next : List ℕ) (w : Hosts) (held : Held) (seen : Seen) → p.0 ≢ v.0 → seen.digest.0 + 8 ≤ slice_index next v.0
    → ActsAgree t (acts_of_gadgets (revealed p v held seen next).gadgets) w
    → words_from (w v.0).registers seen.digest.0 8 ≡ digest_of (words_from (w p.0).registers held.nonce.0 8) ((w p.0).registers held.value.0)
