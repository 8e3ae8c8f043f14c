-- What a host knows that came past its comparisons.
use Rattle.std.specs.Prelude.{◌≡◌, ◌≢◌, ℕ, ◌+◌, ◌≤◌, false, List, [], ◌∷◌, length}
use Rattle.vd_base.specs.declared.ids.HostId.{HostId}
use Rattle.vd_base.specs.Holders.{is_among}
use Rattle.vd_execution.specs.declared.instructions.Reg.{Reg}
use Rattle.vd_execution.specs.Acts.{do_then}
use Rattle.vd_execution.specs.Code.{Code}
use Rattle.vd_execution.specs.Gadgets.{Gadget, acts_of_gadgets}
use Rattle.vd_execution.specs.Joint.{Joint, code_of}
use Rattle.vd_execution.specs.Registers.{Registers, digest_of, words_from}
use Rattle.vd_execution.specs.Step.{State}
use Rattle.vd_duet.specs.Calls.{Places, hosts_of}
use Rattle.vd_clear.specs.Copies.{compared, shown, told}
use Rattle.vd_commit.specs.Commit.{revealing}
use Rattle.vd_commit.specs.declared.ends.Held.{Held}
use Rattle.vd_commit.specs.declared.ends.Seen.{Seen}
use Rattle.vd_integrity_runs.specs.Alone.{Goes}

-- the code of a host for gadgets, and then for the rest
abbrev pub code_for : HostId → List Gadget → Joint → Code
code_for h gadgets rest = code_of h.0 (do_then (acts_of_gadgets gadgets) rest)

-- each of these registers has this word
abbrev pub AllHave : Registers → ℕ → List Reg → Type 0
AllHave f word [] = Unit {0}
AllHave f word (r ∷ rs) = (f r.0 ≡ word) × AllHave f word rs

-- Whatever it was sent, a host that has done these steps of its part of the comparisons is past them, with the registers that it had.
pub record IsPast (h : HostId) (rest : Joint) (before after : State) : Type 0 where
  pub past : after.pending ≡ code_of h.0 rest
  pub still : after.registers ≡ before.registers

-- The first of some registers was compared with each other one: all have its word.
abbrev pub ComparedAreEqual : Type 0
ComparedAreEqual = (h : HostId) (first : Reg) (others : List Reg) (rest : Joint) (before after : State)
    → before.pending ≡ code_for h (compared h (first ∷ others)) rest → Goes (length others) before after
    → IsPast h rest before after × AllHave after.registers (after.registers first.0) others

-- Copies were shown to a host that has none: it heard each holder, and then compared what it had heard. All were told the same word,
-- in the register that it goes on with.
abbrev pub ShownAreEqual : Type 0
ShownAreEqual = (to : HostId) (first : HostId × Reg) (others : Places) (next : List ℕ) (rest : Joint) (before between after : State)
    → is_among (hosts_of (first ∷ others)) to.0 ≡ false → before.pending ≡ code_for to (shown (first ∷ others) to next).gadgets rest
    → Goes (length (first ∷ others)) before between → Goes (length others) between after
    → (after.pending ≡ code_of to.0 rest)
    × AllHave after.registers (after.registers (shown (first ∷ others) to next).given.0) (told (first ∷ others) to next).given

-- A commitment was opened to a host that kept the digest: it heard a word and a nonce, made their digest, and compared it with its own.
pub record IsOpened (v : HostId) (seen : Seen) (m : ℕ) (rest : Joint) (before after : State) : Type 0 where
  pub past : after.pending ≡ code_of v.0 rest
  pub kept : words_from after.registers seen.digest.0 8 ≡ words_from before.registers seen.digest.0 8
  pub digest : digest_of (words_from after.registers (m + 1) 8) (after.registers m) ≡ words_from before.registers seen.digest.0 8

abbrev pub OpenedHasTheDigest : Type 0
OpenedHasTheDigest = (p v : HostId) (held : Held) (seen : Seen) (m : ℕ) (rest : Joint) (before heard hashed after : State)
    → p.0 ≢ v.0 → seen.digest.0 + 8 ≤ m → before.pending ≡ code_for v (revealing p v held seen m) rest
    → Goes 1 before heard → Goes 1 heard hashed → Goes 8 hashed after → IsOpened v seen m rest before after
