-- A commitment as calls: it is made from a word in clear, and shown to one host or to both. No operation stands there, and no variable.
use Rattle.std.specs.Prelude.{ℕ, zero, suc, nat_eq, false, if◌then◌else◌, List, [], ◌∷◌, ◌++◌, map}
use Rattle.vd_base.specs.declared.ids.HostId.{HostId}
use Rattle.vd_base.specs.declared.protocols.Proto.TheVariants.{Commit}
use Rattle.vd_execution.specs.declared.instructions.Reg.{Reg}
use Rattle.vd_execution.specs.Text.{register}
use Rattle.vd_duet.specs.Calls.{Places, Made, Calls}
use Rattle.vd_commit.specs.declared.ends.Held.{Held}
use Rattle.vd_commit.specs.declared.ends.Seen.{Seen}
use Rattle.vd_commit.specs.Commit.{eight, committed, revealed}

-- registers of one host
abbrev pub at_one : HostId → List Reg → Places
at_one h rs = map (λ r. (h, r)) rs

-- its registers: of the host that is bound the value and eight of a nonce, and of the other host eight of a digest
abbrev pub committed_at : HostId → HostId → Held × Seen → Places
committed_at p v ends = at_one p (ends.0.value ∷ eight ends.0.nonce.0) ++ at_one v (eight ends.1.digest.0)

-- the register at a place, and 0 where there is none
abbrev pub place : Places → ℕ → Reg
place [] i = register 0
place (q ∷ x) zero = q.1
place (q ∷ x) (suc i) = place x i

abbrev pub held_of : Places → Held
held_of x = record { value = place x 0; nonce = place x 1 }

abbrev pub seen_of : Places → Seen
seen_of x = record { digest = place x 9 }

-- ---- what is made

abbrev pub nothing_made : List ℕ → Made Places
nothing_made next = record { given = []; gadgets = []; next = next }

-- a register that was there before
abbrev pub taken_over : Reg → List ℕ → Made Reg
taken_over r next = record { given = r; gadgets = []; next = next }

-- a host binds itself to the word of a register
abbrev pub bound : HostId → HostId → Reg → List ℕ → Made Places
bound p v x next = let made = committed p v x next in record { given = committed_at p v made.given; gadgets = made.gadgets; next = made.next }

-- the host that is bound has the value; to the other it is revealed
abbrev pub shown_bound : HostId → HostId → Places → HostId → List ℕ → Made Reg
shown_bound p v x to next = if nat_eq to.0 p.0 then taken_over (place x 0) next else revealed p v (held_of x) (seen_of x) next

abbrev pub shown_to_all : HostId → HostId → Places → List ℕ → Made Places
shown_to_all p v x next =
    let made = revealed p v (held_of x) (seen_of x) next in
    record { given = (p, place x 0) ∷ (v, made.given) ∷ []; gadgets = made.gadgets; next = made.next }

abbrev pub commit_calls : HostId → HostId → Calls
commit_calls p v = record {
  proto = Commit p v;
  serves = λ o. false;
  literal = λ n. nothing_made;
  share = λ from x next. bound p v x next;
  adopt = λ x. nothing_made;
  show = λ x to next. shown_bound p v x to next;
  show_all = λ x next. shown_to_all p v x next;
  keep = λ x. nothing_made;
  renew = λ kept x. [];
  apply = λ o xs. nothing_made;
}
