-- What is known of a session, and what each call changes of it.
use Rattle.std.specs.Prelude.{◌≡◌, ◌≤◌, ℕ, ◌+◌, Bool, true, false, not, IsTrue, List, [], ◌++◌, length, take, min, Result, IfOk, OnErr, if◌then◌else◌, nat_lt}
use Rattle.vd_outside.specs.Causes.{Rose}
use Rattle.vd_outside.specs.Link.{LinkView}
use Rattle.vd_channel_crypto.specs.Keys.{direction}
use Rattle.vd_channel_crypto.specs.Records.{sealed}
use Rattle.vd_channel_link.specs.Opened.{flat, plain_of, records}
use Rattle.vd_channel_link.specs.declared.session.Session.{Session}

-- The bytes that are still to come over a link on which these are: those of the last record that are not given yet, and what good
-- records give behind it. Once nothing is taken any more it stays what it was when these bytes were to come, from which no whole
-- record could be taken.
abbrev pub coming_of : Session → (rest raw : List ℕ) → List ℕ
coming_of session rest raw =
    if session.ended then []
    else (if session.closed then plain_of (direction session.theirs) session.next_in rest else session.piece ++ plain_of (direction session.theirs) session.next_in raw)

-- a link in records tells what the link below tells: not its bytes, but those that its records carry
abbrev pub sealed_view : Session → (rest : List ℕ) → LinkView → LinkView
sealed_view session rest below = record {
  told = below.told;
  coming = coming_of session rest below.coming;
  sent = session.sent.bytes;
  ended = session.ended;
  faults = session.faults;
}

-- nothing went over it so far, but for the first record of each direction
pub record IsFresh (session : Session) : Type 0 where
  pub next_out : session.next_out ≡ 1
  pub next_in : session.next_in ≡ 1
  pub piece : session.piece ≡ []
  pub sent : session.sent.bytes ≡ []
  pub ended : session.ended ≡ false
  pub silent : session.silent ≡ false
  pub closed : session.closed ≡ false
  pub faults : session.faults ≡ 0

-- No number is used twice: where it did not go on, nothing went over the link below.
pub record NumberGoesOn (session later : Session) (before now : LinkView) : Type 0 where
  pub never_back : session.next_out ≤ later.next_out
  pub unused : later.next_out ≡ session.next_out → now ≡ before

-- the record with the next number of the own direction went out, with so many of these bytes in it, and nothing else: all of them, or 128
pub record SendsRecord (bytes : List ℕ) (session later : Session) (before now : LinkView) (count : ℕ) : Type 0 where
  pub fills : count ≡ min (length bytes) 128
  pub number : later.next_out ≡ session.next_out + 1
  pub keys : later.ours ≡ session.ours
  pub sends : session.silent ≡ false
  pub still : later.silent ≡ false
  pub told : later.sent.bytes ≡ session.sent.bytes ++ take count bytes
  pub was_told : IsTrue now.told → IsTrue before.told
  pub out : IsTrue now.told → now.sent ≡ before.sent ++ sealed (direction session.ours) session.next_out (take count bytes)

-- no record was begun, and nothing went out
pub record BeginsNone (session later : Session) (before now : LinkView) : Type 0 where
  pub number : later.next_out ≡ session.next_out
  pub keys : later.ours ≡ session.ours
  pub silent : later.silent ≡ session.silent
  pub told : later.sent.bytes ≡ session.sent.bytes
  pub still_told : now.told ≡ before.told
  pub out : IsTrue now.told → now.sent ≡ before.sent

-- a prefix of the record with the next number went out, and nothing is sent any more
pub record CutsRecord (bytes : List ℕ) (session later : Session) (before now : LinkView) : Type 0 where
  pub number : later.next_out ≡ session.next_out + 1
  pub keys : later.ours ≡ session.ours
  pub sends : session.silent ≡ false
  pub silent : later.silent ≡ true
  pub was_told : IsTrue now.told → IsTrue before.told
  pub most : ℕ
  pub out : IsTrue now.told → (count : ℕ) × (now.sent ≡ before.sent ++ take count (sealed (direction session.ours) session.next_out (take most bytes)))

-- a send that fails began no record, or cut one
pub data FailsToSend (bytes : List ℕ) (session later : Session) (before now : LinkView) : Type 0 where
  NoneBegun : BeginsNone session later before now → FailsToSend bytes session later before now
  OneCut : CutsRecord bytes session later before now → FailsToSend bytes session later before now

-- the records of a session so far, behind what had gone out before it
abbrev pub out_of : (start : List ℕ) → Session → (pieces : List (List ℕ)) → List ℕ
out_of start session pieces = start ++ records (direction session.ours) 1 pieces

-- What went out over the link below, behind what had gone out before the session, is a prefix of records of the own direction from number 1 on, as many
-- as were begun. Where it still sends these are whole, and what the session tells that it sent is what they carry.
pub record IsCarried (start : List ℕ) (session : Session) (below : LinkView) : Type 0 where
  pub pieces : List (List ℕ)
  pub number : session.next_out ≡ 1 + length pieces
  pub front : IsTrue below.told → take (length below.sent) (out_of start session pieces) ≡ below.sent
  pub whole : session.silent ≡ false → IsTrue below.told → below.sent ≡ out_of start session pieces
  pub told : session.silent ≡ false → session.sent.bytes ≡ flat pieces

-- a prefix of the record with number 1 is all that went out
pub record IsFirstAlone (start : List ℕ) (session : Session) (below : LinkView) : Type 0 where
  pub piece : List ℕ
  pub front : take (length below.sent) (start ++ sealed (direction session.ours) 1 piece) ≡ below.sent

-- So it is at first, and each call keeps it so. Where no record behind the first was begun, no other went out.
pub record SentIsCarried : Type 0 where
  pub at_first : (session : Session) (below : LinkView) → IsFresh session → IsCarried below.sent session below
  pub sent : (start bytes : List ℕ) (session later : Session) (before now : LinkView) (count : ℕ) → IsCarried start session before
      → SendsRecord bytes session later before now count → IsCarried start later now
  pub failed : (start bytes : List ℕ) (session later : Session) (before now : LinkView) → IsCarried start session before
      → FailsToSend bytes session later before now → IsCarried start later now
  pub received : (start : List ℕ) (session later : Session) (before now : LinkView) → IsCarried start session before
      → BeginsNone session later before now → IsCarried start later now
  pub first_alone : (start : List ℕ) (session : Session) (below : LinkView) → IsCarried start session below
      → nat_lt 2 session.next_out ≡ false → IsTrue below.told → IsFirstAlone start session below

-- Takes the next record, which changes nothing of what is to come. What is told may be that there is none, since the link has ended.
pub record TakesNext {E : Type 0} (before now : LinkView) (result : Result Bool E) : Type 0 where
  pub later : before.faults ≤ now.faults
  pub failed : OnErr result (Rose before.faults now.faults)
  pub ends : IfOk result (λ more. now.ended ≡ not more)
  pub goes_on : OnErr result (now.ended ≡ before.ended)
  pub still_told : now.told ≡ before.told
  pub sent : now.sent ≡ before.sent
  pub coming : IsTrue now.told → now.coming ≡ before.coming
  pub none : IsTrue now.told → IfOk result (λ more. more ≡ false → now.coming ≡ [])
