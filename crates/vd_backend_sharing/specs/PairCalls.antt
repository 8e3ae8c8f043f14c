-- The calls of two hosts that share words. Where both take fresh registers, the first host's come first.
use Rattle.std.specs.Prelude.{ℕ, zero, suc, ◌+◌, ◌<◌, nat_eq, Bool, if◌then◌else◌, List, [], ◌∷◌, ◌++◌, slice_index}
use Rattle.vd_base.specs.declared.ids.HostId.{HostId}
use Rattle.vd_base.specs.declared.operations.Op.{Op}
use Rattle.vd_execution.specs.declared.instructions.Reg.{Reg}
use Rattle.vd_execution.specs.declared.instructions.Binary.{Binary}
use Rattle.vd_execution.specs.declared.instructions.Action.TheVariants as action
use Rattle.vd_execution.specs.declared.instructions.Act.{Act}
use Rattle.vd_execution.specs.declared.instructions.Act.TheVariants as act
use Rattle.vd_execution.specs.Acts.{lines_of}
use Rattle.vd_execution.specs.Gadgets.{Sharing, hide, Masking, Gadget, Alone, Shares as SharesWith, Opens, Masked}
use Rattle.vd_execution.specs.Text.{register}
use Rattle.vd_duet.specs.Builder.{Builder, next_at, taken}
use Rattle.vd_duet.specs.Calls.{Places, Made, Calls, register_of}
use Rattle.vd_backend_sharing.specs.declared.shares.PartRegisters.{PartRegisters}
use Rattle.vd_backend_sharing.specs.Sharings.{shared_by, join, multiply}

-- the registers of two parts
abbrev pub two : ℕ → ℕ → PartRegisters
two r q = record { first = register r; second = register q }

-- the next free registers are below a number
abbrev pub AreUnder : ℕ → List ℕ → Type 0
AreUnder bound next = (h : ℕ) → slice_index next h < bound

-- so far below 2^32 that fresh registers have numbers
abbrev pub AreLow : List ℕ → Type 0
AreLow next = AreUnder 4000000000 next

-- both hosts take fresh registers, i of the first and j of the second, beginning at n and at m
abbrev pub fresh_at : {X : Type 0} → HostId → ℕ → HostId → ℕ → (ℕ → ℕ → X) → (ℕ → ℕ → List Gadget) → List ℕ → Made X
fresh_at a i b j given gadgets next =
    let n : ℕ = slice_index next a.0 in
    let m : ℕ = slice_index (taken a i next) b.0 in
    record { given = given n m; gadgets = gadgets n m; next = taken b j (taken a i next) }

abbrev pub reserved_both : HostId → ℕ → HostId → ℕ → Builder → PartRegisters × Builder
reserved_both a i b j c =
    (two (slice_index c.next a.0) (slice_index (taken a i c.next) b.0), record { lines = c.lines; next = taken b j (taken a i c.next) })

-- ---- numbers and moves

-- the first host has the number, and the second 0
abbrev pub literal_shares : HostId → HostId → ℕ → List ℕ → Made PartRegisters
literal_shares a b v =
    fresh_at a 1 b 1 (λ n m. two n m) (λ n m. Alone a (action.Const (register n) v) ∷ Alone b (action.Const (register m) 0) ∷ [])

-- a host gives an own word to the other, and keeps its word without that. The first part is its own
abbrev pub split_off : Sharing → HostId → HostId → Reg → List ℕ → Made PartRegisters
split_off s h q x =
    fresh_at h 2 q 1 (λ n m. two (n + 1) m)
    (λ n m. SharesWith h (register n) q (register m) ∷ Alone h (action.Apply (hide s) (register (n + 1)) x (register n)) ∷ [])

abbrev pub exchanged : Made PartRegisters → Made PartRegisters
exchanged made = record { given = record { first = made.given.second; second = made.given.first }; gadgets = made.gadgets; next = made.next }

abbrev pub shared_from : Sharing → HostId → HostId → HostId → Reg → List ℕ → Made PartRegisters
shared_from s a b from x next = if nat_eq from.0 a.0 then split_off s a b x next else exchanged (split_off s b a x next)

-- both hosts have a copy: the first keeps its own, and the second's part is 0
abbrev pub adopted_shares : HostId → HostId → Places → List ℕ → Made PartRegisters
adopted_shares a b x next = record {
  given = record { first = register_of x a.0; second = next_at next b };
  gadgets = Alone b (action.Const (next_at next b) 0) ∷ [];
  next = taken b 1 next;
}

-- a host opens its part to the other, which joins them
abbrev pub opened_by : Sharing → HostId → Reg → HostId → Reg → List ℕ → Made Reg
opened_by s q part h own next =
    let n : Reg = next_at next h in
    record {
      given = register (n.0 + 1);
      gadgets = Opens s q part h own n ∷ Alone h (action.Apply (join s) (register (n.0 + 1)) own n) ∷ [];
      next = taken h 2 next;
    }

abbrev pub shown_at : Sharing → HostId → HostId → PartRegisters → HostId → List ℕ → Made Reg
shown_at s a b x to next = if nat_eq to.0 a.0 then opened_by s b x.second a x.first next else opened_by s a x.first b x.second next

-- both open their parts
abbrev pub shown_to_both : Sharing → HostId → HostId → PartRegisters → List ℕ → Made PartRegisters
shown_to_both s a b x =
    fresh_at a 2 b 2 (λ n m. two (n + 1) (m + 1))
    (λ n m. Opens s a x.first b x.second (register m) ∷ Opens s b x.second a x.first (register n)
    ∷ Alone a (action.Apply (join s) (register (n + 1)) x.first (register n))
    ∷ Alone b (action.Apply (join s) (register (m + 1)) x.second (register m)) ∷ [])

abbrev pub kept_shares : HostId → HostId → PartRegisters → List ℕ → Made PartRegisters
kept_shares a b x =
    fresh_at a 1 b 1 (λ n m. two n m)
    (λ n m. Alone a (action.Copy (register n) x.first) ∷ Alone b (action.Copy (register m) x.second) ∷ [])

abbrev pub renewed_shares : HostId → HostId → PartRegisters → PartRegisters → List Gadget
renewed_shares a b kept x = Alone a (action.Copy kept.first x.first) ∷ Alone b (action.Copy kept.second x.second) ∷ []

-- ---- operations

-- each host applies an operation to its parts
abbrev pub applied_shares : Binary → HostId → HostId → PartRegisters → PartRegisters → List ℕ → Made PartRegisters
applied_shares o a b x y =
    fresh_at a 1 b 1 (λ n m. two n m)
    (λ n m. Alone a (action.Apply o (register n) x.first y.first) ∷ Alone b (action.Apply o (register m) x.second y.second) ∷ [])

-- each host applies an operation to its part and a number
abbrev pub numbered_shares : Binary → ℕ → HostId → HostId → PartRegisters → List ℕ → Made PartRegisters
numbered_shares o k a b x =
    fresh_at a 2 b 2 (λ n m. two (n + 1) (m + 1))
    (λ n m. Alone a (action.Const (register n) k) ∷ Alone a (action.Apply o (register (n + 1)) x.first (register n))
    ∷ Alone b (action.Const (register m) k) ∷ Alone b (action.Apply o (register (m + 1)) x.second (register m)) ∷ [])

-- a host's side of a masked product: an item in its registers from n on, then the masked operands, then those of the other
abbrev pub masking_from : HostId → Reg → Reg → ℕ → Masking
masking_from h x y n = record {
  host = h;
  x = x;
  y = y;
  a = register n;
  b = register (n + 1);
  c = register (n + 2);
  d = register (n + 3);
  e = register (n + 4);
  heard_d = register (n + 5);
  heard_e = register (n + 6);
}

-- from the opened words d and e a host has d * b + c + e * a
abbrev pub unmasked : Sharing → HostId → ℕ → List Gadget
unmasked s h n =
    Alone h (action.Apply (join s) (register (n + 7)) (register (n + 3)) (register (n + 5)))
    ∷ Alone h (action.Apply (join s) (register (n + 8)) (register (n + 4)) (register (n + 6)))
    ∷ Alone h (action.Apply (multiply s) (register (n + 9)) (register (n + 7)) (register (n + 1)))
    ∷ Alone h (action.Apply (join s) (register (n + 10)) (register (n + 9)) (register (n + 2)))
    ∷ Alone h (action.Apply (multiply s) (register (n + 11)) (register (n + 8)) (register n))
    ∷ Alone h (action.Apply (join s) (register (n + 12)) (register (n + 10)) (register (n + 11))) ∷ []

-- the first host joins d * e to its part
abbrev pub completed : Sharing → HostId → ℕ → List Gadget
completed s h n =
    Alone h (action.Apply (multiply s) (register (n + 13)) (register (n + 7)) (register (n + 8)))
    ∷ Alone h (action.Apply (join s) (register (n + 14)) (register (n + 12)) (register (n + 13))) ∷ []

abbrev pub product_gadgets : Sharing → HostId → HostId → PartRegisters → PartRegisters → ℕ → ℕ → List Gadget
product_gadgets s a b x y n m =
    Masked s (masking_from a x.first y.first n) (masking_from b x.second y.second m)
    ∷ (unmasked s a n ++ (completed s a n ++ unmasked s b m))

-- the code with more acts, of no fresh register
abbrev pub with_acts : List Act → Builder → Builder
with_acts acts c = record { lines = c.lines ++ lines_of acts; next = c.next }

-- a host tells another the operands that it masked in its registers from n on
abbrev pub masked_told : HostId → ℕ → HostId → ℕ → List Act
masked_told h n q m = act.Msg h (register (n + 3) ∷ register (n + 4) ∷ []) q (register (m + 5) ∷ register (m + 6) ∷ []) ∷ []

-- the product of two words, by one dealt item
unfoldable pub product_shares : Sharing → HostId → HostId → PartRegisters → PartRegisters → List ℕ → Made PartRegisters
product_shares s a b x y = fresh_at a 15 b 13 (λ n m. two (n + 14) (m + 12)) (product_gadgets s a b x y)

-- ---- as calls of a back end

-- the registers of the two parts, which stand in the order of the hosts
abbrev pub shares_of : Places → PartRegisters
shares_of [] = two 0 0
shares_of (p ∷ []) = two 0 0
shares_of (p ∷ q ∷ x) = record { first = p.1; second = q.1 }

abbrev pub places_at : HostId → HostId → PartRegisters → Places
places_at a b x = (a, x.first) ∷ (b, x.second) ∷ []

abbrev pub at_hosts : HostId → HostId → Made PartRegisters → Made Places
at_hosts a b made = record { given = places_at a b made.given; gadgets = made.gadgets; next = made.next }

-- the operands by number; one that is missing has the registers 0
abbrev pub operand : List Places → ℕ → PartRegisters
operand [] i = two 0 0
operand (x ∷ xs) zero = shares_of x
operand (x ∷ xs) (suc i) = operand xs i

-- a back end of two hosts that share, by which operations it serves and what it makes of each
abbrev pub pair_calls : Sharing → HostId → HostId → (Op → Bool) → (Op → List Places → List ℕ → Made PartRegisters) → Calls
pair_calls s a b serves apply = record {
  proto = shared_by s a b;
  serves = serves;
  literal = λ v next. at_hosts a b (literal_shares a b v next);
  share = λ from x next. at_hosts a b (shared_from s a b from x next);
  adopt = λ x next. at_hosts a b (adopted_shares a b x next);
  show = λ x to next. shown_at s a b (shares_of x) to next;
  show_all = λ x next. at_hosts a b (shown_to_both s a b (shares_of x) next);
  keep = λ x next. at_hosts a b (kept_shares a b (shares_of x) next);
  renew = λ kept x. renewed_shares a b (shares_of kept) (shares_of x);
  apply = λ o xs next. at_hosts a b (apply o xs next);
}
