-- Parts have the form that they have at a protocol.
use Rattle.std.proofs.Common.{◌≡◌, ℕ, ◌+◌, ◌<◌, ◌≤◌, nat_lt, Bool, true, if◌then◌else◌, Result, Ok, Err, IfOk, List, [], ◌∷◌, slice_index, ap, arith}
use Rattle.std.proofs.lemmas.Bool.{and_from}
use Rattle.std.proofs.lemmas.Bool.Decides.{nat_tests}
use Rattle.vd_base.specs.declared.ids.HostId.{HostId}
use Rattle.vd_base.specs.declared.protocols.Proto.TheVariants.{Commit}
use Rattle.vd_base.specs.Holders.{holders}
use Rattle.vd_execution.specs.declared.instructions.Reg.{Reg}
use Rattle.vd_duet.specs.Builder.{HasRoom, taken}
use Rattle.vd_duet.specs.Calls.{Places}
use Rattle.vd_duet.specs.Laws.{AreKnown}
use Rattle.vd_duet.proofs.Front.{taken_bounds}
use Rattle.vd_backend_laws.specs.Commits.{held_of, seen_of}
use Rattle.vd_backends.specs.Formed.{is_named, AreFormed}

of_lt : (a b : ℕ) → a < b → nat_lt a b ≡ true
of_lt a b h = grind (arith, nat_tests)

-- two facts of what a call gives
pub if_both : {X Y : Type 0} (r : Result X Y) (P Q R : X → Type 0) → ((x : X) → P x → Q x → R x) → IfOk r P → IfOk r Q → IfOk r R
if_both (Ok x) P Q R f p q = f x p q
if_both (Err e) P Q R f p q = p

-- ---- a commitment's rows

low_named : (x : Places) → (held_of x).nonce.0 < 4000000000 → (seen_of x).digest.0 < 4000000000 → is_named x ≡ true
low_named x n d = and_from _ _ (of_lt (held_of x).nonce.0 4000000000 n) (of_lt (seen_of x).digest.0 4000000000 d)

pub named_formed : (p v : HostId) (x : Places) → is_named x ≡ true → AreFormed (Commit p v) x
named_formed p v x e = ap (λ (b : Bool). let l : List HostId = if b then holders (Commit p v) else [] in l) e

-- two registers, of which the second can be named
pub two_named : (a b : HostId) (r q : Reg) → q.0 < 4000000000 → is_named ((a, r) ∷ (b, q) ∷ []) ≡ true
two_named a b r q lt = low_named ((a, r) ∷ (b, q) ∷ []) lt (omega arith)

-- the register that the second of two hosts takes, after the first took some
pub second_low : (a b : HostId) (k count : ℕ) (next : List ℕ) → AreKnown (a ∷ b ∷ []) next → HasRoom count next → k ≤ count + 16 → slice_index (taken a k next) b.0 < 4000000000
second_low a b k count next known room few = let p = (taken_bounds a k next known.0 b.0).1 in let q = room b.0 in omega (arith, p, q, few)
