-- Protocols that are the same by the test.
use Rattle.std.proofs.Common.{◌≡◌, ℕ, true, false, true≢false, sym, ap, ap₂}
use Rattle.std.proofs.lemmas.Bool.{and_parts, eqb-true}
use Rattle.vd_base.specs.declared.ids.HostId.{HostId}
use Rattle.vd_base.specs.declared.protocols.Proto.{Proto}
use Rattle.vd_base.specs.declared.protocols.Proto.TheVariants.{Local, Rep, Commit, Add, Xor}
use Rattle.vd_base.specs.HostSets.{host, host_set, same_host}
use Rattle.vd_base.specs.Moves.{same_hosts}
use Rattle.vd_base.specs.Holders.{same_protocol}

two_are : (make : HostId → HostId → Proto) (a b c d : HostId) → same_hosts a b c d ≡ true → make a b ≡ make c d
two_are make a b c d e =
    let both = and_parts (same_host a c) (same_host b d) e in
    ap₂ (λ (m n : ℕ). make (host m) (host n)) (eqb-true a.0 c.0 both.0) (eqb-true b.0 d.0 both.1)

other : {p q : Proto} → false ≡ true → p ≡ q
other e = absurd (true≢false (sym e))

pub same_is : (p q : Proto) → same_protocol p q ≡ true → p ≡ q
same_is (Local h) (Local k) e = ap (λ (n : ℕ). Local (host n)) (eqb-true h.0 k.0 e)
same_is (Local h) (Rep set) e = other e
same_is (Local h) (Commit a b) e = other e
same_is (Local h) (Add a b) e = other e
same_is (Local h) (Xor a b) e = other e
same_is (Rep set) (Local k) e = other e
same_is (Rep set) (Rep set') e = ap (λ (n : ℕ). Rep (host_set n)) (eqb-true set.bits set'.bits e)
same_is (Rep set) (Commit a b) e = other e
same_is (Rep set) (Add a b) e = other e
same_is (Rep set) (Xor a b) e = other e
same_is (Commit p v) (Local k) e = other e
same_is (Commit p v) (Rep set) e = other e
same_is (Commit p v) (Commit a b) e = two_are Commit p v a b e
same_is (Commit p v) (Add a b) e = other e
same_is (Commit p v) (Xor a b) e = other e
same_is (Add p v) (Local k) e = other e
same_is (Add p v) (Rep set) e = other e
same_is (Add p v) (Commit a b) e = other e
same_is (Add p v) (Add a b) e = two_are Add p v a b e
same_is (Add p v) (Xor a b) e = other e
same_is (Xor p v) (Local k) e = other e
same_is (Xor p v) (Rep set) e = other e
same_is (Xor p v) (Commit a b) e = other e
same_is (Xor p v) (Add a b) e = other e
same_is (Xor p v) (Xor a b) e = two_are Xor p v a b e
