-- Protocols that are offered.
use Rattle.std.proofs.Common.{◌≡◌, ℕ, ◌<◌, nat_lt, true, IsTrue, List, [], ◌∷◌, length, sym, subst, arith}
use Rattle.std.specs.List.{list_all}
use Rattle.std.proofs.lemmas.Bool.Decides.{nat_tests}
use Rattle.vd_base.specs.declared.ids.HostId.{HostId}
use Rattle.vd_base.specs.declared.protocols.Proto.{Proto}
use Rattle.vd_base.specs.Holders.{holders}
use Rattle.vd_duet.specs.Laws.{Each, AreKnown}
use Rattle.vd_split.proofs.Front.{and_left, and_right, AreApart as Apart}
use Rattle.vd_backend_laws.specs.Suite.{is_in_order}
use Rattle.vd_backend_laws.proofs.Front.{holders_apart}
use Rattle.vd_backends.specs.Offered.{is_offered, AreApart}

lt_of : (a b : ℕ) → nat_lt a b ≡ true → a < b
lt_of a b h = grind (arith, nat_tests)

each_below : (n : ℕ) (hs : List HostId) → list_all (λ h. nat_lt h.0 n) hs ≡ true → Each (λ h. h.0 < n) hs
each_below n [] e = tt
each_below n (h ∷ hs) e = (lt_of h.0 n (and_left (nat_lt h.0 n) (list_all (λ k. nat_lt k.0 n) hs) e), each_below n hs (and_right (nat_lt h.0 n) (list_all (λ k. nat_lt k.0 n) hs) e))

pub offered_known : (hosts : ℕ) (p : Proto) (next : List ℕ) → IsTrue (is_offered hosts p) → length next ≡ hosts → AreKnown (holders p) next
offered_known hosts p next e is =
    subst (λ (n : ℕ). Each (λ h. h.0 < n) (holders p)) (sym is)
    (each_below hosts (holders p) (and_right (is_in_order p) (list_all (λ h. nat_lt h.0 hosts) (holders p)) e))

apart_of : (hs : List HostId) → Apart hs → AreApart hs
apart_of [] a = tt
apart_of (h ∷ hs) a = (a.0, apart_of hs a.1)

-- the hosts of a protocol that is offered are apart
pub offered_apart : (hosts : ℕ) (p : Proto) → IsTrue (is_offered hosts p) → AreApart (holders p)
offered_apart hosts p e =
    apart_of (holders p) (holders_apart p (and_left (is_in_order p) (list_all (λ h. nat_lt h.0 hosts) (holders p)) e))
