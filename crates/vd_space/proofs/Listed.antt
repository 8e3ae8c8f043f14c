-- The protocols of the list are kept at declared hosts.
use Rattle.std.proofs.Common.{◌≡◌, ℕ, zero, suc, ◌+◌, ◌^◌, ◌<◌, ◌≤◌, Bool, List, [], ◌∷◌, ◌++◌, length, get_or, map, sym, subst, arith}
use Rattle.std.specs.Prelude.{All, filter, nat_le}
use Rattle.std.specs.List.{range_with_len, flat_map}
use Rattle.std.proofs.lemmas.List.Elements.{All-nil, All-cons, All-append, All-map, All-filter, All-get_or, All-weaker}
use Rattle.vd_base.specs.declared.ids.HostId.{HostId}
use Rattle.vd_base.specs.declared.protocols.HostSet.{HostSet}
use Rattle.vd_base.specs.declared.protocols.Proto.{Proto}
use Rattle.vd_base.specs.declared.protocols.Proto.TheVariants.{Local, Rep, Commit, Add, Xor}
use Rattle.vd_base.specs.HostSets.{host, host_set, hosts, size}
use Rattle.vd_base.specs.Protocols.{groups, pairs, differ, is_earlier, protocols_of}
use Rattle.vd_base.specs.Holders.{HasHosts}
use Rattle.vd_base.proofs.Front.{copies_have}

range_below : (a n most : ℕ) → a + n ≤ most → All (λ k. k < most) (range_with_len a n)
range_below a zero most fits = All-nil (λ k. k < most)
range_below a (suc n) most fits = All-cons (λ k. k < most) a (range_with_len (a + 1) n) (omega arith) (range_below (a + 1) n most (omega arith))

hosts_below : (n : ℕ) → All (λ (h : HostId). h.0 < n) (hosts n)
hosts_below n = All-map (λ (h : HostId). h.0 < n) host (range_with_len 0 n) (range_below 0 n n (omega arith))

all_flat : {X Y : Type 0} (P : Y → Type 0) (f : X → List Y) (xs : List X) → All (λ x. All P (f x)) xs → All P (flat_map f xs)
all_flat P f [] each = All-nil P
all_flat {X} {Y} P f (x ∷ xs) each = All-append P (f x) (flat_map f xs) (All-head_ each) (all_flat P f xs (All-tail_ each))
  where
    All-head_ : All (λ x. All P (f x)) (x ∷ xs) → All P (f x)
    All-head_ each_ = each_ 0 x (omega arith)

    All-tail_ : All (λ x. All P (f x)) (x ∷ xs) → All (λ x. All P (f x)) xs
    All-tail_ each_ = λ k d low. each_ (suc k) d (omega arith)

pairs_all : (n : ℕ) (P : Proto → Type 0) (test : HostId → HostId → Bool) (make : HostId → HostId → Proto) → ((a b : HostId) → a.0 < n → b.0 < n → P (make a b)) → All P (pairs test make n)
pairs_all n P test make each =
    all_flat P (λ a. map (make a) (filter (test a) (hosts n))) (hosts n)
    (All-weaker (λ (h : HostId). h.0 < n) (λ a. All P (map (make a) (filter (test a) (hosts n))))
    (λ a low. All-map P (make a) (filter (test a) (hosts n))
    (All-weaker (λ (h : HostId). h.0 < n) (λ b. P (make a b)) (λ b low_b. each a b low low_b) (filter (test a) (hosts n)) (All-filter (test a) (λ (h : HostId). h.0 < n) (hosts n) (hosts_below n))))
    (hosts n) (hosts_below n))

groups_below : (n : ℕ) → All (λ (set : HostSet). set.bits < 2 ^ n) (groups n)
groups_below n = All-filter (λ set. nat_le 2 (size set)) (λ (set : HostSet). set.bits < 2 ^ n) (map host_set (range_with_len 0 (2 ^ n))) (All-map (λ (set : HostSet). set.bits < 2 ^ n) host_set (range_with_len 0 (2 ^ n)) (range_below 0 (2 ^ n) (2 ^ n) (omega arith)))

-- what holds of the protocols over the first n hosts holds of all on the list
pub all_listed : (n : ℕ) (P : Proto → Type 0) → ((h : HostId) → h.0 < n → P (Local h)) → ((set : HostSet) → set.bits < 2 ^ n → P (Rep set))
    → ((a b : HostId) → a.0 < n → b.0 < n → P (Commit a b) × (P (Add a b) × P (Xor a b))) → All P (protocols_of n)
all_listed n P alone copies two =
    All-append P (map Local (hosts n) ++ map Rep (groups n) ++ pairs differ Commit n ++ pairs is_earlier Add n) (pairs is_earlier Xor n)
    (All-append P (map Local (hosts n) ++ map Rep (groups n) ++ pairs differ Commit n) (pairs is_earlier Add n)
    (All-append P (map Local (hosts n) ++ map Rep (groups n)) (pairs differ Commit n)
    (All-append P (map Local (hosts n)) (map Rep (groups n))
    (All-map P Local (hosts n) (All-weaker (λ (h : HostId). h.0 < n) (λ h. P (Local h)) alone (hosts n) (hosts_below n)))
    (All-map P Rep (groups n) (All-weaker (λ (set : HostSet). set.bits < 2 ^ n) (λ set. P (Rep set)) copies (groups n) (groups_below n))))
    (pairs_all n P differ Commit (λ a b low low_b. (two a b low low_b).0)))
    (pairs_all n P is_earlier Add (λ a b low low_b. (two a b low low_b).1.0)))
    (pairs_all n P is_earlier Xor (λ a b low low_b. (two a b low low_b).1.1))

listed : (n : ℕ) → All (HasHosts n) (protocols_of n)
listed n = all_listed n (HasHosts n) (λ h low. (low, tt)) (copies_have n) (λ a b low low_b. ((low, (low_b, tt)), ((low, (low_b, tt)), (low, (low_b, tt)))))

pub has_hosts_at : (n p : ℕ) (d : Proto) → p < length (protocols_of n) → HasHosts n (get_or (protocols_of n) p d)
has_hosts_at n p d low = All-get_or (HasHosts n) (protocols_of n) p d low (listed n)

pub has_hosts_in : (list : List Proto) (n p : ℕ) (d : Proto) → list ≡ protocols_of n → p < length list → HasHosts n (get_or list p d)
has_hosts_in list n p d is low = subst (λ l. HasHosts n (get_or l p d)) (sym is) (has_hosts_at n p d (subst (λ l. p < length l) is low))
