-- There is a function that gives each host of a labelled program the hosts on which it depends.
use Rattle.std.proofs.Common.{◌≡◌, ℕ, zero, suc, ◌*◌, ◌^◌, ◌%◌, ◌<◌, ◌≤◌, Bool, true, false, ◌&&◌, List, bit_or, refl, subst, add-one, arith, nat_lt}
use Rattle.vd_base.specs.declared.ids.HostId.{HostId}
use Rattle.vd_base.specs.declared.protocols.HostSet.{HostSet}
use Rattle.vd_base.specs.HostSets.{host_set}
use Rattle.vd_core.specs.declared.normal.NormalForm.{NormalForm}
use Rattle.vd_constraints.specs.declared.labels.Labels.{Labels}
use Rattle.vd_noninter.specs.NoninterLawsDependence.{Reach}
use Rattle.vd_noninter.specs.declared.edge.Edge.{Edge}
use Rattle.vd_noninter.specs.declared.reader.Reader.{Reader}
use Rattle.vd_noninter.specs.Hosts.{members, members_with}
use Rattle.vd_noninter.specs.Edges.{edges_of, readable, reads_in}
use Rattle.vd_noninter.specs.Reached.{IsReachOf}
use Rattle.vd_noninter.proofs.Front.{answers, least_reach, host_more, host_step, none_first, are_influences}
use Rattle.vd_noninter.specs.InfluenceEdges.{influence_edges_of}
use Rattle.vd_cmd_depends.specs.Outcomes.{DependenceOutcomes}
use Rattle.vd_cmd_depends.specs.Influencing.{InfluenceOutcomes}

-- ---- the set of the first hosts that are marked

-- with one host more, if it is marked
abbrev with_host : Bool → ℕ → HostSet → HostSet
with_host true n set = host_set (bit_or set.bits (1 * 2 ^ n % 256))
with_host false n set = set

set_of : (ℕ → Bool) → ℕ → HostSet
set_of marks zero = host_set 0
set_of marks (suc n) = with_host (marks n) n (set_of marks n)

with_host_members : (b : Bool) (n : ℕ) (set : HostSet) (k : ℕ) → n < 8 → members (with_host b n set) k ≡ members_with b n set k
with_host_members true n set k low = host_more set.bits n k low
with_host_members false n set k low = refl

set_members : (marks : ℕ → Bool) (n : ℕ) → n ≤ 8 → (k : ℕ) → members (set_of marks n) k ≡ (nat_lt k n && marks k)
unfolding set_of
set_members marks zero few k = none_first marks k
set_members marks (suc n) few k =
    subst (λ (m : ℕ). members (set_of marks (suc n)) k ≡ (nat_lt k m && marks k)) (add-one n)
    (host_step marks (members (set_of marks n)) (members (set_of marks (suc n))) n (marks n) refl (set_members marks n (omega arith)) (λ j. with_host_members (marks n) n (set_of marks n) j (omega arith)) k)

-- ---- the hosts that are reached

abbrev reader_of : NormalForm → Labels → HostId → Reader
reader_of p l h = record { slots = readable p h l.slots; host = h }

abbrev edges_at : NormalForm → Labels → HostId → List Edge
edges_at p l h = edges_of (reads_in (reader_of p l h)) h.0 p.body

reached_at : (p : NormalForm) (l : Labels) (h : HostId) → (r : Reach) × IsReachOf (edges_at p l h) r
reached_at p l h = least_reach (edges_at p l h)

hosts_of : NormalForm → Labels → HostId → HostSet
hosts_of p l h = set_of (reached_at p l h).0.hosts 8

hosts_of_members : (p : NormalForm) (l : Labels) (h : HostId) (k : ℕ) → members (hosts_of p l h) k ≡ (nat_lt k 8 && (reached_at p l h).0.hosts k)
unfolding hosts_of
hosts_of_members p l h k = set_members (reached_at p l h).0.hosts 8 (omega arith) k

pub some_dependences : DependenceOutcomes
some_dependences = record {
  hosts = hosts_of;
  hosts_are = λ p l h well satisfies.
      answers p l h well satisfies (reader_of p l h) (edges_at p l h) (reached_at p l h).0 (members (hosts_of p l h)) refl refl refl (reached_at p l h).1 (hosts_of_members p l h);
}

-- ---- the hosts whose inputs bear on what a host is told

influence_at : (passed : Bool) (p : NormalForm) (h : HostId) → (r : Reach) × IsReachOf (influence_edges_of passed h.0 p.body) r
influence_at passed p h = least_reach (influence_edges_of passed h.0 p.body)

bearing_hosts : Bool → NormalForm → HostId → HostSet
bearing_hosts passed p h = set_of (influence_at passed p h).0.hosts 8

bearing_members : (passed : Bool) (p : NormalForm) (h : HostId) (k : ℕ) → members (bearing_hosts passed p h) k ≡ (nat_lt k 8 && (influence_at passed p h).0.hosts k)
unfolding bearing_hosts
bearing_members passed p h k = set_members (influence_at passed p h).0.hosts 8 (omega arith) k

pub some_influences : InfluenceOutcomes
some_influences = record {
  hosts = bearing_hosts;
  hosts_are = λ passed p h well. are_influences passed p h well (influence_at passed p h).0 (members (bearing_hosts passed p h)) (influence_at passed p h).1 (bearing_members passed p h);
}
