-- From the edges of a program to the hosts whose inputs bear on what a host is told.
use Rattle.std.proofs.Common.{◌≡◌, ℕ, ◌≤◌, Bool, ◌&&◌, List, length, sym, ap, ◌∙◌, subst, arith, nat_lt}
use Rattle.vd_base.specs.declared.ids.HostId.{HostId}
use Rattle.vd_core.specs.declared.normal.NormalForm.{NormalForm}
use Rattle.vd_core.specs.Facts.{IsWellMade}
use Rattle.vd_noninter.specs.NoninterLawsDependence.{Reach}
use Rattle.vd_noninter.specs.IntegrityLawsInfluence.{IsInfluence, AreInfluences}
use Rattle.vd_noninter.specs.declared.edge.Edge.{Edge}
use Rattle.vd_noninter.specs.InfluenceEdges.{influence_edges_of}
use Rattle.vd_noninter.specs.Reached.{IsReachOf}
use Rattle.vd_noninter.proofs.Answered.{both_if}
use Rattle.vd_noninter.proofs.Declared.{eight_hosts}
use Rattle.vd_noninter.proofs.Following.{least_reach}
use Rattle.vd_noninter.proofs.Influencing.{influences_close, hosts_closed}

module _ (passed : Bool) (p : NormalForm) (h : HostId) (well : IsWellMade p) where
  -- what is reached along the edges is the influence
  reached_influences : (r : Reach) → IsReachOf (influence_edges_of passed h.0 p.body) r → IsInfluence passed p h r
  reached_influences r is =
      let closes_at = λ (other : Reach). influences_close passed other h.0 p.body in
      record { closed = sym (closes_at r) ∙ is.closed; least = λ other closed. is.least other (closes_at other ∙ closed) }

  pub has_influence : (r : Reach) × IsInfluence passed p h r
  has_influence = let found = least_reach (influence_edges_of passed h.0 p.body) in (found.0, reached_influences found.0 found.1)

  pub are_influences : (r : Reach) (hosts : ℕ → Bool) → IsReachOf (influence_edges_of passed h.0 p.body) r → ((k : ℕ) → hosts k ≡ (nat_lt k 8 && r.hosts k)) → AreInfluences passed p h hosts
  are_influences r hosts reached members =
      let influence = reached_influences r reached in
      let few = well.limits.hosts in
      let few_hosts : length p.hosts ≤ 8 = omega arith in
      let within = influence.least eight_hosts (hosts_closed passed h.0 (length p.hosts) few_hosts p.body well.known_hosts) in
      record { reach = r; influence = influence; same = λ k. members k ∙ both_if (nat_lt k 8) (r.hosts k) (within.hosts k) }

  -- of a form as it is read
  pub all_influences : (form : NormalForm) (edges : List Edge) (r : Reach) (hosts : ℕ → Bool) → form ≡ p → edges ≡ influence_edges_of passed h.0 form.body → IsReachOf edges r
      → ((k : ℕ) → hosts k ≡ (nat_lt k 8 && r.hosts k)) → AreInfluences passed p h hosts
  all_influences form edges r hosts same are reached members =
      are_influences r hosts (subst (λ (z : List Edge). IsReachOf z r) (are ∙ ap (λ (f : NormalForm). influence_edges_of passed h.0 f.body) same) reached) members
