-- An authority is over as many names as the labels of the hosts.
use Rattle.std.proofs.Common.{◌≡◌, ℕ, zero, suc, ◌<◌, List, [], ◌∷◌, length, slice_index_or, refl, sym, ◌∙◌, subst, arith}
use Rattle.std.proofs.lemmas.List.Elements.{All-get_or}
use Rattle.vd_base.specs.declared.ids.HostId.{HostId}
use Rattle.vd_base.specs.declared.protocols.Proto.{Proto}
use Rattle.vd_base.specs.declared.protocols.Proto.TheVariants.{Local, Rep, Commit, Add, Xor}
use Rattle.vd_base.specs.Holders.{HasHosts}
use Rattle.vd_formula.specs.declared.label.Label.{Label}
use Rattle.vd_formula.specs.TruthTable.{TruthTable, both_of, either_of}
use Rattle.vd_protocol.specs.Authority.{label, label_of, names_of, IsOver, AreOverSameNames, committed_of, shared_of, authority_of}

module _ (hosts : List Label) (over : AreOverSameNames hosts) where
  label_over : (h : HostId) → h.0 < length hosts → IsOver (names_of hosts) (label_of hosts h)
  label_over h low = All-get_or (IsOver (names_of hosts)) hosts h.0 _ low over

  committed_over : (p v : HostId) → p.0 < length hosts → IsOver (names_of hosts) (committed_of (label_of hosts p) (label_of hosts v))
  unfolding both_of
  committed_over p v low = let own = label_over p low in record { conf = own.conf; integ = own.integ }

  shared_over : (a b : HostId) → a.0 < length hosts → IsOver (names_of hosts) (shared_of (label_of hosts a) (label_of hosts b))
  unfolding both_of either_of
  shared_over a b low = let own = label_over a low in record { conf = own.conf; integ = own.integ }

  authority_over : (p : Proto) → HasHosts (length hosts) p → IsOver (names_of hosts) (authority_of p hosts)
  authority_over (Local h) has = label_over h has.0
  authority_over (Rep set) has = record { conf = refl; integ = refl }
  authority_over (Commit p v) has = committed_over p v has.0
  authority_over (Add a b) has = shared_over a b has.0
  authority_over (Xor a b) has = shared_over a b has.0

  pub is_over : (p : Proto) → HasHosts (length hosts) p → (l : Label) → l ≡ authority_of p hosts → IsOver (names_of hosts) l
  is_over p has l is = subst (IsOver (names_of hosts)) (sym is) (authority_over p has)

-- three labels over 3 names
pub three_over : (hosts : List Label) (a b c : TruthTable) → hosts ≡ label a a ∷ label b b ∷ label c c ∷ [] → a.names ≡ 3 → b.names ≡ 3 → c.names ≡ 3 → AreOverSameNames hosts
three_over hosts a b c is first second third = subst AreOverSameNames (sym is) each
  where
    each : (k : ℕ) (d : Label) → k < 3 → IsOver a.names (slice_index_or (label a a ∷ label b b ∷ label c c ∷ []) k d)
    each zero d low = record { conf = refl; integ = refl }
    each (suc zero) d low = record { conf = second ∙ sym first; integ = second ∙ sym first }
    each (suc (suc zero)) d low = record { conf = third ∙ sym first; integ = third ∙ sym first }
    each (suc (suc (suc k))) d low = absurd (omega arith)
