-- Authorities tell who must keep, and who sees.
use Rattle.std.proofs.Common.{◌≡◌, ℕ, ◌^◌, ◌<◌, Bool, true, false, ◌&&◌, ◌||◌, not, List, [], ◌∷◌, map, length, refl, sym, ap, ◌∙◌, subst}
use Rattle.std.specs.List.{list_all, list_any}
use Rattle.vd_base.specs.declared.ids.HostId.{HostId}
use Rattle.vd_base.specs.declared.protocols.Proto.{Proto}
use Rattle.vd_base.specs.declared.protocols.Proto.TheVariants.{Local, Rep, Commit, Add, Xor}
use Rattle.vd_base.specs.HostSets.{members}
use Rattle.vd_base.specs.Holders.{HasHosts}
use Rattle.vd_formula.specs.TruthTable.{TruthTable, at, both_of, either_of, never_of}
use Rattle.vd_formula.specs.declared.label.Label.{Label}
use Rattle.vd_formula.proofs.Front.{at-formula_where}
use Rattle.vd_protocol.specs.Authority.{AreOverSameNames, IsOver, label, label_of, names_of}
use Rattle.vd_noninter_protocols.specs.Keeping.{AuthoritiesAreExact, IsExact}

not_not : (b : Bool) → b ≡ not (not b)
not_not true = refl
not_not false = refl

both_not : (a b : Bool) → (a && b) ≡ not (not a || not b)
both_not true b = not_not b
both_not false b = refl

either_not : (a b : Bool) → (a || b) ≡ not (not a && not b)
either_not true b = refl
either_not false b = not_not b

all_not : (f : HostId → TruthTable) (set : ℕ) (hs : List HostId) → list_all (λ formula. at formula set) (map f hs) ≡ not (list_any (λ h. not (at (f h) set)) hs)
all_not f set [] = refl
all_not f set (h ∷ hs) = ap (λ b. at (f h) set && b) (all_not f set hs) ∙ one (at (f h) set) (list_any (λ k. not (at (f k) set)) hs)
  where
    one : (a b : Bool) → (a && not b) ≡ not (not a || b)
    one true b = refl
    one false b = refl

any_of_each : (f : HostId → TruthTable) (set : ℕ) (hs : List HostId) → list_any (λ formula. at formula set) (map f hs) ≡ list_any (λ h. at (f h) set) hs
any_of_each f set [] = refl
any_of_each f set (h ∷ hs) = ap (λ b. at (f h) set || b) (any_of_each f set hs)

at_both : (f g : TruthTable) (set : ℕ) → set < 2 ^ f.names → at (both_of f g) set ≡ (at f set && at g set)
unfolding both_of
at_both f g set low = at-formula_where f.names (λ s. at f s && at g s) set low

at_either : (f g : TruthTable) (set : ℕ) → set < 2 ^ f.names → at (either_of f g) set ≡ (at f set || at g set)
unfolding either_of
at_either f g set low = at-formula_where f.names (λ s. at f s || at g s) set low

module _ (hosts : List Label) (over : AreOverSameNames hosts) (set : ℕ) (low : set < 2 ^ names_of hosts) where
  abbrev conf : HostId → TruthTable
  conf h = (label_of hosts h).conf

  abbrev integ : HostId → TruthTable
  integ h = (label_of hosts h).integ

  over_at : (h : HostId) → h.0 < length hosts → IsOver (names_of hosts) (label_of hosts h)
  over_at h declared = over h.0 (label (never_of 0) (never_of 0)) declared

  low_conf : (h : HostId) → h.0 < length hosts → set < 2 ^ (conf h).names
  low_conf h declared = subst (λ n. set < 2 ^ n) (sym (over_at h declared).conf) low

  low_integ : (h : HostId) → h.0 < length hosts → set < 2 ^ (integ h).names
  low_integ h declared = subst (λ n. set < 2 ^ n) (sym (over_at h declared).integ) low

  is_exact : (q : Proto) → HasHosts (length hosts) q → IsExact hosts set q
  is_exact (Local h) has = record { integrity = not_not (at (integ h) set); secrecy = refl }
  is_exact (Rep s) has =
      let hs = members (length hosts) s in
      record {
        integrity = at-formula_where (names_of hosts) (λ z. list_all (λ formula. at formula z) (map integ hs)) set low ∙ all_not integ set hs;
        secrecy = at-formula_where (names_of hosts) (λ z. list_any (λ formula. at formula z) (map conf hs)) set low ∙ any_of_each conf set hs;
      }
  is_exact (Commit p v) has = record { integrity = at_both (integ p) (integ v) set (low_integ p has.0) ∙ both_not (at (integ p) set) (at (integ v) set); secrecy = refl }
  is_exact (Add a b) has = record { integrity = at_either (integ a) (integ b) set (low_integ a has.0) ∙ either_not (at (integ a) set) (at (integ b) set); secrecy = at_both (conf a) (conf b) set (low_conf a has.0) }
  is_exact (Xor a b) has = record { integrity = at_either (integ a) (integ b) set (low_integ a has.0) ∙ either_not (at (integ a) set) (at (integ b) set); secrecy = at_both (conf a) (conf b) set (low_conf a has.0) }

pub authorities_exact : AuthoritiesAreExact
authorities_exact hosts over set low q has = is_exact hosts over set low q has
