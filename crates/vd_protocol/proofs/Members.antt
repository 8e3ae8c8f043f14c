-- The authority of copies, one host after another.
use Rattle.std.proofs.Common.{◌≡◌, ℕ, ◌+◌, ◌^◌, ◌<◌, ◌≤◌, Bool, cond, true, false, ◌&&◌, ◌||◌, List, [], ◌∷◌, ◌++◌, length, get_or, map, refl, sym, ap, ◌∙◌, subst, arith}
use Rattle.std.specs.Prelude.{filter, All}
use Rattle.std.specs.List.{range_with_len, list_any, list_all}
use Rattle.std.proofs.lemmas.List.Folds.{list_any-append, list_all-append}
use Rattle.std.proofs.lemmas.List.{append-nil}
use Rattle.vd_base.specs.declared.ids.HostId.{HostId}
use Rattle.vd_base.specs.declared.protocols.HostSet.{HostSet}
use Rattle.vd_base.specs.HostSets.{host, hosts, members, has_host}
use Rattle.vd_formula.specs.declared.label.Label.{Label}
use Rattle.vd_formula.specs.TruthTable.{TruthTable, at, formula_where, any_of, never_of, both_of, either_of}
use Rattle.vd_formula.proofs.Front.{at-formula_where, same_formula}
use Rattle.vd_protocol.specs.Authority.{label_of, names_of, IsOver, disjunction_of, conjunction_of, copies_of}
use Rattle.vd_protocol.proofs.Rows.{passing_more}

either_more : (n : ℕ) (formulas : List TruthTable) (f : TruthTable) → either_of (disjunction_of n formulas) f ≡ disjunction_of n (formulas ++ f ∷ [])
unfolding either_of
either_more n formulas f =
    same_formula n _ _ (λ set h.
    ap (λ b. b || at f set) (at-formula_where n (λ s. list_any (λ g. at g s) formulas) set h)
    ∙ sym (list_any-append (λ g. at g set) formulas (f ∷ []) ∙ ap (λ b. list_any (λ g. at g set) formulas || b) (or_false (at f set))))
  where
    or_false : (b : Bool) → (b || false) ≡ b
    or_false true = refl
    or_false false = refl

both_more : (n : ℕ) (formulas : List TruthTable) (f : TruthTable) → both_of (conjunction_of n formulas) f ≡ conjunction_of n (formulas ++ f ∷ [])
unfolding both_of
both_more n formulas f =
    same_formula n _ _ (λ set h.
    ap (λ b. b && at f set) (at-formula_where n (λ s. list_all (λ g. at g s) formulas) set h)
    ∙ sym (list_all-append (λ g. at g set) formulas (f ∷ []) ∙ ap (λ b. list_all (λ g. at g set) formulas && b) (and_true (at f set))))
  where
    and_true : (b : Bool) → (b && true) ≡ b
    and_true true = refl
    and_true false = refl

-- the authority of the members among the first hosts
pub record CopiesSoFar (set : HostSet) (labels : List Label) (count : ℕ) (conf integ : TruthTable) : Type 0 where
  pub conf_is : conf ≡ disjunction_of (names_of labels) (map (λ h. (label_of labels h).conf) (members count set))
  pub integ_is : integ ≡ conjunction_of (names_of labels) (map (λ h. (label_of labels h).integ) (members count set))

pub none_yet : (set : HostSet) (labels : List Label) (n : ℕ) → n ≡ names_of labels → CopiesSoFar set labels 0 (never_of n) (any_of n)
unfolding never_of any_of
none_yet set labels n is = record { conf_is = ap never_of is; integ_is = ap any_of is }

module _ (set : HostSet) (labels : List Label) (i : ℕ) (conf integ : TruthTable) (so_far : CopiesSoFar set labels i conf integ) where
  confs : List TruthTable
  confs = map (λ h. (label_of labels h).conf) (members i set)

  integs : List TruthTable
  integs = map (λ h. (label_of labels h).integ) (members i set)

  longer_confs : has_host set (host i) ≡ true → map (λ h. (label_of labels h).conf) (members (i + 1) set) ≡ confs ++ (label_of labels (host i)).conf ∷ []
  unfolding confs
  longer_confs member = passing_more host (has_host set) (λ h. (label_of labels h).conf) i ∙ ap (λ b. confs ++ cond b ((label_of labels (host i)).conf ∷ []) []) member

  longer_integs : has_host set (host i) ≡ true → map (λ h. (label_of labels h).integ) (members (i + 1) set) ≡ integs ++ (label_of labels (host i)).integ ∷ []
  unfolding integs
  longer_integs member = passing_more host (has_host set) (λ h. (label_of labels h).integ) i ∙ ap (λ b. integs ++ cond b ((label_of labels (host i)).integ ∷ []) []) member

  pub one_more : (own : Label) → own ≡ label_of labels (host i) → has_host set (host i) ≡ true → CopiesSoFar set labels (i + 1) (either_of conf own.conf) (both_of integ own.integ)
  unfolding confs integs
  one_more own is member = record {
    conf_is = ap (λ f. either_of f own.conf) so_far.conf_is ∙ ap (λ (l : Label). either_of (disjunction_of (names_of labels) confs) l.conf) is
        ∙ either_more (names_of labels) confs (label_of labels (host i)).conf ∙ ap (disjunction_of (names_of labels)) (sym (longer_confs member));
    integ_is = ap (λ f. both_of f own.integ) so_far.integ_is ∙ ap (λ (l : Label). both_of (conjunction_of (names_of labels) integs) l.integ) is
        ∙ both_more (names_of labels) integs (label_of labels (host i)).integ ∙ ap (conjunction_of (names_of labels)) (sym (longer_integs member));
  }

  pub none_more : has_host set (host i) ≡ false → CopiesSoFar set labels (i + 1) conf integ
  none_more outside = record {
    conf_is = so_far.conf_is ∙ ap (disjunction_of (names_of labels)) (sym (passing_more host (has_host set) (λ h. (label_of labels h).conf) i
        ∙ ap (λ b. map (λ h. (label_of labels h).conf) (members i set) ++ cond b ((label_of labels (host i)).conf ∷ []) []) outside ∙ append-nil _));
    integ_is = so_far.integ_is ∙ ap (conjunction_of (names_of labels)) (sym (passing_more host (has_host set) (λ h. (label_of labels h).integ) i
        ∙ ap (λ b. map (λ h. (label_of labels h).integ) (members i set) ++ cond b ((label_of labels (host i)).integ ∷ []) []) outside ∙ append-nil _));
  }
