-- Who has a word in clear may read its label.
use Rattle.std.proofs.Common.{◌≡◌, ℕ, zero, suc, ◌+◌, ◌^◌, ◌<◌, ◌≤◌, Bool, true, false, true≢false, List, ◌∷◌, map, length, sym, ◌∙◌, subst, arith, inl, inr, if◌then◌else◌}
use Rattle.std.specs.Prelude.{filter}
use Rattle.std.specs.List.{list_any, range_with_len}
use Rattle.std.proofs.lemmas.Bool.{cases_eq, eqb-true, or_left, or_right}
use Rattle.vd_base.specs.declared.ids.HostId.{HostId}
use Rattle.vd_base.specs.declared.protocols.HostSet.{HostSet}
use Rattle.vd_base.specs.declared.protocols.Proto.{Proto}
use Rattle.vd_base.specs.declared.protocols.Proto.TheVariants.{Local, Rep, Commit, Add, Xor}
use Rattle.vd_base.specs.HostSets.{host, has_host, same_host, members}
use Rattle.vd_base.specs.Holders.{has_clear, is_holder}
use Rattle.vd_formula.specs.TruthTable.{TruthTable, at, never_of, acts}
use Rattle.vd_formula.specs.declared.label.Label.{Label}
use Rattle.vd_formula.proofs.Front.{at-formula_where}
use Rattle.vd_protocol.specs.Authority.{label, label_of, names_of, AreOverSameNames, copies_of, authority_of}
use Rattle.vd_noninter.proofs.Front.{acts_for, for_acts}

-- ---- one of a set of copies passes
module _ (set : HostSet) (test : TruthTable → Bool) (conf : HostId → TruthTable) where
  passes_later : (c : Bool) (k : HostId) (ks : List HostId) → list_any test (map conf ks) ≡ true → list_any test (map conf (if c then k ∷ ks else ks)) ≡ true
  passes_later true k ks later = or_right (test (conf k)) (list_any test (map conf ks)) later
  passes_later false k ks later = later

  passes_here : (c : Bool) (k : HostId) (ks : List HostId) → c ≡ true → test (conf k) ≡ true → list_any test (map conf (if c then k ∷ ks else ks)) ≡ true
  passes_here true k ks is here = or_left (test (conf k)) (list_any test (map conf ks)) here
  passes_here false k ks is here = absurd (true≢false (sym is))

  member_passes : (a n k : ℕ) → a ≤ k → k < a + n → has_host set (host k) ≡ true → test (conf (host k)) ≡ true
      → list_any test (map conf (filter (has_host set) (map host (range_with_len a n)))) ≡ true
  member_passes a zero k low high has here = absurd (omega arith)
  member_passes a (suc n) k low high has here = elim (cases_eq k a) [
    | inl same ↦
        passes_here (has_host set (host a)) (host a) (filter (has_host set) (map host (range_with_len (a + 1) n)))
        (subst (λ z. has_host set (host z) ≡ true) same has) (subst (λ z. test (conf (host z)) ≡ true) same here)
    | inr other ↦
        passes_later (has_host set (host a)) (host a) (filter (has_host set) (map host (range_with_len (a + 1) n)))
        (member_passes (a + 1) n k (omega (arith, other)) (omega arith) has here)
  ]

-- ---- the authority of a protocol acts for no more than its hosts in clear
module _ (hosts : List Label) (over : AreOverSameNames hosts) (h : HostId) (declared : h.0 < length hosts) where
  abbrev pub own : TruthTable
  own = (label_of hosts h).conf

  own_names : own.names ≡ names_of hosts
  own_names = (over h.0 (label (never_of 0) (never_of 0)) declared).conf

  of_same : (k : HostId) (f : TruthTable) → same_host k h ≡ true → acts (label_of hosts k).conf f ≡ true → acts own f ≡ true
  of_same k f is all = subst (λ z. acts (label_of hosts (host z)).conf f ≡ true) (eqb-true k.0 h.0 is) all

  of_copies : (set : HostSet) (f : TruthTable) → has_host set h ≡ true → acts (copies_of set hosts).conf f ≡ true → acts own f ≡ true
  of_copies set f has all = for_acts own f here
    where
      here : (s : ℕ) → s < 2 ^ own.names → at own s ≡ true → at f s ≡ true
      here s low is =
          let n = names_of hosts in
          let fits : s < 2 ^ n = subst (λ m. s < 2 ^ m) own_names low in
          let conf : HostId → TruthTable = λ k. (label_of hosts k).conf in
          acts_for (copies_of set hosts).conf f all s fits
          (at-formula_where n (λ z. list_any (λ formula. at formula z) (map conf (members (length hosts) set))) s fits
          ∙ member_passes set (λ formula. at formula s) conf 0 (length hosts) h.0 (omega arith) (omega (arith, declared)) has is)

  pub clear_acts : (q : Proto) (f : TruthTable) → has_clear h q ≡ true → acts (authority_of q hosts).conf f ≡ true → acts own f ≡ true
  clear_acts (Local k) f is all = of_same k f is all
  clear_acts (Rep set) f is all = of_copies set f is all
  clear_acts (Commit p v) f is all = of_same p f is all
  clear_acts (Add a b) f is all = absurd (true≢false (sym is))
  clear_acts (Xor a b) f is all = absurd (true≢false (sym is))

-- where a host has a word in clear, the word is kept at it
pub clear_holds : (h : HostId) (q : Proto) → has_clear h q ≡ true → is_holder q h ≡ true
clear_holds h (Local k) is = is
clear_holds h (Rep set) is = is
clear_holds h (Commit p v) is = or_left (same_host p h) (same_host v h) is
clear_holds h (Add a b) is = absurd (true≢false (sym is))
clear_holds h (Xor a b) is = absurd (true≢false (sym is))
