-- What is looked at before anything is explained.
use Rattle.std.proofs.Common.{◌≡◌, ◌≢◌, ℕ, ◌<◌, ◌≤◌, nat_eq, nat_lt, Bool, true, false, not, cond, if◌then◌else◌, Option, Some, None, List, length, get_or, Result, Ok, Err, refl, sym, ap, ◌∙◌, arith, inl, inr}
use Rattle.std.specs.List.{position, position_or_len}
use Rattle.std.proofs.lemmas.Bool.{ltb-true, ltb-false}
use Rattle.std.proofs.lemmas.Bool.Decides.{eqb_tells}
use Rattle.std.proofs.lemmas.List.{get_or_past}
use Rattle.std.proofs.lemmas.List.Sums.{prefix_len_passes}
use Rattle.vd_base.specs.HostSets.{host}
use Rattle.vd_base.specs.declared.ids.HostId.{HostId}
use Rattle.vd_base.specs.declared.protocols.Proto.{Proto}
use Rattle.vd_base.specs.declared.protocols.Proto.TheVariants.{Local}
use Rattle.vd_base.specs.Holders.{proto_in}
use Rattle.vd_core.specs.declared.normal.NormalForm.{NormalForm}
use Rattle.vd_constraints.specs.declared.labels.Labels.{Labels}
use Rattle.vd_backend_laws.specs.Parts.{has_back_end}
use Rattle.vd_tape.specs.declared.deal_items.deal.Deal.{Deal}
use Rattle.vd_cmd_plan.specs.declared.status.Status.{Status}
use Rattle.vd_cmd_plan.specs.declared.status.Status.TheVariants.{NotTwo}
use Rattle.vd_views.specs.Explained.{plan_of}
use Rattle.vd_excuse.specs.Excuses.{excuse_files}
use Rattle.vd_excuse.specs.declared.fault.ViewFault.{ViewFault}
use Rattle.vd_excuse.specs.Excuse.{IsExcused, fault_at}
use Rattle.vd_cmd_excuse.specs.declared.runs.Runs.{Runs}
use Rattle.vd_cmd_excuse.specs.Excusing.{as_excused, as_two, commitment_in, excused_for}

-- ---- two hosts

two_so : (names : List (List ℕ)) → length names ≡ 2 → as_two names ≡ Ok tt
two_so names e = ap (λ (n : ℕ). let r : Result (Unit {0}) Status = if nat_eq n 2 then Ok tt else Err (NotTwo n) in r) e

not_two_so : (names : List (List ℕ)) → length names ≢ 2 → as_two names ≡ Err (NotTwo (length names))
not_two_so names differ = elim (eqb_tells (length names) 2) [
  | inl same ↦ absurd (differ same.1)
  | inr other ↦ ap (λ (b : Bool). let r : Result (Unit {0}) Status = if b then Ok tt else Err (NotTwo (length names)) in r) other.0
]

pub are_two : (names seen : List (List ℕ)) → seen ≡ names → length seen ≡ 2 → as_two names ≡ Ok tt
are_two names seen same two = two_so names (sym (ap (λ (ns : List (List ℕ)). length ns) same) ∙ two)

pub are_not_two : (names seen : List (List ℕ)) → seen ≡ names → length seen ≢ 2 → as_two names ≡ Err (NotTwo (length seen))
are_not_two names seen same differ = ap (λ (ns : List (List ℕ)). as_two ns) (sym same) ∙ not_two_so seen differ

-- ---- no commitment

none_found : (n len : ℕ) (b : Bool) → nat_lt n len ≡ b → cond b (Some n) None ≡ None → nat_lt n len ≡ false
none_found n len true e is = absurd cc
none_found n len false e is = e

not_not : (b : Bool) → not (not b) ≡ true → b ≡ true
not_not true e = refl
not_not false e = e

-- where no other is found, each passes
all_pass : {X : Type 0} (p : X → Bool) (xs : List X) → position (λ x. not (p x)) xs ≡ None → (k : ℕ) (d : X) → k < length xs → p (get_or xs k d) ≡ true
all_pass p xs e k d low =
    let n = position_or_len (λ x. not (p x)) xs in
    let above : length xs ≤ n = ltb-false n (length xs) (none_found n (length xs) (nat_lt n (length xs)) refl e) in
    not_not (p (get_or xs k d)) (prefix_len_passes (λ x. not (not (p x))) xs k d (omega (arith, above, low)))

module _ (protocols : List Proto) (none : commitment_in protocols ≡ None) (x : ℕ) where
  free_at : (b : Bool) → nat_lt x (length protocols) ≡ b → has_back_end (proto_in protocols x) ≡ true
  free_at true low = all_pass has_back_end protocols none x (Local (host 0)) (ltb-true x (length protocols) low)
  free_at false high = ap (λ (q : Proto). has_back_end q) (get_or_past protocols x (Local (host 0)) (ltb-false x (length protocols) high))

  pub all_free : has_back_end (proto_in protocols x) ≡ true
  all_free = free_at (nat_lt x (length protocols)) refl

-- ---- the deal that explains

module _ (p : NormalForm) (l : Labels) (protocols : List Proto) (h : HostId) (runs : Runs) where
  pub excused_is : (stored : List Deal) → IsExcused p l protocols h runs.first runs.second runs.dealing.deals stored → excused_for p l protocols h runs ≡ Ok stored
  excused_is stored x =
      ap (λ (o : Option ViewFault). as_excused o (excuse_files h.0 (plan_of p protocols) runs.first runs.second runs.dealing.deals)) x.no_fault
      ∙ ap (λ (files : List Deal). let r : Result (List Deal) Status = Ok files in r) (sym x.files)

  pub refused_is : (fault : ViewFault) → fault_at p l protocols h runs.first runs.second runs.dealing.deals ≡ Some fault
      → excused_for p l protocols h runs ≡ as_excused (Some fault) (excuse_files h.0 (plan_of p protocols) runs.first runs.second runs.dealing.deals)
  refused_is fault e = ap (λ (o : Option ViewFault). as_excused o (excuse_files h.0 (plan_of p protocols) runs.first runs.second runs.dealing.deals)) e
