-- All items of all hosts, two by two.
use Rattle.std.proofs.Common.{◌≡◌, ℕ, ◌+◌, ◌<◌, ◌≤◌, List, length, get_or, Some, inl, inr, refl, sym, ap, subst, ◌∙◌, arith}
use Rattle.std.specs.Prelude.{slice_get}
use Rattle.vd_tape.specs.declared.deal_items.deal.Deal.{Deal}
use Rattle.vd_tape.specs.declared.deal_items.deal.DealKind.{DealKind}
use Rattle.vd_tape.specs.declared.deal_items.deal.BadItem.{BadItem}
use Rattle.vd_tape.specs.Validity.{Meets, IsDeal, AreDeals, IsConsistent, IsFirstBad}
use Rattle.vd_base.specs.declared.ids.HostId.{HostId}
use Rattle.vd_tape.specs.Consistency.{IsFirstOfTwo}
use Rattle.std.proofs.lemmas.Option.{slice_get_read, slice_get_within}
use Rattle.std.proofs.lemmas.Bool.{cases_eq}

abbrev pub AllMeet : Deal → Deal → Type 0
AllMeet p q = (kind : DealKind) (i : ℕ) → Meets p q kind i

-- all items of hosts of which the first is below this one
abbrev pub AllBefore : List Deal → ℕ → Type 0
AllBefore deals first = (f s : ℕ) (p q : Deal) → f < first → f < s → slice_get deals f ≡ Some p → slice_get deals s ≡ Some q → AllMeet p q

-- all items of this first host and a second host below that one
abbrev pub AllBesides : List Deal → ℕ → ℕ → Type 0
AllBesides deals first second = (s : ℕ) (p q : Deal) → first < s → s < second → slice_get deals first ≡ Some p → slice_get deals s ≡ Some q → AllMeet p q

at_index : (ds : List Deal) (i : ℕ) (d : Deal) → i < length ds → d ≡ get_or ds i d → slice_get ds i ≡ Some d
at_index ds i d h e = slice_get_read ds (length ds) i d refl h e

same_at : (ds : List Deal) (i j : ℕ) (p q : Deal) → i ≡ j → slice_get ds i ≡ Some p → slice_get ds j ≡ Some q → q ≡ p
same_at ds i j p q e ep eq =
    let one : slice_get ds i ≡ slice_get ds j = ap (slice_get ds) e in
    cc

all_meet : (p0 q0 p q : Deal) → p0 ≡ p → q0 ≡ q → AllMeet p0 q0 → AllMeet p q
all_meet p0 q0 p q ep eq h =
    let first : AllMeet p q0 = subst (λ d. AllMeet d q0) ep h in
    subst (λ d. AllMeet p d) eq first

pub deal_at : (deals ds : List Deal) (i : ℕ) (d : Deal) → AreDeals deals → ds ≡ deals → i < length ds → d ≡ get_or ds i d → IsDeal d × (d.me.0 ≡ i)
deal_at deals ds i d are same h e =
    let fact = are.each i d (ap (λ xs. slice_get xs i) (sym same) ∙ at_index ds i d h e) in
    (fact.0, fact.1)

pub next_besides : (ds : List Deal) (first second : ℕ) (p0 q0 : Deal) → first < length ds → second < length ds → p0 ≡ get_or ds first p0 → q0 ≡ get_or ds second q0
    → AllMeet p0 q0 → AllBesides ds first second → AllBesides ds first (second + 1)
next_besides ds first second p0 q0 hf hs ep0 eq0 met so_far s p q lt below ep eq kind i = elim (cases_eq s second) [
  | inl e ↦ all_meet p0 q0 p q (same_at ds first first p p0 refl ep (at_index ds first p0 hf ep0)) (same_at ds s second q q0 e eq (at_index ds second q0 hs eq0)) met kind i
  | inr n ↦ so_far s p q lt (omega (arith, n)) ep eq kind i
]

pub next_before : (ds : List Deal) (first second : ℕ) → length ds ≤ second → AllBesides ds first second → AllBefore ds first → AllBefore ds (first + 1)
next_before ds first second whole besides before f s p q below lt ep eq kind i = elim (cases_eq f first) [
  | inl e ↦
      let within : s < length ds = slice_get_within ds s q eq in
      besides s p q (omega (arith, e)) (omega arith) (ap (slice_get ds) (sym e) ∙ ep) eq kind i
  | inr n ↦ before f s p q (omega (arith, n)) lt ep eq kind i
]

pub all_consistent : (deals ds : List Deal) (first : ℕ) → ds ≡ deals → length ds ≤ first → AllBefore ds first → IsConsistent deals
all_consistent deals ds first same whole before f s p q lt ep eq kind i =
    let ep' : slice_get ds f ≡ Some p = ap (λ xs. slice_get xs f) same ∙ ep in
    let eq' : slice_get ds s ≡ Some q = ap (λ xs. slice_get xs s) same ∙ eq in
    let within : f < length ds = slice_get_within ds f p ep' in
    before f s p q (omega arith) lt ep' eq' kind i

pub first_bad : (deals ds : List Deal) (first second : ℕ) (p0 q0 : Deal) (bad : BadItem) → AreDeals deals → ds ≡ deals → first < second → first < length ds → second < length ds
    → p0 ≡ get_or ds first p0 → q0 ≡ get_or ds second q0 → AllBefore ds first → AllBesides ds first second → IsFirstOfTwo p0 q0 bad → IsFirstBad deals bad
first_bad deals ds first second p0 q0 bad are same lt hf hs ep0 eq0 before besides two =
    let me : bad.first.0 ≡ first = ap (λ (h : HostId). h.0) two.first_is ∙ (deal_at deals ds first p0 are same hf ep0).1 in
    let peer : bad.second.0 ≡ second = ap (λ (h : HostId). h.0) two.second_is ∙ (deal_at deals ds second q0 are same hs eq0).1 in
    let here : slice_get deals first ≡ Some p0 = ap (λ xs. slice_get xs first) (sym same) ∙ at_index ds first p0 hf ep0 in
    let there : slice_get deals second ≡ Some q0 = ap (λ xs. slice_get xs second) (sym same) ∙ at_index ds second q0 hs eq0 in
    record {
      first = p0;
      second = q0;
      order = omega (arith, me, peer);
      first_is = ap (slice_get deals) me ∙ here;
      second_is = ap (slice_get deals) peer ∙ there;
      sides_are = two.sides_are;
      differ = two.differ;
      earlier = λ f s p q h ep eq kind i place.
          let ep' : slice_get ds f ≡ Some p = ap (λ xs. slice_get xs f) same ∙ ep in
          let eq' : slice_get ds s ≡ Some q = ap (λ xs. slice_get xs s) same ∙ eq in
          elim place [
            | inl below ↦ before f s p q (omega (arith, me)) h ep' eq' kind i
            | inr (e, inl below) ↦ besides s p q (omega (arith, e, me)) (omega (arith, peer)) (ap (slice_get ds) (sym (e ∙ me)) ∙ ep') eq' kind i
            | inr (e, inr (e2, rest)) ↦
                let both : Meets p0 q0 kind i = two.earlier kind i rest in
                let one : Meets p q0 kind i = subst (λ d. Meets d q0 kind i) (same_at deals f first p p0 (e ∙ me) ep here) both in
                subst (λ d. Meets p d kind i) (same_at deals s second q q0 (e2 ∙ peer) eq there) one
          ];
    }
