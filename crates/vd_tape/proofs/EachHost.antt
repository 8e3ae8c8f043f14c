-- The deals of all hosts, one after the other.
use Rattle.std.proofs.Common.{◌≡◌, ℕ, ◌<◌, ◌≤◌, List, [], ◌∷◌, ◌++◌, length, get_or, Some, inl, inr, sym, ap, subst, ◌∙◌, length-append, arith}
use Rattle.std.specs.Prelude.{slice_get}
use Rattle.std.proofs.lemmas.Bool.{cases_lt}
use Rattle.std.proofs.lemmas.Option.{slice_get_within, slice_get-get_or, get_or_from_slice_get}
use Rattle.std.proofs.lemmas.List.{get_or_append_left}
use Rattle.std.proofs.Math.Seq.{get_or-append_seam}
use Rattle.vd_base.specs.Limits.{most_hosts}
use Rattle.vd_tape.specs.declared.deal_items.deal.Deal.{Deal}
use Rattle.vd_tape.specs.Validity.{AreDeals}
use Rattle.vd_tape.specs.Text.{IsDealOf, AreDealsOf}

pub no_deals : (hosts : ℕ) → AreDealsOf hosts []
no_deals hosts host deal e = absurd cc

get_front : (ds : List Deal) (d e : Deal) (i : ℕ) → slice_get (ds ++ d ∷ []) i ≡ Some e → i < length ds → slice_get ds i ≡ Some e
get_front ds d e i is h =
    slice_get-get_or ds i e h ∙ ap (λ x. Some x) (sym (get_or_append_left ds (d ∷ []) e i h) ∙ get_or_from_slice_get (ds ++ d ∷ []) i e e is)

get_last : (ds : List Deal) (d e : Deal) (i : ℕ) → slice_get (ds ++ d ∷ []) i ≡ Some e → i ≡ length ds → d ≡ e
get_last ds d e i is h =
    sym (get_or-append_seam ds d [] e) ∙ ap (λ n. get_or (ds ++ d ∷ []) n e) (sym h) ∙ get_or_from_slice_get (ds ++ d ∷ []) i e e is

pub more_deals : (hosts : ℕ) (deals : List Deal) (deal : Deal) → AreDealsOf hosts deals → IsDealOf hosts (length deals) deal → AreDealsOf hosts (deals ++ deal ∷ [])
more_deals hosts deals deal are is host other e = elim (cases_lt host (length deals)) [
  | inl lt ↦ are host other (get_front deals deal other host e lt)
  | inr le ↦
      let within : host < length (deals ++ deal ∷ []) = slice_get_within (deals ++ deal ∷ []) host other e in
      let last : host ≡ length deals = omega (arith, length-append deals (deal ∷ [])) in
      let here : IsDealOf hosts (length deals) other = subst (IsDealOf hosts (length deals)) (get_last deals deal other host e last) is in
      subst (λ n. IsDealOf hosts n other) (sym last) here
]

pub all_deals : (deals : List Deal) → length deals ≤ most_hosts → AreDealsOf (length deals) deals → AreDeals deals
all_deals deals few are = record {
  few = few;
  each = λ host deal e. let is = are host deal e in (is.is, is.me_is, is.hosts_are);
}
