-- The clear words that come to a host from where it did not have them are those that moves tell it.
use Rattle.std.proofs.Common.{◌≡◌, Bool, true, false, ◌&&◌, not, Option, Some, List, refl, sym, ap, ◌∙◌}
use Rattle.std.specs.Prelude.{slice_get}
use Rattle.std.specs.Option.{option_map_or}
use Rattle.std.proofs.lemmas.Bool.{eq-eqb}
use Rattle.std.proofs.lemmas.Option.{get_or_from_slice_get}
use Rattle.vd_base.specs.declared.ids.HostId.{HostId}
use Rattle.vd_base.specs.declared.ids.SlotId.{SlotId}
use Rattle.vd_base.specs.declared.protocols.Proto.{Proto}
use Rattle.vd_base.specs.declared.protocols.Proto.TheVariants.{Local, Rep, Commit, Add, Xor}
use Rattle.vd_base.specs.HostSets.{same_host, host}
use Rattle.vd_base.specs.Holders.{has_clear, is_alone, proto_in, same_protocol}
use Rattle.vd_base.proofs.Front.{same_is}
use Rattle.vd_noninter_protocols.specs.Hearing.{stands}
use Rattle.vd_noninter_protocols.specs.Learning.{knows}
use Rattle.vd_cmd_draw.specs.Showing.{ToldWordsCome}

-- a word that stays where it is is told to nobody
by_place : (same here there : Bool) → (same ≡ true → here ≡ there) → ((there && not same) && not here) ≡ (there && not here)
by_place true here true equal = ap not (sym (equal refl))
by_place true here false equal = refl
by_place false here true equal = refl
by_place false here false equal = refl

by_alone : (h : HostId) (p : Proto) → (not (is_alone h p) && not (has_clear h p)) ≡ not (has_clear h p)
by_alone h (Local k) = both (same_host k h)
  where
    both : (b : Bool) → (not b && not b) ≡ not b
    both true = refl
    both false = refl
by_alone h (Rep set) = refl
by_alone h (Commit p v) = refl
by_alone h (Add a b) = refl
by_alone h (Xor a b) = refl

itself : (h : HostId) → same_host h h ≡ true
itself h = eq-eqb h.0 h.0 refl

module _ (protocols : List Proto) (h : HostId) where
  stands_at : (test : Proto → Bool) (x : SlotId) (p : Proto) → slice_get protocols x.0 ≡ Some p → stands protocols h test x ≡ test p
  stands_at test x p is = ap (λ (o : Option Proto). option_map_or test o false) is

  known_at : (x : SlotId) (p : Proto) → slice_get protocols x.0 ≡ Some p → knows protocols h x ≡ has_clear h p
  known_at x p is = ap (λ (k : Proto). has_clear h k) (get_or_from_slice_get protocols x.0 p (Local (host 0)) is)

  both_are : (from onto : SlotId) (p q : Proto) → slice_get protocols from.0 ≡ Some p → slice_get protocols onto.0 ≡ Some q → same_protocol (proto_in protocols from.0) (proto_in protocols onto.0) ≡ same_protocol p q
  both_are from onto p q is_from is_onto =
      λ i. same_protocol (get_or_from_slice_get protocols from.0 p (Local (host 0)) is_from i) (get_or_from_slice_get protocols onto.0 q (Local (host 0)) is_onto i)

pub words_come : ToldWordsCome
words_come protocols h from onto p q is_from is_onto = record {
  moved =
      (λ i. (stands_at protocols h (has_clear h) onto q is_onto i && not (both_are protocols h from onto p q is_from is_onto i)) && not (known_at protocols h from p is_from i))
      ∙ by_place (same_protocol p q) (has_clear h p) (has_clear h q) (λ same. ap (λ (k : Proto). has_clear h k) (same_is p q same));
  alone =
      (λ i. not (stands_at protocols h (is_alone h) from p is_from i) && not (known_at protocols h from p is_from i))
      ∙ by_alone h p
      ∙ (λ i. sym (itself h) i && not (has_clear h p));
}
