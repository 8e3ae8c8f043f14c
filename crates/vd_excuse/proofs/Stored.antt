-- The files of two hosts, as the walk asks for them and gives them.
use Rattle.std.proofs.Common.{◌≡◌, ℕ, zero, suc, nat_eq, Bool, true, false, if◌then◌else◌, List, [], ◌∷◌, Option, Some, length, map, refl, sym, ap, subst, ◌∙◌, arith}
use Rattle.std.specs.Prelude.{slice_get, unwrap_or}
use Rattle.std.proofs.lemmas.List.{length-map}
use Rattle.vd_base.specs.declared.ids.HostId.{HostId}
use Rattle.vd_tape.specs.declared.deal_items.deal.Deal.{Deal}
use Rattle.vd_tape.specs.Validity.{peer_place}
use Rattle.vd_tape.specs.Text.{AreDealsOf}
use Rattle.vd_execution.specs.Step.{Source, Inputs, OwnWords, Triples, BitTriples, Pairs}
use Rattle.vd_machine.specs.Machines.{list_of}
use Rattle.vd_excuse_walk.specs.declared.equivocation_laws.step.Step.{Step}
use Rattle.vd_machine.specs.Dealt.{dealt_count}
use Rattle.vd_views.specs.Files.{AreAsLong}
use Rattle.vd_views.proofs.Front.{Part, file, are_two_files}
use Rattle.vd_excuse.specs.Excuses.{AreExcused, IsOneOfTwo, both_after}
use Rattle.vd_excuse_walk.specs.Claims.{EndsWithin, HasSameShape, HaveSameShape}
use Rattle.vd_excuse_walk.specs.Files.{AreOfTwo, IsOneOfTwo as IsOne, file_tape}

is_one : (me : ℕ) (v : Part) → IsOne me (file me v)
is_one me v = record { hosts_are = refl; me_is = refl; triples = refl; bits = refl; pairs = refl }

each_is : (v u : Part) (g : ℕ) (d : Deal) → slice_get (file 0 v ∷ file 1 u ∷ []) g ≡ Some d → IsOne g d
each_is v u zero d e = subst (IsOne 0) (ap (λ (o : Option Deal). unwrap_or o (file 0 v)) e) (is_one 0 v)
each_is v u (suc zero) d e = subst (IsOne 1) (ap (λ (o : Option Deal). unwrap_or o (file 1 u)) e) (is_one 1 u)
each_is v u (suc (suc g)) d e = cc

pub are_of_two : (deals : List Deal) → length deals ≡ 2 → AreDealsOf 2 deals → AreOfTwo deals
are_of_two deals two dealt =
    let parts = are_two_files deals two (subst (λ (n : ℕ). AreDealsOf n deals) (sym two) dealt) in
    subst AreOfTwo (sym parts.2) (record { two = refl; each = each_is parts.0 parts.1 })

-- ---- lists of the same lengths

length_at : {X : Type 0} (xs : List (List X)) (n : ℕ) → length (unwrap_or (slice_get xs n) []) ≡ unwrap_or (slice_get (map (λ (l : List X). length l) xs) n) 0
length_at [] n = refl
length_at (x ∷ xs) zero = refl
length_at (x ∷ xs) (suc n) = length_at xs n

same_list : {X : Type 0} (xs ys : List (List X)) → map (λ (l : List X). length l) ys ≡ map (λ (l : List X). length l) xs → (me p : ℕ) → length (list_of ys me p) ≡ length (list_of xs me p)
same_list {X} xs ys e me p = at (nat_eq p me) (peer_place me p)
  where
    at : (b : Bool) (n : ℕ) → length (if b then [] else unwrap_or (slice_get ys n) []) ≡ length (if b then [] else unwrap_or (slice_get xs n) [])
    at true n = refl
    at false n = length_at ys n ∙ ap (λ (ns : List ℕ). unwrap_or (slice_get ns n) 0) e ∙ sym (length_at xs n)

as_many : {X : Type 0} (xs ys : List (List X)) → map (λ (l : List X). length l) ys ≡ map (λ (l : List X). length l) xs → length ys ≡ length xs
as_many xs ys e = sym (length-map ys (λ l. length l)) ∙ ap (λ (ns : List ℕ). length ns) e ∙ length-map xs (λ l. length l)

same_count : (d e : Deal) → HasSameShape d e → (s : Source) → dealt_count (Some e) s ≡ dealt_count (Some d) s
same_count d e same Inputs = refl
same_count d e same OwnWords = ap (λ (l : List ℕ). length l) same.own
same_count d e same (Triples p) = ap (λ (m : HostId). length (list_of e.triples m.0 p)) same.me ∙ same_list d.triples e.triples same.triples d.me.0 p
same_count d e same (BitTriples p) = ap (λ (m : HostId). length (list_of e.bits m.0 p)) same.me ∙ same_list d.bits e.bits same.bits d.me.0 p
same_count d e same (Pairs p) = ap (λ (m : HostId). length (list_of e.pairs m.0 p)) same.me ∙ same_list d.pairs e.pairs same.pairs d.me.0 p

one_of_two : (me : ℕ) (v : Part) (e : Deal) → HasSameShape (file me v) e → IsOneOfTwo me e
one_of_two me v e same = record {
  hosts = same.hosts;
  number = ap (λ (m : HostId). m.0) same.me;
  triples = as_many (v.triples ∷ []) e.triples same.triples;
  bits = as_many (v.bits ∷ []) e.bits same.bits;
  pairs = as_many (v.pairs ∷ []) e.pairs same.pairs;
}

module _ (v u : Part) where
  abbrev Same : List Deal → Type 0
  Same stored = HaveSameShape (file 0 v ∷ file 1 u ∷ []) stored

  each_one : (stored : List Deal) → length stored ≡ 2 → Same stored → (g : ℕ) (d : Deal) → slice_get stored g ≡ Some d → IsOneOfTwo g d
  each_one [] e same g d is = absurd (omega (arith, e))
  each_one (c ∷ []) e same g d is = absurd (omega (arith, e))
  each_one (c ∷ x ∷ []) e same zero d is = one_of_two 0 v d (same.each 0 (file 0 v) d refl is)
  each_one (c ∷ x ∷ []) e same (suc zero) d is = one_of_two 1 u d (same.each 1 (file 1 u) d refl is)
  each_one (c ∷ x ∷ []) e same (suc (suc g)) d is = cc
  each_one (c ∷ x ∷ y ∷ stored) e same g d is = absurd (omega (arith, e))

  as_long : (stored : List Deal) → length stored ≡ 2 → Same stored → AreAsLong (file 0 v ∷ file 1 u ∷ []) stored
  as_long [] e same g s = absurd (omega (arith, e))
  as_long (c ∷ []) e same g s = absurd (omega (arith, e))
  as_long (c ∷ x ∷ []) e same zero s = same_count (file 0 v) c (same.each 0 (file 0 v) c refl refl) s
  as_long (c ∷ x ∷ []) e same (suc zero) s = same_count (file 1 u) x (same.each 1 (file 1 u) x refl refl) s
  as_long (c ∷ x ∷ []) e same (suc (suc g)) s = refl
  as_long (c ∷ x ∷ y ∷ stored) e same g s = absurd (omega (arith, e))

pub are_excused : (h : ℕ) (steps : List Step) (first second : List (List ℕ)) (deals stored : List Deal) → length deals ≡ 2 → AreDealsOf 2 deals → HaveSameShape deals stored
    → (EndsWithin deals (both_after h steps first second deals) → file_tape second stored ≡ (both_after h steps first second deals).deal) → AreExcused h steps first second deals stored
are_excused h steps first second deals stored two dealt same deal =
    let parts = are_two_files deals two (subst (λ (n : ℕ). AreDealsOf n deals) (sym two) dealt) in
    let P : List Deal → Type 0 = λ d. HaveSameShape d stored → ((g : ℕ) (e : Deal) → slice_get stored g ≡ Some e → IsOneOfTwo g e) × AreAsLong d stored in
    let both : P deals = subst P (sym parts.2) (λ s. (each_one parts.0 parts.1 stored s.two s, as_long parts.0 parts.1 stored s.two s)) in
    record { two = same.two; each = (both same).0; as_long = (both same).1; same = λ takes ends. deal (record { takes = takes; ends = ends }) }
