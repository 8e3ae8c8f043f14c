-- What the reader of a file answers, by its grammar.
use Rattle.std.proofs.Common.{◌≡◌, ℕ, List, Result, Ok, Err, refl, sym, ap, subst, ◌∙◌}
use Rattle.std.specs.Prelude.{◌↔◌, IfOk, IfErr}
use Rattle.vd_base.specs.declared.faults.FileFault.{FileFault}
use Rattle.vd_base.specs.declared.faults.FileFault.TheVariants.{Text, Memory}
use Rattle.vd_base_codec.specs.Reading.{capped}
use Rattle.vd_base_codec.specs.Exact.{StopsAt, IsTextOf, IsExactWhole}
use Rattle.vd_base_codec.specs.Outcome.{FollowsGrammar, IsFaultOf, IsFirstWrong, Accepts, Refuses}
use Rattle.vd_base_codec.proofs.Whole.{stops_single}

-- what is read exactly follows the grammar
pub exact_follows : {X : Type 0} (Fits : X → Type 0) (text : X → List ℕ) (bytes : List ℕ) (read : Result X ℕ) → IsExactWhole Fits text bytes read
    → FollowsGrammar read (λ x. Fits x × (text x ≡ bytes)) (StopsAt (IsTextOf Fits text) bytes)
exact_follows Fits text bytes (Ok x) exact = record {
  given = λ y. (
    λ e. let same : x ≡ y = cc in subst (λ z. Fits z × (text z ≡ bytes)) same (exact.0, exact.1),
    λ h. ap (λ z. Ok z) (sym (exact.2 y h.0 h.1)),
  );
  refused = λ at. (λ e. absurd cc, λ s. absurd (s.no_text (x, (exact.0, exact.1))));
}
exact_follows Fits text bytes (Err left) exact = record {
  given = λ y. (λ e. absurd cc, λ h. absurd (exact.no_text (y, h)));
  refused = λ at. (
    λ e. let same : left ≡ at = cc in subst (StopsAt (IsTextOf Fits text) bytes) same exact,
    λ s. ap (λ n. Err n) (stops_single (IsTextOf Fits text) bytes left at exact s),
  );
}

module _ {X : Type 0} (read : Result X ℕ) (IsFileOf : X → Type 0) (IsWrongAt : ℕ → Type 0) (follows : FollowsGrammar read IsFileOf IsWrongAt) where
  pub file_accepts : (r : Result X FileFault) → IfOk r (λ x. read ≡ Ok x) → IfErr r (λ f. IsFaultOf read f) → Accepts IsFileOf r
  file_accepts (Ok x) ok err = λ some y. (
    λ e. let same : x ≡ y = cc in (follows.given y).0 (ok ∙ ap (λ z. Ok z) same),
    λ h. let other : read ≡ Ok y = (follows.given y).1 h in let same : x ≡ y = cc in ap (λ z. Ok z) same,
  )
  file_accepts (Err (Text at)) ok err = λ some y. (
    λ e. absurd cc,
    λ h. let other : read ≡ Ok y = (follows.given y).1 h in absurd (let wrong : read ≡ Err err.0 = err.1 in cc),
  )
  file_accepts (Err Memory) ok err = λ some y. absurd (some refl)

  refuses_none : (x : X) → read ≡ Ok x → (fault : FileFault) → let r : Result X FileFault = Ok x in (r ≡ Err fault) ↔ IsFirstWrong IsWrongAt fault
  refuses_none x ok (Text at) = (
    λ e. absurd cc,
    λ h. let other : read ≡ Err h.0 = (follows.refused h.0).1 h.1 in absurd cc,
  )
  refuses_none x ok Memory = (λ e. absurd cc, λ h. absurd h)

  refuses_one : (at : ℕ) → IsFaultOf read (Text at) → (fault : FileFault) → let r : Result X FileFault = Err (Text at) in (r ≡ Err fault) ↔ IsFirstWrong IsWrongAt fault
  refuses_one at err (Text there) = (
    λ e. let same : at ≡ there = cc in (err.0, (follows.refused err.0).0 err.1, sym same ∙ err.2),
    λ h.
        let other : read ≡ Err h.0 = (follows.refused h.0).1 h.1 in
        let wrong : read ≡ Err err.0 = err.1 in
        let one : err.0 ≡ h.0 = cc in
        let same : at ≡ there = err.2 ∙ ap capped one ∙ sym h.2 in
        ap (λ a. Err (Text a)) same,
  )
  refuses_one at err Memory = (λ e. absurd cc, λ h. absurd h)

  pub file_refuses : (r : Result X FileFault) → IfOk r (λ x. read ≡ Ok x) → IfErr r (λ f. IsFaultOf read f) → Refuses IsWrongAt r
  file_refuses (Ok x) ok err = λ some. refuses_none x ok
  file_refuses (Err (Text at)) ok err = λ some. refuses_one at err
  file_refuses (Err Memory) ok err = λ some fault. absurd (some refl)

  -- what holds of what a file is of holds of what is answered
  pub file_is : (P : X → Type 0) → ((x : X) → IsFileOf x → P x) → (r : Result X FileFault) → IfOk r (λ x. read ≡ Ok x) → IfOk r P
  file_is P so (Ok x) ok = so x ((follows.given x).0 ok)
  file_is P so (Err fault) ok = tt
