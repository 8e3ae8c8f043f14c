-- Branches on what no host may read are gone.
use Rattle.std.proofs.Common.{◌≡◌, ℕ, zero, suc, ◌<◌, Bool, true, false, true≢false, ◌&&◌, not, if◌then◌else◌, List, [], ◌∷◌, map, length, slice_get, slice_index_or, Some, refl, sym, ap, ◌∙◌, arith}
use Rattle.std.specs.Prelude.{IsTrue}
use Rattle.vd_base.specs.declared.ids.SlotId.{SlotId}
use Rattle.vd_core.specs.declared.normal.NormalForm.{NormalForm}
use Rattle.vd_formula.specs.declared.label.Label.{Label}
use Rattle.vd_constraints.specs.declared.labels.Labels.{Labels}
use Rattle.vd_rewrite.specs.Rewriting.{kept_let, rewritings, some_changed, is_within, made_at_start}
use Rattle.vd_mux.specs.BooleanGuards.{HasBooleanGuards}
use Rattle.vd_mux.specs.Hidden.{some_reads}
use Rattle.vd_mux.specs.Selections.{with_selections, turned, turned_where_boolean}
use Rattle.vd_mux.specs.Branches.{branches, branches_left, is_hidden_in, is_read_by, HiddenBranchesGo}
use Rattle.vd_mux.proofs.BranchesGone.{body_left, body_same}
use Rattle.vd_mux.proofs.Reading.{found}

-- an item of a mapped list
mark_is : (f : Label → Bool) (labels : List Label) (k : ℕ) (label : Label) → slice_get labels k ≡ Some label → slice_index_or (map f labels) k false ≡ f label
mark_is f [] k label at = cc at
mark_is f (x ∷ xs) zero label at = cc at
mark_is f (x ∷ xs) (suc k) label at = mark_is f xs k label at

none_read : (p : NormalForm) (label : Label) (n : ℕ) → ((h : ℕ) → h < n → is_read_by p h label ≡ false) → some_reads p n label ≡ false
none_read p label zero none = refl
none_read p label (suc n) none = rw (none_read p label n (λ h lt. none h (omega arith)), none n (omega arith)) refl

module _ (hides : SlotId → Bool) (p : NormalForm) where
  turned_left : IsTrue (is_within (with_selections hides p)) → branches (turned hides p).body ≡ branches_left hides p.body
  turned_left fits = by (some_changed (rewritings hides (kept_let p.slots) p.slots p.body)) (is_within (with_selections hides p)) refl fits
    where
      by : (c w : Bool) → some_changed (rewritings hides (kept_let p.slots) p.slots p.body) ≡ c → IsTrue w → branches (if c && w then with_selections hides p else p).body ≡ branches_left hides p.body
      by true true e fits = body_left hides p.slots p.body 0 made_at_start
      by false true e fits = body_same hides p.slots p.body e
      by true false e fits = absurd (true≢false (sym fits))
      by false false e fits = absurd (true≢false (sym fits))

  pub where_boolean : HasBooleanGuards p → IsTrue (is_within (with_selections hides p)) → branches (turned_where_boolean hides p).body ≡ branches_left hides p.body
  where_boolean boolean fits = ap (λ (b : Bool). branches (if b then turned hides p else p).body) boolean ∙ turned_left fits

pub hidden_go : (p : NormalForm) (l : Labels) → HiddenBranchesGo p l
hidden_go p l =
    record {
      hidden = λ x label at none. mark_is (λ label. not (some_reads p (length p.hosts) label)) l.slots x.0 label at ∙ ap not (none_read p label (length p.hosts) none);
      read = λ x label at h lt reads. mark_is (λ label. not (some_reads p (length p.hosts) label)) l.slots x.0 label at ∙ ap not (found p label (length p.hosts) h lt reads);
      gone = λ boolean fits. where_boolean (is_hidden_in p l) p boolean fits;
    }
