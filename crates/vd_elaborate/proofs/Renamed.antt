-- A slot that is given a name.
use Rattle.std.proofs.Common.{◌≡◌, ℕ, zero, suc, ◌<◌, ◌≤◌, List, [], ◌∷◌, length, get_or, slice_set, Option, refl, ap, ◌∙◌, arith}
use Rattle.vd_core.specs.declared.normal.Slot.{Slot}
use Rattle.vd_core.specs.declared.source.Ident.{Ident}
use Rattle.vd_core.specs.declared.source.WrittenLabel.{WrittenLabel}
use Rattle.vd_elaborate.specs.declared.anf.here.Here.{Here}
use Rattle.vd_elaborate.specs.Normal.{named_slot, renamed}

-- the slot with the new name
abbrev pub anew : Slot → Ident → Option WrittenLabel → Slot
anew s x label = let here : Here = record { offset = s.offset; block = s.block } in named_slot here x s.kind label

renamed_within : (ss : List Slot) (k : ℕ) (d : Slot) (x : Ident) (label : Option WrittenLabel) → k < length ss → slice_set ss k (anew (get_or ss k d) x label) ≡ renamed ss k x label
renamed_within [] k d x label lt = absurd (omega arith)
renamed_within (s ∷ ss) zero d x label lt = refl
renamed_within (s ∷ ss) (suc k) d x label lt = ap (λ z. s ∷ z) (renamed_within ss k d x label (omega arith))

pub renamed_past : (ss : List Slot) (k : ℕ) (x : Ident) (label : Option WrittenLabel) → length ss ≤ k → ss ≡ renamed ss k x label
renamed_past [] k x label le = refl
renamed_past (s ∷ ss) zero x label le = absurd (omega arith)
renamed_past (s ∷ ss) (suc k) x label le = ap (λ z. s ∷ z) (renamed_past ss k x label (omega arith))

pub renamed_at : (ss zs : List Slot) (k : ℕ) (d e : Slot) (x : Ident) (label : Option WrittenLabel) → zs ≡ ss → k < length ss → e ≡ anew (get_or zs k d) x label → slice_set ss k e ≡ renamed ss k x label
renamed_at ss zs k d e x label same lt is = ap (slice_set ss k) (is ∙ ap (λ ys. anew (get_or ys k d) x label) same) ∙ renamed_within ss k d x label lt
