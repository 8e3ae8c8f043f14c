-- Lists that grew by a prefix of some items.
use Rattle.std.proofs.Common.{◌≡◌, List, [], ◌++◌, refl, sym, ◌∙◌, ap, append_assoc}
use Rattle.std.proofs.lemmas.List.{append-nil}
use Rattle.vd_cmd_plan.specs.Plans.{GrowsWithin}

pub same_within : {T : Type 0} (before now items : List T) → now ≡ before → GrowsWithin before now items
same_within before now items is = ([], is ∙ sym (append-nil before), (items, refl))

pub front_within : {T : Type 0} (before now xs ys : List T) → now ≡ before ++ xs → GrowsWithin before now (xs ++ ys)
front_within before now xs ys is = (xs, is, (ys, refl))

pub all_within : {T : Type 0} (before now items : List T) → now ≡ before ++ items → GrowsWithin before now items
all_within before now items is = (items, is, ([], sym (append-nil items)))

pub more_within : {T : Type 0} (before now xs ys : List T) → GrowsWithin before now xs → GrowsWithin before now (xs ++ ys)
more_within {T = T} before now xs ys p = (p.0, p.1, (p.2.0 ++ ys, ap (λ (l : List T). l ++ ys) p.2.1 ∙ append_assoc p.0 p.2.0 ys))

pub later_within : {T : Type 0} (before mid now xs ys : List T) → mid ≡ before ++ xs → GrowsWithin mid now ys → GrowsWithin before now (xs ++ ys)
later_within {T = T} before mid now xs ys is p = (
  xs ++ p.0,
  p.1 ∙ ap (λ (l : List T). l ++ p.0) is ∙ append_assoc before xs p.0,
  (p.2.0, ap (λ (l : List T). xs ++ l) p.2.1 ∙ sym (append_assoc xs p.0 p.2.0)),
)
