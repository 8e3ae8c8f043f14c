-- A host that is changed in its place.
use Rattle.std.proofs.Common.{◌≡◌, ℕ, ◌<◌, List, length, sym, ap, ◌∙◌}
use Rattle.std.specs.Prelude.{Result, OnOk, Ok, Err, ⊤, slice_index_or, slice_set}
use Rattle.vd_excuse_runs.specs.declared.side.Side.{Side}
use Rattle.vd_excuse_runs.specs.Sides.{empty_side}
use Rattle.vd_excuse_runs.specs.Runs.{put_side, side_at}
use Rattle.vd_excuse_runs.proofs.Puts.{put_within}

pub changed_there : (before there new : List Side) (k : ℕ) (f : Side → Side) → k < length there → ((side : Side) → put_side there k side ≡ put_side before k side) → side_at there k ≡ side_at before k
    → new ≡ slice_set there k (f (slice_index_or there k empty_side)) → new ≡ put_side before k (f (side_at before k))
changed_there before there new k f lt same side is =
    is ∙ sym (put_within empty_side there k (f (side_at there k)) lt) ∙ same (f (side_at there k)) ∙ ap (λ (z : Side). put_side before k (f z)) side

pub on_ok : {E : Type 0} {P Q : Type 0} (r : Result ⊤ E) → (P → Q) → OnOk r P → OnOk r Q
on_ok (Ok x) leads holds = leads holds
on_ok (Err e) leads holds = tt
