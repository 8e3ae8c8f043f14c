-- The difference, of a host that was made from these.
use Rattle.std.proofs.Common.{◌≡◌, ℕ, List, Option, subst}
use Rattle.vd_base.specs.declared.ids.HostId.{HostId}
use Rattle.vd_base.specs.declared.protocols.Proto.{Proto}
use Rattle.vd_core.specs.declared.normal.NormalForm.{NormalForm}
use Rattle.vd_constraints.specs.declared.labels.Labels.{Labels}
use Rattle.vd_noninter_protocols.specs.Difference.{view_difference, IsDifference}
use Rattle.vd_noninter_protocols.specs.Runs.{Hearer}

pub differ_at : (p : NormalForm) (x : Hearer) (protocols : List Proto) (h : HostId) (first second : List (List ℕ)) (place : Option ℕ) (l : Labels) → IsDifference p x first second place
    → x ≡ record { protocols = protocols; host = h } → place ≡ view_difference p l protocols h first second
differ_at p x protocols h first second place l is made =
    let of : IsDifference p (record { protocols = protocols; host = h }) first second place = subst (λ (y : Hearer). IsDifference p y first second place) made is in
    of l
