-- What the problem of a well-made program keeps.
use Rattle.std.proofs.Common.{◌≡◌, ℕ, ◌<◌, List, [], ◌∷◌, map, length, refl, sym, subst, arith}
use Rattle.std.specs.Prelude.{All}
use Rattle.std.specs.List.{AllByRecursion}
use Rattle.std.proofs.lemmas.List.{length-map}
use Rattle.std.proofs.lemmas.List.Elements.{All-map, All-from_recursion}
use Rattle.vd_base.specs.declared.ids.SlotId.{SlotId}
use Rattle.vd_base.specs.declared.rows.Row.{Row}
use Rattle.vd_core.specs.Facts.{IsWellMade}
use Rattle.vd_core.specs.declared.normal.NormalForm.{NormalForm}
use Rattle.vd_core.specs.declared.normal.Written.{Written}
use Rattle.vd_formula.specs.Forms.{formula_of}
use Rattle.vd_protocol.specs.Authority.{IsOver, names_of}
use Rattle.vd_constraints.specs.declared.labels.Labels.{Labels}
use Rattle.vd_constraints.specs.Rules.{label}
use Rattle.vd_constraints.specs.Satisfies.{no_label}
use Rattle.vd_constraints.proofs.Front.{well_made_scoped}
use Rattle.vd_space.specs.declared.problem.Making.{Making}
use Rattle.vd_space.specs.Reading.{making_of, problem_of}
use Rattle.vd_space.specs.Labelled.{IsLabelled, HasLabels, NamesOwnSlots}
use Rattle.vd_space.specs.declared.problem.Output.{Output}
use Rattle.vd_space.specs.declared.problem.Guard.{Guard}
use Rattle.vd_space.specs.Spaces.{IsUse, IsIndex}
use Rattle.vd_space.proofs.Counted.{as_many}
use Rattle.vd_space.proofs.Named.{body_fits}

pub names_below : (p : NormalForm) (l : Labels) → IsWellMade p → NamesOwnSlots (problem_of p l)
names_below p l is =
    let fits = body_fits (length p.slots) (λ making. Unit {0}) l (λ row weight x low. tt) p.body (well_made_scoped p is).named_slots 1 in
    let many = as_many p l is in
    let problem = problem_of p l in
    record {
      uses = subst (λ n. AllByRecursion (IsUse n) problem.uses) (sym many) fits.uses;
      outputs = subst (λ n. AllByRecursion (λ (o : Output). o.slot.0 < n) problem.outputs) (sym many) fits.outputs;
      guards = subst (λ n. AllByRecursion (λ (guard : Guard). guard.slot.0 < n) problem.guards) (sym many) fits.guards;
      indexes = subst (λ n. AllByRecursion (IsIndex n) problem.indexes) (sym many) fits.indexes;
    }

label_over : (p : NormalForm) (written : Written) → IsOver (length p.principals) (label p written)
unfolding formula_of
label_over p written = record { conf = refl; integ = refl }

first_names : (p : NormalForm) (labels : List Written) → 0 < length labels → names_of (map (label p) labels) ≡ length p.principals
unfolding formula_of
first_names p [] some = absurd (omega arith)
first_names p (written ∷ labels) some = refl

pub is_labelled : (p : NormalForm) (l : Labels) → IsWellMade p → HasLabels p l → IsLabelled (problem_of p l)
is_labelled p l is has =
    let n = length p.principals in
    let hosts = map (label p) p.labels in
    let size = length-map p.labels (label p) in
    let as_many = is.labels in
    let some_ = is.limits.some_host in
    let few = is.limits.hosts in
    let names = first_names p p.labels (omega (arith, as_many, some_)) in
    let all_hosts : All (IsOver n) hosts = All-map (IsOver n) (label p) p.labels (λ k d low. label_over p _) in
    let makes : (row : Row) (weight : ℕ) (x : SlotId) → x.0 < length p.slots → IsOver n (making_of l row weight x).label = λ row weight x low.
    let over = has.over x.0 no_label (subst (λ k. x.0 < k) (sym has.slots) low) in
    record { conf = over.conf.over; integ = over.integ.over } in
    let fits = body_fits (length p.slots) (λ (making : Making). IsOver n making.label) l makes p.body (well_made_scoped p is).named_slots 1 in
    record {
      some_host = omega (arith, size, as_many, some_);
      few_hosts = omega (arith, size, as_many, few);
      hosts = subst (λ k. All (IsOver k) hosts) (sym names) all_hosts;
      slots = subst (λ k. All (λ (making : Making). IsOver k making.label) (problem_of p l).slots) (sym names) (All-from_recursion (λ (making : Making). IsOver n making.label) (problem_of p l).slots fits.slots);
    }
