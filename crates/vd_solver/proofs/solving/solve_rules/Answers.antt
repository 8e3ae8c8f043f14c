use Rattle.std.proofs.Common.{◌≡◌, ◌+◌, ◌*◌, ◌<◌, true, false, ℕ, List, length, get_or, refl, sym, ap, ◌∙◌, subst, arith}
use Rattle.std.proofs.lemmas.Bool.{true≢false}
use Rattle.vd_constraints.specs.declared.labels.Labels.{Labels}
use Rattle.vd_constraints.specs.Systems.{IsRuleOf}
use Rattle.vd_solver.specs.Reading.{part_number, IsIndex}
use Rattle.vd_constraints.proofs.Front.{names-rule}
use Rattle.vd_solver.proofs.Parts.{within}
use Rattle.vd_solver.proofs.LabelsLeastRaising.{IsReached}
use Rattle.vd_solver.proofs.Free.{free_reached}
use Rattle.vd_solver.proofs.Indexes.{number_low}
use Rattle.vd_solver.proofs.Progress.{IsUnderWay, valid_rule, after_held, after_raised, measure_falls, solved}
use Rattle.vd_solver.proofs.solving.solve_rules.Goals as goal

-- what is read from a list is read from an equal one
read_from : {X : Type 0} (read list : List X) (i : ℕ) (x : X) → read ≡ list → x ≡ get_or read i x → x ≡ get_or list i x
read_from read list i x same is = is ∙ ap (λ xs. get_or xs i x) same

valid : (c : goal.After-labels-in-Some-1) → IsRuleOf c.args.system.now c.index-rules-place.result
valid c = valid_rule c.args.system.now c.lower-rules.ensures.valid c.loop-place.labels c.loop-place.waiting c.take.new.self c.in-Some.place c.index-rules-place.result c.loop-place.invariant c.in-Some.ensures (read_from c.lower-rules.result.now c.args.system.now.lower c.in-Some.place c.index-rules-place.result c.lower-rules.ensures.same c.index-rules-place.is)

pub raise-requires : goal.raise-requires
raise-requires c = record {
  within = within c.args.system.now c.loop-place.labels c.loop-place.invariant.reached.labelling c.index-rules-place.result.part.at (valid c).part;
  names = names-rule c.args.system.now c.loop-place.labels c.loop-place.invariant.reached.labelling c.index-rules-place.result (valid c);
}

pub loop-place-init : goal.loop-place-init
loop-place-init c = record {
  reached = subst (IsReached c.args.system.now) (sym c.in_ok-labels.ensures) (free_reached c.args.system.now c.lower-rules.ensures.valid);
  count = c.in_ok-waiting.ensures.count ∙ ap length c.lower-rules.ensures.same;
  queue = c.in_ok-waiting.ensures.queue;
  settled = λ rule d low idle.
      let among : rule < length c.lower-rules.result.now = subst (λ xs. rule < length xs) (sym c.lower-rules.ensures.same) low in
      absurd (true≢false (sym (c.in_ok-waiting.ensures.all rule among) ∙ idle));
}

-- the list of the rules that read the part
reads : (c : goal.In_ok-add) → c.as_slice.result.now ≡ get_or c.in_ok-readers.readers.items (part_number c.args.system.now.slots c.index-rules-place.result.part) c.as_slice.result.now
reads c =
    let number : c.number.result ≡ part_number c.args.system.now.slots c.index-rules-place.result.part = c.number.ensures ∙ ap (λ n. part_number n c.index-rules-place.result.part) c.slots.ensures.same in
    let at : c.index.result.now ≡ get_or c.in_ok-readers.readers.items (part_number c.args.system.now.slots c.index-rules-place.result.part) c.index.result.now =
    c.index.ensures ∙ ap (λ k. get_or c.in_ok-readers.readers.items k c.index.result.now) number in
    subst (λ list. list ≡ get_or c.in_ok-readers.readers.items (part_number c.args.system.now.slots c.index-rules-place.result.part) list) (sym c.as_slice.ensures) at

is_listed : (c : goal.In_ok-add) → part_number c.args.system.now.slots c.index-rules-place.result.part < length c.in_ok-readers.readers.items
is_listed c =
    let low = number_low c.args.system.now c.index-rules-place.result.part
    (valid_rule c.args.system.now c.lower-rules.ensures.valid c.loop-place.labels c.loop-place.waiting c.take.new.self c.in-Some.place c.index-rules-place.result c.loop-place.invariant c.in-Some.ensures
    (read_from c.lower-rules.result.now c.args.system.now.lower c.in-Some.place c.index-rules-place.result c.lower-rules.ensures.same c.index-rules-place.is)).part in
    let count = c.in_ok-readers.ensures.count in
    omega (arith, low)

pub loop-place-smaller-in-Continue-branch-4 : goal.loop-place-smaller-in-Continue-branch-4
loop-place-smaller-in-Continue-branch-4 c =
    measure_falls c.args.system.now c.lower-rules.ensures.valid c.loop-place.labels c.loop-place.waiting c.take.new.self c.in-Some.place c.index-rules-place.result c.loop-place.invariant c.in-Some.ensures (read_from c.lower-rules.result.now c.args.system.now.lower c.in-Some.place c.index-rules-place.result c.lower-rules.ensures.same c.index-rules-place.is)
    c.in_ok-readers.readers.items c.in_ok-readers.ensures c.as_slice.result.now (reads c) (is_listed c) c.add.new.self c.in_ok-add.ensures c.raise.new.labels c.if-raise.ensures.raised c.if-raise.ensures.failed

pub loop-place-preserved-in-Continue-branch-4 : goal.loop-place-preserved-in-Continue-branch-4
loop-place-preserved-in-Continue-branch-4 c =
    after_raised c.args.system.now c.lower-rules.ensures.valid c.loop-place.labels c.loop-place.waiting c.take.new.self c.in-Some.place c.index-rules-place.result c.loop-place.invariant c.in-Some.ensures (read_from c.lower-rules.result.now c.args.system.now.lower c.in-Some.place c.index-rules-place.result c.lower-rules.ensures.same c.index-rules-place.is)
    c.in_ok-readers.readers.items c.in_ok-readers.ensures c.as_slice.result.now (reads c) (is_listed c) c.add.new.self c.in_ok-add.ensures c.raise.new.labels c.if-raise.ensures.raised

pub loop-place-preserved : goal.loop-place-preserved
loop-place-preserved c =
    subst (λ (l : Labels). IsUnderWay c.args.system.now l c.take.new.self) (sym c.if-raise.ensures.0)
    (after_held c.args.system.now c.lower-rules.ensures.valid c.loop-place.labels c.loop-place.waiting c.take.new.self c.in-Some.place c.index-rules-place.result c.loop-place.invariant c.in-Some.ensures (read_from c.lower-rules.result.now c.args.system.now.lower c.in-Some.place c.index-rules-place.result c.lower-rules.ensures.same c.index-rules-place.is) c.if-raise.ensures.1)

pub returns : goal.returns
returns c = solved c.args.system.now c.loop-place.labels c.loop-place.waiting c.loop-place.invariant c.in_default.ensures
