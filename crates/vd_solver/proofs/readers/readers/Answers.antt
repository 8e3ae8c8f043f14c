use Rattle.std.proofs.Common.{◌≡◌, ◌+◌, ◌*◌, ◌<◌, List, [], ◌∷◌, ◌++◌, length, get_or, set, Some, Option, refl, sym, ap, ◌∙◌, subst, arith}
use Rattle.std.specs.Prelude.{IfSome}
use Rattle.vd_constraints.specs.declared.system.Part.{Part}
use Rattle.vd_constraints.specs.Systems.{IsPartOf, IsRuleOf}
use Rattle.vd_solver.specs.Reading.{IsIndex, part_number, read_part}
use Rattle.vd_solver.proofs.Indexes.{index_constant, index_read, read_low}
use Rattle.vd_solver.proofs.readers.readers.Goals as goal
use Rattle.vd_solver.proofs.readers.readers.Goals.{in-Some+in_ok-push, in_default}

low : (c : goal.Joined-part_of_bound) → c.loop-place.place < length c.args.system.now.lower
low c = subst (λ xs. c.loop-place.place < length xs) c.lower-rule-items.ensures.same c.loop-place-test.true

here : (c : goal.Joined-part_of_bound) → c.rule-item.result ≡ get_or c.args.system.now.lower c.loop-place.place c.rule-item.result
here c = c.rule-item.is ∙ ap (λ xs. get_or xs c.loop-place.place c.rule-item.result) c.lower-rule-items.ensures.same

valid : (c : goal.Joined-part_of_bound) → IsRuleOf c.args.system.now c.rule-item.result
valid c = subst (IsRuleOf c.args.system.now) (sym (here c)) (c.lower-rule-items.ensures.valid.rules c.loop-place.place c.rule-item.result (low c))

pub loop-place-preserved : goal.loop-place-preserved
loop-place-preserved c = elim c.match-part_of_bound.branch [
  | in-Some+in_ok-push w ↦
      let s = c.args.system.now in
      let readers = c.loop-place.readers.items in
      let part = w.in-Some.part in
      let list = w.index_mut.result.now in
      let reads : read_part c.rule-item.result.bound ≡ Some part = sym c.part_of_bound.ensures ∙ w.in-Some.is in
      let is_part : IsPartOf s part = subst (λ (read : Option Part). IfSome read (IsPartOf s)) reads (read_low s c.rule-item.result.bound (valid c).bound) in
      let number : w.number.result ≡ part_number s.slots part = w.number.ensures ∙ ap (λ n. part_number n part) w.slots-in-Some.ensures.same in
      let was : list ≡ get_or readers (part_number s.slots part) list = w.index_mut.ensures.value ∙ ap (λ k. get_or readers k list) number in
      let items : c.match-part_of_bound.readers.items ≡ set readers (part_number s.slots part) (list ++ c.loop-place.place ∷ []) =
      ap (λ v. v.items) w.readers-is ∙ ap (λ k. set readers k w.push.new.self) number ∙ ap (set readers (part_number s.slots part)) w.in_ok-push.ensures.ok in
      subst (IsIndex s (c.loop-place.place + 1)) (sym items) (index_read s c.loop-place.place readers c.loop-place.invariant c.rule-item.result (low c) (here c) part list is_part reads was)
  | in_default w ↦ subst (λ xs. IsIndex c.args.system.now (c.loop-place.place + 1) xs) (sym (ap (λ v. v.items) w.readers-is))
      (index_constant c.args.system.now c.loop-place.place c.loop-place.readers.items c.loop-place.invariant c.rule-item.result (low c) (here c) (sym c.part_of_bound.ensures ∙ w.in_default.is))
]
