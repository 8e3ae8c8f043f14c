use Rattle.std.proofs.Common.{◌≡◌, ◌<◌, ◌+◌, ◌/◌, ◌^◌, sym, ap, ◌∙◌, subst, arith}
use Rattle.std.proofs.lemmas.Nat.{one_shl, pow_below}
use Rattle.vd_formula.specs.TruthTable.{IsFormula, IsWeakestWith, implies_of}
use Rattle.std.specs.Prelude.{bit_and, bit_or}
use Rattle.std.specs.Int.{bit_not, w64}
use Rattle.vd_formula.proofs.Tables.{table}
use Rattle.vd_formula.proofs.Closure.{IsClosedTo, closed_one_more}
use Rattle.vd_formula.proofs.Implies.{few_sets, only_first, start_of, closed_start, implies_is, is_formula-implies, is_weakest}
use Rattle.vd_formula.proofs.formula.Formula.implies.Goals as goal

pub overflow_shr-truths : goal.overflow_shr-truths
overflow_shr-truths c =
    let few = c.self.invariant.few_names in
    let low = c.loop-name-test.true in
    let name_low : c.loop-name.name < 6 = omega arith in
    omega (arith, one_shl c.loop-name.name 32 (omega arith), pow_below c.loop-name.name 6 name_low)

pub loop-name-init : goal.loop-name-init
unfolding start_of only_first
loop-name-init c =
    let names : c.self.inside.names ≡ c.other.inside.names = ap (λ t. t.names) c.self.view_is ∙ c.requires ∙ sym (ap (λ t. t.names) c.other.view_is) in
    let but = bit_not w64 (bit_and c.self.inside.truths (bit_not w64 c.other.inside.truths)) in
    subst (λ all. IsClosedTo c.self.inside.names 0 (bit_and all but) (bit_and all but)) (sym c.every_set.ensures)
    (closed_start (table c.self.inside.names c.self.inside.truths) (table c.other.inside.names c.other.inside.truths) c.self.invariant c.other.invariant names)

pub loop-name-preserved : goal.loop-name-preserved
loop-name-preserved c =
    let few = c.self.invariant.few_names in
    let low = c.loop-name-test.true in
    let name_low : c.loop-name.name < 32 = omega arith in
    let start = bit_and c.every_set.result (bit_not w64 (bit_and c.self.inside.truths (bit_not w64 c.other.inside.truths))) in
    subst (λ by. IsClosedTo c.self.inside.names (c.loop-name.name + 1) start (bit_and c.loop-name.truths (bit_or (c.loop-name.truths / 2 ^ by) c.sets_with.result))) (sym (one_shl c.loop-name.name 32 name_low))
    (closed_one_more c.self.inside.names c.loop-name.name start c.loop-name.truths low c.loop-name.invariant c.sets_with.result
    (λ set h. c.sets_with.ensures set (omega (arith, few_sets c.self.inside.names few))))

-- the word that the loop leaves
whole : (c : goal.After-loop-name) → table c.self.inside.names c.loop-name.truths ≡ implies_of c.args.self.now c.args.other.now
unfolding start_of only_first
whole c =
    let names : c.self.inside.names ≡ c.other.inside.names = ap (λ t. t.names) c.self.view_is ∙ c.requires ∙ sym (ap (λ t. t.names) c.other.view_is) in
    let f = table c.self.inside.names c.self.inside.truths in
    let g = table c.other.inside.names c.other.inside.truths in
    let but = bit_not w64 (bit_and c.self.inside.truths (bit_not w64 c.other.inside.truths)) in
    let high = c.loop-name-test.false in
    let low = c.loop-name.auto.name-end in
    let last : c.loop-name.name ≡ c.self.inside.names = omega arith in
    let closed = subst (λ all. IsClosedTo c.self.inside.names c.loop-name.name (bit_and all but) c.loop-name.truths) c.every_set.ensures c.loop-name.invariant in
    let closed_all = subst (λ k. IsClosedTo c.self.inside.names k (start_of c.self.inside.names c.self.inside.truths c.other.inside.truths) c.loop-name.truths) last closed in
    cc (implies_is f g c.self.invariant c.other.invariant names c.loop-name.truths closed_all, c.self.view_is, c.other.view_is)

pub invariant_of-result : goal.invariant_of-result
invariant_of-result c =
    let names : c.self.inside.names ≡ c.other.inside.names = ap (λ t. t.names) c.self.view_is ∙ c.requires ∙ sym (ap (λ t. t.names) c.other.view_is) in
    let f = table c.self.inside.names c.self.inside.truths in
    let g = table c.other.inside.names c.other.inside.truths in
    let same : implies_of f g ≡ implies_of c.args.self.now c.args.other.now = cc (c.self.view_is, c.other.view_is) in
    subst IsFormula (same ∙ sym (whole c)) (is_formula-implies f g c.self.invariant c.other.invariant names)

pub returns-clause-implies : goal.returns-clause-implies
returns-clause-implies c = whole c

pub returns-clause-weakest : goal.returns-clause-weakest
returns-clause-weakest c =
    let names : c.self.inside.names ≡ c.other.inside.names = ap (λ t. t.names) c.self.view_is ∙ c.requires ∙ sym (ap (λ t. t.names) c.other.view_is) in
    let f = table c.self.inside.names c.self.inside.truths in
    let g = table c.other.inside.names c.other.inside.truths in
    let weakest = is_weakest f g c.self.invariant c.other.invariant names in
    subst (IsWeakestWith c.args.self.now c.args.other.now) (sym (whole c))
    (subst (λ h. IsWeakestWith h c.args.other.now (implies_of h c.args.other.now)) c.self.view_is (subst (λ h. IsWeakestWith f h (implies_of f h)) c.other.view_is weakest))
