use Rattle.std.proofs.Common.{◌||◌, Bool, sym, ap, ◌∙◌, arith, rules}
use Rattle.std.proofs.lemmas.Str.Pattern.{split_parts}
use Rattle.vd_cmd.specs.Groups.{between_commas, is_among}
use Rattle.vd_cmd.proofs.Commas.{first_among, last_among}
use Rattle.vd_cmd.proofs.groups.is_among.Goals as goal

pub returns-then-eq : goal.returns-then-eq
returns-then-eq c =
    let l = c.others in
    let cut = rw c.in-Some.is at (split_parts 0x2c l.rest.now c.split_once.result c.split_once.ensures.cases (omega arith)) in
    sym (l.invariant.0 ∙ first_among l.rest.now c.in-Some.other.now c.in-Some.behind.now c.args.name.now cut.0 cut.1
    ∙ ap (λ (b : Bool). b || is_among (between_commas c.in-Some.behind.now) c.args.name.now) (sym c.eq.ensures ∙ c.if-eq.true))

pub others-preserved : goal.others-preserved
others-preserved c =
    let l = c.others in
    let cut = rw c.in-Some.is at (split_parts 0x2c l.rest.now c.split_once.result c.split_once.ensures.cases (omega arith)) in (
      l.invariant.0 ∙ first_among l.rest.now c.in-Some.other.now c.in-Some.behind.now c.args.name.now cut.0 cut.1
          ∙ ap (λ (b : Bool). b || is_among (between_commas c.in-Some.behind.now) c.args.name.now) (sym c.eq.ensures ∙ c.if-eq.false),
      search rules,
    )

pub returns : goal.returns
returns c =
    let l = c.others in
    let none = rw c.in_default.is at (split_parts 0x2c l.rest.now c.split_once.result c.split_once.ensures.cases (omega arith)) in
    c.eq-2.ensures ∙ sym (l.invariant.0 ∙ last_among l.rest.now c.args.name.now none)
