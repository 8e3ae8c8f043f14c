use Rattle.std.proofs.Common.{◌&&◌, not, Bool, sym, ap, ◌∙◌, arith, rules}
use Rattle.std.proofs.lemmas.Str.Pattern.{split_parts}
use Rattle.vd_cmd.specs.Groups.{are_new, between_commas, is_among}
use Rattle.vd_cmd.proofs.Commas.{first_new, last_new}
use Rattle.vd_cmd.proofs.groups.are_new.Goals as goal
use Rattle.vd_cmd.proofs.groups.are_new.Goals.{then-is_empty-via-then-is_empty, then-is_empty-via-else-is_empty+then-is_among}

pub returns-then-is_empty : goal.returns-then-is_empty
returns-then-is_empty c =
    let l = c.names in
    let cut = rw c.in-Some.is at (split_parts 0x2c l.rest.now c.split_once.result c.split_once.ensures.cases (omega arith)) in
    let start = l.invariant.0 ∙ first_new l.rest.now c.in-Some.name.now c.in-Some.behind.now cut.0 cut.1 in
    let among = is_among (between_commas c.in-Some.behind.now) c.in-Some.name.now in
    let rest = are_new (between_commas c.in-Some.behind.now) in
    elim c.then-is_empty.branch [
      | then-is_empty-via-then-is_empty w ↦ sym (start ∙ ap (λ (b : Bool). not b && (not among && rest)) (sym c.is_empty.ensures ∙ w.if-is_empty.true))
      | then-is_empty-via-else-is_empty+then-is_among w ↦
          sym (start ∙ ap (λ (b : Bool). not b && (not among && rest)) (sym c.is_empty.ensures ∙ w.if-is_empty.false) ∙ ap (λ (b : Bool). not b && rest) (sym w.is_among.ensures ∙ w.if-is_among.true))
    ]

pub names-preserved : goal.names-preserved
names-preserved c =
    let l = c.names in
    let cut = rw c.in-Some.is at (split_parts 0x2c l.rest.now c.split_once.result c.split_once.ensures.cases (omega arith)) in
    let among = is_among (between_commas c.in-Some.behind.now) c.in-Some.name.now in
    let rest = are_new (between_commas c.in-Some.behind.now) in (
      l.invariant.0 ∙ first_new l.rest.now c.in-Some.name.now c.in-Some.behind.now cut.0 cut.1
          ∙ ap (λ (b : Bool). not b && (not among && rest)) (sym c.is_empty.ensures ∙ c.if-is_empty.false)
          ∙ ap (λ (b : Bool). not b && rest) (sym c.is_among.ensures ∙ c.if-is_among.false),
      search rules,
    )

pub returns : goal.returns
returns c =
    let l = c.names in
    let none = rw c.in_default.is at (split_parts 0x2c l.rest.now c.split_once.result c.split_once.ensures.cases (omega arith)) in
    ap not c.is_empty-2.ensures ∙ sym (l.invariant.0 ∙ last_new l.rest.now none)
