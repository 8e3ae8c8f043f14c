use Rattle.std.proofs.Common.{◌++◌, ◌∷◌, [], ℕ, List, sym, ap, ◌∙◌, append_assoc, arith, rules}
use Rattle.std.proofs.lemmas.Str.Pattern.{split_parts}
use Rattle.vd_cmd.specs.Groups.{between_commas}
use Rattle.vd_cmd.proofs.Commas.{one_alone, one_first}
use Rattle.vd_cmd.proofs.groups.between_commas.Goals as goal

pub texts-preserved : goal.texts-preserved
texts-preserved c =
    let l = c.texts in
    let cut = rw c.in-Some.is at (split_parts 0x2c l.rest.now c.split_once.result c.split_once.ensures.cases (omega arith)) in
    let left = ap between_commas cut.0 ∙ one_first c.in-Some.text.now c.in-Some.behind.now cut.1 in (
      ap (λ (list : List (List ℕ)). list ++ between_commas c.in-Some.behind.now) ((c.in_ok-push.ensures {u = tt}).ok)
          ∙ append_assoc l.list (c.in-Some.text.now ∷ []) (between_commas c.in-Some.behind.now)
          ∙ ap (λ (texts : List (List ℕ)). l.list ++ texts) (sym left) ∙ l.invariant.0,
      search rules,
    )

pub returns : goal.returns
returns c =
    let l = c.texts in
    let none = rw c.in_default.is at (split_parts 0x2c l.rest.now c.split_once.result c.split_once.ensures.cases (omega arith)) in
    (c.in_ok-push-2.ensures {u = tt}).ok ∙ ap (λ (texts : List (List ℕ)). l.list ++ texts) (sym (one_alone l.rest.now none)) ∙ l.invariant.0
