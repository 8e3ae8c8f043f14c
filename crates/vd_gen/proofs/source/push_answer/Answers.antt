use Rattle.std.proofs.Common.{◌≡◌, ◌++◌, List, codes, ap, sym, ◌∙◌, subst}
use Rattle.std.specs.Prelude.{OnOk}
use Rattle.vd_gen.specs.Source.{binding, sum_name}
use Rattle.vd_gen.proofs.source.push_answer.Goals as goal

pub returns : goal.returns
returns c =
    let sum = c.as_slice.ensures ∙ c.in_ok-sum.ensures in
    let whole = c.as_slice-2.ensures ∙ c.in_ok-compared.ensures ∙ ap (λ s. codes "declassify(" ++ s ++ codes " < 1000, {A | B})") sum in
    subst (λ e. OnOk c.push_binding.result (c.push_binding.new.text ≡ c.args.text.now ++ binding (codes "r") e)) whole c.push_binding.ensures
