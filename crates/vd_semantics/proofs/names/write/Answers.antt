use Rattle.std.proofs.Common.{◌∙◌}
use Rattle.vd_semantics.specs.declared.held.Held.TheVariants.{Bound}
use Rattle.vd_semantics.specs.SourceMeaning.{store_element}
use Rattle.vd_semantics.proofs.Lookup.{put_back_is, not_changed}
use Rattle.vd_semantics.proofs.names.write.Goals as goal

pub returns-in-Some : goal.returns-in-Some
returns-in-Some c =
    put_back_is c.args.env.now c.replace.new.self c.replace-in-Some.new.self (Bound 0) c.in-Some.held c.hold_element.new.held (store_element c.args.index c.args.word) c.args.name.now c.in-Some.ensures.former c.in-Some.ensures.names c.hold_element.ensures c.replace-in-Some.ensures.names

pub returns-in-None : goal.returns-in-None
returns-in-None c = c.in-None.ensures.names ∙ not_changed c.args.env.now (store_element c.args.index c.args.word) (λ z. Bound 0) c.args.name.now c.in-None.ensures.former
