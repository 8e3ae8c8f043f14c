-- Labels: what may be read, and what may be relied on.
use Rattle.vd_formula.specs.TruthTable.{ActsFor}
use Rattle.vd_formula.specs.declared.label.Label.{Label}

-- what is labelled so may go where the other label is asked: to no more readers, with no less trust
pub record FlowsTo (here there : Label) : Type 0 where
  pub conf : ActsFor there.conf here.conf
  pub integ : ActsFor here.integ there.integ

-- an authority that acts for the label in both parts
pub record Covers (authority label : Label) : Type 0 where
  pub conf : ActsFor authority.conf label.conf
  pub integ : ActsFor authority.integ label.integ
