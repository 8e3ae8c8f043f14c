use Rattle.vd_views.proofs.Excuse.{gadgets_excuse}
use Rattle.vd_views.proofs.Plans.{views_agree}
use Rattle.vd_views.proofs.Contract.{explained}
use Rattle.vd_views.proofs.every_run_has_an_excuse.Goals as goal

pub returns-clause-gadgets : goal.returns-clause-gadgets
returns-clause-gadgets c = λ h t u gs w v tidy s. gadgets_excuse h t u s.first_deal s.second_deal gs tidy w v s.first s.second

pub returns-clause-views : goal.returns-clause-views
returns-clause-views c = λ h t u plan w v tidy a. views_agree h t u plan tidy w v a

pub returns-clause-from_the_start : goal.returns-clause-from_the_start
returns-clause-from_the_start c = λ h plan t second can. explained h plan t second can
