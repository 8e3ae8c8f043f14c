use Rattle.vd_views.proofs.Hiding.{gadgets_alike, gadgets_back}
use Rattle.vd_views.proofs.gadgets_hide.Goals as goal

pub returns-clause-alike : goal.returns-clause-alike
returns-clause-alike c = λ h t u gs tidy w v s start a b. gadgets_alike h t u s.first_deal s.second_deal start.part gs tidy w v s.first s.second start.looks a b

pub returns-clause-back : goal.returns-clause-back
returns-clause-back c = λ h t u gs w v a. gadgets_back h t u gs w v a
