use Rattle.vd_views.proofs.Files.{files_are_explained, files_show_equally_many}
use Rattle.vd_views.proofs.views_deals.deal_files_belong_to_each_other.Goals as goal

pub returns-clause-explained : goal.returns-clause-explained
returns-clause-explained c = files_are_explained

pub returns-clause-equally_many : goal.returns-clause-equally_many
returns-clause-equally_many c = files_show_equally_many
