use Rattle.vd_views.proofs.Theorem.{others_are_explained, explained_back, own_words_stay, all_but_one_look, one_of_two_looks}
use Rattle.vd_views.proofs.views_programs.other_inputs_have_an_excuse.Goals as goal

pub returns-clause-explained : goal.returns-clause-explained
returns-clause-explained c = others_are_explained

pub returns-clause-back : goal.returns-clause-back
returns-clause-back c = explained_back

pub returns-clause-stay : goal.returns-clause-stay
returns-clause-stay c = own_words_stay

pub returns-clause-all_but_one : goal.returns-clause-all_but_one
returns-clause-all_but_one c = all_but_one_look

pub returns-clause-one_of_two : goal.returns-clause-one_of_two
returns-clause-one_of_two c = one_of_two_looks
