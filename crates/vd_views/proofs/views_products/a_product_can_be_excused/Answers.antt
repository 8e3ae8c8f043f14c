use Rattle.vd_views.proofs.Product.{product_condition, product_explained, product_goes_back}
use Rattle.vd_views.proofs.views_products.a_product_can_be_excused.Goals as goal

pub returns-clause-condition : goal.returns-clause-condition
returns-clause-condition c = λ K t second deal others. product_condition K t second deal others

pub returns-clause-explained : goal.returns-clause-explained
returns-clause-explained c = λ K t second deal others. product_explained K t second deal others

pub returns-clause-back : goal.returns-clause-back
returns-clause-back c = λ K first t second y z valid has one two. product_goes_back K first t second y z valid has one two
