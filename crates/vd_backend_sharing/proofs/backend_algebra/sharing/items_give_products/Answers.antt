use Rattle.vd_backend_sharing.proofs.BitProducts.{bit_product}
use Rattle.vd_backend_sharing.proofs.WordProducts.{word_product}
use Rattle.vd_backend_sharing.proofs.backend_algebra.sharing.items_give_products.Goals as goal

pub returns-clause-bits : goal.returns-clause-bits
returns-clause-bits c = bit_product

pub returns-clause-words : goal.returns-clause-words
returns-clause-words c = word_product
