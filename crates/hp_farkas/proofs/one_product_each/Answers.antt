use Rattle.hp_farkas.proofs.Products as products
use Rattle.hp_farkas.proofs.one_product_each.Goals as goal

pub returns : goal.returns
returns c = products.one_product_each
