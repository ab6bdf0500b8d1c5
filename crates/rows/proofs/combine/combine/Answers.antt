-- `combine::combine` meets its contract. Assumes nothing.
use borrow.Author.Rules.{rules}
use Rattle.rows.specs.Products.{product-fits, combination-fits}
use Rattle.rows.proofs.combine.combine.Goals as goal

pub overflow_mul-result : goal.overflow_mul-result
overflow_mul-result c = search (rules, product-fits)

pub overflow_mul-result-2 : goal.overflow_mul-result-2
overflow_mul-result-2 c = search (rules, product-fits)

pub overflow_add-result : goal.overflow_add-result
overflow_add-result c = search (rules, product-fits, combination-fits)

pub returns : goal.returns
returns c = search (rules, product-fits, combination-fits)
