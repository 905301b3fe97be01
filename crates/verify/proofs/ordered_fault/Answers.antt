use Rattle.verify.specs.ShapesLaws.{order_shape, order_count}
use Rattle.verify.proofs.ordered_fault.Goals as goal

pub returns-in-Shape : goal.returns-in-Shape
returns-in-Shape c = rw (c.or.ensures, c.in-Shape.is) (order_shape c.args.expected c.args.got c.args.is_shaped c.then_some-shape.ensures c.count_fault-count.ensures)

pub returns-in-Count : goal.returns-in-Count
returns-in-Count c = rw (c.or-in-Count.ensures, c.in-Count.is) (order_count c.args.expected c.args.got c.args.is_shaped c.then_some-shape.ensures c.count_fault-count.ensures)
