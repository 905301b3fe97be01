use Rattle.split.specs.LabelLaws.{labelled_listed, labelled_unlisted}
use Rattle.split.specs.LeastTensorLaws.{none_decomposable, some_decomposable, other_unrestricted, other_unrestricted_second, other_linear, other_linear_second, splitting, split_is}
use Rattle.split.proofs.least_tensor.Goals as goal

pub returns-then-first_decomposable-z : goal.returns-then-first_decomposable-z
returns-then-first_decomposable-z c = some_decomposable c.requires.0 c.first_decomposable.ensures c.if-first_decomposable-z.true

pub returns-then-not-unrestricted_shown : goal.returns-then-not-unrestricted_shown
returns-then-not-unrestricted_shown c = other_unrestricted c.requires.0 c.node_at-first.ensures c.after_tree.ensures c.node_at-second.ensures c.unrestricted_shown.ensures c.if-not-unrestricted_shown.true

pub returns-then-not-unrestricted_shown-2 : goal.returns-then-not-unrestricted_shown-2
returns-then-not-unrestricted_shown-2 c = other_unrestricted_second c.requires.0 c.node_at-first.ensures c.after_tree.ensures c.node_at-second.ensures c.unrestricted_shown-2.ensures c.if-not-unrestricted_shown-2.true

pub returns-in_err-left : goal.returns-in_err-left
returns-in_err-left c =
    rw c.from_residual.ensures
    (other_linear c.requires.0 c.node_at-first.ensures c.after_tree.ensures c.node_at-second.ensures (labelled_unlisted _ c.labels_of.result c.labels_of.ensures c.in_err-left.was))

pub returns-in_err-right : goal.returns-in_err-right
returns-in_err-right c =
    rw c.from_residual-in_err-right.ensures
    (other_linear_second c.requires.0 c.node_at-first.ensures c.after_tree.ensures c.node_at-second.ensures (labelled_unlisted _ c.labels_of-2.result c.labels_of-2.ensures c.in_err-right.was))

pub least_split-requires : goal.least_split-requires
least_split-requires c =
    splitting c.requires.0 (none_decomposable c.requires.0 c.first_decomposable.ensures c.if-first_decomposable-z.false)
    (labelled_listed c.labels_of.result c.labels_of.ensures c.in_ok-left.was)
    (labelled_listed c.labels_of-2.result c.labels_of-2.ensures c.in_ok-right.was)

pub returns : goal.returns
returns c =
    split_is c.requires.0 c.node_at-first.ensures c.after_tree.ensures c.node_at-second.ensures
    c.unrestricted_shown.ensures c.if-not-unrestricted_shown.false c.unrestricted_shown-2.ensures c.if-not-unrestricted_shown-2.false
    (labelled_listed c.labels_of.result c.labels_of.ensures c.in_ok-left.was)
    (labelled_listed c.labels_of-2.result c.labels_of-2.ensures c.in_ok-right.was)
    c.least_split.ensures
