use Rattle.split.specs.LabelLaws.{listing_start, listing_last, listing_full, listing_other, listing_next, listing_end, labelled_of, labelled_none}
use Rattle.split.proofs.labels_of.Goals as goal

pub loop-p-init : goal.loop-p-init
loop-p-init c = listing_start c.requires.sized c.requires.within.ordered

pub returns-then-next-end : goal.returns-then-next-end
returns-then-next-end c = listing_last c.args.z c.loop-p.invariant c.loop-p-test.true c.next_formula-next.ensures c.requires.within.inside c.if-next-end.true

pub returns-then-n-eq31 : goal.returns-then-n-eq31
returns-then-n-eq31 c = listing_full c.args.z c.loop-p.invariant c.loop-p-test.true c.next_formula-next.ensures c.if-n-eq31.true

pub returns-in_err-numbers : goal.returns-in_err-numbers
returns-in_err-numbers c =
    rw c.from_residual.ensures
    (listing_other c.args.z c.loop-p.invariant c.loop-p-test.true c.next_formula-next.ensures c.if-next-end.false (labelled_none c.label_at.result c.label_at.ensures c.in_err-numbers.was))

pub loop-p-preserved : goal.loop-p-preserved
loop-p-preserved c = listing_next c.args.z c.loop-p.invariant c.loop-p-test.true c.next_formula-next.ensures c.if-next-end.false c.if-n-eq31.false (labelled_of c.label_at.result c.label_at.ensures c.in_ok-numbers.was)

pub returns : goal.returns
returns c = listing_end c.args.z c.loop-p.invariant c.loop-p-test.false
