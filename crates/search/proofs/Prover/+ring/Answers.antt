use mathlib.Core.Path.{subst}
use native.Mathlib.Omega.{arith}
use borrow.Author.Rules.{rules}
use Rattle.search.specs.Plans.{Planned, Focused}
use Rattle.search.proofs.Steps.{not_found, not_nothing, stops}
use Rattle.search.proofs.Leaves.{fewer, longer, not_full, pow_small, spelled_by, full_by}
use Rattle.search.specs.AskedLaws.{stands_later}
use Rattle.search.proofs.Ready.{ready_after, ready_premise, ready_right, ready_again, ready_zones, stands_made, few_lollis, few_after}
use Rattle.search.proofs.Visits.{visit_spent, visit_over, visit_hits, visit_stops, visit_files, visit_full, under_stops, under_found, both_left_stops, both_right_stops, both_found}
use Rattle.search.proofs.Rules.{place_low, on_empty, on_par_long, on_par, on_bottom, on_top, on_with, on_why_not, on_rest, on_full, on_spelled, spelled_stands, lolli_falls}
use Rattle.search.proofs.Choices.{sync_stops, sync_goes, exponentials_go, copies_go, choosing_goes, choosing_stops, choosing_ends, using_starts, using_goes, using_stops, using_ends, taken_long, taken_under}
use Rattle.search.proofs.Focused.{plus_again, on_axiom, on_one, on_of_course, on_tensor, on_plus, plus_stops, plus_goes, splitting_starts, splitting_goes, splitting_stops, splitting_ends}
use Prim.Native.Nat.{◌-◌}
use Rattle.search.proofs.Prover.+ring.Goals as goal

pub both-visit-a-requires : goal.both-visit-a-requires
both-visit-a-requires t c = (omega (arith, few_lollis c.args.mem.now c.requires.0.zones.fits), ready_premise c.requires.0 _ (omega arith))

pub both-returns-in_default : goal.both-returns-in_default
both-returns-in_default t c = both_left_stops c.args.spot.left c.args.spot.depth c.requires.0 c.args.x c.visit-a.ensures c.args.u (not_found _ c.in_default.not-Found)

pub both-visit-b-requires : goal.both-visit-b-requires
both-visit-b-requires t c = (omega (arith, few_after c.args.u c.visit-a.ensures c.requires.1.fits), ready_right c.requires.0 _ (omega arith) c.requires.1 c.visit-a.ensures c.in-Found.is)

pub both-returns-in_default-b : goal.both-returns-in_default-b
both-returns-in_default-b t c = both_right_stops c.args.spot.left c.args.spot.depth c.requires.0 c.args.x c.visit-a.ensures c.requires.1 c.in-Found.is c.visit-b.ensures (not_found _ c.in_default-b.not-Found)

pub both-returns : goal.both-returns
both-returns t c = both_found c.args.spot.left c.args.spot.depth c.requires.0 c.args.x c.visit-a.ensures c.requires.1 c.in-Found.is c.visit-b.ensures c.in-Found-b.is

pub copies-returns-in_default : goal.copies-returns-in_default
copies-returns-in_default t c = stops c.unrestricted-a.ensures (not_nothing _ c.in_default.not-Nothing) _

pub copies-returns : goal.copies-returns
copies-returns t c = copies_go c.args.spot.left c.args.spot.depth c.requires c.unrestricted-a.ensures c.in-Nothing.is c.unrestricted.ensures

pub exponentials-returns-in_default : goal.exponentials-returns-in_default
exponentials-returns-in_default t c = stops c.unrestricted-a.ensures (not_nothing _ c.in_default.not-Nothing) _

pub exponentials-returns : goal.exponentials-returns
exponentials-returns t c = exponentials_go c.args.spot.left c.args.spot.depth c.requires c.unrestricted-a.ensures c.in-Nothing.is c.copies.ensures

pub masks-loop-m-init : goal.masks-loop-m-init
masks-loop-m-init t c = splitting_starts c.args.spot.left c.args.spot.depth c.requires.0 c.requires.1 c.masks_over-n.ensures

pub masks-node-requires : goal.masks-node-requires
masks-node-requires t c = (place_low c.args.spot.left c.args.spot.depth c.requires.0 c.requires.1.place, omega (arith, c.masks_over-n.ensures, pow_small (c.args.z.linear_len - 1) (omega (arith, c.requires.0.zones.fits.few))))

pub masks-both-r-requires : goal.masks-both-r-requires
masks-both-r-requires t c = (omega arith, (ready_zones (ready_after c.requires.0 c.loop-m.invariant.kept) (stands_later c.loop-m.invariant.kept.grew (stands_made c.requires.0.zones c.left_part.ensures c.requires.1.left)), stands_later c.loop-m.invariant.kept.grew (stands_made c.requires.0.zones c.right_part.ensures c.requires.1.right)))

pub masks-loop-m-preserved : goal.masks-loop-m-preserved
masks-loop-m-preserved t c = splitting_goes c.args.spot.left c.args.spot.depth c.requires.0 c.requires.1 c.loop-m.invariant c.loop-m-test.true c.left_part.ensures c.right_part.ensures c.node.ensures c.both-r.ensures c.in-Nothing.is

pub masks-returns-in_default : goal.masks-returns-in_default
masks-returns-in_default t c = splitting_stops c.args.spot.left c.args.spot.depth c.requires.0 c.requires.1 c.loop-m.invariant c.loop-m-test.true c.left_part.ensures c.right_part.ensures c.node.ensures c.both-r.ensures (not_nothing _ c.in_default.not-Nothing)

pub masks-returns : goal.masks-returns
masks-returns t c = splitting_ends c.args.spot.left c.args.spot.depth c.requires.0 c.requires.1 c.loop-m.invariant c.loop-m-test.false

pub plus-under-r-requires : goal.plus-under-r-requires
plus-under-r-requires t c = (omega arith, ready_zones c.requires.0 (stands_made c.requires.0.zones c.replaced.ensures c.requires.1.left))

pub plus-returns-in_default : goal.plus-returns-in_default
plus-returns-in_default t c = plus_stops c.args.spot.left c.args.spot.depth c.requires.0 c.requires.1 c.replaced.ensures c.node.ensures c.under-r.ensures (not_nothing _ (search rules))

pub plus-under-requires : goal.plus-under-requires
plus-under-requires t c = (omega arith, plus_again c.args.spot.left c.args.spot.depth c.requires.0 c.requires.1 c.replaced.ensures c.node.ensures c.under-r.ensures (search rules) c.replaced-2.ensures)

pub plus-returns : goal.plus-returns
plus-returns t c = plus_goes c.args.spot.left c.args.spot.depth c.requires.0 c.requires.1 c.replaced.ensures c.node.ensures c.under-r.ensures (search rules) c.replaced-2.ensures c.node-2.ensures c.under.ensures

pub positives-loop-i-preserved : goal.positives-loop-i-preserved
positives-loop-i-preserved t c = choosing_goes c.args.spot.left c.args.spot.depth c.requires c.loop-i.invariant c.loop-i-test.true c.prove_focused-a.ensures c.in-Nothing.is

pub positives-returns-in_default : goal.positives-returns-in_default
positives-returns-in_default t c = choosing_stops c.args.spot.left c.args.spot.depth c.requires c.loop-i.invariant c.loop-i-test.true c.prove_focused-a.ensures (not_nothing _ c.in_default.not-Nothing)

pub positives-returns : goal.positives-returns
positives-returns t c = choosing_ends c.args.spot.left c.args.spot.depth c.requires c.loop-i.invariant c.loop-i-test.false

pub prove_async-returns-then-count-eq-MAX_SEQUENT : goal.prove_async-returns-then-count-eq-MAX_SEQUENT
prove_async-returns-then-count-eq-MAX_SEQUENT t c = on_par_long c.args.spot.left c.args.spot.depth c.requires (subst (Planned c.args.mem.now c.args.z) c.in-Par.is c.first_plan-p.ensures) c.count.ensures c.if-count-eq-MAX_SEQUENT.true

pub prove_async-pushed-requires : goal.prove_async-pushed-requires
prove_async-pushed-requires t c = (c.without.ensures.fits, omega (arith, fewer c.requires.zones.fits (subst (Planned c.args.mem.now c.args.z) c.in-Par.is c.first_plan-p.ensures).first.place c.without.ensures, c.requires.zones.fits.few))

pub prove_async-pushed-y-requires : goal.prove_async-pushed-y-requires
prove_async-pushed-y-requires t c = (c.pushed.ensures.fits, omega (arith, longer c.without.ensures.fits c.pushed.ensures, fewer c.requires.zones.fits (subst (Planned c.args.mem.now c.args.z) c.in-Par.is c.first_plan-p.ensures).first.place c.without.ensures, not_full c.requires.zones.fits c.count.ensures c.if-count-eq-MAX_SEQUENT.false))

pub prove_async-under-requires : goal.prove_async-under-requires
prove_async-under-requires t c = (omega (arith, c.decreases), ready_zones c.requires (stands_made (stands_made (stands_made c.requires.zones c.without.ensures tt) c.pushed.ensures (subst (Planned c.args.mem.now c.args.z) c.in-Par.is c.first_plan-p.ensures).left) c.pushed-y.ensures (subst (Planned c.args.mem.now c.args.z) c.in-Par.is c.first_plan-p.ensures).right))

pub prove_async-under-requires-in-Bottom : goal.prove_async-under-requires-in-Bottom
prove_async-under-requires-in-Bottom t c = (omega arith, ready_zones c.requires (stands_made c.requires.zones c.without-y.ensures tt))

pub prove_async-pushed-requires-in-With : goal.prove_async-pushed-requires-in-With
prove_async-pushed-requires-in-With t c = (c.without-y-in-With.ensures.fits, omega (arith, fewer c.requires.zones.fits (subst (Planned c.args.mem.now c.args.z) c.in-With.is c.first_plan-p.ensures).first.place c.without-y-in-With.ensures, c.requires.zones.fits.few))

pub prove_async-both-requires : goal.prove_async-both-requires
prove_async-both-requires t c = let parts = subst (Planned c.args.mem.now c.args.z) c.in-With.is c.first_plan-p.ensures in
    let less = stands_made c.requires.zones c.without-y-in-With.ensures tt in
    (omega (arith, c.decreases), (ready_zones c.requires (stands_made less c.pushed-in-With.ensures (omega (arith, parts.left, parts.right))), stands_made less c.pushed-in-With-2.ensures (omega (arith, parts.left, parts.right))))

pub prove_async-pushed_unrestricted-y-requires : goal.prove_async-pushed_unrestricted-y-requires
prove_async-pushed_unrestricted-y-requires t c = (c.without-in-WhyNot.ensures.fits, omega (arith, fewer c.requires.zones.fits (subst (Planned c.args.mem.now c.args.z) c.in-WhyNot.is c.first_plan-p.ensures).first.place c.without-in-WhyNot.ensures, c.requires.zones.fits.few))

pub prove_async-under-requires-in-WhyNot : goal.prove_async-under-requires-in-WhyNot
prove_async-under-requires-in-WhyNot t c = (omega arith, ready_zones c.requires (stands_made (stands_made c.requires.zones c.without-in-WhyNot.ensures tt) c.pushed_unrestricted-y.ensures (subst (Planned c.args.mem.now c.args.z) c.in-WhyNot.is c.first_plan-p.ensures).part))

pub prove_async-returns-in-Empty : goal.prove_async-returns-in-Empty
prove_async-returns-in-Empty t c = on_empty c.args.spot.left c.args.spot.depth c.requires (subst (Planned c.args.mem.now c.args.z) c.in-Empty.is c.first_plan-p.ensures)

pub prove_async-returns-else-count-eq-MAX_SEQUENT : goal.prove_async-returns-else-count-eq-MAX_SEQUENT
prove_async-returns-else-count-eq-MAX_SEQUENT t c = on_par c.args.spot.left c.args.spot.depth c.requires (subst (Planned c.args.mem.now c.args.z) c.in-Par.is c.first_plan-p.ensures) c.without.ensures c.pushed.ensures c.pushed-y.ensures c.node.ensures c.under.ensures

pub prove_async-returns-in-Bottom : goal.prove_async-returns-in-Bottom
prove_async-returns-in-Bottom t c = on_bottom c.args.spot.left c.args.spot.depth c.requires (subst (Planned c.args.mem.now c.args.z) c.in-Bottom.is c.first_plan-p.ensures) c.without-y.ensures c.node-in-Bottom.ensures c.under-in-Bottom.ensures

pub prove_async-returns-in-Top : goal.prove_async-returns-in-Top
prove_async-returns-in-Top t c = on_top c.args.spot.left c.args.spot.depth c.requires (subst (Planned c.args.mem.now c.args.z) c.in-Top.is c.first_plan-p.ensures) c.node-in-Top.ensures c.leaf.ensures

pub prove_async-returns-in-With : goal.prove_async-returns-in-With
prove_async-returns-in-With t c = on_with c.args.spot.left c.args.spot.depth c.requires (subst (Planned c.args.mem.now c.args.z) c.in-With.is c.first_plan-p.ensures) c.without-y-in-With.ensures c.pushed-in-With.ensures c.pushed-in-With-2.ensures c.node-in-With.ensures c.both.ensures

pub prove_async-returns-in-WhyNot : goal.prove_async-returns-in-WhyNot
prove_async-returns-in-WhyNot t c = on_why_not c.args.spot.left c.args.spot.depth c.requires (subst (Planned c.args.mem.now c.args.z) c.in-WhyNot.is c.first_plan-p.ensures) c.without-in-WhyNot.ensures c.pushed_unrestricted-y.ensures c.node-in-WhyNot.ensures c.under-in-WhyNot.ensures

pub prove_async-returns-in-Rest : goal.prove_async-returns-in-Rest
prove_async-returns-in-Rest t c = on_rest c.args.spot.left c.args.spot.depth c.requires (subst (Planned c.args.mem.now c.args.z) c.in-Rest.is c.first_plan-p.ensures) c.prove_sync.ensures

pub prove_focused-returns-in-Axiom : goal.prove_focused-returns-in-Axiom
prove_focused-returns-in-Axiom t c = on_axiom c.args.spot.left c.args.spot.depth c.requires.0 c.requires.1 (subst (Focused c.args.mem.now c.args.z c.args.i) c.in-Axiom.is c.focus_on-f.ensures) c.node.ensures c.leaf.ensures

pub prove_focused-returns-in-One : goal.prove_focused-returns-in-One
prove_focused-returns-in-One t c = on_one c.args.spot.left c.args.spot.depth c.requires.0 c.requires.1 (subst (Focused c.args.mem.now c.args.z c.args.i) c.in-One.is c.focus_on-f.ensures) c.node-in-One.ensures c.leaf-in-One.ensures

pub prove_focused-returns-in-Tensor : goal.prove_focused-returns-in-Tensor
prove_focused-returns-in-Tensor t c = on_tensor c.args.spot.left c.args.spot.depth c.requires.0 c.requires.1 (subst (Focused c.args.mem.now c.args.z c.args.i) c.in-Tensor.is c.focus_on-f.ensures) c.masks.ensures

pub prove_focused-returns-in-Plus : goal.prove_focused-returns-in-Plus
prove_focused-returns-in-Plus t c = on_plus c.args.spot.left c.args.spot.depth c.requires.0 c.requires.1 (subst (Focused c.args.mem.now c.args.z c.args.i) c.in-Plus.is c.focus_on-f.ensures) c.plus.ensures

pub prove_focused-returns-in-OfCourse : goal.prove_focused-returns-in-OfCourse
prove_focused-returns-in-OfCourse t c = on_of_course c.args.spot.left c.args.spot.depth c.requires.0 c.requires.1 (subst (Focused c.args.mem.now c.args.z c.args.i) c.in-OfCourse.is c.focus_on-f.ensures) c.only.ensures c.node-in-OfCourse.ensures c.under.ensures

pub prove_sync-returns-in_default : goal.prove_sync-returns-in_default
prove_sync-returns-in_default t c = sync_stops c.args.spot.left c.args.spot.depth c.requires c.positives-a.ensures (not_nothing _ c.in_default.not-Nothing)

pub prove_sync-returns : goal.prove_sync-returns
prove_sync-returns t c = sync_goes c.args.spot.left c.args.spot.depth c.requires c.positives-a.ensures c.in-Nothing.is c.exponentials.ensures

pub spelled-returns-in_default : goal.spelled-returns-in_default
spelled-returns-in_default t c = on_full c.args.spot.left c.args.spot.depth c.requires.0 c.requires.1 (full_by _ _ _ c.in_default.is c.spell.ensures)

pub spelled-visit-requires : goal.spelled-visit-requires
spelled-visit-requires t c = (omega (arith, lolli_falls c.args.spot.left c.args.spot.depth c.requires.0 c.requires.1 (spelled_by _ _ _ c.in-Some.is c.spell.ensures) c.replaced.ensures), ready_again c.requires.0 (spelled_by _ _ _ c.in-Some.is c.spell.ensures).grew (spelled_by _ _ _ c.in-Some.is c.spell.ensures).wf (spelled_stands c.args.spot.left c.args.spot.depth c.requires.0 c.requires.1 (spelled_by _ _ _ c.in-Some.is c.spell.ensures) c.replaced.ensures))

pub spelled-returns : goal.spelled-returns
spelled-returns t c = on_spelled c.args.spot.left c.args.spot.depth c.requires.0 c.requires.1 (spelled_by _ _ _ c.in-Some.is c.spell.ensures) c.replaced.ensures c.visit.ensures

pub taken-returns-then-too_long : goal.taken-returns-then-too_long
taken-returns-then-too_long t c = taken_long c.args.rule c.args.spot.left c.args.spot.depth c.requires.0 c.requires.1 c.too_long.ensures c.if-too_long.true

pub taken-returns : goal.taken-returns
taken-returns t c = taken_under c.args.rule c.args.spot.left c.args.spot.depth c.requires.0 c.requires.1 c.premise.ensures c.from.ensures c.node.ensures c.under.ensures

pub under-visit-a-requires : goal.under-visit-a-requires
under-visit-a-requires t c = (omega (arith, few_lollis c.args.mem.now c.requires.zones.fits), ready_premise c.requires _ (omega arith))

pub under-returns-in_default : goal.under-returns-in_default
under-returns-in_default t c = under_stops c.args.spot.left c.args.spot.depth c.requires c.args.x c.visit-a.ensures (not_found _ c.in_default.not-Found)

pub under-returns : goal.under-returns
under-returns t c = under_found c.args.spot.left c.args.spot.depth c.requires c.args.x c.visit-a.ensures c.in-Found.is

pub unrestricted-loop-i-init : goal.unrestricted-loop-i-init
unrestricted-loop-i-init t c = using_starts c.args.rule c.args.spot.left c.args.spot.depth c.requires

pub unrestricted-loop-i-preserved : goal.unrestricted-loop-i-preserved
unrestricted-loop-i-preserved t c = using_goes c.args.rule c.args.spot.left c.args.spot.depth c.requires c.loop-i.invariant c.loop-i-test.true c.taken-a.ensures c.in-Nothing.is

pub unrestricted-returns-in_default : goal.unrestricted-returns-in_default
unrestricted-returns-in_default t c = using_stops c.args.rule c.args.spot.left c.args.spot.depth c.requires c.loop-i.invariant c.loop-i-test.true c.taken-a.ensures (not_nothing _ c.in_default.not-Nothing)

pub unrestricted-returns : goal.unrestricted-returns
unrestricted-returns t c = using_ends c.args.rule c.args.spot.left c.args.spot.depth c.requires c.loop-i.invariant c.loop-i-test.false

pub visit-returns-then-self-c : goal.visit-returns-then-self-c
visit-returns-then-self-c t c = visit_spent c.args.spot.left c.args.spot.depth c.requires c.if-self-c.true

pub visit-returns-then-spot-eq0 : goal.visit-returns-then-spot-eq0
visit-returns-then-spot-eq0 t c = visit_over c.args.spot.left c.args.spot.depth c.requires c.if-self-c.false c.visit-c1.ensures c.reach-c2.ensures c.if-spot-eq0.true

pub visit-returns-then-seen : goal.visit-returns-then-seen
visit-returns-then-seen t c = visit_hits c.args.spot.left c.args.spot.depth c.requires c.if-self-c.false c.visit-c1.ensures c.reach-c2.ensures c.if-spot-eq0.false c.seen.ensures c.if-seen.true c.hit.ensures

pub visit-returns-in_default : goal.visit-returns-in_default
visit-returns-in_default t c = visit_stops c.args.spot.left c.args.spot.depth c.requires c.if-self-c.false c.visit-c1.ensures c.reach-c2.ensures c.if-spot-eq0.false c.seen.ensures c.if-seen.false c.prove_async-a.ensures (not_nothing _ c.in_default.not-Nothing)

pub visit-file-requires : goal.visit-file-requires
visit-file-requires t c = (c.prove_async-a.ensures.wf, stands_later c.prove_async-a.ensures.grew c.requires.zones)

pub visit-returns-then-file : goal.visit-returns-then-file
visit-returns-then-file t c = visit_files c.args.spot.left c.args.spot.depth c.requires c.if-self-c.false c.visit-c1.ensures c.reach-c2.ensures c.if-spot-eq0.false c.seen.ensures c.if-seen.false c.prove_async-a.ensures c.in-Nothing.is c.file.ensures c.if-file.true

pub visit-returns-else-file : goal.visit-returns-else-file
visit-returns-else-file t c = visit_full c.args.spot.left c.args.spot.depth c.requires c.if-self-c.false c.visit-c1.ensures c.reach-c2.ensures c.if-spot-eq0.false c.seen.ensures c.if-seen.false c.prove_async-a.ensures c.in-Nothing.is c.file.ensures c.if-file.false
