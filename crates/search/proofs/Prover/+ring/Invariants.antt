use Rattle.logic.specs.Search.{lollis}
use Rattle.search.specs.Plans.{sequent}
use Rattle.search.proofs.Choices.{Choosing, Using}
use Rattle.search.proofs.Focused.{Splitting}
use Prim.Native.Nat.{◌+◌, ◌*◌}
use Rattle.search.proofs.Prover.+ring.Given as goal

abbrev pub decreases-both : goal.decreases-both
decreases-both l = (l.spot.left + 1) * 1000 + 5

abbrev pub decreases-copies : goal.decreases-copies
decreases-copies l = (l.spot.left + 1) * 1000 + 10

abbrev pub decreases-exponentials : goal.decreases-exponentials
decreases-exponentials l = (l.spot.left + 1) * 1000 + 11

abbrev pub decreases-masks : goal.decreases-masks
decreases-masks l = (l.spot.left + 1) * 1000 + 8

abbrev pub decreases-plus : goal.decreases-plus
decreases-plus l = (l.spot.left + 1) * 1000 + 8

abbrev pub decreases-positives : goal.decreases-positives
decreases-positives l = (l.spot.left + 1) * 1000 + 10

abbrev pub decreases-prove_async : goal.decreases-prove_async
decreases-prove_async l = (l.spot.left + 1) * 1000 + lollis (sequent l.mem.now l.z).linear * 16 + 14

abbrev pub decreases-prove_focused : goal.decreases-prove_focused
decreases-prove_focused l = (l.spot.left + 1) * 1000 + 9

abbrev pub decreases-prove_sync : goal.decreases-prove_sync
decreases-prove_sync l = (l.spot.left + 1) * 1000 + 12

abbrev pub decreases-spelled : goal.decreases-spelled
decreases-spelled l = (l.spot.left + 1) * 1000 + lollis (sequent l.mem.now l.z).linear * 16 + 13

abbrev pub decreases-taken : goal.decreases-taken
decreases-taken l = (l.spot.left + 1) * 1000 + 8

abbrev pub decreases-under : goal.decreases-under
decreases-under l = (l.spot.left + 1) * 1000 + 5

abbrev pub decreases-unrestricted : goal.decreases-unrestricted
decreases-unrestricted l = (l.spot.left + 1) * 1000 + 9

abbrev pub decreases-visit : goal.decreases-visit
decreases-visit l = l.spot.left * 1000 + lollis (sequent l.mem.now l.z).linear * 16 + 15

abbrev pub invariant-masks-loop-m : goal.invariant-masks-loop-m
invariant-masks-loop-m l = Splitting l.spot.left l.spot.depth l.z l.i l.a l.b l.spot.at l.self l.initial.c1 l.initial.mem l.initial.work l.n l.m l.c1 l.mem l.work

abbrev pub invariant-positives-loop-i : goal.invariant-positives-loop-i
invariant-positives-loop-i l = Choosing l.spot.left l.spot.depth l.z l.spot.at l.self l.initial.c1 l.initial.mem l.initial.work l.i l.c1 l.mem l.work

abbrev pub invariant-unrestricted-loop-i : goal.invariant-unrestricted-loop-i
invariant-unrestricted-loop-i l = Using l.rule l.spot.left l.spot.depth l.z l.spot.at l.self l.initial.c1 l.initial.mem l.initial.work l.i l.c1 l.mem l.work
