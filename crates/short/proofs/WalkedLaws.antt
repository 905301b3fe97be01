-- Laws of whole short trees: an expanded tree is as high as its short tree, and a shortened one has the least place, then the least mask, at every node. Assumes nothing.
use Rattle.std.specs.Prelude.{◌≡◌, refl, List, [], ◌∷◌, suc, max}
use Rattle.std.proofs.Common.{sym, ap, ap₂, subst}
use Rattle.logic.specs.Formula.{Formula}
use Rattle.logic.specs.Sequent.{Sequent}
use Rattle.logic.specs.Tree.{Tree, Trees, node, ∅, ◌▹◌, depth, depths, conclusions}
use Rattle.logic.specs.Limits.{Limits}
use Rattle.logic.specs.Conclusion.{concluded}
use Rattle.short.specs.Steps.{premises_of}
use Rattle.short.specs.Short.{Short, short, Shorts, □, ◌▸◌, height, heights}
use Rattle.short.specs.Making.{made}
use Rattle.short.specs.Shortening.{expand, expand_all, shorten, shorten_all}
use Rattle.short.specs.MakingLaws.{result_of, with_held, made_mismatch, made_same, paired_through}
use Rattle.short.proofs.ExpandLaws.{grown_stages}
use Rattle.short.proofs.LeastLaws.{least_apart}
use Rattle.short.specs.LeastTree.{LeastTree, LeastTrees}
use Rattle.short.proofs.ShortenLaws.{shrunk_stages}

-- ---- height

module _ (limits : Limits) where
  mutual
    unfolding expand expand_all depth depths height heights

    expand_depth : (s : Short) (q : Sequent) (fs : List Formula) {t : Tree} {gs : List Formula} → expand limits s q fs ≡ (made t, gs) → depth t ≡ height s
    expand_depth (short r i mask ss) q fs e =
        let g = grown_stages limits (expand_all limits ss) r i mask q fs e in
        rw g.tree_is (ap suc (expand_depths ss (premises_of r i mask (concluded q)) g.between g.premises))

    expand_depths : (ss : Shorts) (qs : List Sequent) (fs : List Formula) {ts : Trees} {gs : List Formula} → expand_all limits ss qs fs ≡ (made ts, gs)
        → depths ts ≡ heights ss
    expand_depths □ [] fs e = rw (made_same e) refl
    expand_depths □ (q ∷ qs) fs e = absurd (made_mismatch e)
    expand_depths (s ▸ ss) [] fs e = absurd (made_mismatch e)
    expand_depths (s ▸ ss) (q ∷ qs) fs e =
        let p = paired_through (expand limits s q) (expand_all limits ss qs) ◌▹◌ fs e in
        rw p.joined (ap₂ max (expand_depth s q fs p.first) (expand_depths ss qs p.between p.second))

  pub expanded_depth : (s : Short) (q : Sequent) (fs : List Formula) {t : Tree} → (expand limits s q fs).0 ≡ made t → depth t ≡ height s
  expanded_depth s q fs e = expand_depth s q fs (with_held _ e)

-- ---- the least place and mask

module _ (limits : Limits) where
  mutual
    unfolding shorten shorten_all

    shorten_least : (t : Tree) (q : Sequent) (fs : List Formula) {s : Short} {gs : List Formula} → shorten limits t q fs ≡ (made s, gs) → LeastTree t s
    shorten_least (node r c ts) q fs e =
        let g = shrunk_stages limits (shorten_all limits ts) r c (conclusions ts) q fs e in
        subst (LeastTree (node r c ts)) (sym g.short_is)
        (refl, least_apart r c (conclusions ts) g.between (ap result_of g.steps), shorten_all_least ts (premises_of r g.place g.mask c) g.between g.premises)

    shorten_all_least : (ts : Trees) (qs : List Sequent) (fs : List Formula) {ss : Shorts} {gs : List Formula} → shorten_all limits ts qs fs ≡ (made ss, gs)
        → LeastTrees ts ss
    shorten_all_least ∅ [] fs e = subst (LeastTrees ∅) (sym (made_same e)) tt
    shorten_all_least ∅ (q ∷ qs) fs e = absurd (made_mismatch e)
    shorten_all_least (t ▹ ts) [] fs e = absurd (made_mismatch e)
    shorten_all_least (t ▹ ts) (q ∷ qs) fs e =
        let p = paired_through (shorten limits t q) (shorten_all limits ts qs) ◌▸◌ fs e in
        subst (LeastTrees (t ▹ ts)) (sym p.joined) (shorten_least t q fs p.first, shorten_all_least ts qs p.between p.second)

  pub shortened_least : (t : Tree) (q : Sequent) (fs : List Formula) {s : Short} → (shorten limits t q fs).0 ≡ made s → LeastTree t s
  shortened_least t q fs e = shorten_least t q fs (with_held _ e)
