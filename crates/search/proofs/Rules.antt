-- What `prove_async` and `spelled` return, each rule of theirs: the code's premise is the definition's, and its word says so. Assumes nothing.
use mathlib.Core.Path.{◌≡◌, refl, sym, ap, ◌∙◌, subst}
use mathlib.Core.Bool.{true}
use mathlib.Core.List.{List, [], ◌∷◌, ◌++◌}
use mathlib.Core.Option.{some}
use Prim.Native.Nat.{ℕ, suc, ◌+◌, ◌<◌}
use native.Mathlib.Omega.{arith}
use native.Mathlib.Numerals.{add-one}
use lib.ListN.{length, take, drop, length-append, length-drop, length-map}
use lib.Seq.{split_at, length-take-le}
use Rattle.logic.specs.Formula as formula
use Rattle.logic.specs.Formula.{Formula, negate, spell}
use Rattle.logic.specs.Sequent.{Sequent, ◌﹔◌}
use Rattle.logic.specs.Answer as answer
use Rattle.logic.specs.Tree.{Rule, ParIntro, BottomIntro, TopIntro, WithIntro, WhyNotIntro, node, ∅}
use Rattle.logic.proofs.ZoneLaws.{total_at}
use Rattle.logic.specs.Limits.{at_most}
use Rattle.logic.specs.Outcome as logic
use Rattle.logic.specs.Outcome.{Search, made}
use Rattle.logic.specs.Search.{from_one, from_two, async_from, lolli_count, lollis}
use Rattle.logic.specs.Built.{decomposable}
use Rattle.logic.specs.Conclusion.{spell_first}
use Rattle.logic.specs.Concludes.{spell_at}
use Rattle.zones.specs.declared.Zones.{Zones}
use Rattle.zones.specs.Zones.{Fits, Made, remove, replace, linears, unrestricteds, without, pushed, pushed_unrestricted, replaced}
use Rattle.zones.specs.ZonesLaws.{linears_length, unrestricteds_length, meant_made, meant_moved, meant_moved_two, meant_moved_over, within_made}
use Rattle.memory.specs.Meaning.{holds, told, held_count, StandsIn}
use Rattle.memory.specs.Shapes.{Spelled, NoRoom}
use Rattle.formula.specs.Answers.{coded}
use Rattle.formula.specs.declared.Refusal.TheVariants.{TooMany, HeldFull}
use Rattle.expand.specs.Short.{word, spelled, ◌by◌, step}
use Rattle.expand.specs.ShortLaws.{plain_passed, plain_at, step_par, step_bottom, step_top, step_with, step_why_not}
use Rattle.expand.specs.InMemory as in_memory
use Rattle.search.specs.declared.Prover.{Prover}
use Rattle.search.specs.declared.counters.Counters.{Counters}
use Rattle.search.specs.declared.Outcome.{Outcome}
use Rattle.search.specs.declared.Outcome.TheVariants.{Nothing, Refused}
use Rattle.search.specs.Walk.{settings, rules, async_at, async_rest, async_empty}
use Rattle.search.specs.Plans.{sequent, First, FirstTwo, FirstOne, FirstLolli, NoneFirst}
use Rattle.search.specs.Contract.{visiting, deeper, Ready, Agrees, Under, Both, Leaf, Visits, Decomposes, Syncs, Puts, PutsBoth}
use Rattle.search.proofs.Steps.{goes_as, goes_then, rebase, of, done_nothing, done_refused, leaf_found}
use Rattle.search.proofs.Turns.{goes_long, goes_refused, goes_made, goes_unmade}
use Rattle.search.proofs.Leaves.{linear_length}
use Rattle.search.specs.AskedLaws.{sequent_later, stands_later}
use Rattle.search.proofs.Ready.{kept_sequent, kept_now, below_explored, kept_memory}

-- the premise of a rule of one premise, and the premises of one of two, as the definition writes them
module _ (left depth : ℕ) {p : Prover} {at : ℕ} {c : Counters} {m w : List ℕ} {r : Outcome} {m' w' : List ℕ} {x : ℕ} (q : Sequent) (rule : Rule) where
  pub put_one : (y : Zones) {q₁ : Sequent} → Puts p left depth y at c m w r m' w' x → sequent m y ≡ q₁ → in_memory.Kept (holds m) q → step q x ≡ some (q₁ ∷ [] by rule) → Agrees (suc left) q (from_one rule q (deeper p left depth q₁)) at p c m w r m' w'
  put_one y {q₁} u e held k = (subst (λ (s : Sequent). Under left x s (deeper p left depth s) at p c m w r m' w') e u).over q rule held k

  pub put_two : (y v : Zones) {q₁ q₂ : Sequent} → PutsBoth p left depth y at c m w r m' w' x v → sequent m y ≡ q₁ → sequent m v ≡ q₂ → in_memory.Kept (holds m) q → step q x ≡ some (q₁ ∷ q₂ ∷ [] by rule) → Agrees (suc left) q (from_two rule q (deeper p left depth q₁) (deeper p left depth q₂)) at p c m w r m' w'
  put_two y v {q₁} {q₂} u e f held k =
      (subst (λ (s : Sequent). Both left x q₁ s (deeper p left depth q₁) (deeper p left depth s) at p c m w r m' w') f
      (subst (λ (s : Sequent). Both left x s (sequent m v) (deeper p left depth s) (deeper p left depth (sequent m v)) at p c m w r m' w') e u)).over q rule held k

-- a word by its fields
pub stepped : {x y : ℕ} (q : Sequent) {s : _} → x ≡ y → step q y ≡ s → step q x ≡ s
stepped q e d = ap (step q) e ∙ d

pub removed_length : (l : List Formula) (i : ℕ) → i < length l → length (remove i l) + 1 ≡ length l
removed_length l i h = omega (arith, length-append (take i l) (drop (suc i) l), length-take-le i l (omega arith), length-drop (suc i) l)

module _ (left depth : ℕ) {z : Zones} {far at : ℕ} {p : Prover} {c : Counters} {m w : List ℕ} (ready : Ready 1 z far at p c m w) where
  fits : Fits z
  fits = ready.zones.fits

  abbrev q₀ : Sequent
  q₀ = sequent m z

  abbrev Γ : List Formula
  Γ = q₀.linear

  abbrev again : Sequent → Search
  again = visiting p (suc left) depth

  here_held : in_memory.Kept (holds m) q₀
  here_held = kept_sequent ready.zones

  pub place_low : {i : ℕ} → i < z.linear_len → i < 32
  place_low l = omega (arith, fits.few)

  pub in_zone : {i : ℕ} → i < z.linear_len → i < length Γ
  in_zone l = omega (arith, linear_length m fits)

  module _ {i : ℕ} {f : Formula} (first : First m z i f) where
    split : Γ ≡ take i Γ ++ (f ∷ drop (suc i) Γ)
    split = split_at Γ i formula.One (in_zone first.place) ∙ ap (λ (g : Formula). take i Γ ++ (g ∷ drop (suc i) Γ)) first.here

    -- the rule at the first decomposable formula
    clause : rules p.cache p.budget left depth q₀ ≡ async_from (settings p.cache p.budget) (deeper p left depth) again q₀ (take i Γ) (f ∷ drop (suc i) Γ)
    clause = async_at (settings p.cache p.budget) (deeper p left depth) again q₀ (take i Γ) f (drop (suc i) Γ) first.passed split

    -- where it is no implication, the sequent is spelled out already
    stays : decomposable f ≡ true → spell f ≡ f → spelled q₀ ≡ q₀
    stays d s = plain_at q₀ f (drop (suc i) Γ) first.passed d s split

  decomposes : {run : Search} {r : Outcome} {m' w' : List ℕ} → spelled q₀ ≡ q₀ → rules p.cache p.budget left depth q₀ ≡ run → Agrees (suc left) q₀ run at p c m w r m' w' → Decomposes p left depth z at c m w r m' w'
  decomposes {run} {r} {m'} {w'} s e a = subst (λ (q : Sequent). Agrees (suc left) q (rules p.cache p.budget left depth q₀) at p c m w r m' w') (sym s) (of e a)

  -- an empty linear zone is a no
  pub on_empty : z.linear_len ≡ 0 → Decomposes p left depth z at c m w (Nothing c) m w
  on_empty e = done_nothing (kept_now ready) (below_explored ready) (goes_as (async_empty (settings p.cache p.budget) (deeper p left depth) again q₀ (linear_length m fits ∙ e)))

  module _ {i a b : ℕ} (two : FirstTwo formula.Par m z i a b) where
    par_clause : rules p.cache p.budget left depth q₀ ≡ from_one ParIntro q₀ (deeper p left depth (remove i Γ ++ (told m a ∷ told m b ∷ []) ﹔ q₀.unrestricted))
    unfolding async_from
    par_clause = clause two.first

    par_stays : spelled q₀ ≡ q₀
    par_stays = stays two.first (unfold decomposable in refl) (unfold spell in refl)

    pub on_par_long : {k : ℕ} → k ≡ length (linears z) + length (unrestricteds z) → k ≡ 31 → Decomposes p left depth z at c m w (Refused TooMany c) m w
    unfolding coded
    on_par_long {k} e f =
        let l = removed_length Γ i (in_zone two.first.place) in
        let g = length-append (remove i Γ) (told m a ∷ told m b ∷ []) in
        let h = linear_length m fits in
        let u : length q₀.unrestricted ≡ z.unrestricted_len = length-map (unrestricteds z) (told m) ∙ unrestricteds_length fits in
        done_refused (kept_now ready) answer.too_many (below_explored ready)
        (goes_then (goes_as par_clause) (goes_refused ParIntro q₀ answer.too_many (goes_long p left (suc depth) _ (omega (arith, linears_length fits, unrestricteds_length fits)))))

    pub on_par : {z₁ z₂ y : Zones} {x : ℕ} {r : Outcome} {m' w' : List ℕ} → Made z (without i) z₁ → Made z₁ (pushed a) z₂ → Made z₂ (pushed b) y → x ≡ word 5 i 0 → Puts p left depth y at c m w r m' w' x → Decomposes p left depth z at c m w r m' w'
    on_par {y = y} o g h e u =
        decomposes par_stays par_clause
        (put_one left depth q₀ ParIntro y u (meant_moved_two (told m) o g h) here_held (stepped q₀ e (step_par q₀ 0 (place_low two.first.place) two.first.here)))

  module _ {i : ℕ} (first : First m z i formula.Bottom) where
    bottom_clause : rules p.cache p.budget left depth q₀ ≡ from_one BottomIntro q₀ (deeper p left depth (remove i Γ ﹔ q₀.unrestricted))
    unfolding async_from
    bottom_clause = clause first

    pub on_bottom : {y : Zones} {x : ℕ} {r : Outcome} {m' w' : List ℕ} → Made z (without i) y → x ≡ word 3 i 0 → Puts p left depth y at c m w r m' w' x → Decomposes p left depth z at c m w r m' w'
    on_bottom {y} o e u =
        decomposes (stays first (unfold decomposable in refl) (unfold spell in refl)) bottom_clause
        (put_one left depth q₀ BottomIntro y u (meant_made (told m) o) here_held (stepped q₀ e (step_bottom q₀ 0 (place_low first.place) first.here)))

  module _ {i : ℕ} (first : First m z i formula.Top) where
    top_clause : rules p.cache p.budget left depth q₀ ≡ logic.answer (logic.found (node TopIntro q₀ ∅))
    unfolding async_from
    top_clause = clause first

    pub on_top : {x : ℕ} {r : Outcome} {w' : List ℕ} → x ≡ word 6 i 0 → Leaf x at c w r w' → Decomposes p left depth z at c m w r m w'
    on_top {x} e l =
        rw (l.answer, l.words)
        (decomposes (stays first (unfold decomposable in refl) (unfold spell in refl)) top_clause
        (leaf_found left q₀ TopIntro x here_held (stepped q₀ e (step_top q₀ 0 (place_low first.place))) refl ready.stack ready.within ready.room ready.wf))

  module _ {i a b : ℕ} (two : FirstTwo formula.With m z i a b) where
    with_clause : rules p.cache p.budget left depth q₀ ≡ from_two WithIntro q₀ (deeper p left depth (remove i Γ ++ (told m a ∷ []) ﹔ q₀.unrestricted)) (deeper p left depth (remove i Γ ++ (told m b ∷ []) ﹔ q₀.unrestricted))
    unfolding async_from
    with_clause = clause two.first

    pub on_with : {z₁ y v : Zones} {x : ℕ} {r : Outcome} {m' w' : List ℕ} → Made z (without i) z₁ → Made z₁ (pushed a) y → Made z₁ (pushed b) v → x ≡ word 7 i 0 → PutsBoth p left depth y at c m w r m' w' x v → Decomposes p left depth z at c m w r m' w'
    on_with {y = y} {v = v} o g h e u =
        decomposes (stays two.first (unfold decomposable in refl) (unfold spell in refl)) with_clause
        (put_two left depth q₀ WithIntro y v u (meant_moved (told m) o g) (meant_moved (told m) o h) here_held (stepped q₀ e (step_with q₀ 0 (place_low two.first.place) two.first.here)))

  module _ {i a : ℕ} (one : FirstOne formula.WhyNot m z i a) where
    why_not_clause : rules p.cache p.budget left depth q₀ ≡ from_one WhyNotIntro q₀ (deeper p left depth (remove i Γ ﹔ q₀.unrestricted ++ (told m a ∷ [])))
    unfolding async_from
    why_not_clause = clause one.first

    pub on_why_not : {z₁ y : Zones} {x : ℕ} {r : Outcome} {m' w' : List ℕ} → Made z (without i) z₁ → Made z₁ (pushed_unrestricted a) y → x ≡ word 11 i 0 → Puts p left depth y at c m w r m' w' x → Decomposes p left depth z at c m w r m' w'
    on_why_not {y = y} o g e u =
        decomposes (stays one.first (unfold decomposable in refl) (unfold spell in refl)) why_not_clause
        (put_one left depth q₀ WhyNotIntro y u (meant_moved_over (told m) o g) here_held (stepped q₀ e (step_why_not q₀ 0 (place_low one.first.place) one.first.here)))

  -- where none is decomposable, the synchronous phase
  pub on_rest : {r : Outcome} {m' w' : List ℕ} → NoneFirst m z → Syncs p left depth z at c m w r m' w' → Decomposes p left depth z at c m w r m' w'
  on_rest n a =
      decomposes (plain_passed q₀ n.passed)
      (async_rest (settings p.cache p.budget) (deeper p left depth) again q₀ n.passed (omega (arith, n.some, linear_length m fits))) a

  -- an implication, spelled out in its place, is visited at the same depth
  module _ {i x : ℕ} (lolli : FirstLolli m z i x) where
    abbrev A : Formula
    A = lolli.implication.left

    abbrev B : Formula
    B = lolli.implication.right

    abbrev spelled_out : Formula
    spelled_out = formula.Par (negate A) B

    abbrev q₁ : Sequent
    q₁ = take i Γ ++ (spelled_out ∷ drop (suc i) Γ) ﹔ q₀.unrestricted

    first-lolli : First m z i (formula.Lolli A B)
    first-lolli = record { place = lolli.first.place; passed = lolli.first.passed; here = lolli.first.here ∙ lolli.implication.here }

    spell_is : spell (told m x) ≡ spelled_out
    spell_is = ap spell lolli.implication.here ∙ unfold spell in refl

    lolli_clause : rules p.cache p.budget left depth q₀ ≡ made (at_most 2048) spelled_out (again q₁)
    unfolding async_from
    lolli_clause = clause first-lolli

    spelled_to : spelled q₀ ≡ q₁
    unfolding spell decomposable
    spelled_to = ap (λ (l : List Formula). l ﹔ q₀.unrestricted) (ap spell_first (split first-lolli) ∙ spell_at (formula.Lolli A B) (drop (suc i) Γ) lolli.first.passed refl)

    stays_spelled : spelled q₁ ≡ q₁
    unfolding spell decomposable
    stays_spelled = ap (λ (l : List Formula). l ﹔ q₀.unrestricted) (spell_at spelled_out (drop (suc i) Γ) lolli.first.passed refl)

    pub on_full : {m' : List ℕ} → NoRoom m (spell (told m x)) m' → Decomposes p left depth z at c m w (Refused HeldFull c) m' w
    unfolding coded
    on_full {m'} n =
        let n' : NoRoom m spelled_out m' = rw spell_is at n in
        done_refused (rw n.same (kept_now ready)) answer.held_full (below_explored ready) (goes_then (goes_as lolli_clause) (goes_unmade spelled_out (again q₁) n'))

    module _ {m₁ : List ℕ} {y : ℕ} (s : Spelled m (spell (told m x)) y m₁) {z' : Zones} (o : Made z (replaced i y) z') where
      -- the sequent with the implication spelled out
      pub spelled_sequent : sequent m₁ z' ≡ q₁
      spelled_sequent =
          meant_made (told m₁) o
          ∙ ap (λ (q : Sequent). replace i (told m₁ y) q.linear ﹔ q.unrestricted) (sequent_later s.grew ready.zones)
          ∙ ap (λ (f : Formula). replace i f Γ ﹔ q₀.unrestricted) (s.here ∙ spell_is)

      pub spelled_stands : StandsIn m₁ z'
      spelled_stands = record { fits = o.fits; within = within_made (held_count m₁) o (stands_later s.grew ready.zones).within s.low }

      -- one implication less
      pub lolli_falls : lollis (sequent m z).linear ≡ suc (lollis (sequent m₁ z').linear)
      unfolding lollis
      lolli_falls =
          let e = total_at lolli_count (take i Γ) (formula.Lolli A B) (drop (suc i) Γ) (split first-lolli) in
          let f = total_at lolli_count (take i Γ) spelled_out (drop (suc i) Γ) (ap (λ (q : Sequent). q.linear) spelled_sequent) in
          omega (arith, e, f)

      pub on_spelled : {r : Outcome} {m' w' : List ℕ} → Visits p (left + 1) depth z' at c m₁ w r m' w' → Decomposes p left depth z at c m w r m' w'
      on_spelled {r} {m'} {w'} a =
          let s' : Spelled m spelled_out y m₁ = rw spell_is at s in
          let b : Agrees (suc left) (spelled q₁) (visiting p (suc left) depth q₁) at p c m₁ w r m' w' =
          subst (λ (n : ℕ). Agrees n (spelled q₁) (visiting p n depth q₁) at p c m₁ w r m' w') (add-one left)
          (subst (λ (q : Sequent). Agrees (left + 1) (spelled q) (visiting p (left + 1) depth q) at p c m₁ w r m' w') spelled_sequent a) in
          let d : Agrees (suc left) (spelled q₀) (visiting p (suc left) depth q₁) at p c m₁ w r m' w' =
          subst (λ (q : Sequent). Agrees (suc left) q (visiting p (suc left) depth q₁) at p c m₁ w r m' w') (stays_spelled ∙ sym spelled_to) b in
          rebase (kept_memory (kept_now ready) s.wf s.grew) (goes_then (goes_as lolli_clause) (goes_made spelled_out (again q₁) s')) d
