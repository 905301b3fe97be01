-- Laws of entering a formula with its parts: it is held then, what was held stays, each formula held stands with its parts, and entering what is held changes nothing. Assumes nothing.
use Rattle.std.specs.Prelude.{◌≡◌, refl, Bool, true, false, List, [], ◌∷◌, ◌++◌, ◌⊎◌}
use Rattle.std.proofs.Common.{ap, ◌∙◌, inl, inr}
use Rattle.std.proofs.lemmas.Bool.{false≢true}
use Rattle.logic.specs.Formula.{Formula, One, Bottom, Top, Zero, Atom, NegAtom, Tensor, Par, With, Plus, Lolli, OfCourse, WhyNot, same, among}
use Rattle.logic.proofs.FormulaLaws.{same_iff, same_self}
use Rattle.logic.specs.Parts.{left_part, right_part}
use Rattle.logic.specs.Sequent.{Question, one_sided, two_sided}
use Rattle.logic.specs.Held.{add, enter, enter_all, enter_question}
use Rattle.short.specs.Closed.{Stay, Closed}

-- ---- among

among_front : (f : Formula) (fs gs : List Formula) → among f fs ≡ true → among f (fs ++ gs) ≡ true
unfolding among
among_front f [] gs e = absurd (false≢true e)
among_front f (g ∷ fs) gs e = go (same f g) e (among_front f fs gs)
  where
    go : (b : Bool) → elim b as (λ _. Bool) [ true ↦ true | false ↦ among f fs ] ≡ true → (among f fs ≡ true → among f (fs ++ gs) ≡ true)
        → elim b as (λ _. Bool) [ true ↦ true | false ↦ among f (fs ++ gs) ] ≡ true
    go true e rest = refl
    go false e rest = rest e

among_last : (f : Formula) (fs : List Formula) → among f (fs ++ (f ∷ [])) ≡ true
unfolding among
among_last f [] = rw (same_self f, among)
among_last f (g ∷ fs) = go (same f g) (among_last f fs)
  where
    go : (b : Bool) → among f (fs ++ (f ∷ [])) ≡ true → elim b as (λ _. Bool) [ true ↦ true | false ↦ among f (fs ++ (f ∷ [])) ] ≡ true
    go true e = refl
    go false e = e

among_cases : (f : Formula) (fs : List Formula) (g : Formula) → among f (fs ++ (g ∷ [])) ≡ true → (among f fs ≡ true) ⊎ (f ≡ g)
unfolding among
among_cases f [] g e = go (same f g) refl e
  where
    go : (b : Bool) → same f g ≡ b → elim b as (λ _. Bool) [ true ↦ true | false ↦ false ] ≡ true → (false ≡ true) ⊎ (f ≡ g)
    go true s e = inr ((same_iff f g).0 s)
    go false s e = inl e
among_cases f (h ∷ fs) g e = go (same f h) e (among_cases f fs g)
  where
    go : (b : Bool) → elim b as (λ _. Bool) [ true ↦ true | false ↦ among f (fs ++ (g ∷ [])) ] ≡ true
        → (among f (fs ++ (g ∷ [])) ≡ true → (among f fs ≡ true) ⊎ (f ≡ g))
        → (elim b as (λ _. Bool) [ true ↦ true | false ↦ among f fs ] ≡ true) ⊎ (f ≡ g)
    go true e rest = inl refl
    go false e rest = rest e

-- ---- a formula whose parts are held

module _ (f : Formula) (fs : List Formula) where
  add_held : among f fs ≡ true → add f fs ≡ fs
  add_held e = rw (e, add)

  add_among : among f (add f fs) ≡ true
  add_among = go (among f fs) refl
    where
      go : (b : Bool) → among f fs ≡ b → among f (elim b as (λ _. List Formula) [ true ↦ fs | false ↦ fs ++ (f ∷ []) ]) ≡ true
      go true e = e
      go false e = among_last f fs

  add_stays : (g : Formula) → among g fs ≡ true → among g (add f fs) ≡ true
  add_stays g h = go (among f fs)
    where
      go : (b : Bool) → among g (elim b as (λ _. List Formula) [ true ↦ fs | false ↦ fs ++ (f ∷ []) ]) ≡ true
      go true = h
      go false = among_front g fs (f ∷ []) h

  add_cases : (g : Formula) → among g (add f fs) ≡ true → (among g fs ≡ true) ⊎ (g ≡ f)
  add_cases g = go (among f fs)
    where
      go : (b : Bool) → among g (elim b as (λ _. List Formula) [ true ↦ fs | false ↦ fs ++ (f ∷ []) ]) ≡ true → (among g fs ≡ true) ⊎ (g ≡ f)
      go true h = inl h
      go false h = among_cases g fs f h

  add_closed : Closed fs → among (left_part f) (add f fs) ≡ true → among (right_part f) (add f fs) ≡ true → Closed (add f fs)
  add_closed c l r = record { left = λ g h. left_of g (add_cases g h); right = λ g h. right_of g (add_cases g h) }
    where
      left_of : (g : Formula) → (among g fs ≡ true) ⊎ (g ≡ f) → among (left_part g) (add f fs) ≡ true
      left_of g (inl h) = add_stays (left_part g) (c.left g h)
      left_of g (inr e) = ap (λ (x : Formula). among (left_part x) (add f fs)) e ∙ l

      right_of : (g : Formula) → (among g fs ≡ true) ⊎ (g ≡ f) → among (right_part g) (add f fs) ≡ true
      right_of g (inl h) = add_stays (right_part g) (c.right g h)
      right_of g (inr e) = ap (λ (x : Formula). among (right_part x) (add f fs)) e ∙ r

-- ---- a formula with its parts

pub enter_among : (f : Formula) (fs : List Formula) → among f (enter f fs) ≡ true
unfolding enter
enter_among (Atom a) fs = add_among (Atom a) fs
enter_among (NegAtom a) fs = add_among (NegAtom a) fs
enter_among (Tensor a b) fs = add_among (Tensor a b) (enter b (enter a fs))
enter_among (Par a b) fs = add_among (Par a b) (enter b (enter a fs))
enter_among One fs = add_among One fs
enter_among Bottom fs = add_among Bottom fs
enter_among (With a b) fs = add_among (With a b) (enter b (enter a fs))
enter_among (Plus a b) fs = add_among (Plus a b) (enter b (enter a fs))
enter_among Top fs = add_among Top fs
enter_among Zero fs = add_among Zero fs
enter_among (OfCourse a) fs = add_among (OfCourse a) (enter a fs)
enter_among (WhyNot a) fs = add_among (WhyNot a) (enter a fs)
enter_among (Lolli a b) fs = add_among (Lolli a b) (enter b (enter a fs))

-- what was held stays
pub enter_stays : (f : Formula) (fs : List Formula) (g : Formula) → among g fs ≡ true → among g (enter f fs) ≡ true
unfolding enter
enter_stays (Atom a) fs g h = add_stays (Atom a) fs g h
enter_stays (NegAtom a) fs g h = add_stays (NegAtom a) fs g h
enter_stays (Tensor a b) fs g h = add_stays (Tensor a b) _ g (enter_stays b _ g (enter_stays a fs g h))
enter_stays (Par a b) fs g h = add_stays (Par a b) _ g (enter_stays b _ g (enter_stays a fs g h))
enter_stays One fs g h = add_stays One fs g h
enter_stays Bottom fs g h = add_stays Bottom fs g h
enter_stays (With a b) fs g h = add_stays (With a b) _ g (enter_stays b _ g (enter_stays a fs g h))
enter_stays (Plus a b) fs g h = add_stays (Plus a b) _ g (enter_stays b _ g (enter_stays a fs g h))
enter_stays Top fs g h = add_stays Top fs g h
enter_stays Zero fs g h = add_stays Zero fs g h
enter_stays (OfCourse a) fs g h = add_stays (OfCourse a) _ g (enter_stays a fs g h)
enter_stays (WhyNot a) fs g h = add_stays (WhyNot a) _ g (enter_stays a fs g h)
enter_stays (Lolli a b) fs g h = add_stays (Lolli a b) _ g (enter_stays b _ g (enter_stays a fs g h))

-- each formula stands with its parts
leaf_closed : (f : Formula) {fs : List Formula} → left_part f ≡ f → right_part f ≡ f → Closed fs → Closed (add f fs)
leaf_closed f {fs} l r c =
    add_closed f fs c (ap (λ (x : Formula). among x (add f fs)) l ∙ add_among f fs) (ap (λ (x : Formula). among x (add f fs)) r ∙ add_among f fs)

two_closed : (f a b : Formula) (fs : List Formula) → left_part f ≡ a → right_part f ≡ b → Closed (enter b (enter a fs)) → Closed (add f (enter b (enter a fs)))
two_closed f a b fs l r c =
    add_closed f (enter b (enter a fs)) c
    (ap (λ (x : Formula). among x (add f (enter b (enter a fs)))) l ∙ add_stays f _ a (enter_stays b _ a (enter_among a fs)))
    (ap (λ (x : Formula). among x (add f (enter b (enter a fs)))) r ∙ add_stays f _ b (enter_among b (enter a fs)))

one_closed : (f a : Formula) (fs : List Formula) → left_part f ≡ a → right_part f ≡ a → Closed (enter a fs) → Closed (add f (enter a fs))
one_closed f a fs l r c =
    add_closed f (enter a fs) c (ap (λ (x : Formula). among x (add f (enter a fs))) l ∙ add_stays f _ a (enter_among a fs))
    (ap (λ (x : Formula). among x (add f (enter a fs))) r ∙ add_stays f _ a (enter_among a fs))

pub enter_closed : (f : Formula) (fs : List Formula) → Closed fs → Closed (enter f fs)
unfolding enter left_part right_part
enter_closed (Atom a) fs c = leaf_closed (Atom a) refl refl c
enter_closed (NegAtom a) fs c = leaf_closed (NegAtom a) refl refl c
enter_closed (Tensor a b) fs c = two_closed (Tensor a b) a b fs refl refl (enter_closed b _ (enter_closed a fs c))
enter_closed (Par a b) fs c = two_closed (Par a b) a b fs refl refl (enter_closed b _ (enter_closed a fs c))
enter_closed One fs c = leaf_closed One refl refl c
enter_closed Bottom fs c = leaf_closed Bottom refl refl c
enter_closed (With a b) fs c = two_closed (With a b) a b fs refl refl (enter_closed b _ (enter_closed a fs c))
enter_closed (Plus a b) fs c = two_closed (Plus a b) a b fs refl refl (enter_closed b _ (enter_closed a fs c))
enter_closed Top fs c = leaf_closed Top refl refl c
enter_closed Zero fs c = leaf_closed Zero refl refl c
enter_closed (OfCourse a) fs c = one_closed (OfCourse a) a fs refl refl (enter_closed a fs c)
enter_closed (WhyNot a) fs c = one_closed (WhyNot a) a fs refl refl (enter_closed a fs c)
enter_closed (Lolli a b) fs c = two_closed (Lolli a b) a b fs refl refl (enter_closed b _ (enter_closed a fs c))

-- entering what is held changes nothing
module _ {fs : List Formula} (c : Closed fs) where
  two_held : (f a b : Formula) → among f fs ≡ true → enter a fs ≡ fs → enter b fs ≡ fs → add f (enter b (enter a fs)) ≡ fs
  two_held f a b h p p' = rw (p, p') (add_held f fs h)

  one_held : (f a : Formula) → among f fs ≡ true → enter a fs ≡ fs → add f (enter a fs) ≡ fs
  one_held f a h p = rw p (add_held f fs h)

  pub enter_held : (f : Formula) → among f fs ≡ true → enter f fs ≡ fs
  unfolding enter left_part right_part
  enter_held (Atom a) h = add_held (Atom a) fs h
  enter_held (NegAtom a) h = add_held (NegAtom a) fs h
  enter_held (Tensor a b) h = two_held (Tensor a b) a b h (enter_held a (c.left (Tensor a b) h)) (enter_held b (c.right (Tensor a b) h))
  enter_held (Par a b) h = two_held (Par a b) a b h (enter_held a (c.left (Par a b) h)) (enter_held b (c.right (Par a b) h))
  enter_held One h = add_held One fs h
  enter_held Bottom h = add_held Bottom fs h
  enter_held (With a b) h = two_held (With a b) a b h (enter_held a (c.left (With a b) h)) (enter_held b (c.right (With a b) h))
  enter_held (Plus a b) h = two_held (Plus a b) a b h (enter_held a (c.left (Plus a b) h)) (enter_held b (c.right (Plus a b) h))
  enter_held Top h = add_held Top fs h
  enter_held Zero h = add_held Zero fs h
  enter_held (OfCourse a) h = one_held (OfCourse a) a h (enter_held a (c.left (OfCourse a) h))
  enter_held (WhyNot a) h = one_held (WhyNot a) a h (enter_held a (c.left (WhyNot a) h))
  enter_held (Lolli a b) h = two_held (Lolli a b) a b h (enter_held a (c.left (Lolli a b) h)) (enter_held b (c.right (Lolli a b) h))

-- from nothing on, and over a question's formulas
pub closed_none : Closed []
unfolding among
closed_none = record { left = λ f h. absurd (false≢true h); right = λ f h. absurd (false≢true h) }

pub enter_all_closed : (gs fs : List Formula) → Closed fs → Closed (enter_all gs fs)
unfolding enter_all
enter_all_closed [] fs c = c
enter_all_closed (g ∷ gs) fs c = enter_all_closed gs (enter g fs) (enter_closed g fs c)

pub enter_question_closed : (question : Question) (fs : List Formula) → Closed fs → Closed (enter_question question fs)
unfolding enter_question
enter_question_closed (one_sided Γ Θ) fs c = enter_all_closed Θ _ (enter_all_closed Γ fs c)
enter_question_closed (two_sided Γ Δ) fs c = enter_all_closed _ _ (enter_all_closed Δ _ (enter_all_closed Γ fs c))

pub stay_refl : {fs : List Formula} → Stay fs fs
stay_refl = record { stays = λ f h. h }

pub stay_trans : {fs gs hs : List Formula} → Stay fs gs → Stay gs hs → Stay fs hs
stay_trans s t = record { stays = λ f h. t.stays f (s.stays f h) }
