-- Laws of entering a whole question: its zones stand in its bytes, the numbers that are listed say its sequent, what one part lacks room for the question does, and what is taken back
-- leaves every word as it was. Assumes nothing.
use Rattle.std.specs.Prelude.{◌≡◌, refl, true, false, None, Option, Some, List, [], ◌++◌, map, ℕ, ◌+◌, ◌-◌, ◌≤◌, ◌<◌, get_or, take}
use Rattle.std.proofs.Math.Path.{sym}
use Rattle.std.proofs.Common.{ap, ◌∙◌, arith, lt_of_lt_of_le, length-drop, length-take-le, get_or-take, get_or-drop, take-add, ext_get_or}
use Rattle.std.proofs.lemmas.List.{map-append, length-map}
use Rattle.std.proofs.Math.ListN.{length, drop}
use Rattle.logic.specs.Formula.{Formula, One, negate}
use Rattle.logic.specs.Sequent.{Question, one_sided, two_sided, to_one_sided}
use Rattle.logic.specs.Held.{enter_all, enter_question}
use Rattle.wire.specs.Read.{got, read_question}
use Rattle.wire.specs.Fits.{first_zone, second_zone}
use Rattle.held.specs.Words.{count, most, view, told, named, Wf, Extends}
use Rattle.held.specs.Answers.{TakenBack}
use Rattle.std.specs.Option.{is_some}
use Rattle.held.specs.WordsLaws.{extends_refl, extends_trans, keeps}
use Rattle.held.specs.EnterLaws.{enter_all_longer}
use Rattle.held.specs.CutLaws.{cut_back}
use Rattle.zones.specs.ZonesLaws.{map_at, below_append}
use Rattle.zones.specs.declared.Zones.{Zones}
use Rattle.question.specs.Answers.{kind_of}
use Rattle.question.specs.Found.{Found, Cut}
use Rattle.question.specs.declared.Places.{Places}
use Rattle.enter.specs.Lists.{Names, Zone, Zoned, EnteredAll, OverAll, ListedAll, ListedFrom, Negatable, NegatedAll, NegatedFrom}
use Rattle.ask.specs.Asking.{Askable, OneSided, TwoSided, Says, Held, Over, HeldOr, Entering, HeldOrNot, AskedTo, Settles, SettledAs}

-- ---- numbers and the formulas that they say

map_told_at : (f : ℕ → Formula) (xs : List ℕ) (j : ℕ) → j < length xs → get_or (map f xs) j One ≡ f (get_or xs j 0)
map_told_at f xs j l =
    let e : j ≡ j + 0 = omega arith in
    ap (λ i. get_or (map f xs) i One) e ∙ (sym (get_or-drop j (map f xs) 0 One) ∙ ap (λ fs. get_or fs 0 One) (map_at f xs j l))

-- listed numbers, over more formulas too
module _ {m m' numbers : List ℕ} {from n : ℕ} {fs : List Formula} (grew : Extends m m') (names : Names m numbers from n fs) (many : n ≡ length fs) (room : from + n ≤ length numbers) where
  abbrev part : List ℕ
  part = take n (drop from numbers)

  part_length : length part ≡ n
  part_length = length-take-le n (drop from numbers) (omega (arith, length-drop from numbers, room))

  part_at : (j : ℕ) → j < n → get_or part j 0 ≡ get_or numbers (from + j) 0
  part_at j l = get_or-take n (drop from numbers) j 0 l ∙ get_or-drop from numbers j 0

  part_told : (j : ℕ) → j < n → told m' (get_or part j 0) ≡ get_or fs j One
  part_told j l = rw (part_at j l) (keeps m m' grew (get_or numbers (from + j) 0) (names.low j l) ∙ names.here j l)

  pub names_say : Says m' part fs
  names_say =
      record {
        low = record { below = λ j l. let u : j < n = omega (arith, part_length) in rw (part_at j u) (lt_of_lt_of_le (names.low j u) grew.more) };
        means = ext_get_or One (map (told m') part) fs (length-map part (told m') ∙ (part_length ∙ many)) (λ j l. let u : j < length part = omega (arith, length-map part (told m')) in map_told_at (told m') part j u ∙ part_told j (omega (arith, part_length)));
      }

-- two lists, one behind the other
pub says_append : {m xs ys : List ℕ} {fs gs : List Formula} → Says m xs fs → Says m ys gs → Says m (xs ++ ys) (fs ++ gs)
says_append {m} {xs} {ys} {fs} {gs} p q =
    record { low = below_append (count m) xs ys p.low q.low; means = map-append (told m) xs ys ∙ rw (p.means, q.means) }

-- ---- numbers that stay, in front of a place and behind it

front_same : (n : ℕ) (xs ys : List ℕ) → length xs ≡ length ys → n ≤ length ys → ((j : ℕ) → j < n → get_or xs j 0 ≡ get_or ys j 0) → take n xs ≡ take n ys
front_same n xs ys e l same =
    let p = length-take-le n xs (omega arith) in
    let q = length-take-le n ys l in
    ext_get_or 0 (take n xs) (take n ys) (p ∙ sym q) (λ j u. let v : j < n = omega arith in get_or-take n xs j 0 v ∙ (same j v ∙ sym (get_or-take n ys j 0 v)))

rest_same : (n : ℕ) (xs ys : List ℕ) → length xs ≡ length ys → ((j : ℕ) → n ≤ j → get_or xs j 0 ≡ get_or ys j 0) → drop n xs ≡ drop n ys
rest_same n xs ys e same =
    ext_get_or 0 (drop n xs) (drop n ys) (length-drop n xs ∙ (ap (λ k. k - n) e ∙ sym (length-drop n ys))) (λ j u. get_or-drop n xs j 0 ∙ (same (n + j) (omega arith) ∙ sym (get_or-drop n ys j 0)))

-- ---- a question's zones

cut_zone : {s : List ℕ} {from to : ℕ} {fs : List Formula} → Cut s from to fs → Zone s from to fs
cut_zone c = record { ordered = omega (arith, c.sized); inside = c.inside; bytes_are = c.bytes_are; read = c.read }

module _ {s : List ℕ} {p : Places} {q : Question} (found : Found s p q) where
  pub few_formulas : length (first_zone q) + length (second_zone q) ≤ 31
  few_formulas = found.fits.zones_fit.few_formulas

  pub first_zoned : {m : List ℕ} (numbers : List ℕ) → Wf m → length numbers ≡ 31 → Zoned m s p.first p.first_end numbers 0
  first_zoned numbers z long =
      record { wf = z; formulas = first_zone q; zone = cut_zone found.first_cut; fits = found.fits.zones_fit.first_fits; room = omega (arith, few_formulas) }

  pub second_zoned : {m : List ℕ} (numbers : List ℕ) (from : ℕ) → Wf m → length numbers ≡ 31 → from ≤ length (first_zone q) → Zoned m s p.second p.second_end numbers from
  second_zoned numbers from z long l =
      record { wf = z; formulas = second_zone q; zone = cut_zone found.second_cut; fits = found.fits.zones_fit.second_fits; room = omega (arith, few_formulas) }

  -- what entering a zone answers
  module _ (m numbers : List ℕ) (from : ℕ) (r : Option ℕ) (m' numbers' : List ℕ) where
    pub first_listed : ListedFrom m s p.first p.first_end numbers from r m' numbers' → {n : ℕ} → r ≡ Some n → ListedAll m (first_zone q) numbers from n m' numbers'
    first_listed x e = (rw e at x) (first_zone q) found.first_cut.read

    pub first_full : ListedFrom m s p.first p.first_end numbers from r m' numbers' → r ≡ None → OverAll m (first_zone q) m'
    first_full x e = (rw e at x) (first_zone q) found.first_cut.read

    pub second_listed : ListedFrom m s p.second p.second_end numbers from r m' numbers' → {n : ℕ} → r ≡ Some n → ListedAll m (second_zone q) numbers from n m' numbers'
    second_listed x e = (rw e at x) (second_zone q) found.second_cut.read

    pub second_full : ListedFrom m s p.second p.second_end numbers from r m' numbers' → r ≡ None → OverAll m (second_zone q) m'
    second_full x e = (rw e at x) (second_zone q) found.second_cut.read

  -- whatever question the bytes are, they are this one
  found_once : (q' : Question) → read_question s ≡ got q' [] → q' ≡ q
  found_once q' e = let h : got q' [] ≡ got q [] = sym e ∙ found.read in cc

  pub entering_held : (m m' : List ℕ) (z : Zones) → Held m q z m' → Entering m s (Some z) m'
  entering_held m m' z h q' e = rw (found_once q' e) h

  pub entering_over : (m m' : List ℕ) → Over m q m' → Entering m s None m'
  entering_over m m' h q' e = rw (found_once q' e) h

-- ---- no room

-- the second zone and the negations make the list no shorter
later_longer : (q : Question) (fs : List Formula) → length (enter_all (second_zone q) (enter_all (first_zone q) fs)) ≤ length (enter_question q fs)
unfolding enter_question
later_longer (one_sided Γ Θ) fs = omega arith
later_longer (two_sided Γ Δ) fs = enter_all_longer (map negate Γ) (enter_all Δ (enter_all Γ fs)) (enter_all Δ (enter_all Γ fs)) (omega arith)

pub first_over : {m m' : List ℕ} {q : Question} → OverAll m (first_zone q) m' → Over m q m'
first_over {m} {m'} {q} o =
    record { wf = o.wf; grew = o.grew; over = omega (arith, o.over, enter_all_longer (second_zone q) (enter_all (first_zone q) (view m)) (enter_all (first_zone q) (view m)) (omega arith), later_longer q (view m)) }

pub second_over : {m m₁ m' : List ℕ} {q : Question} → EnteredAll m (first_zone q) m₁ → OverAll m₁ (second_zone q) m' → Over m q m'
second_over {m} {m₁} {m'} {q} a o =
    let l : most < length (enter_all (second_zone q) (enter_all (first_zone q) (view m))) = rw a.all at o.over in
    record { wf = o.wf; grew = extends_trans a.grew o.grew; over = lt_of_lt_of_le l (later_longer q (view m)) }

-- ---- kind 1

pub one_sided_held :
    {m s : List ℕ} {p : Places} (z : OneSided m s p) {zeros zeros' : List ℕ} {n k : ℕ} {m₁ numbers m₂ numbers' : List ℕ} →
    ListedAll m z.linear zeros 0 n m₁ numbers → ListedAll m₁ z.unrestricted zeros' 0 k m₂ numbers' → length zeros ≡ 31 → length zeros' ≡ 31 →
    Held m (one_sided z.linear z.unrestricted) record { linear = numbers; linear_len = n; unrestricted = numbers'; unrestricted_len = k } m₂
unfolding enter_question to_one_sided
one_sided_held {m} {s} {p} z {zeros} {zeros'} {n} {k} {m₁} {numbers} {m₂} {numbers'} a b e e' =
    let few = few_formulas z.found in
    let x : Says m₂ (take n numbers) z.linear = names_say b.entered.grew a.names a.counted (omega (arith, a.long, a.counted)) in
    let y : Says m₂ (take k numbers') z.unrestricted = names_say (extends_refl m₂) b.names b.counted (omega (arith, b.long, b.counted)) in
    record {
      wf = b.entered.wf;
      grew = extends_trans a.entered.grew b.entered.grew;
      all = b.entered.all ∙ ap (enter_all z.unrestricted) a.entered.all;
      fits = record { few = omega (arith, a.counted, b.counted); linear_sized = a.long ∙ e; unrestricted_sized = b.long ∙ e' };
      within = record { linear = x.low; unrestricted = y.low };
      means = rw (x.means, y.means);
    }

-- ---- kind 2

-- the cases of negating what is listed
module _ (m numbers : List ℕ) (n : ℕ) (r : Option (Unit {0})) (m' numbers' : List ℕ) (x : NegatedFrom m numbers n r m' numbers') where
  pub negated_all : {u : Unit {0}} → r ≡ Some u → NegatedAll m numbers n m' numbers'
  negated_all e = rw e at x

  pub negated_full : r ≡ None → OverAll m (map negate (named m numbers n)) m'
  negated_full e = rw e at x

module _ {m s : List ℕ} {p : Places} (z : TwoSided m s p) {zeros : List ℕ} {n k : ℕ} {m₁ numbers₁ m₂ numbers₂ : List ℕ}
    (a : ListedAll m z.antecedent zeros 0 n m₁ numbers₁) (b : ListedAll m₁ z.succedent numbers₁ n k m₂ numbers₂) (long : length zeros ≡ 31) where
  pub two_sided_few : n + k ≤ 31
  two_sided_few = omega (arith, few_formulas z.found, a.counted, b.counted)

  long₁ : length numbers₁ ≡ 31
  long₁ = a.long ∙ long

  long₂ : length numbers₂ ≡ 31
  long₂ = b.long ∙ long₁

  -- the antecedent as read is still listed
  antecedent_said : Says m₂ (take n numbers₂) z.antecedent
  antecedent_said =
      let same = front_same n numbers₂ numbers₁ b.long (omega (arith, long₁, two_sided_few)) b.kept in
      rw same (names_say b.entered.grew a.names a.counted (omega (arith, long₁, two_sided_few)))

  pub negatable : Negatable m₂ numbers₂ n
  negatable =
      let l : n ≤ length numbers₂ = omega (arith, long₂, two_sided_few) in
      record { wf = b.entered.wf; room = l; low = λ j u. rw (get_or-take n numbers₂ j 0 u) at (antecedent_said.low.below j (omega (arith, length-take-le n numbers₂ l))) }

  pub negated_over : {m₃ : List ℕ} → OverAll m₂ (map negate (named m₂ numbers₂ n)) m₃ → Over m (two_sided z.antecedent z.succedent) m₃
  unfolding enter_question
  negated_over {m₃} o =
      record { wf = o.wf; grew = extends_trans (extends_trans a.entered.grew b.entered.grew) o.grew; over = rw (antecedent_said.means, b.entered.all, a.entered.all) at o.over }

  pub two_sided_held : {m₃ numbers₃ : List ℕ} (zeros' : List ℕ) → NegatedAll m₂ numbers₂ n m₃ numbers₃ → length zeros' ≡ 31 → Held m (two_sided z.antecedent z.succedent) record { linear = numbers₃; linear_len = n + k; unrestricted = zeros'; unrestricted_len = 0 } m₃
  unfolding enter_question to_one_sided
  two_sided_held {m₃} {numbers₃} zeros' c e =
      let long₃ : length numbers₃ ≡ 31 = c.long ∙ long₂ in
      let few = two_sided_few in
      let many : n ≡ length (map negate (named m₂ numbers₂ n)) = sym (length-map (named m₂ numbers₂ n) negate ∙ (ap length antecedent_said.means ∙ sym a.counted)) in
      let x : Says m₃ (take n numbers₃) (map negate (named m₂ numbers₂ n)) = names_say (extends_refl m₃) c.names many (omega arith) in
      let y : Says m₃ (take k (drop n numbers₂)) z.succedent = names_say c.entered.grew b.names b.counted (omega (arith, long₂)) in
      let same : drop n numbers₃ ≡ drop n numbers₂ = rest_same n numbers₃ numbers₂ c.long c.kept in
      let both : Says m₃ (take (n + k) numbers₃) (map negate z.antecedent ++ z.succedent) = rw (take-add n k numbers₃, same, ← antecedent_said.means) (says_append x y) in
      record {
        wf = c.entered.wf;
        grew = extends_trans (extends_trans a.entered.grew b.entered.grew) c.entered.grew;
        all = c.entered.all ∙ rw (antecedent_said.means, b.entered.all, a.entered.all);
        fits = record { few = omega arith; linear_sized = long₃; unrestricted_sized = e };
        within = record { linear = both.low; unrestricted = record { below = λ i l. absurd (omega arith) } };
        means = rw both.means;
      }

-- ---- the whole

kind_one : (Γ Θ : List Formula) → kind_of (one_sided Γ Θ) ≡ 1
unfolding kind_of
kind_one Γ Θ = refl

kind_two : (Γ Δ : List Formula) → kind_of (two_sided Γ Δ) ≡ 2
unfolding kind_of
kind_two Γ Δ = refl

-- which kind it is, by the kind's number
pub asked_one_sided : {m s : List ℕ} {p : Places} → Askable m s p → p.kind ≡ 1 → OneSided m s p
asked_one_sided {m} {s} {p} z e = go z.question z.found
  where
    go : (q : Question) → Found s p q → OneSided m s p
    go (one_sided Γ Θ) found = record { wf = z.wf; linear = Γ; unrestricted = Θ; found = found }
    go (two_sided Γ Δ) found = absurd (omega (arith, found.kind_is, kind_two Γ Δ))

pub asked_two_sided : {m s : List ℕ} {p : Places} → Askable m s p → (p.kind ≡ 1 → ⊥) → TwoSided m s p
asked_two_sided {m} {s} {p} z f = go z.question z.found
  where
    go : (q : Question) → Found s p q → TwoSided m s p
    go (one_sided Γ Θ) found = absurd (f (found.kind_is ∙ kind_one Γ Θ))
    go (two_sided Γ Δ) found = record { wf = z.wf; antecedent = Γ; succedent = Δ; found = found }

-- whether there was room
pub settled_none : {m m' : List ℕ} {n : ℕ} (r : Option Zones) → is_some r ≡ false → TakenBack m n m' → SettledAs r m n m'
settled_none None e t = t
settled_none (Some z) e t = absurd (clash e)
  where
    clash : true ≡ false → ⊥
    clash e = cc

pub settled_some : (m : List ℕ) (n : ℕ) (r : Option Zones) → is_some r ≡ true → SettledAs r m n m
settled_some m n None e = absurd (clash e)
  where
    clash : false ≡ true → ⊥
    clash e = cc
settled_some m n (Some z) e = refl

-- what was entered can be taken back
module _ {m s : List ℕ} {p : Places} (z : Askable m s p) (r : Option Zones) (m₁ : List ℕ) (x : Entering m s r m₁) where
  pub entering_settles : {n : ℕ} → n ≡ count m → Settles m₁ n
  entering_settles {n} e = go r (x z.question z.found.read)
    where
      go : (r : Option Zones) → HeldOr m z.question r m₁ → Settles m₁ n
      go None h = record { wf = h.wf; low = omega (arith, h.grew.more) }
      go (Some k) h = record { wf = h.wf; low = omega (arith, h.grew.more) }

  -- and then nothing has changed
  pub settled_asked : {n : ℕ} → n ≡ count m → (m₂ : List ℕ) → SettledAs r m₁ n m₂ → AskedTo m s r m₂
  settled_asked {n} e m₂ y q h = go r (x q h) y
    where
      go : (r : Option Zones) → HeldOr m q r m₁ → SettledAs r m₁ n m₂ → HeldOrNot m q r m₂
      go None u w = record { same = cut_back m m₁ m₂ z.wf u.grew (rw e at w); over = u.over }
      go (Some k) u w = rw w u
