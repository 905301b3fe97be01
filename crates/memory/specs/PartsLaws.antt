-- Laws of one list in two parts, the first n elements and the rest: where one part is changed, the other stays. Assumes nothing.
use Rattle.std.specs.Prelude.{◌≡◌, List, ◌++◌, ℕ, ◌+◌, ◌-◌, ◌≤◌, length, take, drop}
use Rattle.std.proofs.Common.{sym, ap, ◌∙◌, append-nil, arith, length-append, length-drop, take-append-drop, drop_of_length-le, length-take-le, take_all, take_at, drop_at}

-- the two parts of m are f and g
pub record Parts (n : ℕ) (m f g : List ℕ) : Type 0 where
  pub front : take n m ≡ f
  pub back : drop n m ≡ g

-- as many elements as in both
pub parts_length : (n : ℕ) (m : List ℕ) → length m ≡ length (take n m) + length (drop n m)
parts_length n m = ap length (sym (take-append-drop n m)) ∙ length-append (take n m) (drop n m)

-- the rest, as it is lent
pub back_lent : (n : ℕ) (m : List ℕ) → take (length m - n) (drop n m) ≡ drop n m
back_lent n m = take_all (length m - n) (drop n m) (omega (arith, length-drop n m))

-- two lists that have the same parts are the same
pub parts_once : (n : ℕ) (m m' : List ℕ) → take n m ≡ take n m' → drop n m ≡ drop n m' → m ≡ m'
parts_once n m m' e f = sym (take-append-drop n m) ∙ rw (e, f) (take-append-drop n m')

-- the front changed, and the back stays
pub front_changed : (n : ℕ) (m f : List ℕ) → length f ≡ n → Parts n (f ++ drop n m) f (drop n m)
front_changed n m f e = record { front = take_at f (drop n m) n e; back = drop_at f (drop n m) n e }

-- the back changed, and the front stays
pub back_put : (n : ℕ) (m g : List ℕ) → take n m ++ (g ++ drop (length m - n) (drop n m)) ≡ take n m ++ g
back_put n m g =
    let l : length (drop n m) ≤ length m - n = omega (arith, length-drop n m) in
    ap (λ rest. take n m ++ (g ++ rest)) (drop_of_length-le (drop n m) l) ∙ ap (λ rest. take n m ++ rest) (append-nil g)

pub back_changed : (n : ℕ) (m g : List ℕ) → n ≤ length m → Parts n (take n m ++ (g ++ drop (length m - n) (drop n m))) (take n m) g
back_changed n m g l =
    let e = length-take-le n m l in
    rw (back_put n m g) record { front = take_at (take n m) g n e; back = drop_at (take n m) g n e }
