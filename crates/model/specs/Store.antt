-- How the code keeps what the model has as lists: the next student by a search, a workshop's seats as a part filled up with zeros.
use Rattle.std.specs.Prelude.{ℕ, zero, suc, ◌+◌, ◌-◌, Bool, cond, ◌&&◌, ◌||◌, List, [], ◌∷◌, ◌++◌, ltb, eqb, get_or, take, drop}
use Rattle.lgs.specs.Market.{Market, Results, seats_of, seats_before}
use Rattle.model.specs.Model.{before}

-- t comes after s in rising stage, and rising number inside a stage; everybody comes after 0
unfoldable pub comes_after : (ℕ → ℕ) → ℕ → ℕ → Bool
comes_after stage s t = eqb s 0 || (ltb (stage s) (stage t) || (eqb (stage s) (stage t) && ltb s t))

-- the first of 1 to n who comes after s, or 0
unfoldable pub next_in : (ℕ → ℕ) → ℕ → ℕ → ℕ
next_in stage s zero = 0
next_in stage s (suc k) =
    let r = next_in stage s k in
    cond (comes_after stage s (suc k) && (eqb r 0 || ltb (stage (suc k)) (stage r))) (suc k) r

module _ (M : Market) (B : Results) where
  -- x takes her place among these seats, of which the free ones are 0; whoever has no seat left, or 0
  unfoldable pub push_padded : ℕ → ℕ → List ℕ → List ℕ × ℕ
  push_padded w x [] = ([], x)
  push_padded w x (y ∷ ys) =
      let a = push_padded w y ys in
      let b = push_padded w x ys in
      cond (eqb y 0) (x ∷ ys, 0) (cond (before M B w x y) (x ∷ a.0, a.1) (y ∷ b.0, b.1))

-- "a seat slice .. in which each workshop's seats are its own part": the part of workshop w
unfoldable pub part : Market → List ℕ → ℕ → List ℕ
part M flat w = take (seats_of M w) (drop (seats_before M w) flat)

-- the slice after the part of workshop w has become p
unfoldable pub put_part : Market → List ℕ → ℕ → List ℕ → List ℕ
put_part M flat w p = take (seats_before M w) flat ++ (p ++ drop (seats_of M w) (drop (seats_before M w) flat))

-- who has the last seat of workshop w, or 0
unfoldable pub last_of : Market → List ℕ → ℕ → ℕ
last_of M flat w = cond (eqb (seats_of M w) 0) 0 (get_or flat (seats_before M w + seats_of M w - 1) 0)
