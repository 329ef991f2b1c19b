-- The best of what is open, by her pairs in order: each that is open is compared with the best so far.
use Prim.Native.Nat.{ℕ, zero, suc, ◌+◌, ◌≤◌, ◌<◌}
use mathlib.Core.Path.{◌≡◌, refl, sym, ap, ◌∙◌}
use mathlib.Core.Logic.{⊎_elim}
use mathlib.Core.Bool.{Bool, true, false, not, ◌&&◌}
use mathlib.Core.List.{List, ◌∷◌}
use native.Mathlib.Omega.{arith}
use lib.Bits.{bit_and}
use lib.IntN.{ℤ}
use lib.Dec.{eqb, ltb}
use borrow.Author.Tests.{eq-eqb, ne_eqb}
use Rattle.base.specs.Words.{biased}
use Rattle.base.specs.Bits.{member, members, Low}
use Rattle.base.proofs.Tests.{less?, never, is_false, and_left, and_right, and_make}
use Rattle.base.proofs.Digits.{bit_zero, bit_and_lem, members_empty, members_low, members_same}
use Rattle.lgs.specs.Market.{Market, Results}
use Rattle.lgs.specs.Rule.{best}
use Rattle.format.specs.Engine.{market_in}
use Rattle.records.specs.Records.{pair_place}
use Rattle.tables.specs.Table.{workshop_in, Tabled, Stretch}
use Rattle.tables.proofs.Reading.{places_rise}
use Rattle.model.specs.Ready.{Booked}
use Rattle.turning.proofs.Due.{here_paired, here_place}
use Rattle.turning.proofs.Laws.{Best, best_start, best_higher, best_kept, best_end}

-- ---- two sets
member_both : (a b x : ℕ) → member (bit_and a b) x ≡ (member a x && member b x)
unfolding member
member_both a b zero = refl
member_both a b (suc i) = bit_and_lem a b i

member_none : (y : ℕ) → member 0 y ≡ false
unfolding member
member_none zero = refl
member_none (suc i) = bit_zero i

and_yes : (x y : Bool) → (x ≡ true → y ≡ true) → (x && y) ≡ x
and_yes true y f = f refl
and_yes false y f = refl

and_no : (b : Bool) → (b && false) ≡ false
and_no true = refl
and_no false = refl

around : (a b c : Bool) → (a && (b && c)) ≡ ((a && b) && c)
around true b c = refl
around false b c = refl

-- ---- her pairs from record `pair` on are left, those with the workshops of `mine`; x is the best so far, with the score `top`
pub record Along (case : List ℕ) (B : Results) (s first start set mine pair x : ℕ) (top : ℤ) : Type 0 where
  pub from : first ≤ pair
  pub hers : (w : ℕ) → member mine w ≡ true → (market_in case).paired s w ≡ true
  pub left : (w : ℕ) → member mine w ≡ true → pair ≤ pair_place case s w
  pub done : (w : ℕ) → (market_in case).paired s w ≡ true → pair ≤ pair_place case s w → member mine w ≡ true
  pub so : Best (market_in case) B s start set x top (members (bit_and set mine))

-- the best of what is left, where other numbers have the same members
best_same : (M : Market) (B : Results) (s start set x rest rest' : ℕ) (top : ℤ) → Best M B s start set x top (members rest)
    → ((y : ℕ) → member rest' y ≡ member rest y) → Best M B s start set x top (members rest')
best_same M B s start set x rest rest' top b e = rw (members_same rest' rest e) b

module _ {case table : List ℕ} (T : Tabled case table) {B : Results} {s first many : ℕ} (S : Stretch case s first many) {start set : ℕ}
    (open_pairs : (w : ℕ) → member set w ≡ true → Booked (market_in case) B s w) where
  pub along_start : {mine : ℕ} {top : ℤ} → ((w : ℕ) → member mine w ≡ (market_in case).paired s w)
      → biased top ≡ B.student_score s start → Along case B s first start set mine first start top
  along_start {mine} {top} e t =
      record {
        from = omega arith;
        hers = λ w m. sym (e w) ∙ m;
        left = λ w m. (S.all w (sym (e w) ∙ m)).0;
        done = λ w p h. e w ∙ p;
        so =
            best_same (market_in case) B s start set start set (bit_and set mine) top (best_start t open_pairs)
            (λ y. member_both set mine y ∙ and_yes (member set y) (member mine y) (λ m. e y ∙ (open_pairs y m).pair));
      }

  module _ {mine pair x : ℕ} {top : ℤ} (I : Along case B s first start set mine pair x top) where
    -- while a pair is left, a workshop is
    pub along_some : pair < first + many → 0 < mine
    along_some l =
        let m : member mine (workshop_in case pair) ≡ true =
        I.done _ (here_paired case s first many S pair I.from l) (omega (arith, here_place case s first many S pair I.from l)) in
        ⊎_elim (λ (q : 0 < mine). q)
        (λ (q : mine ≤ 0). let z : mine ≡ 0 = omega arith in never (rw z at m) (member_none (workshop_in case pair)))
        (less? 0 mine)

    pub along_end : first + many ≤ pair → x ≡ best (market_in case) B s start (members set)
    along_end l = best_end (rw members_empty at (best_same (market_in case) B s start set x (bit_and set mine) 0 top I.so none))
      where
        out : (y : ℕ) → member mine y ≡ false
        out y = is_false (member mine y) (λ m. omega (arith, I.left y m, S.all y (I.hers y m)))

        none : (y : ℕ) → member 0 y ≡ member (bit_and set mine) y
        none y = member_none y ∙ sym (member_both set mine y ∙ rw (out y) (and_no (member set y)))

    module _ {w : ℕ} (mine' : ℕ) (low : Low mine w) (out : (y : ℕ) → member mine' y ≡ (member mine y && not (eqb y w))) where
      -- the record that comes next is that of her pair with w
      pub place_now : pair_place case s w ≡ pair
      place_now =
          let l : pair < first + many = omega (arith, S.all w (I.hers w low.set), I.left w low.set) in
          let v : ℕ = workshop_in case pair in
          let p : (market_in case).paired s v ≡ true = here_paired case s first many S pair I.from l in
          let q : pair_place case s v ≡ pair = here_place case s first many S pair I.from l in
          let m : member mine v ≡ true = I.done v p (omega (arith, q)) in
          ⊎_elim
          (λ (h : v < w). never m (low.clear v h))
          (λ (h : w ≤ v).
          ⊎_elim (λ (g : w < v). omega (arith, places_rise case table T s w v (I.hers w low.set) p g, I.left w low.set, q))
          (λ (g : v ≤ w). let d : v ≡ w = omega arith in rw d at q)
          (less? w v))
          (less? v w)

      left' : (y : ℕ) → member mine' y ≡ true → pair + 1 ≤ pair_place case s y
      left' y m =
          let both : (member mine y && not (eqb y w)) ≡ true = sym (out y) ∙ m in
          let p : member mine y ≡ true = and_left (member mine y) _ both in
          ⊎_elim (λ (h : w < y). omega (arith, places_rise case table T s w y (I.hers w low.set) (I.hers y p) h, place_now))
          (λ (h : y ≤ w).
          ⊎_elim (λ (g : y < w). never p (low.clear y g))
          (λ (g : w ≤ y). never (and_right (member mine y) _ both) (rw (eq-eqb y w (omega arith))))
          (less? y w))
          (less? w y)

      done' : (y : ℕ) → (market_in case).paired s y ≡ true → pair + 1 ≤ pair_place case s y → member mine' y ≡ true
      done' y p h =
          out y
          ∙ and_make (I.done y p (omega arith))
          (rw (ne_eqb y w (λ e. omega (arith, place_now, ap (pair_place case s) e))))

      hers' : (y : ℕ) → member mine' y ≡ true → (market_in case).paired s y ≡ true
      hers' y m = I.hers y (and_left (member mine y) _ (sym (out y) ∙ m))

      still : (b : Bool) → (b && true) ≡ b
      still true = refl
      still false = refl

      -- w is not open
      pub along_passed : member set w ≡ false → Along case B s first start set mine' (pair + 1) x top
      along_passed n =
          record {
            from = omega (arith, I.from);
            hers = hers';
            left = left';
            done = done';
            so =
                best_same (market_in case) B s start set x (bit_and set mine) (bit_and set mine') top I.so
                (λ y. member_both set mine' y ∙ (by y (member set y) refl ∙ sym (member_both set mine y)));
          }
        where
          by : (y : ℕ) (b : Bool) → member set y ≡ b → (member set y && member mine' y) ≡ (member set y && member mine y)
          by y false e = rw e
          by y true e = rw (e, out y, ne_eqb y w (λ q. never (rw q at e) n)) (still (member mine y))

      -- w is open, and the student gave it this score
      module _ (o : member set w ≡ true) (score : ℤ) (e : biased score ≡ B.student_score s w) where
        lowest : Low (bit_and set mine) w
        lowest =
            record {
              from = low.from;
              to = low.to;
              set = member_both set mine w ∙ and_make o low.set;
              clear = λ y h. member_both set mine y ∙ rw (low.clear y h) (and_no (member set y));
            }

        rest : (y : ℕ) → member (bit_and set mine') y ≡ (member (bit_and set mine) y && not (eqb y w))
        rest y =
            member_both set mine' y
            ∙ (rw (out y) (around (member set y) (member mine y) (not (eqb y w))) ∙ ap (λ (b : Bool). b && not (eqb y w)) (sym (member_both set mine y)))

        next : Best (market_in case) B s start set x top (w ∷ members (bit_and set mine'))
        next = rw (members_low (bit_and set mine) (bit_and set mine') w lowest rest) at I.so

        on : (x' : ℕ) (top' : ℤ) → Best (market_in case) B s start set x' top' (members (bit_and set mine'))
            → Along case B s first start set mine' (pair + 1) x' top'
        on x' top' b = record { from = omega (arith, I.from); hers = hers'; left = left'; done = done'; so = b }

        pub along_higher : ltb (biased top) (biased score) ≡ true → Along case B s first start set mine' (pair + 1) w score
        along_higher h = on w score (best_higher next score e h)

        pub along_kept : ltb (biased top) (biased score) ≡ false → Along case B s first start set mine' (pair + 1) x top
        along_kept h = on x top (best_kept next score e h)
