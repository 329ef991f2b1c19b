-- The table while it is made: the starts of the seats, by `note_starts`. `case_tests` notes the pairs.
use Prim.Native.Nat.{ℕ, zero, suc, ◌+◌, ◌-◌, ◌≤◌, ◌<◌}
use mathlib.Core.Path.{◌≡◌, refl, sym, ◌∙◌}
use mathlib.Core.Logic.{⊎_elim}
use mathlib.Core.Bool.{Bool, true, false, ◌||◌}
use mathlib.Core.List.{List}
use native.Mathlib.Omega.{arith}
use lib.Dec.{eqb}
use lib.ListN.{length, get_or, set, replicate, length-set, length-replicate}
use lib.Seq.{get_or-set_same, get_or-set_other}
use borrow.Author.Tests.{eq-eqb, eqb-true}
use Rattle.base.specs.Lists.{count, total}
use Rattle.base.specs.Bits.{member}
use Rattle.base.proofs.Tests.{never, or_true, or_left, or_right, less?}
use Rattle.base.proofs.Members.{all_zero}
use Rattle.base.proofs.Digits.{bit_zero}
use Rattle.lgs.specs.Market.{Market, seats_of, seats_before}
use Rattle.format.specs.Engine.{market_in}
use Rattle.tables.specs.Table.{start_of, Blank, Started}

-- nobody is in the set 0
pub member_zero : (x : ℕ) → member 0 x ≡ false
unfolding member
member_zero zero = refl
member_zero (suc i) = bit_zero i

-- a count stops to grow where none passes
pub count_stop : (p : ℕ → Bool) (n m : ℕ) → n ≤ m → ((x : ℕ) → n < x → x ≤ m → p x ≡ false) → count p m ≡ count p n
unfolding count
count_stop p n zero l none = let e : n ≡ 0 = omega arith in rw e
count_stop p n (suc m) l none =
    ⊎_elim (λ (q : n < suc m). rw (none (suc m) q (omega arith)) (omega (arith, count_stop p n m (omega arith) (λ x a b. none x a (omega arith)))))
    (λ (q : suc m ≤ n). let e : n ≡ suc m = omega arith in rw e)
    (less? n (suc m))

-- the table as a caller makes it, `[0; 1089]`, is blank
pub blank : Blank (replicate 1089 0)
blank = record { sized = length-replicate {A = ℕ} 1089 0; zero = all_zero 1089 }

-- ---- where the seats start
pub seats_first : (M : Market) → seats_before M 1 ≡ 0
unfolding seats_before total
seats_first M = refl

pub seats_next : (M : Market) (w : ℕ) → 1 ≤ w → seats_before M (w + 1) ≡ seats_before M w + M.quota w
unfolding seats_before seats_of total
seats_next M zero l = absurd (omega arith)
seats_next M (suc v) l =
    let e : suc v + 1 - 1 ≡ suc v = omega arith in
    let d : suc v - 1 ≡ v = omega arith in
    rw (e, d) (omega arith)

module _ (case old : List ℕ) where
  -- the starts of workshops 1 to w - 1, and in `all` the set of them
  pub record Starting (table : List ℕ) (w all : ℕ) : Type 0 where
    pub sized : length table ≡ 1089
    pub others : (k : ℕ) → k < 1024 → get_or table k 0 ≡ get_or old k 0
    pub start : (v : ℕ) → 1 ≤ v → v < w → start_of table v ≡ seats_before (market_in case) v
    pub has : (x : ℕ) → 1 ≤ x → x < w → member all x ≡ true
    pub only : (x : ℕ) → member all x ≡ true → x < w

  pub starting_none : length old ≡ 1089 → Starting old 1 0
  starting_none sized =
      record {
        sized = sized;
        others = λ k l. refl;
        start = λ w f g. absurd (omega arith);
        has = λ x f g. absurd (omega arith);
        only = λ x m. never m (member_zero x);
      }

  pub starting_more : (table : List ℕ) (w sum all new : ℕ) → Starting table w all → 1 ≤ w → w ≤ 64 → sum ≡ seats_before (market_in case) w
      → ((x : ℕ) → member new x ≡ (eqb x w || member all x))
      → Starting (set table (1023 + w) sum) (w + 1) new
  starting_more table w sum all new I f g e adds =
      record {
        sized = length-set table (1023 + w) sum ∙ I.sized;
        others = λ k l. get_or-set_other table (1023 + w) k sum 0 (λ q. omega arith) ∙ I.others k l;
        start = λ v h k.
            ⊎_elim (λ (q : v < w). get_or-set_other table (1023 + w) (1023 + v) sum 0 (λ r. omega arith) ∙ I.start v h q)
            (λ (q : w ≤ v). let r : v ≡ w = omega arith in rw r (get_or-set_same table (1023 + w) sum 0 (omega (arith, I.sized)) ∙ e))
            (less? v w);
        has = λ x f h.
            adds x
            ∙ ⊎_elim (λ (q : x < w). or_right (eqb x w) _ (I.has x f q))
            (λ (q : w ≤ x). or_left (eqb x w) _ (eq-eqb x w (omega arith)))
            (less? x w);
        only = λ x m.
            ⊎_elim (λ (q : eqb x w ≡ true). omega (arith, eqb-true x w q)) (λ (q : member all x ≡ true). omega (arith, I.only x q))
            (or_true (eqb x w) _ (sym (adds x) ∙ m));
      }

  pub started : (table : List ℕ) (w all : ℕ) → Starting table w all → w ≤ 65 → Started case old (set table 1088 all) w
  started table w all I u =
      record {
        sized = length-set table 1088 all ∙ I.sized;
        others = λ k l. get_or-set_other table 1088 k all 0 (λ q. omega arith) ∙ I.others k l;
        all = λ v x m f h.
            let e : get_or (set table 1088 all) 1088 0 ≡ all = get_or-set_same table 1088 all 0 (omega (arith, I.sized)) in
            rw e (I.has x f (omega (arith, I.only v (rw e at m))));
        start = λ v h k. get_or-set_other table 1088 (1023 + v) all 0 (λ q. omega arith) ∙ I.start v h k;
      }
