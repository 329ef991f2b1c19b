-- The pass over the pairs: a pair more, a student more, and the end; and that a record at which it stops does not pass.
use Prim.Native.Nat.{ℕ, ◌+◌, ◌-◌, ◌*◌, ◌≤◌, ◌<◌}
use mathlib.Core.Path.{◌≡◌, sym, ◌∙◌}
use mathlib.Core.Logic.{⊎_elim}
use mathlib.Core.Bool.{true, false, ◌&&◌, ◌||◌}
use mathlib.Core.List.{List}
use native.Mathlib.Omega.{arith}
use Rattle.std.specs.Bool.{then_some}
use lib.Dec.{eqb, ltb}
use borrow.Author.Tests.{le-ltb, lt-ltb, eq-eqb, ne_eqb}
use Rattle.base.specs.Lists.{one}
use Rattle.base.proofs.Tests.{or_false, less?, eq?}
use Rattle.base.proofs.Search.{none_fails}
use Rattle.format.specs.Layout.{Row, row_at, rows, row_count}
use Rattle.format.specs.Refusals.{not_within, bad_form, bad_order}
use Rattle.format.proofs.Sorted.{parts}
use Rattle.format.proofs.Positions.{within, is_within, kind_within, kind_rises, pair_rises, Before}
use Rattle.tables.specs.Table.{student_in, workshop_in, Noted}
use Rattle.case_tests.specs.declared.order.Tally.{Tally}
use Rattle.case_tests.specs.Order.{Passes, Sound, Heads, heads_end}
use Rattle.case_tests.specs.Pairs.{NextPair, Trail, Sifted}
use Rattle.case_tests.proofs.Counting.{nobody, order_test_lem}
use Rattle.case_tests.proofs.Sounding.{sound_on}

-- a pair above the one before it rises
later : (p r : Row) → p.first * 65536 + p.second < r.first * 65536 + r.second → r.second ≤ 64
    → (ltb p.first r.first || (eqb p.first r.first && ltb p.second r.second)) ≡ true
later p r less fits =
    ⊎_elim (λ (a : p.first < r.first). rw (lt-ltb p.first r.first a))
    (λ (a : r.first ≤ p.first).
    let same : p.first ≡ r.first = omega arith in
    rw (le-ltb p.first r.first a, eq-eqb p.first r.first same, lt-ltb p.second r.second (omega arith)))
    (less? p.first r.first)

-- record i names one of n students and one of m workshops
abbrev pub Named : List ℕ → ℕ → ℕ → ℕ → Type 0
Named case n m i = ((1 ≤ student_in case i) × (student_in case i ≤ n)) × ((1 ≤ workshop_in case i) × (workshop_in case i ≤ m))

module _ (case : List ℕ) (n m : ℕ) where
  -- a pair that passes does
  pub names : (i : ℕ) → Sound case i n m → i < row_count case → Passes case i → (row_at case i).kind ≡ 3 → Named case n m i
  names i s l p k =
      let e : (not_within 1 n (student_in case i) || not_within 1 m (workshop_in case i)) ≡ false =
      rw k at (sym (nobody case i n m s.counted l p.0) ∙ (parts case i l p.1).1.1) in
      let r : (not_within 1 n (student_in case i) ≡ false) × (not_within 1 m (workshop_in case i) ≡ false) =
      or_false (not_within 1 n (student_in case i)) _ e in
      (within 1 n (student_in case i) r.0, within 1 m (workshop_in case i) r.1)

module _ (case : List ℕ) (n m : ℕ) (few : m ≤ 64) where
  module _ (i s last : ℕ) (t : Trail case n m i s last) where
    -- ---- a pair more
    module _ (l : i < row_count case) (from : 1 ≤ s) (to : s ≤ n) (p : NextPair case i s last m) where
      low : 0 < i → (row_at case (i - 1)).kind ≤ 3
      low g = (kind_within case (i - 1) (omega arith) (none_fails (bad_form (rows case)) i t.sound.counted.form (i - 1) (omega arith))).1

      -- there is a record before: the pair's student has one
      order : 0 < i → bad_order (rows case) i ≡ false
      order g =
          order_test_lem case i n m t.sound.counted l p.form
          ∙ rw (
            p.kind,
            le-ltb 3 (row_at case (i - 1)).kind (low g),
            is_within 1 n (student_in case i) (omega (arith, p.hers)) (omega (arith, p.hers)),
            is_within 1 m (workshop_in case i) (omega (arith, p.later)) p.known,
          )
          (⊎_elim
          (λ (e : (row_at case (i - 1)).kind ≡ 3). rw (
            eq-eqb (row_at case (i - 1)).kind 3 e,
            later (row_at case (i - 1)) (row_at case i) (omega (arith, t.before g e, p.hers, p.later)) (omega (arith, p.known)),
          ))
          (λ (e : (row_at case (i - 1)).kind ≡ 3 → ⊥). rw (ne_eqb (row_at case (i - 1)).kind 3 e))
          (eq? (row_at case (i - 1)).kind 3))

      sound_pair : Sound case (i + 1) n m
      sound_pair =
          let a : n + one (eqb (row_at case i).kind 1) ≡ n = rw p.kind (omega arith) in
          let b : m + one (eqb (row_at case i).kind 2) ≡ m = rw p.kind (omega arith) in
          rw (a, b) at (sound_on case i n m t.sound l (p.form, order (omega (arith, t.sound.counted.few_students)), p.range))

      pub trail_on : Trail case n m (i + 1) s (workshop_in case i)
      trail_on =
          record {
            sound = sound_pair;
            before = λ g e. rw back (omega (arith, p.hers));
            ahead = next;
          }
        where
          back : i + 1 - 1 ≡ i
          back = omega arith

          next : i + 1 < row_count case → Passes case (i + 1)
              → ((row_at case (i + 1)).kind ≡ 3) × (s * 65536 + workshop_in case i < student_in case (i + 1) * 65536 + workshop_in case (i + 1))
          next u q =
              let k : (row_at case i).kind ≤ (row_at case (i + 1)).kind = rw back at (kind_rises case (i + 1) u q.1) in
              let e : (row_at case (i + 1)).kind ≡ 3 = omega (arith, p.kind, kind_within case (i + 1) u q.0) in
              let o : Before (row_at case i) (row_at case (i + 1)) = rw back at (pair_rises case (i + 1) u q.1 e (rw back p.kind)) in (
                e,
                ⊎_elim (λ (a : student_in case i < student_in case (i + 1)). omega (arith, p.hers, p.known))
                    (λ (a : (student_in case i ≡ student_in case (i + 1)) × (workshop_in case i < workshop_in case (i + 1))). omega (arith, p.hers))
                    o,
              )

    -- ---- her pairs are over
    pub trail_over : last ≤ 64 → (i < row_count case → NextPair case i s last m → ⊥) → Trail case n m i (s + 1) 0
    trail_over few' over = record { sound = t.sound; before = λ g e. omega (arith, t.before g e); ahead = next }
      where
        next : i < row_count case → Passes case i → ((row_at case i).kind ≡ 3) × ((s + 1) * 65536 + 0 < student_in case i * 65536 + workshop_in case i)
        next l p =
            let a : ((row_at case i).kind ≡ 3) × (s * 65536 + last < student_in case i * 65536 + workshop_in case i) = t.ahead l p in
            let b : Named case n m i = names case n m i t.sound l p a.0 in (
              a.0,
              ⊎_elim (λ (g : s < student_in case i). omega arith)
                  (λ (g : student_in case i ≤ s).
                  let e : student_in case i ≡ s = omega arith in
                  absurd (over l (record { kind = a.0; hers = e; later = omega arith; known = b.1.1; form = p.0; range = p.2 })))
                  (less? s (student_in case i)),
            )

  -- ---- after the last student
  pub trail_end : (i : ℕ) → Trail case n m i (n + 1) 0 → i < row_count case → Passes case i → ⊥
  trail_end i t l p =
      let a : ((row_at case i).kind ≡ 3) × ((n + 1) * 65536 + 0 < student_in case i * 65536 + workshop_in case i) = t.ahead l p in
      let b : Named case n m i = names case n m i t.sound l p a.0 in
      omega arith

-- ---- after the students and the workshops
module _ (case : List ℕ) (o : Tally) (few : o.workshops ≤ 64) (h : Heads case o) where
  pub trail_first : Trail case o.students o.workshops (heads_end o) 1 0
  trail_first =
      record {
        sound = h.sound;
        before = λ g e. absurd (omega (arith, h.no_pair g, e));
        ahead = λ l p.
            let k : (row_at case (heads_end o)).kind ≡ 3 = omega (arith, h.stop l p, kind_within case (heads_end o) l p.0) in
            let b = names case o.students o.workshops (heads_end o) h.sound l p k in
            (k, omega (arith, b.0.0, b.1.0));
      }

-- where the pass stopped, or that it came to the end
pub sifted : (case : List ℕ) (t : Tally) (at : ℕ) (table : List ℕ) → Sound case at t.students t.workshops
    → (at < row_count case → Passes case at → ⊥) → Noted (student_in case) (workshop_in case) (heads_end t) at table
    → Sifted case t (then_some (ltb at (row_count case)) at) table
sifted case t at table s f n =
    ⊎_elim (λ (l : at < row_count case). rw (lt-ltb at (row_count case) l) (record { sound = s; stop = (l, f l); noted = n }))
    (λ (l : row_count case ≤ at).
    let e : at ≡ row_count case = omega (arith, s.counted.inside) in
    rw (le-ltb at (row_count case) l) (record { sound = rw e at s; stop = tt; noted = rw e at n }))
    (less? at (row_count case))
