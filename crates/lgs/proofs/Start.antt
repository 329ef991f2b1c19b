-- The first state has the invariant: everybody waits once, in order of stage, and each pair deleted has no seat or is beyond the workshop's
-- outside tier.
use Prim.Native.Nat.{ℕ, zero, suc, ◌≤◌, ◌<◌}
use mathlib.Core.Path.{◌≡◌, refl, sym, ap}
use mathlib.Core.Logic.{◌⊎◌, inl, inr, ⊎_elim}
use mathlib.Core.Bool.{Bool, true, false}
use mathlib.Core.List.Memᴰ.{cases_cons}
use mathlib.Core.List.Memᴰ.{head as here}
use mathlib.Core.List.Memᴰ.{tail as later}
use mathlib.Core.List.{List, [], ◌∷◌, Memᴰ as Mem}
use mathlib.Core.List.Memᴰ.{not-nil}
use native.Mathlib.Omega.{arith}
use native.Mathlib.Nat.{eq-or-lt_of_le}
use lib.Dec.{eqb, ltb}
use borrow.Author.Tests.{ltb-true, eqb-true, eq-eqb, ne_eqb}
use Rattle.base.proofs.Tests.{never, bool_cases, or_true}
use Rattle.base.proofs.Counting.{count_some, count_none}
use Rattle.base.proofs.Members.{NoDup}
use Rattle.lgs.specs.Market.{Market, Results}
use Rattle.lgs.specs.Profiles.{Profile, seated, flip}
use Rattle.lgs.specs.Rule.{start, insert, by_stage}
use Rattle.lgs.proofs.Interviews.{none_interviewed}
use Rattle.lgs.proofs.Sides.{real}
use Rattle.lgs.proofs.Optimal.{Unattainable}
use Rattle.lgs.proofs.Setting.{Setting}
use Rattle.lgs.proofs.Invariant.{Gone, seatless, beyond, Inv}

module _ (stage : ℕ → ℕ) where
  pub insert_in : (s : ℕ) (ts : List ℕ) (x : ℕ) → Mem x (insert stage s ts) → (x ≡ s) ⊎ Mem x ts
  unfolding insert
  insert_in s [] x m = cases_cons m
  insert_in s (t ∷ ts) x m =
      ⊎_elim (λ (e : ltb (stage s) (stage t) ≡ true). cases_cons (rw e at m))
      (λ (e : ltb (stage s) (stage t) ≡ false).
      ⊎_elim (λ q. inr (here q)) (λ k. ⊎_elim inl (λ z. inr (later z)) (insert_in s ts x k)) (cases_cons (rw e at m)))
      (bool_cases (ltb (stage s) (stage t)))

  pub in_insert : (s : ℕ) (ts : List ℕ) (x : ℕ) → (x ≡ s) ⊎ Mem x ts → Mem x (insert stage s ts)
  unfolding insert
  in_insert s [] x m = ⊎_elim here later m
  in_insert s (t ∷ ts) x m =
      ⊎_elim (λ (e : ltb (stage s) (stage t) ≡ true). rw e (⊎_elim here later m))
      (λ (e : ltb (stage s) (stage t) ≡ false).
      rw e (⊎_elim (λ q. later (in_insert s ts x (inl q))) (λ k. ⊎_elim here (λ z. later (in_insert s ts x (inr z))) (cases_cons k)) m))
      (bool_cases (ltb (stage s) (stage t)))

  insert_distinct : (s : ℕ) (ts : List ℕ) → (Mem s ts → ⊥) → NoDup ts → NoDup (insert stage s ts)
  unfolding insert
  insert_distinct s [] out d = (not-nil, tt)
  insert_distinct s (t ∷ ts) out d =
      ⊎_elim (λ (e : ltb (stage s) (stage t) ≡ true). rw e (out, d))
      (λ (e : ltb (stage s) (stage t) ≡ false).
      rw e ((λ m. ⊎_elim (λ q. out (here (sym q))) d.0 (insert_in s ts t m)), insert_distinct s ts (λ m. out (later m)) d.1))
      (bool_cases (ltb (stage s) (stage t)))

  pub staged_in : (n s : ℕ) → Mem s (by_stage stage n) → (1 ≤ s) × (s ≤ n)
  unfolding by_stage
  staged_in zero s m = absurd (not-nil m)
  staged_in (suc n) s m =
      ⊎_elim (λ (e : s ≡ suc n). omega arith) (λ k. let r : (1 ≤ s) × (s ≤ n) = staged_in n s k in omega arith) (insert_in (suc n) (by_stage stage n) s m)

  pub in_staged : (n s : ℕ) → 1 ≤ s → s ≤ n → Mem s (by_stage stage n)
  unfolding by_stage
  in_staged zero s l u = absurd (omega arith)
  in_staged (suc n) s l u = in_insert (suc n) (by_stage stage n) s (⊎_elim inl (λ (less : s < suc n). inr (in_staged n s l (omega arith))) (eq-or-lt_of_le u))

  pub staged_distinct : (n : ℕ) → NoDup (by_stage stage n)
  unfolding by_stage
  staged_distinct zero = tt
  staged_distinct (suc n) =
      insert_distinct (suc n) (by_stage stage n) (λ m. let r : (1 ≤ suc n) × (suc n ≤ n) = staged_in n (suc n) m in omega arith) (staged_distinct n)

module _ (M : Market) (B : Results) (O : Profile) (Vs : ℕ → ℕ → Bool) (E : Setting M B O Vs) where
  begun_gone : (s c : ℕ) → (start M B).deleted s c ≡ true → Gone M O (start M B) s c
  unfolding start
  begun_gone s c d = ⊎_elim (λ e. seatless (eqb-true _ _ e)) (λ e. beyond (ltb-true _ _ e)) (or_true (eqb (M.quota c) 0) _ d)

  begun_lost : (s c : ℕ) → M.paired s c ≡ true → (start M B).deleted s c ≡ true → Unattainable M O s c
  unfolding start
  begun_lost s c p d ν st e =
      let pos : (1 ≤ c) × (c ≤ M.workshops) = E.wf.workshop s c p in
      let sr : (1 ≤ s) × (s ≤ M.students) = E.wf.student s c p in
      ⊎_elim
      (λ q.
      let z : M.quota c ≡ 0 = eqb-true _ _ q in
      omega (arith, st.matching.within c pos.0, count_some (λ t. eqb (ν t) c) M.students s sr.0 sr.1 (eq-eqb _ _ e)))
      (λ q.
      omega (
        arith,
        E.full.workshops.keeps c 0 s refl (real (flip M.paired c) s p) (ltb-true _ _ q),
        (st.matching.acceptable s (rw e pos.0)).workshop,
        ap (λ d. O.workshop_rank d s) e,
        ap (λ d. O.workshop_rank d 0) e,
      ))
      (or_true (eqb (M.quota c) 0) _ d)

  pub start_inv : Inv M B O Vs (start M B)
  unfolding start
  start_inv =
      record {
        seen = λ s w v. never v (none_interviewed s w);
        swept = λ s w p l. absurd (omega (arith, E.wf.tier s w p));
        past = λ s w v l. never v (none_interviewed s w);
        outside = λ s. omega arith;
        chosen = λ s l. absurd (omega arith);
        settled = λ s l u. inl (in_staged M.stage M.students s l u);
        free = λ s m. refl;
        range = λ s m. staged_in M.stage M.students s m;
        distinct = staged_distinct M.stage M.students;
        begun = λ s w d. d;
        gone = λ s c p d. begun_gone s c d;
        lost = λ s c p d. begun_lost s c p d;
        within = λ c l. let z : seated M (λ s. 0) c ≡ 0 = count_none (λ s. eqb 0 c) M.students (λ t a b. ne_eqb 0 c (λ q. omega arith)) in omega arith;
      }
