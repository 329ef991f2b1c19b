-- The round of interviews, workshop by workshop.
use Prim.Native.Nat.{ℕ, zero, suc, ◌+◌, ◌*◌, ◌≤◌, ◌<◌}
use mathlib.Core.Path.{◌≡◌, refl, sym, ap, ◌∙◌}
use mathlib.Core.Logic.{⊎_elim}
use mathlib.Core.Bool.{Bool, true, false, cond}
use mathlib.Core.List.{List, [], ◌∷◌, ◌++◌}
use native.Mathlib.Omega.{arith}
use lib.Dec.{eqb}
use lib.ListN.{length, length-append}
use borrow.Author.Tests.{eq-eqb, ne_eqb}
use Rattle.base.specs.Lists.{one, count}
use Rattle.base.proofs.Tests.{bool_cases, less?}
use Rattle.base.proofs.Counting.{count_le}
use Rattle.lgs.proofs.Fares.{fares_none, fares_more, fares_within}
use Rattle.lgs.specs.Market.{Market, Results}
use Rattle.lgs.specs.Rule.{Interview, unopened}
use Rattle.lgs.specs.Fares.{fares_of}
use Rattle.format.specs.Buffers.{flat}
use Rattle.model.specs.Turn.{RoundSoFar, due_at, round_at, round_to, put_at, with_member}
use Rattle.std.specs.Prelude.{Some, None}
use Rattle.turning.specs.Round.{round_of}
use Rattle.turning.specs.declared.Round.{Round}
use Rattle.turning.proofs.Visits.{put_more, put_none, put_length, flat_length, flat_snoc}

pub count_to : (p : ℕ → Bool) (i n : ℕ) → i ≤ n → count p i ≤ count p n
unfolding count
count_to p i zero h = let e : i ≡ 0 = omega arith in rw e (omega arith)
count_to p i (suc n) h = ⊎_elim (λ (l : i < suc n). omega (arith, count_to p i n (omega arith)))
    (λ (l : suc n ≤ i). let e : i ≡ suc n = omega arith in rw e (omega arith)) (less? i (suc n))

module _ (M : Market) (B : Results) (seats : List ℕ) (s t set : ℕ) where
  abbrev pub so_far : ℕ → RoundSoFar
  so_far k = round_to M B seats s t set k

  -- a round that has stopped stays as it is
  stays : (k n : ℕ) → k ≤ n → ((so_far k).missing ≡ 0 → ⊥) → so_far n ≡ so_far k
  unfolding round_to
  stays k zero h z = let e : k ≡ 0 = omega arith in rw e
  stays k (suc n) h z =
      ⊎_elim
      (λ (l : k < suc n). let e : so_far n ≡ so_far k = stays k n (omega arith) z in rw (e, ne_eqb (so_far k).missing 0 z))
      (λ (l : suc n ≤ k). let e : k ≡ suc n = omega arith in rw e)
      (less? k (suc n))

  -- there are no more interviews than workshops to interview
  step_length : (k : ℕ) → length (so_far (suc k)).interviews ≤ length (so_far k).interviews + one (due_at M B seats s t (suc k))
  unfolding round_to round_at
  step_length k =
      ⊎_elim
      (λ (d : due_at M B seats s t (suc k) ≡ true).
      ⊎_elim (λ (z : eqb (so_far k).missing 0 ≡ true).
      ⊎_elim (λ (m : B.met s (suc k) ≡ true). rw (d, z, m) (omega (arith, length-append (so_far k).interviews ((s, suc k) ∷ []))))
      (λ (m : B.met s (suc k) ≡ false). rw (d, z, m) (omega arith)) (bool_cases (B.met s (suc k))))
      (λ (z : eqb (so_far k).missing 0 ≡ false). rw (d, z) (omega arith)) (bool_cases (eqb (so_far k).missing 0)))
      (λ (d : due_at M B seats s t (suc k) ≡ false).
      ⊎_elim (λ (z : eqb (so_far k).missing 0 ≡ true). rw (d, z) (omega arith)) (λ (z : eqb (so_far k).missing 0 ≡ false). rw (d, z) (omega arith))
      (bool_cases (eqb (so_far k).missing 0)))
      (bool_cases (due_at M B seats s t (suc k)))

  few : (k : ℕ) → length (so_far k).interviews ≤ count (due_at M B seats s t) k
  unfolding count round_to
  few zero = omega arith
  few (suc k) = omega (arith, step_length k, few k)

  -- with fares of 16 bits, those of 64 workshops at most cost so much at most
  pub round_cheap : ((s w : ℕ) → M.fare s w ≤ 65535) → (k : ℕ) → k ≤ 64 → fares_of M (so_far k).interviews ≤ 64 * 65535
  round_cheap small k l =
      omega (
        arith,
        fares_within M small (so_far k).interviews,
        few k,
        count_le (due_at M B seats s t) k,
      )

  -- workshop k + 1 is not to be interviewed
  pub skipped : (k : ℕ) → due_at M B seats s t (suc k) ≡ false → so_far (suc k) ≡ so_far k
  unfolding round_to
  skipped k d =
      ⊎_elim (λ (z : eqb (so_far k).missing 0 ≡ true). rw (d, z)) (λ (z : eqb (so_far k).missing 0 ≡ false). rw (d, z)) (bool_cases (eqb (so_far k).missing 0))

  module _ (k : ℕ) (z : (so_far k).missing ≡ 0) (d : due_at M B seats s t (suc k) ≡ true) where
    come : so_far (suc k) ≡ round_at M B s (suc k) (so_far k)
    unfolding round_to
    come = let e : eqb (so_far k).missing 0 ≡ true = eq-eqb (so_far k).missing 0 z in rw (e, d)

    -- it is, and its interview is held
    taken : B.met s (suc k) ≡ true
        → so_far (suc k)
        ≡ record {
          interviews = (so_far k).interviews ++ ((s, suc k) ∷ []);
          openings = cond (unopened M B s (suc k)) (so_far k).openings
              (with_member (so_far k).openings (suc k));
          missing = 0;
        }
    unfolding round_at
    taken m = come ∙ rw m

    -- it is, and its interview is missing
    lacking : B.met s (suc k) ≡ false → so_far (suc k) ≡ record { interviews = (so_far k).interviews; openings = (so_far k).openings; missing = suc k }
    unfolding round_at
    lacking m = come ∙ rw m

-- after the first k workshops, of `held` interviews before and the visits `old`
pub record Rounding (M : Market) (B : Results) (seats : List ℕ) (s t set held : ℕ) (old visits : List ℕ) (total openings fares k : ℕ) : Type 0 where
  pub all : total ≡ held + length (round_to M B seats s t set k).interviews
  pub sets : openings ≡ (round_to M B seats s t set k).openings
  pub paid : fares ≡ fares_of M (round_to M B seats s t set k).interviews
  pub on : (round_to M B seats s t set k).missing ≡ 0
  pub written : visits ≡ put_at (2 * held) (flat (round_to M B seats s t set k).interviews) old

-- what the code answers and leaves in the visits
abbrev pub Answers : Market → Round → List ℕ → ℕ → RoundSoFar → List ℕ → Type 0
Answers M r visits held o old = (r ≡ round_of M held o) × (visits ≡ put_at (2 * held) (flat o.interviews) old)

module _ {M : Market} {B : Results} {seats : List ℕ} {s t set held : ℕ} {old : List ℕ} where
  pub round_start : Rounding M B seats s t set held old old held set 0 0
  unfolding round_to flat
  round_start = record { all = omega arith; sets = refl; paid = sym (fares_none M); on = refl; written = sym (put_none old (2 * held)) }

  module _ {visits : List ℕ} {total openings fares k : ℕ} (n : ℕ) (r : Rounding M B seats s t set held old visits total openings fares k) where
    -- the round is over
    pub round_end : k ≡ n
        → Answers M (record { count = total; openings = openings; missing = None; fares = fares }) visits held (round_to M B seats s t set n) old
    round_end e = rw (← e) (same, r.written)
      where
        same : record { count = total; openings = openings; missing = None; fares = fares } ≡ round_of M held (round_to M B seats s t set k)
        same = rw (r.all, r.sets, r.on, r.paid)

    module _ (room : 2 * (held + count (due_at M B seats s t) n) ≤ length old) where
      pub round_length : k ≤ n → length visits ≡ length old
      round_length l =
          let a : length (flat (round_to M B seats s t set k).interviews) ≡ 2 * length (round_to M B seats s t set k).interviews = flat_length
          (round_to M B seats s t set k).interviews in
          ap length r.written
          ∙ put_length (flat (round_to M B seats s t set k).interviews) old (2 * held)
          (omega (arith, few M B seats s t set k, count_to (due_at M B seats s t) k n l))

      -- the next workshop is w
      module _ (l : k < n) (w : ℕ) (e : w ≡ suc k) where
        pub round_skip : due_at M B seats s t w ≡ false → Rounding M B seats s t set held old visits total openings fares w
        round_skip d =
            let q : round_to M B seats s t set w ≡ round_to M B seats s t set k = rw e (skipped M B seats s t set k (rw e at d)) in
            record { all = rw q r.all; sets = rw q r.sets; paid = rw q r.paid; on = rw q r.on; written = rw q r.written }

        module _ (d : due_at M B seats s t w ≡ true) where
          due_next : due_at M B seats s t (suc k) ≡ true
          due_next = rw e at d

          -- there is room for the interview
          pub round_room : 2 * total + 2 ≤ length visits
          unfolding count
          round_room = omega (arith, r.all, few M B seats s t set k, count_to (due_at M B seats s t) (suc k) n l, ap one due_next, round_length (omega arith))

          more : put_at (2 * total) (s ∷ w ∷ []) visits ≡ put_at (2 * held) (flat ((round_to M B seats s t set k).interviews ++ ((s, w) ∷ []))) old
          more =
              let vs : List Interview = (round_to M B seats s t set k).interviews in
              let a : 2 * total ≡ 2 * held + length (flat vs) = omega (arith, r.all, flat_length vs) in
              let b : length (flat vs ++ (s ∷ w ∷ [])) ≡ length (flat vs) + 2 = length-append (flat vs) (s ∷ w ∷ []) in
              rw (a, r.written, flat_snoc vs s w) (put_more (flat vs) (s ∷ w ∷ []) old (2 * held) (omega (arith, round_room, round_length (omega arith))))

          pub round_held : B.met s w ≡ true → (fare : ℕ) → fare ≡ M.fare s w
              → Rounding M B seats s t set held old (put_at (2 * total) (s ∷ w ∷ []) visits) (total + 1)
              (cond (unopened M B s w) openings (with_member openings w)) (fares + fare) w
          round_held m fare f =
              let vs : List Interview = (round_to M B seats s t set k).interviews in
              let q : round_to M B seats s t set w
              ≡ record {
                interviews = vs ++ ((s, w) ∷ []);
                openings = cond (unopened M B s w) (round_to M B seats s t set k).openings
                    (with_member (round_to M B seats s t set k).openings w);
                missing = 0;
              } = rw e (taken M B seats s t set k r.on due_next (rw e at m)) in
              record {
                all = rw q (omega (arith, r.all, length-append vs ((s, w) ∷ [])));
                sets = rw (q, r.sets);
                paid = rw q (omega (arith, f, r.paid, fares_more M vs s w));
                on = rw q;
                written = rw q more;
              }

          -- it is missing, and the round stops
          pub round_missing : B.met s w ≡ false
              → Answers M (record { count = total; openings = openings; missing = Some w; fares = fares }) visits held (round_to M B seats s t set n) old
          round_missing m = rw whole (same, r.written)
            where
              q : round_to M B seats s t set (suc k) ≡ record
                  { interviews = (round_to M B seats s t set k).interviews; openings = (round_to M B seats s t set k).openings; missing = suc k }
              q = lacking M B seats s t set k r.on due_next (rw e at m)

              whole : round_to M B seats s t set n ≡ record
                  { interviews = (round_to M B seats s t set k).interviews; openings = (round_to M B seats s t set k).openings; missing = suc k }
              whole = stays M B seats s t set (suc k) n l (λ z. let y : suc k ≡ 0 = rw q at z in omega arith) ∙ q

              same : ◌≡◌ {A = Round} (record { count = total; openings = openings; missing = Some w; fares = fares })
                  (record {
                    count = held + length (round_to M B seats s t set k).interviews;
                    openings = (round_to M B seats s t set k).openings;
                    missing = Some (suc k);
                    fares = fares_of M (round_to M B seats s t set k).interviews;
                  })
              same = rw (r.all, r.sets, r.paid, e)
