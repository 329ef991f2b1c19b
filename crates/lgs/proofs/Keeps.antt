-- Every move keeps the invariant, so the last state of a run has it, for every set of interviews that holds the run's. What else the moves
-- keep is shown along with it.
use Prim.Native.Nat.{ℕ, suc}
use mathlib.Core.Path.{◌≡◌}
use mathlib.Core.Logic.{inl, inr, ⊎_elim}
use mathlib.Core.Bool.{Bool, true}
use mathlib.Core.List.Memᴰ.{cases_cons}
use mathlib.Core.List.Memᴰ.{tail as later}
use mathlib.Core.List.{List, ◌∷◌}
use native.Mathlib.Omega.{arith}
use Rattle.base.proofs.Members.{NoDup}
use Rattle.lgs.specs.Market.{Market, Results}
use Rattle.lgs.specs.Profiles.{Profile}
use Rattle.lgs.specs.Rule.{State, interviewed, open?, due, hand_on, start}
use Rattle.lgs.proofs.Setting.{Setting}
use Rattle.lgs.proofs.Invariant.{Seen, Chosen, Gone, seatless, beyond, taken, Inv}
use Rattle.lgs.proofs.Interviews.{interviewed_after, interviewed_in}
use Rattle.lgs.proofs.Advance.{advance_keeps}
use Rattle.lgs.proofs.Choose.{best_chosen}
use Rattle.lgs.proofs.Apply.{seat, drop, lowest_joined}
use Rattle.lgs.proofs.Close.{close_inv}
use Rattle.lgs.proofs.Moves.{Move, interviews, leaves, sits, drops, dropped}
use Rattle.lgs.proofs.Trace.{Reaches, along, reaches_interviews}
use Rattle.lgs.proofs.Start.{start_inv}

module _ (M : Market) (B : Results) (O : Profile) (Vs : ℕ → ℕ → Bool) (E : Setting M B O Vs) where
  -- the student is done without a place
  leave_keeps : (σ : State) → Inv M B O Vs σ → (s : ℕ) (rest : List ℕ) → σ.waiting ≡ s ∷ rest → Chosen M B O Vs σ s 0
      → Inv M B O Vs (hand_on M B σ rest σ.held)
  unfolding open?
  leave_keeps σ I s rest wait k =
      record {
        seen = λ t w v. let z : Seen M Vs σ t w = I.seen t w v in record
            { pair = z.pair; seen = z.seen; tier = z.tier; outside = z.outside; seats = z.seats };
        swept = I.swept;
        past = I.past;
        outside = I.outside;
        chosen = λ t l. still t (σ.held t) (I.chosen t l);
        settled = λ t l u.
            ⊎_elim
            (λ m. ⊎_elim (λ (e : t ≡ s). inr (still t (σ.held t) (rw (I.free t m) (rw e k)))) inl (cases_cons (rw wait at m)))
            (λ z. inr (still t (σ.held t) z))
            (I.settled t l u);
        free = λ t m. I.free t (rw wait (later m));
        range = λ t m. I.range t (rw wait (later m));
        distinct = all.1;
        begun = I.begun;
        gone = λ t c p d. gone' t c (I.gone t c p d);
        lost = I.lost;
        within = I.within;
      }
    where
      all : NoDup (s ∷ rest)
      all = rw wait at I.distinct

      still : (t x : ℕ) → Chosen M B O Vs σ t x → Chosen M B O Vs (hand_on M B σ rest σ.held) t x
      still t x z = record { tier = z.tier; known = z.known; top = z.top; none = z.none; real = z.real }

      gone' : (t c : ℕ) → Gone M O σ t c → Gone M O (hand_on M B σ rest σ.held) t c
      gone' t c (seatless z) = seatless z
      gone' t c (beyond l) = beyond l
      gone' t c (taken f a) = taken f a

  pub move_keeps : (σ σ' : State) → Inv M B O Vs σ → (s : ℕ) (rest : List ℕ) → σ.waiting ≡ s ∷ rest
      → ((t w : ℕ) → interviewed σ'.interviews t w ≡ true → Vs t w ≡ true) → Move M B σ s rest σ' → Inv M B O Vs σ'
  move_keeps σ σ' I s rest wait known (interviews empty met e) =
      rw e (advance_keeps M B O Vs E σ I s rest wait empty
      (λ w m. known s w (rw e (interviewed_after σ.interviews _ s w (interviewed_in s (due M B σ s) w m)))))
  move_keeps σ σ' I s rest wait known (leaves x xs some z e) = rw e (leave_keeps σ I s rest wait (rw z at (best_chosen M B O Vs E σ I s x xs some)))
  move_keeps σ σ' I s rest wait known (sits x xs c some z fits e) =
      rw e (close_inv M B O Vs E σ I (suc c) (omega arith) _ _
      (seat M B O Vs E σ I s rest wait (suc c) (omega arith) (rw z at (best_chosen M B O Vs E σ I s x xs some)) fits))
  move_keeps σ σ' I s rest wait known (drops x xs c some z over e) =
      rw e (close_inv M B O Vs E σ I (suc c) (omega arith) _ _
      (drop M B O Vs E σ I s rest wait (suc c) (omega arith) k (dropped M B σ s rest (suc c))
      (lowest_joined M B O Vs E σ I s rest wait (suc c) (omega arith) k)))
    where
      k : Chosen M B O Vs σ s (suc c)
      k = rw z at (best_chosen M B O Vs E σ I s x xs some)

  -- The last state has the invariant, and what each move keeps beside it. For the interviews of a state on the way are among those of the last.
  pub last_with : (P : State → Type 0)
      → ((σ σ' : State) → Inv M B O Vs σ → (s : ℕ) (rest : List ℕ) → σ.waiting ≡ s ∷ rest → Move M B σ s rest σ' → P σ → P σ')
      → P (start M B)
      → (τ : State) → Reaches M B τ (start M B) → ((t w : ℕ) → interviewed τ.interviews t w ≡ true → Vs t w ≡ true) → Inv M B O Vs τ × P τ
  last_with P keeps first τ r known =
      along M B τ (λ σ. Inv M B O Vs σ × P σ)
      (λ σ σ' s rest w m r' k. (
        move_keeps σ σ' k.0 s rest w (λ t d v. known t d (reaches_interviews M B τ σ' r' t d v)) m,
        keeps σ σ' k.0 s rest w m k.1,
      ))
      (start M B) r (start_inv M B O Vs E, first)

  pub last_inv : (τ : State) → Reaches M B τ (start M B) → ((t w : ℕ) → interviewed τ.interviews t w ≡ true → Vs t w ≡ true) → Inv M B O Vs τ
  last_inv τ r known = (last_with (λ σ. Unit {0}) (λ σ σ' I s rest w m u. tt) tt τ r known).0
