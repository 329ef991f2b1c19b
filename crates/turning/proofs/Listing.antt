-- The workshops of one tier: as they are listed, and as the list is gone over.
use Prim.Native.Nat.{ℕ, zero, suc, ◌+◌, ◌-◌, ◌≤◌, ◌<◌}
use mathlib.Core.Path.{◌≡◌, refl, sym, ap, ◌∙◌}
use mathlib.Core.Logic.{◌⊎◌, inl, inr, ⊎_elim}
use mathlib.Core.Bool.{Bool, true, false}
use mathlib.Core.List.{List}
use native.Mathlib.Omega.{arith}
use lib.ListN.{length, get_or, set, take, length-set}
use lib.Seq.{length-take-le, get_or-take, get_or-set_same, get_or-set_other}
use Rattle.std.specs.Int.{from_bool}
use Rattle.base.specs.Lists.{one, count}
use Rattle.base.proofs.Tests.{less?, is_false, never, and_left}
use Rattle.lgs.specs.Market.{Market, Results}
use Rattle.format.specs.Layout.{row_at, row_count}
use Rattle.format.specs.Engine.{market_in}
use Rattle.records.specs.Records.{pair_place}
use Rattle.tables.specs.Table.{workshop_in, Tabled, Stretch}
use Rattle.tables.proofs.Laws.{count_stop}
use Rattle.tables.proofs.Reading.{places_rise}
use Rattle.model.specs.Turn.{due_at, round_to}
use Rattle.lookup.specs.Clean.{PairAt}
use Rattle.turning.specs.Round.{in_tier, TierListed}
use Rattle.turning.proofs.Due.{due_tier, tier_pair, pair_second, here_paired, here_place}
use Rattle.turning.proofs.Rounds.{Rounding, round_start, count_to, skipped}

-- those of 1 to k that pass have their values at places 0, 1, .. of the list; the next is written
placed : (f : ℕ → Bool) (g : ℕ → ℕ) (k x : ℕ) (l : List ℕ)
    → ((v : ℕ) → v < k → f (suc v) ≡ true → get_or l (count f v) 0 ≡ g (suc v))
    → count f k < length l
    → x ≡ g (suc k)
    → (v : ℕ) → v < suc k → f (suc v) ≡ true → get_or (set l (count f k) x) (count f v) 0 ≡ g (suc v)
unfolding count
placed f g k x l h room e v b p =
    ⊎_elim (λ (q : v < k). get_or-set_other l (count f k) (count f v) x 0 (λ z. omega (arith, count_to f (suc v) k q, ap one p)) ∙ h v q p)
    (λ (q : k ≤ v). let y : v ≡ k = omega arith in rw y (get_or-set_same l (count f k) x 0 room ∙ e))
    (less? v k)

module _ (case : List ℕ) (s t : ℕ) (pairs : List ℕ) where
  abbrev of_tier_lem : ℕ → Bool
  of_tier_lem = in_tier (market_in case) s t

  pub list_start : TierListed case s t 0 0 pairs
  unfolding count
  list_start = record { many = refl; pair = λ v l p. absurd (omega arith) }

  pub list_more : (k n : ℕ) → TierListed case s t k n pairs → n < length pairs → (p x : ℕ)
      → p ≡ pair_place case s (suc k)
      → x ≡ one (of_tier_lem (suc k))
      → TierListed case s t (suc k) (n + x) (set pairs n p)
  unfolding count
  list_more k n l a p x d f =
      record {
        many = omega (arith, l.many);
        pair = rw l.many (placed of_tier_lem (pair_place case s) k p pairs l.pair (omega (arith, l.many)) d);
      }

  -- where none of the next workshops is of the tier, the list stays
  pub list_on : (a b n : ℕ) → a ≤ b → ((w : ℕ) → a < w → w ≤ b → of_tier_lem w ≡ false) → TierListed case s t a n pairs → TierListed case s t b n pairs
  list_on a b n l none i =
      record {
        many = i.many ∙ sym (count_stop of_tier_lem a b l none);
        pair = λ v h p. ⊎_elim (λ (q : v < a). i.pair v q p) (λ (q : a ≤ v). never p (none (suc v) (omega arith) (omega arith))) (less? v a);
      }

-- what a test counts
pub from_bool_one : (b : Bool) → from_bool b ≡ one b
from_bool_one true = refl
from_bool_one false = refl

-- her pairs from record `first` up to record `pair` have been gone over; they are those with the workshops 1 to `up_to`
pub record Listing (case : List ℕ) (s t first : ℕ) (old pairs : List ℕ) (n pair : ℕ) : Type 0 where
  pub up_to : ℕ
  pub listed : TierListed case s t up_to n pairs
  pub hers : (up_to ≡ 0) ⊎ ((market_in case).paired s up_to ≡ true)
  pub left : (w : ℕ) → (market_in case).paired s w ≡ true → up_to < w → pair ≤ pair_place case s w
  pub done : (w : ℕ) → (market_in case).paired s w ≡ true → w ≤ up_to → pair_place case s w < pair
  pub few : first + n ≤ pair
  pub same : length pairs ≡ length old

module _ (case table : List ℕ) (T : Tabled case table) (s t first many : ℕ) (S : Stretch case s first many) (old : List ℕ) where
  pub listing_start : Listing case s t first old old 0 first
  listing_start =
      record {
        up_to = 0;
        listed = list_start case s t old;
        hers = inl refl;
        left = λ w p l. omega (arith, S.all w p);
        done = λ w p l. omega (arith, T.named s w p);
        few = omega arith;
        same = refl;
      }

  module _ (pairs : List ℕ) (n pair : ℕ) (i : Listing case s t first old pairs n pair) where
    -- a workshop of the tier has a pair with her
    unpaired : (w : ℕ) → ((market_in case).paired s w ≡ true → ⊥) → in_tier (market_in case) s t w ≡ false
    unfolding in_tier
    unpaired w f = is_false _ (λ e. f (and_left ((market_in case).paired s w) _ e))

    pub listing_end : first + many ≤ pair → (m : ℕ) → ((w : ℕ) → (market_in case).paired s w ≡ true → w ≤ m) → TierListed case s t m n pairs
    listing_end h m named =
        list_on case s t pairs i.up_to m n within
        (λ w l u. unpaired w (λ p. omega (arith, i.left w p l, S.all w p)))
        i.listed
      where
        within : i.up_to ≤ m
        within = ⊎_elim (λ (e : i.up_to ≡ 0). omega arith) (λ (p : (market_in case).paired s i.up_to ≡ true). named i.up_to p) i.hers

    module _ (f : first ≤ pair) (l : pair < first + many) where
      abbrev w : ℕ
      w = workshop_in case pair

      hers_at : (market_in case).paired s w ≡ true
      hers_at = here_paired case s first many S pair f l

      place_at : pair_place case s w ≡ pair
      place_at = here_place case s first many S pair f l

      from_one_lem : 1 ≤ w
      from_one_lem = (T.named s w hers_at).1.0

      beyond : i.up_to < w
      beyond = ⊎_elim (λ (q : i.up_to < w). q) (λ (q : w ≤ i.up_to). absurd (omega (arith, i.done w hers_at q, place_at))) (less? i.up_to w)

      between : TierListed case s t (w - 1) n pairs
      between =
          list_on case s t pairs i.up_to (w - 1) n (omega (arith, beyond))
          (λ v a b. unpaired v (λ p. omega (
            arith,
            i.left v p a,
            places_rise case table T s v w p hers_at (omega (arith, from_one_lem)),
            place_at,
          )))
          i.listed

      pub listing_more : (x : ℕ) → n < length pairs → x ≡ one (in_tier (market_in case) s t w)
          → Listing case s t first old (set pairs n pair) (n + x) (pair + 1)
      listing_more x room f =
          record {
            up_to = w;
            listed = rw d at (list_more case s t pairs (w - 1) n between room pair x (rw d (sym place_at)) (rw d f));
            hers = inr hers_at;
            left = λ v p a. omega (arith, places_rise case table T s w v hers_at p a, place_at);
            done = λ v p a.
                ⊎_elim (λ (q : v < w). omega (arith, places_rise case table T s v w p hers_at q, place_at))
                (λ (q : w ≤ v). let y : v ≡ w = omega arith in rw y (omega (arith, place_at)))
                (less? v w);
            few = omega (arith, i.few, one_few (in_tier (market_in case) s t w));
            same = length-set pairs n pair ∙ i.same;
          }
        where
          d : suc (w - 1) ≡ w
          d = omega (arith, from_one_lem)

          one_few : (b : Bool) → one b ≤ 1
          one_few true = omega arith
          one_few false = omega arith

-- ---- the list is gone over

-- after `a`, the next number that passes is `at + 1`
pub record Next (f : ℕ → Bool) (a m : ℕ) : Type 0 where
  pub at : ℕ
  pub from : a ≤ at
  pub to : at < m
  pub passes : f (suc at) ≡ true
  pub same : count f at ≡ count f a

next : (f : ℕ → Bool) (a m : ℕ) → a ≤ m → count f a < count f m → Next f a m
unfolding count
next f a zero l h = let e : a ≡ 0 = omega arith in let z : count f 0 < count f 0 = rw e at h in absurd (omega arith)
next f a (suc m) l h =
    ⊎_elim
    (λ (q : a < suc m).
    ⊎_elim (λ (b : count f a < count f m). let n : Next f a m = next f a m (omega arith) b in record
    { at = n.at; from = n.from; to = omega (arith, n.to); passes = n.passes; same = n.same })
    (λ (b : count f m ≤ count f a). record {
      at = m;
      from = omega arith;
      to = omega arith;
      passes = last (f (suc m)) refl b;
      same = omega
          (arith, count_to f a m (omega arith));
    }) (less? (count f a) (count f m)))
    (λ (q : suc m ≤ a). let e : a ≡ suc m = omega arith in let z : count f (suc m) < count f (suc m) = rw e at h in absurd (omega arith))
    (less? a (suc m))
  where
    last : (b : Bool) → f (suc m) ≡ b → count f m ≤ count f a → f (suc m) ≡ true
    last true e g = e
    last false e g = absurd (omega (arith, ap one e))

-- between two places with the same count nothing is of the tier, and the round stays as it is
module _ (M : Market) (B : Results) (seats : List ℕ) (s t set held : ℕ) (old visits : List ℕ) (total openings fares : ℕ) where
  passed : (a b : ℕ) → a ≤ b → count (in_tier M s t) b ≡ count (in_tier M s t) a → round_to M B seats s t set b ≡ round_to M B seats s t set a
  unfolding count
  passed a zero l e = let z : a ≡ 0 = omega arith in rw z
  passed a (suc b) l e =
      ⊎_elim
      (λ (q : a < suc b).
      let n : in_tier M s t (suc b) ≡ false = none (in_tier M s t (suc b)) refl q in
      skipped M B seats s t set b (is_false (due_at M B seats s t (suc b)) (λ d. never (due_tier M B seats s t (suc b) d) n))
      ∙ passed a b (omega arith) (omega (arith, count_to (in_tier M s t) a b (omega arith), ap one n)))
      (λ (q : suc b ≤ a). let z : a ≡ suc b = omega arith in rw z)
      (less? a (suc b))
    where
      none : (x : Bool) → in_tier M s t (suc b) ≡ x → a < suc b → in_tier M s t (suc b) ≡ false
      none false n q = n
      none true n q = absurd (omega (arith, count_to (in_tier M s t) a b (omega arith), ap one n))

  round_passed : (a b : ℕ) → a ≤ b → count (in_tier M s t) b ≡ count (in_tier M s t) a → Rounding M B seats s t set held old visits total openings fares a →
      Rounding M B seats s t set held old visits total openings fares b
  round_passed a b l e r =
      let q : round_to M B seats s t set b ≡ round_to M B seats s t set a = passed a b l e in
      record { all = rw q r.all; sets = rw q r.sets; paid = rw q r.paid; on = rw q r.on; written = rw q r.written }

-- k of the n workshops listed have been gone over
pub record Going (case : List ℕ) (B : Results) (seats : List ℕ) (s t set held m n : ℕ) (pairs old visits : List ℕ) (total openings fares k : ℕ) : Type 0 where
  pub listed : TierListed case s t m n pairs
  pub done : ℕ
  pub within : done ≤ m
  pub place : count (in_tier (market_in case) s t) done ≡ k
  pub so : Rounding (market_in case) B seats s t set held old visits total openings fares done

-- the workshop at place k of the list is w; its pair's record is p
pub record Coming (case : List ℕ) (B : Results) (seats : List ℕ) (s t set held m : ℕ) (old visits : List ℕ) (total openings fares k w p : ℕ) : Type 0 where
  pub at : ℕ
  pub below : at < m
  pub number : w ≡ suc at
  pub place : count (in_tier (market_in case) s t) at ≡ k
  pub tier : in_tier (market_in case) s t w ≡ true
  pub pair : p ≡ pair_place case s w
  pub so : Rounding (market_in case) B seats s t set held old visits total openings fares at

-- the used head of the list is a list of them
pub listed_head : (case : List ℕ) (s t m n : ℕ) (pairs : List ℕ) → n ≤ length pairs → TierListed case s t m n pairs
    → TierListed case s t m (length (take n pairs)) (take n pairs)
unfolding count
listed_head case s t m n pairs room l =
    record {
      many = length-take-le n pairs room ∙ l.many;
      pair = λ v a p.
          get_or-take n pairs (count (in_tier (market_in case) s t) v) 0
          (omega (arith, l.many, count_to (in_tier (market_in case) s t) (suc v) m a, ap one p))
          ∙ l.pair v a p;
    }

module _ {case : List ℕ} {B : Results} {seats : List ℕ} {s t set held m n : ℕ} {pairs old : List ℕ} where
  pub going_start : TierListed case s t m n pairs → Going case B seats s t set held m n pairs old old held set 0 0
  unfolding count
  going_start l = record { listed = l; done = 0; within = omega arith; place = refl; so = round_start }

  module _ {visits : List ℕ} {total openings fares k : ℕ} (g : Going case B seats s t set held m n pairs old visits total openings fares k) where
    pub going_end : n ≤ k → Rounding (market_in case) B seats s t set held old visits total openings fares m
    going_end l =
        round_passed (market_in case) B seats s t set held old visits total openings fares g.done m g.within
        (omega (arith, g.listed.many, g.place, count_to (in_tier (market_in case) s t) g.done m g.within))
        g.so

    module _ (l : k < n) where
      pub ahead : Next (in_tier (market_in case) s t) g.done m
      ahead = next (in_tier (market_in case) s t) g.done m g.within (omega (arith, g.listed.many, g.place))

      pub coming : Coming case B seats s t set held m old visits total openings fares k (suc ahead.at) (get_or pairs k 0)
      coming =
          let e : count (in_tier (market_in case) s t) ahead.at ≡ k = ahead.same ∙ g.place in
          record {
            at = ahead.at;
            below = ahead.to;
            number = refl;
            place = e;
            tier = ahead.passes;
            pair = ap (λ (i : ℕ). get_or pairs i 0) (sym e) ∙ g.listed.pair ahead.at ahead.to ahead.passes;
            so = round_passed (market_in case) B seats s t set held old visits total openings fares g.done ahead.at ahead.from ahead.same g.so;
          }

      -- its number stands in the pair's record
      module _ (found : (w : ℕ) → (market_in case).paired s w ≡ true → PairAt case s w) where
        pub coming_within : get_or pairs k 0 < row_count case
        coming_within = omega (arith, coming.pair, (found (suc ahead.at) (tier_pair (market_in case) B seats s t (suc ahead.at) coming.tier)).within)

        pub coming_as : (w : ℕ) → w ≡ (row_at case (get_or pairs k 0)).second → Coming case B seats s t set held m old visits total openings fares k w
            (get_or pairs k 0)
        coming_as w e = rw (e ∙ pair_second case s (suc ahead.at) t (get_or pairs k 0) coming.pair coming_within) coming

    -- the workshop has been dealt with
    pub going_on : (w p : ℕ) (visits' : List ℕ) (total' openings' fares' : ℕ)
        → Coming case B seats s t set held m old visits total openings fares k w p
        → Rounding (market_in case) B seats s t set held old visits' total' openings' fares' w
        → Going case B seats s t set held m n pairs old visits' total' openings' fares' (k + 1)
    unfolding count
    going_on w p visits' total' openings' fares' c r =
        let y : in_tier (market_in case) s t (suc c.at) ≡ true = rw (← c.number) c.tier in
        record { listed = g.listed; done = w; within = omega (arith, c.number, c.below); place = rw c.number (omega (arith, c.place, ap one y)); so = r }
