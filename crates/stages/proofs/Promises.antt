-- What is promised of the part that works out the stages. Its answer comes about in one of four ways (`Way`), by the causes of the case, the room lent,
-- and whether there are least stages.
use Prim.Native.Nat.{ℕ, ◌≤◌, ◌<◌}
use mathlib.Core.Path.{◌≡◌, refl, sym, ◌∙◌}
use mathlib.Core.Logic.{⊎_elim}
use mathlib.Core.List.{List, [], ◌∷◌, ◌++◌}
use mathlib.Core.List.Memᴰ.{append_left as in_left}
use mathlib.Core.List.Memᴰ.{append_right as in_right}
use mathlib.Core.List.Memᴰ.{head as here}
use mathlib.Core.List.Memᴰ.{not-nil}
use Rattle.std.specs.Prelude.{Option, Some, None}
use native.Mathlib.Omega.{arith}
use lib.Dec.{ltb}
use lib.ListN.{length}
use borrow.Author.Tests.{lt-ltb, le-ltb}
use Rattle.base.specs.Lists.{any}
use Rattle.base.proofs.Tests.{never, less?}
use Rattle.lgs.specs.Market.{Market, ConsistentStages}
use Rattle.lgs.specs.Stages.{stage_of, least_stages, FromOne, LeastStages, NoStages}
use Rattle.lgs.proofs.Valid.{WellFormed}
use Rattle.lgs.proofs.Unpriced.{least_same}
use Rattle.lgs.proofs.Stages.{least_given, least_none, least_is, none_is, only_stages, outside}
use Rattle.format.specs.Causes.{Cause, first_cause, whole, NothingFound}
use Rattle.format.specs.Refusals.{case_causes}
use Rattle.format.specs.Engine.{market_in}
use Rattle.stages.specs.Outcome.{StagesOutcome, staged, unstaged, none_agree, stages_room_causes, stages_causes, stages_unless, work_out, stages_after}
use Rattle.stages.specs.Restaged.{restaged}
use Rattle.stages.specs.Promises.{StagesPromised, SixExactly, TwelveExactly, OnlyStages, EightCauses, FileStagesUnread}
use Rattle.stages.specs.Promises.{StagesKept, LentStagesKept, StagesThirteenExactly, FaresUnread}
use Rattle.format.proofs.Causes.{table_none, none_table, table_some, some_table, nothing_more, first_left, first_right, other_number}
use Rattle.format.proofs.Buffers.{head_length, past_head}
use Rattle.format.proofs.Cases.{case_wf, case_counts}
use Rattle.format.proofs.Thirteen.{thirteen_given, thirteen_whenever}
use Rattle.format.proofs.Unpriced.{same_case, same_market}
use Rattle.stages.proofs.Restaged.{least_short, new_nothing, new_market}

-- ---- the causes, one after the other
pub eight_causes : EightCauses
unfolding stages_causes case_causes stages_room_causes
eight_causes case room = refl

module _ (case : List ℕ) (room : ℕ) where
  -- the last cause
  abbrev twelve : List Cause
  twelve = (12, whole (none_agree (least_stages (market_in case)))) ∷ []

  readable : first_cause (case_causes case) ≡ None → WellFormed (market_in case)
  readable e = case_wf case (table_none (case_causes case) e)

  first_case : (r : ℕ × ℕ) → first_cause (case_causes case) ≡ Some r → first_cause (stages_causes case room) ≡ Some r
  unfolding stages_causes
  first_case r e = first_left (case_causes case) (stages_room_causes case room ++ twelve) r e

  pub out_case : (k i : ℕ) → first_cause (case_causes case) ≡ Some (k, i) → work_out case room ≡ unstaged k i
  unfolding work_out stages_unless
  out_case k i e = rw (first_case (k, i) e)

  module _ (e : first_cause (case_causes case) ≡ None) where
    first_room : room < (market_in case).students → first_cause (stages_causes case room) ≡ Some (6, 0)
    unfolding stages_causes stages_room_causes
    first_room l = first_right (case_causes case) (stages_room_causes case room ++ twelve) e ∙ rw (lt-ltb room (market_in case).students l)

    pub out_room : room < (market_in case).students → work_out case room ≡ unstaged 6 0
    unfolding work_out stages_unless
    out_room l = rw (first_room l)

    module _ (enough : (market_in case).students ≤ room) where
      before_none : first_cause (case_causes case ++ stages_room_causes case room) ≡ None
      unfolding stages_room_causes
      before_none = first_right (case_causes case) (stages_room_causes case room) e ∙ rw (le-ltb room (market_in case).students enough)

      first_twelve : first_cause (stages_causes case room) ≡ first_cause twelve
      unfolding stages_causes stages_room_causes
      first_twelve = first_right (case_causes case) (stages_room_causes case room ++ twelve) e ∙ rw (le-ltb room (market_in case).students enough)

      first_none : NoStages (market_in case) → first_cause (stages_causes case room) ≡ Some (12, 0)
      unfolding none_agree
      first_none N = first_twelve ∙ rw (none_is (market_in case) (readable e) N)

      pub out_none : NoStages (market_in case) → work_out case room ≡ unstaged 12 0
      unfolding work_out stages_unless
      out_none N = rw (first_none N)

      first_staged : (stages : List ℕ) → LeastStages (market_in case) stages → first_cause (stages_causes case room) ≡ None
      unfolding none_agree
      first_staged stages L = first_twelve ∙ rw (least_is (market_in case) (readable e) stages L)

  pub out_staged : (stages : List ℕ)
      → first_cause (case_causes case) ≡ None
      → (market_in case).students ≤ room
      → LeastStages (market_in case) stages
      → work_out case room ≡ staged stages
  unfolding work_out stages_unless
  out_staged stages e enough L =
      rw (first_staged e enough stages L, least_is (market_in case) (readable e) stages L)

-- ---- the numbers of the case's causes are neither 6 nor 12

not_twelve : (case : List ℕ) (k i : ℕ) → first_cause (case_causes case) ≡ Some (k, i) → k ≡ 12 → ⊥
unfolding case_causes any
not_twelve case k i = other_number 12 (case_causes case) k i refl

not_six : (case : List ℕ) (k i : ℕ) → first_cause (case_causes case) ≡ Some (k, i) → k ≡ 6 → ⊥
unfolding case_causes any
not_six case k i = other_number 6 (case_causes case) k i refl

-- ---- the four ways

data Way (case : List ℕ) (room : ℕ) : StagesOutcome → Type 0 where
  by_case : (k i : ℕ) → first_cause (case_causes case) ≡ Some (k, i) → Way case room (unstaged k i)
  by_room : first_cause (case_causes case) ≡ None → room < (market_in case).students → Way case room (unstaged 6 0)
  by_none : first_cause (case_causes case) ≡ None → (market_in case).students ≤ room → NoStages (market_in case) → Way case room (unstaged 12 0)
  by_stages : (stages : List ℕ) → first_cause (case_causes case) ≡ None → (market_in case).students ≤ room → LeastStages (market_in case) stages
      → Way case room (staged stages)

way : (case : List ℕ) (room : ℕ) → Way case room (work_out case room)
way case room = by_case_lem (first_cause (case_causes case)) refl
  where
    by_least : first_cause (case_causes case) ≡ None → (market_in case).students ≤ room
        → (o : Option (List ℕ)) → least_stages (market_in case) ≡ o → Way case room (work_out case room)
    by_least e u None f =
        let N : NoStages (market_in case) = least_none (market_in case) (readable case room e) f in
        rw (out_none case room e u N) (by_none e u N)
    by_least e u (Some stages) f =
        let L : LeastStages (market_in case) stages = least_given (market_in case) (readable case room e) stages f in
        rw (out_staged case room stages e u L) (by_stages stages e u L)

    by_case_lem : (o : Option (ℕ × ℕ)) → first_cause (case_causes case) ≡ o → Way case room (work_out case room)
    by_case_lem (Some (k, i)) e = rw (out_case case room k i e) (by_case k i e)
    by_case_lem None e =
        ⊎_elim (λ l. rw (out_room case room e l) (by_room e l)) (λ u. by_least e u (least_stages (market_in case)) refl) (less? room (market_in case).students)

-- ---- what is promised

pub stages_promised : (case : List ℕ) (room : ℕ) → StagesPromised case room (work_out case room)
stages_promised case room = go (work_out case room) (way case room)
  where
    go : (o : StagesOutcome) → Way case room o → StagesPromised case room o
    go o (by_case k i e) = (table_some (stages_causes case room) k i (first_case case room (k, i) e), λ q. absurd (not_twelve case k i e q))
    go o (by_room e l) = (table_some (stages_causes case room) 6 0 (first_room case room e l), λ q. absurd (omega (arith, q)))
    go o (by_none e u N) = (table_some (stages_causes case room) 12 0 (first_none case room e u N), λ q. N)
    go o (by_stages stages e u L) =
        let nothing : NothingFound (case_causes case) = table_none (case_causes case) e in (
          table_none (stages_causes case room) (first_staged case room e u stages L),
          L,
          λ s. omega (arith, L.few s, case_counts case nothing),
          least_short case stages nothing L,
        )

pub six_exactly : SixExactly
unfolding stages_room_causes
six_exactly =
    record {
      given = λ case room i. go case room i (work_out case room) (way case room);
      whenever = λ case room nothing l. out_room case room (none_table (case_causes case) nothing) l;
      enough = λ case room nothing l.
          nothing_more _ []
          (λ i f. never f.0 (le-ltb room (market_in case).students (omega (arith, l, (case_counts case nothing).0.1))))
          (λ c m i f. not-nil m);
    }
  where
    go : (case : List ℕ) (room i : ℕ) (o : StagesOutcome) → Way case room o → o ≡ unstaged 6 i
        → (i ≡ 0) × NothingFound (case_causes case) × (room < (market_in case).students)
    go case room i o (by_case k j e) q = let z : k ≡ 6 = cc in absurd (not_six case k j e z)
    go case room i o (by_room e l) q = let z : ◌≡◌ {A = ℕ} 0 i = cc in (sym z, table_none (case_causes case) e, l)
    go case room i o (by_none e u N) q = let z : ◌≡◌ {A = ℕ} 12 6 = cc in absurd (omega arith)
    go case room i o (by_stages stages e u L) q = let z : ◌≡◌ {A = ℕ} 0 1 = cc in absurd (omega arith)

pub twelve_exactly : TwelveExactly
unfolding stages_room_causes
twelve_exactly =
    record {
      given = λ case room i. go case room i (work_out case room) (way case room);
      whenever = λ case room nothing N. let r = passed case room nothing in out_none case room r.0 r.1 N;
      otherwise = λ case room stage nothing C. else case room stage C (passed case room nothing) (work_out case room) (way case room) refl;
    }
  where
    go : (case : List ℕ) (room i : ℕ) (o : StagesOutcome) → Way case room o → o ≡ unstaged 12 i
        → (i ≡ 0) × NothingFound (case_causes case ++ stages_room_causes case room) × NoStages (market_in case)
    go case room i o (by_case k j e) q = let z : k ≡ 12 = cc in absurd (not_twelve case k j e z)
    go case room i o (by_room e l) q = let z : ◌≡◌ {A = ℕ} 6 12 = cc in absurd (omega arith)
    go case room i o (by_none e u N) q =
        let z : ◌≡◌ {A = ℕ} 0 i = cc in
        (sym z, table_none (case_causes case ++ stages_room_causes case room) (before_none case room e u), N)
    go case room i o (by_stages stages e u L) q = let z : ◌≡◌ {A = ℕ} 0 1 = cc in absurd (omega arith)

    -- causes 1 to 6 find nothing
    passed : (case : List ℕ) (room : ℕ) → NothingFound (case_causes case ++ stages_room_causes case room)
        → (first_cause (case_causes case) ≡ None) × ((market_in case).students ≤ room)
    passed case room nothing =
        let e : first_cause (case_causes case) ≡ None = none_table (case_causes case) (λ c m. nothing c (in_left (stages_room_causes case room) m)) in
        ⊎_elim
        (λ (l : room < (market_in case).students).
        absurd (nothing _ (in_right (case_causes case) (here refl)) 0 (lt-ltb room (market_in case).students l, refl)))
        (λ u. (e, u))
        (less? room (market_in case).students)

    else : (case : List ℕ) (room : ℕ) (stage : ℕ → ℕ) → ConsistentStages (market_in case) stage
        → (first_cause (case_causes case) ≡ None) × ((market_in case).students ≤ room)
        → (o : StagesOutcome) → Way case room o → work_out case room ≡ o → (stages : List ℕ) × (work_out case room ≡ staged stages)
    else case room stage C r o (by_case k i e) q =
        let f : ◌≡◌ {A = Option (ℕ × ℕ)} (Some (k, i)) None = sym e ∙ r.0 in
        let z : ◌≡◌ {A = ℕ} 0 1 = cc in
        absurd (omega arith)
    else case room stage C r o (by_room e l) q = absurd (omega (arith, l, r.1))
    else case room stage C r o (by_none e u N) q = absurd (N stage C)
    else case room stage C r o (by_stages stages e u L) q = (stages, q)

pub only : OnlyStages
only = only_stages

-- ---- the stages in the file

-- where the case's causes find nothing the answer goes by the market
abbrev by_market : Market → ℕ → StagesOutcome
by_market M room =
    stages_unless (first_cause ((6, whole (ltb room M.students)) ∷ (12, whole (none_agree (least_stages M))) ∷ [])) (least_stages M)

by_market_lem : (case : List ℕ) (room : ℕ) → NothingFound (case_causes case) → work_out case room ≡ by_market (market_in case) room
unfolding work_out stages_causes stages_room_causes
by_market_lem case room nothing = rw (first_right (case_causes case) _ (none_table (case_causes case) nothing))

pub file_stages_unread : FileStagesUnread
file_stages_unread case room stages nothing sized range =
    by_market_lem (restaged stages case) room (new_nothing case stages nothing sized from_one few)
    ∙ rw (new_market case stages nothing sized from_one few, least_same (market_in case) (stage_of stages) (market_in case).fare)
    (sym (by_market_lem case room nothing))
  where
    from_one : FromOne (market_in case) (stage_of stages)
    from_one s l u = (range s l u).0

    few : (s : ℕ) → stage_of stages s ≤ 512
    few s = outside (market_in case) stages sized (λ v. v ≤ 512) (omega arith) s (λ l u. (range s l u).1)

-- ---- the fares
pub fares_unread : FaresUnread
unfolding work_out stages_causes stages_room_causes
fares_unread case case' room other =
    rw (same_case case case' other, same_market case case' other, least_same (market_in case) (market_in case).stage (market_in case').fare)

-- ---- the lots

pub stages_thirteen_exactly : StagesThirteenExactly
unfolding work_out stages_unless stages_causes stages_room_causes any
stages_thirteen_exactly =
    record {
      given = λ case room i e. thirteen_given case _ i refl (some_table (stages_causes case room) 13 i (rw e at (stages_promised case room)).0);
      whenever = λ case room s nothing f. rw (thirteen_whenever case _ s nothing f);
    }

-- ---- the lent stages

pub stages_kept : LentStagesKept
unfolding stages_after
stages_kept case stages = go (work_out case (length stages)) (way case (length stages))
  where
    go : (a : StagesOutcome) → Way case (length stages) a → StagesKept case stages a
    go a (by_stages new e u L) =
        record {
          long = head_length new stages (omega (arith, L.whole));
          past = λ i l. past_head new stages i (omega (arith, L.whole));
          as_found = λ k i q. let z : ◌≡◌ {A = ℕ} 0 1 = cc in absurd (omega arith);
        }
    go a (by_case k i e) = record { long = refl; past = λ i l. refl; as_found = λ k i q. refl }
    go a (by_room e l) = record { long = refl; past = λ i l. refl; as_found = λ k i q. refl }
    go a (by_none e u N) = record { long = refl; past = λ i l. refl; as_found = λ k i q. refl }
