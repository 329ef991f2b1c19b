-- From the case's causes to what the rounds need, and from what they give to the part's answer.
use Prim.Native.Nat.{ℕ, ◌≤◌}
use mathlib.Core.Path.{◌≡◌, refl, sym, ap, ◌∙◌}
use mathlib.Core.Bool.{true}
use mathlib.Core.List.{List, ◌++◌}
use Rattle.std.specs.Prelude.{None, Result, Ok, Err}
use native.Mathlib.Omega.{arith}
use lib.ListN.{length, take, drop}
use Rattle.base.proofs.Search.{none_fails}
use Rattle.lgs.specs.Stages.{LeastStages, NoStages}
use Rattle.lgs.proofs.Valid.{WellFormed}
use Rattle.format.specs.Layout.{row_at, row_count, rows}
use Rattle.format.specs.Refusals.{bad_range, case_causes}
use Rattle.format.specs.Engine.{market_in}
use Rattle.stages.specs.Outcome.{unstaged, work_out, stages_after}
use Rattle.format.proofs.Causes.{table_none}
use Rattle.format.proofs.Positions.{pair_says}
use Rattle.format.proofs.Reading.{tiers_range}
use Rattle.format.proofs.Cases.{case_wf}
use Rattle.stages.proofs.Promises.{out_none, out_staged, stages_promised}
use Rattle.records.specs.Records.{pair_place}
use Rattle.tables.proofs.Reading.{pair_there}
use Rattle.case_tests.specs.Checked.{CleanCase, case_refusal}
use Rattle.case_tests.proofs.Cases.{clean, few, none_clean}
use Rattle.lookup.proofs.People.{workshop_at, pair_at, named_at}
use Rattle.api.specs.declared.Refusal.{Refusal}
use Rattle.api.specs.Causes.{refusal_for}
use Rattle.stages.specs.Answered.{stages_answer_for, StagesAnswered}
use Rattle.stages.proofs.Answers.{stages_values_lem}
use Rattle.stages.specs.Raising.{Ready}
use Rattle.stages.specs.Rounds.{Settled}
use Rattle.stages.proofs.Rounding.{settled_least}

-- ---- before the rounds

module _ (case : List ℕ) (e : case_refusal case ≡ None) where
  sound : CleanCase case (market_in case).students (market_in case).workshops
  sound = none_clean case e

  counts : ((1 ≤ (market_in case).students) × ((market_in case).students ≤ 512)) × ((1 ≤ (market_in case).workshops) × ((market_in case).workshops ≤ 64))
  counts = few case _ _ sound

  tier_range : (s w : ℕ) → (market_in case).paired s w ≡ true → (1 ≤ (market_in case).workshop_tier w s) × ((market_in case).workshop_tier w s ≤ 513)
  tier_range s w p =
      let c = clean case _ _ sound in
      let i = pair_place case s w in
      let there = pair_there case s w p in
      let says = pair_says s w (row_at case i) there.1 in
      let range = (tiers_range case i there.0 (none_fails (bad_range (rows case)) (row_count case) sound.range i there.0) says.0).1 in
      rw (pair_at case c s w p).workshop_tier range

  wf : WellFormed (market_in case)
  wf = case_wf case (table_none (case_causes case) e)

  pub ready : (n m : ℕ) → n ≡ (market_in case).students → m ≡ (market_in case).workshops → Ready case n m
  ready n m a b =
      rw (a, b)
      (record {
        students = refl;
        workshops = refl;
        some_students = counts.0.0;
        many_students = counts.0.1;
        many_workshops = counts.1.1;
        workshop = workshop_at case (clean case _ _ sound);
        pair = pair_at case (clean case _ _ sound);
        named = named_at case (clean case _ _ sound);
        student_tier = wf.tier;
        tier = tier_range;
      })

  -- ---- after them

  pub worked : (n : ℕ) (own stages : List ℕ) → n ≡ (market_in case).students → n ≤ length stages → Settled (market_in case) own
      → (Ok n ≡ stages_answer_for (work_out case (length stages))) × (take n own ++ drop n stages ≡ stages_after (work_out case (length stages)) stages)
  unfolding stages_answer_for stages_after
  worked n own stages a l S =
      let M = market_in case in
      let least : LeastStages M (take M.students own) = settled_least M wf own counts.0.1 S in
      let out = out_staged case (length stages) (take M.students own) e (omega (arith, a, l)) least in
      (rw out (ap Ok (a ∙ sym least.whole)), rw (out, a) (ap (λ k. take M.students own ++ drop k stages) (sym least.whole)))

  pub unworked : (n : ℕ) (stages : List ℕ) → n ≡ (market_in case).students → n ≤ length stages → NoStages (market_in case)
      → (Err (refusal_for 12 0) ≡ stages_answer_for (work_out case (length stages))) × (stages ≡ stages_after (work_out case (length stages)) stages)
  unfolding stages_answer_for stages_after
  unworked n stages a l N =
      let out = out_none case (length stages) e (omega (arith, a, l)) N in
      (rw out, rw out)

-- ---- the answer

-- what the definition gives has all that is promised
pub answered : (case stages stages' : List ℕ) (a : Result ℕ Refusal) → a ≡ stages_answer_for (work_out case (length stages))
    → stages' ≡ stages_after (work_out case (length stages)) stages
    → StagesAnswered case stages a stages'
answered case stages stages' a e f =
    record {
      answer = e;
      values = rw e (stages_values_lem case (length stages));
      in_stages = f;
      promised = stages_promised case (length stages);
    }

-- a refusal leaves the stages
pub refused : (case stages : List ℕ) (k i : ℕ) (r : Refusal) → r ≡ refusal_for k i → work_out case (length stages) ≡ unstaged k i
    → StagesAnswered case stages (Err r) stages
unfolding stages_answer_for stages_after
refused case stages k i r q e = answered case stages stages (Err r) (rw (e, q)) (rw e)
