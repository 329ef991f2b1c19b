-- What the test of the input says, as a refusal, or as a case and a book that a run can read.
use Prim.Native.Nat.{ℕ, ◌<◌}
use mathlib.Core.Path.{◌≡◌, sym, ◌∙◌}
use mathlib.Core.List.{List}
use Rattle.std.specs.Prelude.{Some, None, Result, Ok, Err}
use native.Mathlib.Omega.{arith}
use lib.ListN.{get_or, replicate}
use Rattle.format.specs.Refusals.{Room, refusal}
use Rattle.format.specs.Engine.{market_in}
use Rattle.format.proofs.Causes.{refusal_none}
use Rattle.api.specs.declared.Refusal.{Refusal}
use Rattle.case_tests.specs.declared.Counts.{Counts}
use Rattle.case_tests.specs.Checked.{pair_count}
use Rattle.case_tests.proofs.Cases.{as_refused, as_clean}
use Rattle.intake.specs.Tested.{Tested}
use Rattle.answering.specs.Call.{TestedInput}
use Rattle.tables.specs.Table.{Made, Staged, Linked, Kept}
use Rattle.tables.proofs.Reading.{kept_tabled}
use Rattle.answering.proofs.Cleaning.{valid_staged, valid_clean}

-- a refusal is not none
some_none : {A : Type 0} (r : ℕ × ℕ) → Some r ≡ None → A
some_none r e = let z : ◌≡◌ {A = ℕ} 0 1 = cc in absurd (omega arith)

module _ (case book index table : List ℕ) (room : Room) (checked : Result Counts Refusal) (says : Tested case book room checked index table) (seats : List ℕ)
    (free : seats ≡ replicate room.seats 0) where
  -- a refusal, whatever the table
  pub tested_refused : (r : Refusal) → checked ≡ Err r → TestedInput case book room checked seats index table
  tested_refused r e =
      let o = as_refused case (refusal case book room) r (sym e ∙ says.answer) in
      record { answer = says.answer; free = free; left = says.left; clean = λ n. some_none o.0 (sym o.1 ∙ n) }

  module _ (c : Counts) (e : checked ≡ Ok c) (bytes : (j : ℕ) → get_or case j 0 < 256) where
    passed : (refusal case book room ≡ None) × (c.students ≡ (market_in case).students) × (c.workshops ≡ (market_in case).workshops)
        × (c.pairs ≡ pair_count case)
    passed = as_clean case (refusal case book room) c (sym e ∙ says.answer)

    -- what the links are made from
    pub made : Made case table
    made = says.tabled passed.0

    pub stages : Staged case c.students
    stages = rw passed.1 (valid_staged case book room (refusal_none case book room passed.0) bytes)

    -- the table with the links
    pub tested_passed : (linked : List ℕ) → Linked case linked c.students → Kept table linked → TestedInput case book room (Ok c) seats index linked
    tested_passed linked links kept =
        record {
          answer = sym e ∙ says.answer;
          free = free;
          left = says.left;
          clean = λ _.
              let own : Linked case linked (market_in case).students = rw (← passed.1) links in
              rw (says.left, passed.0)
              (valid_clean case book room (refusal_none case book room passed.0) bytes linked (kept_tabled case table linked made.tabled kept) own);
        }
