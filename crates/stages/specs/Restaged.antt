-- The case with other stages in its student records.
use Rattle.std.specs.Prelude.{ℕ, cond, List, map}
use Rattle.lgs.specs.Market.{Market}
use Rattle.lgs.specs.Stages.{stage_of}
use Rattle.format.specs.Layout.{Row, rows, of_kind, with_second}
use Rattle.format.specs.Encoding.{case_bytes}

-- the record of a student with her stage from the list; any other record as it is
unfoldable pub with_stage : List ℕ → Row → Row
with_stage stages r = cond (of_kind 1 r) (with_second r (stage_of stages r.first)) r

-- the case with these stages written into its student records
unfoldable pub restaged : List ℕ → List ℕ → List ℕ
restaged stages case = case_bytes (map (with_stage stages) (rows case))

-- the market with these stages
abbrev pub market_with : Market → List ℕ → Market
market_with M stages =
    record {
      students = M.students;
      workshops = M.workshops;
      stage = stage_of stages;
      lot = M.lot;
      quota = M.quota;
      paired = M.paired;
      fare = M.fare;
      student_tier = M.student_tier;
      workshop_tier = M.workshop_tier;
    }
