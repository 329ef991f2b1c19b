-- "Turn lines into the students' groups and line groups in a copy of the case, groups counted from 1" (document 02, Paper 6).
use Rattle.std.specs.Prelude.{ℕ, ◌-◌, cond, List, [], map, get_or}
use Rattle.format.specs.Layout.{Row, rows, of_kind}
use Rattle.format.specs.Encoding.{case_bytes}
use Rattle.wish_lines.specs.Lines.{Line, position}

-- a record's third field replaced: of a student's her line group, of a pair's the student's group
abbrev pub with_third : Row → ℕ → Row
with_third r x =
    record {
      kind = r.kind;
      pad = r.pad;
      first = r.first;
      second = r.second;
      third = x;
      fourth = r.fourth;
      fifth = r.fifth;
      sixth = r.sixth;
      seventh = r.seventh;
    }

-- the groups of student s in the lines: her line is at place s - 1 (`FitLine.number`)
abbrev pub groups_in : List Line → ℕ → List (List ℕ)
groups_in ls s = (get_or ls (s - 1) (record { student = 0; groups = [] })).groups

-- a student's record with the position of none in her line, a pair's with that of the workshop; any other record as it is
unfoldable pub with_wish : List Line → Row → Row
with_wish ls r =
    cond (of_kind 1 r) (with_third r (position (groups_in ls r.first) 0))
    (cond (of_kind 3 r) (with_third r (position (groups_in ls r.first) r.second)) r)

-- the copy of the case with the groups of the lines
unfoldable pub wished : List Line → List ℕ → List ℕ
wished ls case = case_bytes (map (with_wish ls) (rows case))
