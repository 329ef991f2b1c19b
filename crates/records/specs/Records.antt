-- The code's records as the layout's, and the place of a pair's record.
use Rattle.std.specs.Prelude.{ℕ, List}
use Rattle.base.specs.Words.{biased}
use Rattle.base.specs.Search.{first_bad, or_end}
use Rattle.format.specs.Layout.{row_at, row_count, is_pair}
use Rattle.format.specs.Layout.{Row as LayoutRow, Entry as LayoutEntry}
use Rattle.records.specs.declared.Row.{Row}
use Rattle.records.specs.declared.Entry.{Entry}

-- a record of the case that the code read
abbrev pub row_of : Row → LayoutRow
row_of r =
    record {
      kind = r.kind;
      pad = r.pad;
      first = r.first;
      second = r.second;
      third = r.third;
      fourth = r.fourth;
      fifth = r.fifth;
      sixth = r.sixth;
      seventh = r.seventh;
    }

-- a record of the book that the code read; its scores 32768 above their values
abbrev pub entry_of : Entry → LayoutEntry
entry_of e =
    record {
      student = e.student;
      workshop = e.workshop;
      student_score = biased e.student_score;
      workshop_score = biased e.workshop_score;
    }

-- the place of the pair's record, or how many records there are
abbrev pub pair_place : List ℕ → ℕ → ℕ → ℕ
pair_place case s w = or_end (row_count case) (first_bad (λ i. is_pair s w (row_at case i)) (row_count case))
