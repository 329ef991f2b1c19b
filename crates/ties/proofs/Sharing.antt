-- The first pass over a student's records: their slots are met one after the other, and while none is met twice no two of them tie.
use Prim.Native.Nat.{ℕ, ◌+◌, ◌-◌, ◌*◌, ◌≤◌, ◌<◌}
use mathlib.Core.Path.{◌≡◌}
use mathlib.Core.Bool.{false}
use mathlib.Core.List.{List, [], ◌∷◌, ◌++◌}
use native.Mathlib.Omega.{arith}
use lib.ListN.{get_or}
use Rattle.std.specs.Prelude.{Some, None}
use Rattle.base.specs.Bits.{Met}
use Rattle.format.specs.Layout.{row_at, entry_count, entry_at}
use Rattle.tables.specs.Table.{Stretch}
use Rattle.ties.specs.declared.Keyed.{Keyed}
use Rattle.ties.specs.Ties.{Indexed, tested, Lowered}
use Rattle.ties.specs.Seen.{Marked, slot_of}
use Rattle.ties.proofs.Seeing.{marked_none, marked_on, unmet_new}
use Rattle.ties.proofs.Lowering.{by_none_lem}
use Rattle.ties.proofs.Interviews.{place_of, entry_within}
use Rattle.ties.proofs.Gathering.{Gathered, Before, gather_start, before_start, turn_skip, turn_on_lem, before_all}

-- the records of student s that count, as far as their pairs stand before p: their slots are met, and no two of them tie
pub record Apart (case book : List ℕ) (s p : ℕ) (seen : List ℕ) : Type 0 where
  pub noted : List Keyed
  pub gathered : Gathered case book s p noted
  pub marked : Marked (slot_of 128 16) noted seen
  pub untied : (low : ℕ) → Lowered case book (Before case book s p) low low

module _ {case book index : List ℕ} {first : ℕ} (I : Indexed case book index first) {s begin many : ℕ} (S : Stretch case s begin many) where
  pub apart_start : (seen : List ℕ) → Apart case book s begin seen
  apart_start seen =
      record {
        noted = [];
        gathered = gather_start from;
        marked = marked_none (slot_of 128 16) seen;
        untied = before_start from;
      }
    where
      from : (i : ℕ) → i < entry_count book → (entry_at book i).student ≡ s → begin ≤ place_of case book i
      from i l e = (entry_within I S i l e).0

  pub apart_all : {p : ℕ} {seen : List ℕ} → begin + many ≤ p → Apart case book s p seen → (low : ℕ)
      → Lowered case book (λ i j. (entry_at book i).student ≡ s) low low
  apart_all u h low =
      before_all (λ i l e. omega (arith, (entry_within I S i l e).1)) (h.untied low)

  -- ---- a turn: her pair record p
  module _ {p : ℕ} (from : begin ≤ p) (to : p < begin + many) {seen : List ℕ} (h : Apart case book s p seen) where
    pub apart_skip : tested book (get_or index (p - first) 0) ≡ None → Apart case book s (p + 1) seen
    apart_skip z =
        record { noted = h.noted; gathered = (turn 0).0; marked = h.marked; untied = λ low. (turn low).1 }
      where
        turn : (low : ℕ) → Gathered case book s (p + 1) h.noted × Lowered case book (Before case book s (p + 1)) low low
        turn low = turn_skip I S from to h.gathered (h.untied low) z

    -- its slot was not met
    pub apart_on : (this : Keyed) → tested book (get_or index (p - first) 0) ≡ Some this.entry
        → this.key ≡ (row_at case p).third * 65536 + (entry_at book this.entry).student_score → {after : List ℕ}
        → Met seen after (slot_of 128 16 this.key) false → Apart case book s (p + 1) after
    apart_on this e c t =
        record {
          noted = h.noted ++ this ∷ [];
          gathered = (turn 0).0;
          marked = marked_on (slot_of 128 16) h.marked this t;
          untied = λ low. (turn low).1;
        }
      where
        turn : (low : ℕ) → Gathered case book s (p + 1) (h.noted ++ this ∷ []) × Lowered case book (Before case book s (p + 1)) low low
        turn low =
            turn_on_lem I S from to h.gathered (h.untied low) this e c (by_none_lem low (unmet_new (slot_of 128 16) h.marked this t))
