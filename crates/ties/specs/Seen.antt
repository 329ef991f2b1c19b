-- The slots of a key, and those that are met.
use Rattle.std.specs.Prelude.{ℕ, ◌+◌, ◌*◌, ◌/◌, ◌%◌, ◌<◌, ◌≡◌, true, List, length, get_or}
use Rattle.base.specs.Bits.{met_in}
use Rattle.ties.specs.declared.Keyed.{Keyed}
use Rattle.ties.specs.Ties.{blank}

-- a key's slot, one of 64 * span. With 64 and 1 the 2001 scores of a tier have slots of their own, and equal scores of 64 tiers do; with 128 and 16, in the
-- first pass, the scores of four tiers have slots of their own
abbrev pub slot_of : ℕ → ℕ → ℕ → ℕ
slot_of span step key = key % span * 64 + (key / 65536 * step + key % 2048 / span) % 64

-- the slots of these records' keys are met
pub record Marked (slot : ℕ → ℕ) (noted : List Keyed) (seen : List ℕ) : Type 0 where
  pub marked : (j : ℕ) → j < length noted → met_in seen (slot (get_or noted j blank).key) ≡ true
