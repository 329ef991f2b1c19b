-- The number of the book's records, by a shift.
use mathlib.Core.Path.{sym}
use native.Mathlib.Omega.{arith}
use Rattle.base.proofs.Digits.{shifted_is, shifted_bit}
use Rattle.format.specs.Promises.{ShiftCounts}

pub shift_counts : ShiftCounts
shift_counts = record { digits = λ len i. shifted_bit len 3 i; quotient = λ len. sym (shifted_is len 3); down = λ len. omega (arith, shifted_is len 3) }
