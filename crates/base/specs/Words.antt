-- 16-bit fields of a list of bytes, low byte first; signed ones are given 32768 above their value.
use Rattle.std.specs.Prelude.{ℕ, suc, ◌+◌, ◌-◌, ◌*◌, ◌%◌, List, get_or, ℤ, pos, negsuc}

-- a 16-bit field, low byte first
unfoldable pub word : List ℕ → ℕ → ℕ
word bytes at = get_or bytes at 0 + 256 * get_or bytes (suc at) 0

-- a signed 16-bit field, 32768 above its value, so that the order is that of natural numbers: -1 is stored as 65535 and gives 32767
unfoldable pub signed : List ℕ → ℕ → ℕ
signed bytes at = (word bytes at + 32768) % 65536

-- an integer of 16 bits, 32768 above its value
unfoldable pub biased : ℤ → ℕ
biased (pos n) = 32768 + n
biased (negsuc n) = 32767 - n
