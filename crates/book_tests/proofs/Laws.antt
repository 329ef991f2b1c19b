-- Records of the book by their places.
use Prim.Native.Nat.{ℕ, ◌<◌}
use mathlib.Core.Path.{◌≡◌}
use mathlib.Core.List.{List}
use lib.ListN.{get_or}
use Rattle.base.proofs.Below.{tabulate_at}
use Rattle.format.specs.Layout.{entry_at, entries, entry_count, no_entry}

pub entry_is : (book : List ℕ) (i : ℕ) → i < entry_count book → get_or (entries book) i no_entry ≡ entry_at book i
unfolding entries
entry_is book i l = tabulate_at (entry_at book) (entry_count book) i no_entry l
