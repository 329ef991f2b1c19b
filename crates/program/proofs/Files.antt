-- What is printed for the two files, by what was read of each.
use Prim.Native.Nat.{ℕ, ◌≤◌, ◌<◌}
use mathlib.Core.Path.{◌≡◌, refl, ap, ◌∙◌}
use mathlib.Core.List.{List}
use Rattle.std.specs.Prelude.{Option, Some, None}
use mathlib.Core.Logic.{⊎_elim}
use native.Mathlib.Omega.{arith}
use borrow.Author.Tests.{lt-ltb}
use lib.ListN.{length, take}
use lib.Seq.{length-take-le, take_all}
use Rattle.base.proofs.Tests.{less?}
use Rattle.format.specs.Engine.{engine}
use Rattle.format.specs.Printed.{printed, unread, program_text, program_prints, program_room, readable}
use Rattle.program.specs.Files.{FileRead, file_of, ReadOf, FilesPrinted}

-- "if one is missing or longer it prints only `unread`"
no_book : (case : Option (List ℕ)) → program_text case None ≡ unread
no_book None = refl
no_book (Some case) = refl

module _ (casefile bookfile : Option (List ℕ)) where
  pub case_unread : readable casefile ≡ None → program_prints casefile bookfile ≡ unread
  unfolding program_prints
  case_unread e = rw e

  pub book_unread : readable bookfile ≡ None → program_prints casefile bookfile ≡ unread
  unfolding program_prints
  book_unread e = rw e (no_book (readable casefile))

  pub both_read : (case book : List ℕ) → readable casefile ≡ Some case → readable bookfile ≡ Some book
      → program_prints casefile bookfile ≡ printed (engine case book program_room)
  unfolding program_prints
  both_read case book e f = rw (e, f)

-- a file that is cut after more than 65,536 bytes counts as the whole one
cut_same : (n : ℕ) (file : List ℕ) → 65536 < n → readable (Some (take n file)) ≡ readable (Some file)
cut_same n file l =
    ⊎_elim (λ (m : length file < n). ap (λ (f : List ℕ). readable (Some f)) (take_all n file (omega arith)))
    (λ (m : n ≤ length file).
    let e : length (take n file) ≡ n = length-take-le n file m in
    rw (lt-ltb 65536 (length (take n file)) (omega arith), lt-ltb 65536 (length file) (omega arith)))
    (less? (length file) n)

same_readable : (file : Option (List ℕ)) (r : FileRead) (buffer : List ℕ) → ReadOf file r buffer → 65536 < length buffer
    → readable (file_of r buffer) ≡ readable file
same_readable (Some file) (Some n) buffer e l = ap (λ (f : List ℕ). readable (Some f)) e ∙ cut_same (length buffer) file l
same_readable (Some file) None buffer e l = absurd e
same_readable None (Some n) buffer e l = absurd e
same_readable None None buffer e l = refl

-- what is printed for the bytes read is what is printed for the files
pub files_printed : FilesPrinted
unfolding program_prints
files_printed case book r s buffer buffer' u v l m = rw (same_readable case r buffer u l, same_readable book s buffer' v m)
