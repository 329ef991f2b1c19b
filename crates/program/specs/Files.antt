-- Of which file the outcome of a reading tells.
use Rattle.std.specs.Prelude.{ℕ, ◌≤◌, ◌<◌, ◌≡◌, List, length, take, Option, Some, None, IfSome}
use Rattle.format.specs.Printed.{program_prints}

-- What came of reading a file into a buffer: so many bytes stand at its head, and they are the whole file where they do not fill the buffer; or none, where
-- the file is missing or cannot be read.
abbrev pub FileRead : Type 0
FileRead = Option ℕ

-- The file that was read into the buffer: none where it is missing or cannot be read. Of a file that fills the buffer these are its first bytes,
-- for which the program prints what it prints for the whole file (`FilesPrinted`).
abbrev pub file_of : FileRead → List ℕ → Option (List ℕ)
file_of (Some n) buffer = Some (take n buffer)
file_of None buffer = None

-- the buffer has the bytes that were read
abbrev pub Within : FileRead → List ℕ → Type 0
Within r buffer = IfSome r (λ n. n ≤ length buffer)

-- and it shows whether the file is longer than allowed
abbrev pub Shows : FileRead → List ℕ → Type 0
Shows r buffer = Within r buffer × (65536 < length buffer)

-- What is believed of a reading: the bytes read are the file's, as far as the buffer goes.
abbrev pub ReadOf : Option (List ℕ) → FileRead → List ℕ → Type 0
ReadOf (Some file) (Some n) buffer = take n buffer ≡ take (length buffer) file
ReadOf (Some file) None buffer = ⊥
ReadOf None (Some n) buffer = ⊥
ReadOf None None buffer = Unit {0}

-- Then what is printed for the bytes read is what is printed for the files (proved: `files_printed`).
abbrev pub FilesPrinted : Type 0
FilesPrinted =
    (case book : Option (List ℕ)) (r s : FileRead) (buffer buffer' : List ℕ)
    → ReadOf case r buffer
    → ReadOf book s buffer'
    → 65536 < length buffer
    → 65536 < length buffer'
    → program_prints (file_of r buffer) (file_of s buffer') ≡ program_prints case book
