-- What the code reads of a line, item by item, as the reader of `wish_lines` does byte by byte. Numbers are kept up to 1,000.
use Rattle.std.specs.Prelude.{ℕ, suc, ◌+◌, ◌-◌, ◌≤◌, ◌<◌, min, ◌≡◌, Bool, true, false, cond, ◌&&◌, eqb, ltb}
use Rattle.std.specs.Prelude.{List, [], ◌∷◌, ◌++◌, length, drop, get_or, Option, Some, None}
use Rattle.wish_lines.specs.Reading.{State, Parsed, scan, is_digit, is_first, with_digit, start, group, inside}
use Rattle.line_reader.specs.declared.Number.{Number}
use Rattle.line_reader.specs.declared.Next.{Next}
use Rattle.line_reader.specs.declared.Next.TheVariants.{Item, Group, End}
use Rattle.line_reader.specs.declared.Turn.{Turn}

abbrev pub cap : ℕ → ℕ
cap x = min x 1000

-- a group's number as the code has it: a line that fits has at most 65
abbrev pub cap_group : ℕ → ℕ
cap_group x = min x 200

-- the byte b stands at place i
abbrev pub stands_at : List ℕ → ℕ → ℕ → Bool
stands_at text i b = ltb i (length text) && eqb (get_or text i 0) b

-- ---- Numbers and items.

-- how many digits the text begins with
unfoldable pub digits_in : List ℕ → ℕ
digits_in [] = 0
digits_in (b ∷ t) = cond (is_digit b) (suc (digits_in t)) 0

-- the number x, and then these digits
unfoldable pub extended : ℕ → List ℕ → ℕ
extended x [] = x
extended x (b ∷ t) = cond (is_digit b) (extended (with_digit x b) t) x

-- the number that the text begins with, and how many bytes it has
abbrev pub number_in : List ℕ → Option (ℕ × ℕ)
number_in [] = None
number_in (b ∷ t) = cond (is_first b) (Some (extended (b - 48) t, suc (digits_in t))) None

-- the same of an item: 0 is none
abbrev pub item_in : List ℕ → Option (ℕ × ℕ)
item_in [] = None
item_in (b ∷ t) = cond (eqb b 45) (Some (0, 1)) (number_in (b ∷ t))

-- what the code makes of one that begins at place i
abbrev pub shown : ℕ → Option (ℕ × ℕ) → Option Number
shown i None = None
shown i (Some (x, n)) = Some (record { value = cap x; end = i + n })

-- ---- The student's number, and the colon and the blank.

abbrev pub Headed : List ℕ → ℕ → Option Number → Type 0
Headed text from None = scan (drop from text) start ≡ None
Headed text from (Some r) =
    (s : ℕ) × (r.value ≡ cap s) × (scan (drop from text) start ≡ scan (drop r.end text) (group s [])) × (r.end ≤ length text)

-- ---- One item, with the braces and the comma or the line feed around it.

abbrev pub made : ℕ → Next → ℕ → Option Turn
made x n e = Some (record { value = x; next = n; end = e })

abbrev pub behind_group : List ℕ → ℕ → ℕ → Option Turn
behind_group text x i = cond (stands_at text i 44) (made x Group (i + 1)) (cond (stands_at text i 10) (made x End (i + 1)) None)

-- in braces the item has been read
abbrev pub in_braces : List ℕ → Bool → Option Number → Option Turn
in_braces text more None = None
in_braces text more (Some n) =
    cond (stands_at text n.end 44) (made n.value Item (n.end + 1))
    (cond (more && stands_at text n.end 125) (behind_group text n.value (n.end + 1)) None)

-- before an item: in braces behind the items xs, or where a group must begin
abbrev pub before : Bool → ℕ → List (List ℕ) → List ℕ → State
before true s gs xs = inside s gs xs
before false s gs xs = group s gs

abbrev pub Open : Bool → List ℕ → Type 0
Open true xs = 0 < length xs
Open false xs = xs ≡ []

-- how the line is read on behind the group's items xs, by what follows them: the text goes on with t
abbrev pub after : Next → List ℕ → ℕ → List (List ℕ) → List ℕ → Parsed
after Item t s gs xs = scan t (inside s gs xs)
after Group t s gs xs = scan t (group s (gs ++ (xs ∷ [])))
after End t s gs xs = Some (record { student = s; groups = gs ++ (xs ∷ []) }, t)

-- every state before an item reads the text from place i on as p says
abbrev pub Each : List ℕ → ℕ → Bool → (ℕ → List (List ℕ) → List ℕ → Parsed) → Type 0
Each text i within p = (s : ℕ) (gs : List (List ℕ)) (xs : List ℕ) → Open within xs → scan (drop i text) (before within s gs xs) ≡ p s gs xs

-- the line departs, or r is the item x, and says what follows
abbrev pub Turned : List ℕ → ℕ → Bool → Option Turn → Type 0
Turned text i within None = Each text i within (λ s gs xs. None)
Turned text i within (Some r) =
    (x : ℕ) × (r.value ≡ cap x) × (i < r.end) × (r.end ≤ length text)
    × Each text i within (λ s gs xs. after r.next (drop r.end text) s gs (xs ++ (x ∷ [])))
