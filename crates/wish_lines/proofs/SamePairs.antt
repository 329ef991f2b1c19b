-- What a text is read as goes by the students and the pairs alone: two markets that have the same of both read the same lines.
use Prim.Native.Nat.{ℕ, suc}
use mathlib.Core.Path.{◌≡◌, ap, ◌∙◌}
use mathlib.Core.Bool.{false}
use mathlib.Core.List.{List, [], ◌∷◌}
use Rattle.base.specs.Lists.{one}
use Rattle.lgs.specs.Market.{Market}
use Rattle.wish_lines.specs.Lines.{Line}
use Rattle.wish_lines.specs.Reading.{misnamed, read, read_lines, FitLines}
use Rattle.wish_lines.specs.Wishes.{Ranged}
use Rattle.wish_lines.proofs.Naming.{named_exactly}
use Rattle.wish_lines.proofs.Causes.{read_exactly}

module _ (M M' : Market) (R : Ranged M) (R' : Ranged M') (students : M.students ≡ M'.students)
    (pairs : (s w : ℕ) → M.paired s w ≡ M'.paired s w) where
  names_too : (l : Line) → misnamed M l ≡ false → misnamed M' l ≡ false
  names_too l e = (named_exactly M' R' l).1 (λ w low. (named_exactly M R l).0 e w low ∙ ap one (pairs l.student w))

  fit_too : (k : ℕ) (ls : List Line) → FitLines M k ls → FitLines M' k ls
  fit_too k [] f = tt
  fit_too k (l ∷ ls) f =
      (record { formed = f.0.formed; number = f.0.number; names = names_too l f.0.names }, fit_too (suc k) ls f.1)

  pub read_too : (t : List ℕ) (ls : List Line) → read_lines M t ≡ read ls → read_lines M' t ≡ read ls
  read_too t ls e = let r = (read_exactly M t ls).0 e in (read_exactly M' t ls).1 (r.0, r.1 ∙ students, fit_too 0 ls r.2)
