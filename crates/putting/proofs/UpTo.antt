-- A text of which a loop has put some: up to what is left of it.
use Prim.Native.Nat.{ℕ, ◌+◌, ◌≤◌}
use mathlib.Core.Path.{◌≡◌, sym, ap, ◌∙◌}
use mathlib.Core.List.{List, [], ◌++◌, append_assoc, append-nil}
use native.Mathlib.Omega.{arith}
use native.Mathlib.Nat.{min-eq_left}
use lib.ListN.{length, drop}
use lib.Seq.{sets-eq}
use Rattle.format.specs.Buffers.{with_head}
use Rattle.putting.specs.Put.{Put}
use Rattle.putting.proofs.Laws.{put_then, put_within, put_length}

-- the text `whole` is put, but for `rest`
pub record PutUpTo (whole rest : List ℕ) (at : ℕ) (out after : List ℕ) (end : ℕ) : Type 0 where
  pub done : List ℕ
  pub put : Put done at out after end
  pub same : done ++ rest ≡ whole

module _ {rest : List ℕ} {at end : ℕ} {out after : List ℕ} where
  pub upto_start : {t whole : List ℕ} → Put t at out after end → t ++ rest ≡ whole → PutUpTo whole rest at out after end
  upto_start {t} p e = record { done = t; put = p; same = e }

  pub upto_within : {whole : List ℕ} → PutUpTo whole rest at out after end → end ≤ length after
  upto_within p = put_within p.put

  pub upto_length : {whole : List ℕ} → PutUpTo whole rest at out after end → length after ≡ length out
  upto_length p = put_length p.put

  pub upto_end : {whole : List ℕ} → rest ≡ [] → PutUpTo whole rest at out after end → Put whole at out after end
  upto_end e p = rw (sym (append-nil p.done) ∙ (ap (λ (r : List ℕ). p.done ++ r) (sym e) ∙ p.same)) at p.put

-- one text more
pub upto_on : {t left rest whole : List ℕ} {at mid end : ℕ} {out between after : List ℕ}
    → at ≤ length out
    → left ≡ t ++ rest
    → PutUpTo whole left at out between mid
    → Put t mid between after end
    → PutUpTo whole rest at out after end
upto_on {t} {left} {rest} {whole} l e p q =
    record {
      done = p.done ++ t;
      put = put_then l p.put q;
      same = append_assoc p.done t rest ∙ (ap (λ (r : List ℕ). p.done ++ r) (sym e) ∙ p.same);
    }

-- a text that the buffer has room for is the buffer's new head
pub put_head : {t : List ℕ} {end : ℕ} {out after : List ℕ} → Put t 0 out after end → length t ≤ length out → (end ≡ length t) × (after ≡ with_head t out)
put_head {t} {end} {out} {after} p l =
    let e : 0 + length t ≡ length t = omega arith in
    (p.reach ∙ (min-eq_left (omega arith) ∙ e), p.buffer ∙ (sets-eq t out 0 (omega arith) ∙ ap (λ (n : ℕ). t ++ drop n out) e))
