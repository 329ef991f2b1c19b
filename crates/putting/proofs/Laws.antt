-- Texts put one after the other: two steps are one, of the joined text. A buffer with room for a text gets all of it.
use Prim.Native.Nat.{ℕ, suc, ◌+◌, ◌-◌, ◌≤◌, ◌<◌, min}
use mathlib.Core.Path.{◌≡◌, refl, sym, ap, ◌∙◌}
use mathlib.Core.List.{List, [], ◌∷◌, ◌++◌, append_assoc}
use mathlib.Core.Logic.{⊎_elim}
use native.Mathlib.Omega.{arith}
use native.Mathlib.Nat.{min-eq_left, min-eq_right, min-le_right}
use lib.ListN.{length, take, drop, length-append, length-take, drop_of_length-le}
use lib.Seq.{sets, sets-eq, length-sets, set_out, take-append_seam, length-take-le}
use Rattle.std.proofs.lemmas.List.{take-append-drop, drop-drop}
use Rattle.base.proofs.Tests.{less?}
use Rattle.format.specs.Printed.{Whole}
use Rattle.putting.specs.Put.{Put}

-- text past the buffer's end is cut off
beyond : (t : List ℕ) (at : ℕ) (out : List ℕ) → length out ≤ at → sets out at t ≡ out
beyond [] at out l = refl
beyond (b ∷ t) at out l = ap (λ (o : List ℕ). sets o (suc at) t) (set_out out at b l) ∙ beyond t (suc at) out (omega arith)

sets_append : (t u : List ℕ) (at : ℕ) (out : List ℕ) → sets (sets out at t) (at + length t) u ≡ sets out at (t ++ u)
sets_append [] u at out = ap (λ (k : ℕ). sets out k u) (omega arith)
sets_append (b ∷ t) u at out =
    ap (λ (k : ℕ). sets (sets (lib.ListN.set out at b) (suc at) t) k u) (omega arith) ∙ sets_append t u (suc at) (lib.ListN.set out at b)

-- nothing is put
pub put_none : (at : ℕ) (out : List ℕ) → at ≤ length out → Put [] at out out at
put_none at out l = record { buffer = refl; reach = sym (min-eq_left (omega arith)) ∙ ap (λ (k : ℕ). min k (length out)) (omega arith) }

module _ {t u : List ℕ} {at end end' : ℕ} {out mid after : List ℕ} (l : at ≤ length out) (p : Put t at out mid end)
    (q : Put u end mid after end') where
  mid_length : length mid ≡ length out
  mid_length = ap length p.buffer ∙ length-sets out at t

  -- what follows is put where the first text ends
  pub put_then : Put (t ++ u) at out after end'
  put_then = ⊎_elim fits past (less? (length out) (at + length t))
    where
      past : at + length t ≤ length out → Put (t ++ u) at out after end'
      past le =
          let e : end ≡ at + length t = p.reach ∙ min-eq_left le in
          record {
            buffer = q.buffer ∙ rw (p.buffer, e) (sets_append t u at out);
            reach = q.reach ∙ rw (mid_length, e) (ap (λ (k : ℕ). min k (length out)) (omega (arith, length-append t u)));
          }

      fits : length out < at + length t → Put (t ++ u) at out after end'
      fits lt =
          let e : end ≡ length out = p.reach ∙ min-eq_right (omega arith) in
          record {
            buffer = q.buffer
                ∙ (beyond u end mid (omega (arith, mid_length))
                ∙ (p.buffer
                ∙ (sym (beyond u (at + length t) (sets out at t) (omega (arith, length-sets out at t))) ∙ sets_append t u at out)));
            reach = q.reach ∙ rw (mid_length, e) (min-eq_right (omega arith) ∙ sym (min-eq_right (omega (arith, length-append t u))));
          }

-- how far a text reaches: not past the buffer's end
pub put_within : {t : List ℕ} {at end : ℕ} {out after : List ℕ} → Put t at out after end → end ≤ length after
put_within {t} {at} {end} {out} {after} p =
    let e : length after ≡ length out = ap length p.buffer ∙ length-sets out at t in
    ⊎_elim (λ (l : length out < at + length t). let r : end ≡ length out = p.reach ∙ min-eq_right (omega arith) in omega arith)
    (λ (l : at + length t ≤ length out). let r : end ≡ at + length t = p.reach ∙ min-eq_left l in omega arith)
    (less? (length out) (at + length t))

pub put_length : {t : List ℕ} {at end : ℕ} {out after : List ℕ} → Put t at out after end → length after ≡ length out
put_length {t} {at} {end} {out} {after} p = ap length p.buffer ∙ length-sets out at t

-- one byte, where it fits and where not
pub put_fits : (b at : ℕ) (out : List ℕ) → at < length out → Put (b ∷ []) at out (lib.ListN.set out at b) (at + 1)
put_fits b at out l = record { buffer = refl; reach = sym (min-eq_left (omega arith)) }

pub put_past : (b at : ℕ) (out : List ℕ) → at ≤ length out → length out ≤ at → Put (b ∷ []) at out out at
put_past b at out l m =
    record { buffer = sym (beyond (b ∷ []) at out m); reach = omega (arith, min-eq_right {n = length out} {m = at + 1} (omega arith)) }

-- a text that the buffer has room for stands there whole
pub put_whole : {t : List ℕ} {end : ℕ} {out after : List ℕ} → Put t 0 out after end → length t ≤ length out → Whole t after end
put_whole {t} {end} {out} {after} p l =
    let e : end ≡ length t = p.reach ∙ (min-eq_left (omega arith) ∙ omega arith) in
    record {
      long = e;
      bytes = rw (e, p.buffer, sets-eq t out 0 (omega arith)) (take-append_seam t (drop (0 + length t) out));
    }

-- for a contract that promises both
pub put_both : {t : List ℕ} {end bound : ℕ} {out after : List ℕ} → Put t 0 out after end → length t ≤ bound
    → Put t 0 out after end × (bound ≤ length out → Whole t after end)
put_both p l = (p, λ h. put_whole p (omega arith))

-- it ends within the buffer
pub whole_within : {t : List ℕ} {end : ℕ} {out : List ℕ} → Whole t out end → end ≤ length out
whole_within {t} {end} {out} p = omega (arith, p.long, ap length p.bytes, length-take end out, min-le_right end (length out))

-- the part of a text that is put: all of it, or as much as fits
pub put_part : (text out : List ℕ) (at n : ℕ) → at ≤ length out → n ≡ min (length text) (length out - at)
    → Put text at out (take at out ++ (take n text ++ drop n (drop at out))) (at + n)
put_part text out at n l e = record { buffer = sym (cut ∙ (sets-eq (take n text) out at fits ∙ joined)); reach = omega (arith, e) }
  where
    small : n ≤ length text
    small = omega (arith, e)

    long : length (take n text) ≡ n
    long = length-take-le n text small

    fits : at + length (take n text) ≤ length out
    fits = omega (arith, e, long)

    joined : take at out ++ take n text ++ drop (at + length (take n text)) out ≡ take at out ++ (take n text ++ drop n (drop at out))
    joined = append_assoc (take at out) (take n text) _ ∙ ap (λ t. take at out ++ (take n text ++ t)) (rw long (sym (drop-drop n at out)))

    rest : sets (sets out at (take n text)) (at + length (take n text)) (drop n text) ≡ sets out at (take n text)
    rest =
        ⊎_elim (λ (s : n < length text). beyond (drop n text) _ _ (omega (arith, e, long, length-sets out at (take n text))))
        (λ (s : length text ≤ n). ap (λ t. sets (sets out at (take n text)) (at + length (take n text)) t) (drop_of_length-le text s))
        (less? n (length text))

    cut : sets out at text ≡ sets out at (take n text)
    cut = ap (λ t. sets out at t) (sym (take-append-drop n text)) ∙ (sym (sets_append (take n text) (drop n text) at out) ∙ rest)
