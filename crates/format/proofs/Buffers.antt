-- What an answer leaves in lent buffers of the room's lengths: their lengths, and the entries past the needed ones, are as they were.
-- A head no longer than the buffer replaces as many entries, and the heads of an answer are no longer than needed.
use Prim.Native.Nat.{ℕ, ◌+◌, ◌*◌, ◌≤◌, ◌-◌}
use mathlib.Core.Path.{◌≡◌, refl, sym, ap}
use mathlib.Core.Bool.{false}
use mathlib.Core.List.{List, [], ◌∷◌}
use native.Mathlib.Omega.{arith}
use lib.Dec.{ltb}
use lib.ListN.{length, get_or, drop, length-append, length-drop}
use lib.Seq.{get_or-append-add, get_or-drop}
use borrow.Author.Tests.{ltb-false}
use Rattle.base.proofs.Tests.{or_false, is_false}
use Rattle.lgs.specs.Rule.{Interview}
use Rattle.format.specs.Layout.{rows}
use Rattle.format.specs.Refusals.{Room, bad_room, needed}
use Rattle.format.specs.Engine.{placed, next, refused, engine, Outcome}
use Rattle.format.specs.Buffers.{flat, with_head, places_after, visits_after}
use Rattle.format.specs.Promises.{Valid, interviews_of, Kept, BuffersKept}
use Rattle.format.proofs.Causes.{room_passes}
use Rattle.format.proofs.Runs.{when_placed_lem, when_next_lem}
use Rattle.format.proofs.Promises.{heads_fit}

-- ---- one list
module _ (new old : List ℕ) where
  pub head_length : length new ≤ length old → length (with_head new old) ≡ length old
  head_length fits = omega (arith, length-append new (drop (length new) old), length-drop (length new) old)

  -- past the head the list is the old one
  pub past_head : (i : ℕ) → length new ≤ i → get_or (with_head new old) i 0 ≡ get_or old i 0
  past_head i l =
      let e : i ≡ length new + (i - length new) = omega arith in
      rw (
        ap (λ k. get_or (with_head new old) k 0) e,
        get_or-append-add new (drop (length new) old) (i - length new) 0,
        get_or-drop (length new) old
            (i - length new) 0,
      )
      (ap (λ k. get_or old k 0) (sym e))

pub flat_length : (vs : List Interview) → length (flat vs) ≡ 2 * length vs
unfolding flat
flat_length [] = refl
flat_length (v ∷ vs) = omega (arith, flat_length vs)

-- ---- the lent buffers

module _ (case book : List ℕ) (room : Room) where
  -- where nothing is refused the room is enough
  enough : Valid case book room → ((needed (rows case)).places ≤ room.places) × ((needed (rows case)).visits ≤ room.visits)
  unfolding bad_room
  enough valid =
      let r : (ltb room.places (needed (rows case)).places ≡ false) × (_ ≡ false) =
      or_false (ltb room.places (needed (rows case)).places) _ (is_false (bad_room (rows case) room) (room_passes case book room valid)) in
      (ltb-false _ _ r.0, ltb-false _ _ (or_false (ltb room.visits (needed (rows case)).visits) _ r.1).0)

  kept : (places visits : List ℕ) → length places ≡ room.places → length visits ≡ room.visits
      → Kept (engine case book room) (needed (rows case)).places places visits
  unfolding places_after visits_after
  kept places visits p v = by_answer (engine case book room) refl (heads_fit.anyway case book room)
    where
      by_answer : (a : Outcome) → engine case book room ≡ a → 2 * length (interviews_of (engine case book room)) ≤ (needed (rows case)).visits
          → Kept a (needed (rows case)).places places visits
      by_answer (placed l vs fares) e fits =
          let r : ((needed (rows case)).places ≤ room.places) × ((needed (rows case)).visits ≤ room.visits) =
          enough (when_placed_lem case book room l vs fares e).valid in
          let n : length l ≤ (needed (rows case)).places = heads_fit.when_placed case book room l vs fares e in
          let m : 2 * length vs ≤ (needed (rows case)).visits = rw e at fits in
          let k : length (flat vs) ≡ 2 * length vs = flat_length vs in
          record {
            places_length = head_length l places (omega arith);
            places_past = λ i u. past_head l places i (omega arith);
            visits_length = head_length (flat vs) visits (omega arith);
            visits_past = λ i u. past_head (flat vs) visits i (omega arith);
          }
      by_answer (next s w vs fares) e fits =
          let r : ((needed (rows case)).places ≤ room.places) × ((needed (rows case)).visits ≤ room.visits) =
          enough (when_next_lem case book room s w vs fares e).valid in
          let m : 2 * length vs ≤ (needed (rows case)).visits = rw e at fits in
          let k : length (flat vs) ≡ 2 * length vs = flat_length vs in
          record {
            places_length = refl;
            places_past = λ i u. refl;
            visits_length = head_length (flat vs) visits (omega arith);
            visits_past = λ i u. past_head (flat vs) visits i (omega arith);
          }
      by_answer (refused k i) e fits = record { places_length = refl; places_past = λ i u. refl; visits_length = refl; visits_past = λ i u. refl }

pub buffers_kept : BuffersKept
buffers_kept = kept
