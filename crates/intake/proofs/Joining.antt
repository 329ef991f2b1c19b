-- The table of causes from its parts, and the lengths that the case needs.
use Prim.Native.Nat.{ℕ, ◌*◌, ◌≤◌}
use mathlib.Core.Path.{◌≡◌, ◌∙◌}
use mathlib.Core.Bool.{true, false, ◌||◌}
use mathlib.Core.List.{List, ◌++◌}
use Rattle.std.specs.Prelude.{Some, None, Err}
use lib.ListN.{replicate}
use lib.Dec.{ltb}
use borrow.Author.Tests.{ltb-false}
use Rattle.base.proofs.Tests.{or_false}
use Rattle.lgs.specs.Market.{all_seats}
use Rattle.format.specs.Layout.{rows}
use Rattle.format.specs.Causes.{first_cause}
use Rattle.format.specs.Refusals.{Room, needed, bad_room, case_causes, room_causes, book_causes, causes, refusal}
use Rattle.format.specs.Engine.{market_in}
use Rattle.format.proofs.Causes.{first_left, first_right}
use Rattle.api.specs.declared.Refusal.{Refusal}
use Rattle.api.specs.Causes.{refusal_for}
use Rattle.case_tests.specs.Checked.{pair_count, case_refusal}
use Rattle.case_tests.proofs.Cases.{refused_as}
use Rattle.book_tests.specs.Index.{book_refusal}
use Rattle.intake.specs.Tested.{Tested}

module _ (case book : List ℕ) (room : Room) where
  pub refusal_case : (r : ℕ × ℕ) → case_refusal case ≡ Some r → refusal case book room ≡ Some r
  unfolding refusal causes
  refusal_case r e = first_left (case_causes case) (room_causes case room ++ book_causes case book) r e

  module _ (e : case_refusal case ≡ None) where
    pub refusal_room : bad_room (rows case) room ≡ true → refusal case book room ≡ Some (6, 0)
    unfolding refusal causes room_causes
    refusal_room b =
        first_right (case_causes case) (room_causes case room ++ book_causes case book) e
        ∙ first_left (room_causes case room) (book_causes case book) (6, 0) found
      where
        found : first_cause (room_causes case room) ≡ Some (6, 0)
        found = rw b

    pub refusal_book : bad_room (rows case) room ≡ false → refusal case book room ≡ book_refusal case book
    unfolding refusal causes room_causes
    refusal_book b =
        first_right (case_causes case) (room_causes case room ++ book_causes case book) e ∙ first_right (room_causes case room) (book_causes case book) found
      where
        found : first_cause (room_causes case room) ≡ None
        found = rw b

  -- a refusal, and the index zero with it
  pub refused_tested : {k i : ℕ} {r : Refusal} {index table : List ℕ} → refusal case book room ≡ Some (k, i)
      → r ≡ refusal_for k i → index ≡ replicate room.index 0
      → Tested case book room (Err r) index table
  refused_tested {k} {i} {r} e a b =
      record {
        answer = refused_as case (refusal case book room) k i r a e;
        left = rw e b;
        tabled = λ n. cc;
      }

-- the lengths that the case needs
pub room_is : (case : List ℕ) (r : Room) (n p q : ℕ) → n ≡ (market_in case).students → p ≡ pair_count case → q ≡ all_seats (market_in case)
    → bad_room (rows case) r ≡ (ltb r.places n || (ltb r.visits (2 * p) || (ltb r.seats q || (ltb r.index p || ltb r.states n))))
unfolding bad_room needed
room_is case r n p q a b d = rw (d, a, b)

-- an index long enough
pub room_index : (case : List ℕ) (r : Room) → bad_room (rows case) r ≡ false → pair_count case ≤ r.index
unfolding bad_room needed
room_index case r e =
    let a = (or_false (ltb r.places _) _ e).1 in
    let b = (or_false (ltb r.visits _) _ a).1 in
    let d = (or_false (ltb r.seats _) _ b).1 in
    ltb-false _ _ (or_false (ltb r.index (pair_count case)) _ d).0
