-- What the tests of a record say, what a search by them finds, and where a record's pair stands.
use Prim.Native.Nat.{ℕ, ◌<◌}
use mathlib.Core.Path.{◌≡◌, ap, ◌∙◌}
use mathlib.Core.Bool.{Bool, false, not, ◌||◌}
use mathlib.Core.List.{List}
use Rattle.base.specs.Words.{biased}
use Rattle.base.specs.Search.{first_bad}
use Rattle.base.proofs.Search.{scan_same}
use Rattle.format.specs.Layout.{rows, entries, entry_at, entry_count, market_of}
use Rattle.format.specs.Layout.{Entry as LayoutEntry}
use Rattle.format.specs.Engine.{market_in}
use Rattle.format.specs.Refusals.{bad_pair, bad_scores, bad_score}
use Rattle.records.specs.declared.Entry.{Entry}
use Rattle.records.specs.Records.{entry_of, pair_place}
use Rattle.case_tests.specs.Checked.{CleanCase}
use Rattle.book_tests.proofs.Laws.{entry_is}
use Rattle.book_tests.proofs.Indexing.{Placed, placed_of}

-- record i has no pair, or a bad score, by its own fields
abbrev pub unpaired : List ℕ → List ℕ → ℕ → Bool
unpaired case book i = not ((market_in case).paired (entry_at book i).student (entry_at book i).workshop)

abbrev pub unscored : List ℕ → ℕ → Bool
unscored book i = bad_score (entry_at book i).student_score || bad_score (entry_at book i).workshop_score

module _ (case book : List ℕ) where
  unpaired_at : (i : ℕ) → i < entry_count book → unpaired case book i ≡ bad_pair (rows case) (entries book) i
  unfolding bad_pair market_of
  unpaired_at i l = rw (entry_is book i l)

  unscored_at : (i : ℕ) → i < entry_count book → unscored book i ≡ bad_scores (rows case) (entries book) i
  unfolding bad_scores
  unscored_at i l = rw (entry_is book i l)

  pub first_unpaired : first_bad (unpaired case book) (entry_count book) ≡ first_bad (bad_pair (rows case) (entries book)) (entry_count book)
  first_unpaired = scan_same (unpaired case book) (bad_pair (rows case) (entries book)) (entry_count book) unpaired_at

  pub first_unscored : first_bad (unscored book) (entry_count book) ≡ first_bad (bad_scores (rows case) (entries book)) (entry_count book)
  first_unscored = scan_same (unscored book) (bad_scores (rows case) (entries book)) (entry_count book) unscored_at

  -- record i, as it was read
  module _ (i : ℕ) (l : i < entry_count book) (e : Entry) (q : entry_of e ≡ entry_at book i) where
    pub unpaired_is : not ((market_in case).paired e.student e.workshop) ≡ bad_pair (rows case) (entries book) i
    unpaired_is = ap (λ (x : LayoutEntry). not ((market_in case).paired x.student x.workshop)) q ∙ unpaired_at i l

    pub unscored_is : (bad_score (biased e.student_score) || bad_score (biased e.workshop_score)) ≡ bad_scores (rows case) (entries book) i
    unscored_is = ap (λ (x : LayoutEntry). bad_score x.student_score || bad_score x.workshop_score) q ∙ unscored_at i l

    -- the place of its pair
    pub located : (m k : ℕ) → CleanCase case m k → bad_pair (rows case) (entries book) i ≡ false → (p : ℕ) → p ≡ pair_place case e.student e.workshop
        → Placed case (entry_at book i).student (entry_at book i).workshop p
    located m k clean f p b =
        rw (b ∙ ap (λ (x : LayoutEntry). pair_place case x.student x.workshop) q)
        (placed_of case m k clean book i l f)
