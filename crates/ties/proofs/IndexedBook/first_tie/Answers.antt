-- `ties::IndexedBook::first_tie` meets its contract. The invariant: `low` is lowered by the students before s.
use Prim.Native.Nat.{◌+◌, ◌≤◌, ◌<◌}
use mathlib.Core.Path.{◌≡◌, ◌∙◌}
use native.Mathlib.Omega.{arith}
use Rattle.format.specs.Layout.{entry_at, entry_count}
use Rattle.format.specs.Engine.{market_in}
use Rattle.case_tests.proofs.Cases.{few}
use Rattle.ties.specs.Ties.{Lowered}
use Rattle.ties.proofs.Gathering.{students_start, students_on, students_all}
use Rattle.ties.proofs.IndexedBook.first_tie.Goals as goal
use Rattle.ties.proofs.IndexedBook.first_tie.Goals.{Start, Joined-shares, then-shares, else-shares}
use Rattle.ties.proofs.IndexedBook.first_tie.Goals.{else-loop-s-test, then-loop-s-test+else-s-students}

-- how many there are
counted : (start : Start) → start.args.students ≤ 512
counted start =
    let market = market_in start.args.self.now.table.case.now in
    omega (arith, start.requires, few start.args.self.now.table.case.now market.students market.workshops start.args.self.now.indexed.sound)

pub loop-s-init : goal.loop-s-init
loop-s-init c =
    let book = c.args.self.now.book.now in
    let e : c.entry_count-end.result ≡ entry_count book = c.entry_count-end.ensures.1 in
    rw e (students_start c.args.self.now.indexed (entry_count book))

pub shares-requires : goal.shares-requires
shares-requires c = (omega arith, omega (arith, counted (goal.at.shares-requires c).Start))

pub tie_of-low-requires : goal.tie_of-low-requires
tie_of-low-requires c = (omega arith, omega (arith, counted (goal.at.tie_of-low-requires c).Start))

-- after student s
turn : (d : Joined-shares)
    → Lowered d.args.self.now.table.case.now d.args.self.now.book.now (λ i j. (entry_at d.args.self.now.book.now i).student < d.loop-s.s + 1)
    (entry_count d.args.self.now.book.now) d.if-shares.low
turn d =
    students_on d.args.self.now.indexed d.loop-s.s d.loop-s.invariant
    (elim d.if-shares.branch [
      | then-shares w ↦ rw w.low-is w.tie_of-low.ensures
      | else-shares w ↦ rw w.low-is (d.shares.ensures w.if-shares.false d.loop-s.low)
    ])

pub loop-s-preserved : goal.loop-s-preserved
loop-s-preserved c = turn (goal.at.loop-s-preserved c).Joined-shares

pub returns : goal.returns
returns c =
    let index = c.args.self.now.indexed in
    let case = c.args.self.now.table.case.now in
    let book = c.args.self.now.book.now in
    c.then_some.ensures
    ∙ rw c.entry_count-end.ensures.1
    (elim c.loop-s-test.branch [
      | else-loop-s-test w ↦ rw w.low-is (students_all index (omega (arith, w.loop-s-test, c.requires)) c.loop-s.invariant)
      | then-loop-s-test+else-s-students w ↦
          let turned : Lowered case book (λ i j. (entry_at book i).student < c.loop-s.s + 1) (entry_count book) w.if-shares.low =
          students_on index c.loop-s.s c.loop-s.invariant
          (elim w.if-shares.branch [
            | then-shares x ↦ rw x.low-is x.tie_of-low.ensures
            | else-shares x ↦ rw x.low-is (w.shares.ensures x.if-shares.false c.loop-s.low)
          ]) in
          rw w.low-is (students_all index (omega (arith, c.requires)) turned)
    ])
