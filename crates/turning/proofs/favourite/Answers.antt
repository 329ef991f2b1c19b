-- `turning::favourite` meets its contract. By whether the outside option is open, and where it is not by the set's lowest member and the rest.
use mathlib.Core.Path.{◌≡◌, sym, ◌∙◌}
use mathlib.Core.Logic.{⊎_elim}
use mathlib.Core.Bool.{true, false}
use native.Mathlib.Omega.{arith}
use Rattle.base.proofs.Tests.{bool_cases, and_left}
use Rattle.base.specs.Bits.{member}
use Rattle.format.specs.Engine.{market_in, results_in}
use Rattle.turning.proofs.Laws.{with_outside, none_open, some_open}
use Rattle.turning.proofs.favourite.Goals as goal

pub returns-then-set-eq0 : goal.returns-then-set-eq0
returns-then-set-eq0 c =
    let a = c.args in
    sym (none_open (market_in a.input.now.table.case.now) (results_in a.input.now.book.now) a.s a.set a.outside c.if-set-eq0.true)

pub best_of-requires-clause-le_s : goal.best_of-requires-clause-le_s
best_of-requires-clause-le_s c =
    let split = c.first_and_rest-start in
    let booked = c.requires.by_index in (
      c.requires.le_s.0,
      c.requires.le_s.1,
      λ l. ⊎_elim (λ e. absurd (omega (arith, split.ensures.first.0 e)))
          (λ e. booked split.result.0 (split.ensures.first.1 e).set) (bool_cases c.args.outside),
    )

pub best_of-requires-clause-by_index : goal.best_of-requires-clause-by_index
best_of-requires-clause-by_index c =
    let split = c.first_and_rest-start in
    let booked = c.requires.by_index in λ x m. ⊎_elim (λ e. booked x (rw (split.ensures.rest.0 e) at m))
    (λ e. booked x (and_left (member c.args.set x) _ (sym (split.ensures.rest.1 e x) ∙ m)))
    (bool_cases c.args.outside)

pub returns : goal.returns
returns c =
    let a = c.args in
    let M = market_in a.input.now.table.case.now in
    let B = results_in a.input.now.book.now in
    let split = c.first_and_rest-start in
    ⊎_elim
    (λ (e : a.outside ≡ true).
    rw (c.best_of.ensures, split.ensures.first.0 e, split.ensures.rest.0 e) (sym (with_outside M B a.s a.set a.outside e)))
    (λ (e : a.outside ≡ false). c.best_of.ensures ∙ sym
    (some_open M B a.s a.set a.outside split.result.0 split.result.1 e (split.ensures.first.1 e)
    (split.ensures.rest.1 e)))
    (bool_cases a.outside)
