-- `seating::stays` meets its contract: a free seat is 0, and otherwise the two are compared.
use Rattle.format.specs.Engine.{market_in, results_in}
use Rattle.seating.specs.Seats.{Stands}
use Rattle.seating.proofs.Laws.{positive, before_by, stays_by, booked_student}
use Rattle.seating.proofs.stays.Goals as goal

pub ranks_before-requires : goal.ranks_before-requires
ranks_before-requires c =
    let y = c.requires.booked (positive c.args.y c.if-y-eq0.false) in
    let k = c.args.input.now.clean in
    (booked_student k c.requires.booked_2, booked_student k y)

pub returns : goal.returns
returns c =
    let a = c.args in
    let M = market_in a.input.now.table.case.now in
    let B = results_in a.input.now.book.now in
    let y = c.standing_of-other in
    let other : Stands M B a.w a.y y.result.tier y.result.score =
    record { tier = y.ensures.tier_value; score = y.ensures.score_value } in
    stays_by M B a.w a.x a.y c.ranks_before.result c.if-y-eq0.false
    (before_by M B a.w a.x a.y _ _ _ _ c.requires.stands other _ c.ranks_before.ensures)
