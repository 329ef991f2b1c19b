-- `records::good_score` meets its contract. Each return by the tests that led there.
use Rattle.records.proofs.Laws.{score_low, score_high, score_within}
use Rattle.records.proofs.good_score.Goals as goal

pub returns-then-a-ltminus1000 : goal.returns-then-a-ltminus1000
returns-then-a-ltminus1000 c = score_low c.args.a c.ranges.a c.if-a-ltminus1000.true

pub returns-then-a-gt1000 : goal.returns-then-a-gt1000
returns-then-a-gt1000 c = score_high c.args.a c.ranges.a c.if-a-gt1000.true

pub returns : goal.returns
returns c = score_within c.args.a c.ranges.a c.if-a-ltminus1000.false c.if-a-gt1000.false
