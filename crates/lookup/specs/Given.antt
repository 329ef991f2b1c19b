-- The market and the results that a run is given.
use Rattle.lgs.specs.Market.{Market, Results}
use Rattle.format.specs.Engine.{market_in, results_in}
use Rattle.lookup.specs.declared.Input.{Input}

abbrev pub market_of : Input → Market
market_of input = market_in input.table.case.now

abbrev pub results_of : Input → Results
results_of input = results_in input.book.now
