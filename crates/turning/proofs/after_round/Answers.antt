-- `turning::after_round` meets its contract. By whether an interview is missing.
use Rattle.turning.proofs.Turns.{round_over, round_stopped}
use Rattle.turning.proofs.after_round.Goals as goal

pub returns-in-None : goal.returns-in-None
returns-in-None c = λ M B o e. round_over M B c.args.run c.args.round o e c.in-None.is

pub returns-in-Some : goal.returns-in-Some
returns-in-Some c = λ M B o e. round_stopped M B c.args.run c.args.round o e c.in-Some.workshop c.in-Some.is
