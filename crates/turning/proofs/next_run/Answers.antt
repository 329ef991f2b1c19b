-- `turning::next_run` meets its contract: a clean case has its students in order.
use Rattle.turning.proofs.Next.{ordered}
use Rattle.turning.proofs.next_run.Goals as goal

pub next_student-requires-clause-ordered : goal.next_student-requires-clause-ordered
next_student-requires-clause-ordered c = ordered c.args.input.now.clean
