use lib.ListN.{length}
use Rattle.leaves.proofs.Invariants.{Filled}
use Rattle.prices.specs.Stored.{return_at}
use Rattle.prices.proofs.returns.write_returns.Given as goal

abbrev pub invariant-loop-k : goal.invariant-loop-k
invariant-loop-k l = Filled (return_at l.prices l.n) l.k (length l.initial.out) l.initial.out l.out
