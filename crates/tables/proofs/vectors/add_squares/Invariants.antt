use Rattle.std.proofs.Common.{◌≡◌, ◌+◌, ◌≤◌, length}
use Rattle.leaves.specs.Numbers.{◌⊕◌, ◌⊗◌}
use Rattle.leaves.specs.Loops.{loop, nth}
use Rattle.leaves.proofs.Invariants.{Filled}
use Rattle.rules.specs.LedoitWolf.{distance²}
use Rattle.tables.specs.Rows.{stored}
use Rattle.tables.proofs.vectors.add_squares.Given as goal

abbrev pub invariant-loop-j : goal.invariant-loop-j
invariant-loop-j g l = (l.j ≤ g.row.K) × (l.v ≡ loop l.j (λ j v. v ⊕ distance² (nth l.a j ⊗ stored l.d j (l.from + l.k)) l.m) (nth l.out l.k))

abbrev pub invariant-loop-k : goal.invariant-loop-k
invariant-loop-k g l = Filled (λ k. loop g.row.K (λ j v. v ⊕ distance² (nth l.a j ⊗ stored l.d j (l.from + k)) (nth l.s (l.begin + k))) (nth l.initial.out k)) l.k (length l.initial.out) l.initial.out l.out
