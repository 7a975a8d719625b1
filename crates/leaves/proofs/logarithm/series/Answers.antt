-- `leaves::logarithm::series` meets its contract. The invariant: the steps that are left, from the present q, give the whole.
use Rattle.std.proofs.Common.{◌≡◌, ℕ, zero, suc, ◌+◌, ◌-◌, ◌*◌, ◌<◌, ◌≤◌, sym, refl, ◌∙◌, lt_irrefl, sub-one, arith}
use lib.Ieee.{Float, of_bits}
use Rattle.leaves.specs.Numbers.{◌⊕◌, ◌⊗◌, ◌⊘◌, count, one}
use Rattle.leaves.specs.Log.{series}
use Rattle.leaves.proofs.logarithm.series.Goals as goal

turn : (z : Float) (k : ℕ) (q : Float) → 0 < k → series z (k - 1) (one ⊘ count (2 * (k - 1) + 1) ⊕ z ⊗ q) ≡ series z k q
unfolding series
turn z zero q h = absurd (lt_irrefl 0 h)
turn z (suc n) q h = rw sub-one

end : (z : Float) (k : ℕ) (q : Float) → k ≤ 0 → series z k q ≡ q
unfolding series
end z zero q h = refl
end z (suc k) q h = absurd (omega arith)

pub loop-k-preserved : goal.loop-k-preserved
unfolding of_bits
loop-k-preserved c = turn c.args.z c.loop-k.k c.loop-k.q c.loop-k-test.true ∙ c.loop-k.invariant

pub returns : goal.returns
returns c = sym (end c.args.z c.loop-k.k c.loop-k.q c.loop-k-test.false) ∙ c.loop-k.invariant
