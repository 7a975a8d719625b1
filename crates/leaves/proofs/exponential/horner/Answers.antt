-- `leaves::exponential::horner` meets its contract. The invariant: the steps that are left, from the present p, give the whole.
use Rattle.std.proofs.Common.{◌≡◌, ℕ, zero, suc, ◌+◌, ◌-◌, ◌<◌, sym, refl, ◌∙◌, lt_irrefl, sub-one, arith}
use lib.Ieee.{Float, of_bits}
use Rattle.leaves.specs.Numbers.{◌⊕◌, ◌⊗◌, ◌⊘◌, count, one}
use Rattle.leaves.specs.Exp.{horner}
use Rattle.leaves.proofs.exponential.horner.Goals as goal

turn : (r : Float) (d k : ℕ) (p : Float) → 0 < k → horner r d (k - 1) (one ⊕ r ⊗ p ⊘ count (k + d)) ≡ horner r d k p
unfolding horner
turn r d zero p h = absurd (lt_irrefl 0 h)
turn r d (suc n) p h = rw sub-one

end : (r : Float) (d k : ℕ) (p : Float) → k < 1 → horner r d k p ≡ p
unfolding horner
end r d zero p h = refl
end r d (suc k) p h = absurd (omega arith)

pub loop-k-init : goal.loop-k-init
unfolding of_bits
loop-k-init c = refl

pub loop-k-preserved : goal.loop-k-preserved
unfolding of_bits
loop-k-preserved c = turn c.args.r c.args.d c.loop-k.k c.loop-k.p c.loop-k-test.true ∙ c.loop-k.invariant

pub returns : goal.returns
returns c = sym (end c.args.r c.args.d c.loop-k.k c.loop-k.p c.loop-k-test.false) ∙ c.loop-k.invariant
