-- `tables::rows::entries` meets its contract: each arm computes what `formed` says of its case.
use Rattle.std.proofs.Common.{rules}
use Rattle.leaves.specs.Numbers.{◌⊖◌, ◌⊗◌, min0}
use Rattle.tables.specs.Rows.{formed}
use Rattle.tables.proofs.rows.entries.Goals as goal

pub returns-in-Plain : goal.returns-in-Plain
unfolding formed
returns-in-Plain c = rw c.in-Plain.is (c.each.ensures (λ x z. x) (λ x z y p. search rules))

pub returns-in-Weighted : goal.returns-in-Weighted
unfolding formed
returns-in-Weighted c = rw c.in-Weighted.is (c.each-in-Weighted.ensures (λ x z. c.args.w ⊗ x) (λ x z y p. search rules))

pub returns-in-Deviation : goal.returns-in-Deviation
unfolding formed
returns-in-Deviation c = rw c.in-Deviation.is (c.each-in-Deviation.ensures (λ x z. x ⊖ z) (λ x z y p. search rules))

pub returns-in-Shortfall : goal.returns-in-Shortfall
unfolding formed
returns-in-Shortfall c = rw c.in-Shortfall.is (c.each-in-Shortfall.ensures (λ x z. min0 (x ⊖ z)) (λ x z y p. search rules))

pub returns-in-WeightedDeviation : goal.returns-in-WeightedDeviation
unfolding formed
returns-in-WeightedDeviation c = rw c.in-WeightedDeviation.is (c.each-in-WeightedDeviation.ensures (λ x z. (x ⊖ z) ⊗ c.args.w) (λ x z y p. search rules))

pub returns-in-Scaled : goal.returns-in-Scaled
unfolding formed
returns-in-Scaled c = rw c.in-Scaled.is (c.each-in-Scaled.ensures (λ x z. (x ⊖ z) ⊗ c.in-Scaled.near ⊗ c.in-Scaled.far) (λ x z y p. search rules))
