-- `writer::outlines::outline_of` meets its contract, kind by kind.
use Rattle.paper.specs.Rules.{outline}
use Rattle.writer.specs.Bodies.{bodies}
use Rattle.writer.proofs.outlines.outline_of.Goals as goal

pub returns : goal.returns
unfolding outline bodies
returns c = rw (
  c.count.ensures,
  c.count-2.ensures,
  c.count-3.ensures,
  c.count-4.ensures,
  c.count-5.ensures,
  c.count-6.ensures,
  c.count-7.ensures,
  c.count-8.ensures,
  c.first.ensures,
  c.first-2.ensures,
  c.body_or_zero.ensures,
  c.body_or_zero-2.ensures,
  c.body_or_zero-3.ensures,
  c.body_or_zero-4.ensures,
  c.body_or_zero-5.ensures,
  c.body_or_zero-6.ensures,
  c.body_or_zero-7.ensures,
  c.body_or_zero-8.ensures,
  c.asked_number.ensures,
  ← c.ridge-ridge.ensures,
  ← c.fixed-fixed.ensures,
  ← c.target-target.ensures,
  ← c.half_life-half_life.ensures,
  ← c.semi-semi.ensures,
  ← c.threshold-threshold.ensures,
  ← c.sweeps-sweeps.ensures,
  ← c.factor-factor.ensures,
)
