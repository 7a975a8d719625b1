-- `covariances::decay::accepted_decay` meets its contract, by the cases of the decay and of the factor's test.
use Rattle.std.proofs.Common.{◌≡◌, Bool, true, false}
use lib.Ieee.{Float}
use Rattle.leaves.specs.Log.{between01}
use Rattle.rules.specs.Weighted.{log_decay, accepted, accepted_decay}
use Rattle.rules.specs.declared.Decay.{Decay}
use Rattle.rules.specs.declared.Decay.TheVariants.{HalfLife, Lambda}
use Rattle.covariances.proofs.decay.accepted_decay.Goals as goal

module _ (d : Decay Float) (l : Float) (is-l : l ≡ log_decay d) (good : Bool) (is-good : good ≡ accepted l) where
  of-half-life : (h : Float) → d ≡ HalfLife h → good ≡ accepted_decay d
  unfolding accepted_decay
  of-half-life h e = rw (is-good, is-l, e)

  module _ (f : Float) (e : d ≡ Lambda f) (between : Bool) (is-between : between ≡ between01 f) where
    of-factor : between ≡ true → good ≡ accepted_decay d
    unfolding accepted_decay
    of-factor t = rw (is-good, is-l, e, ← is-between, t)

    outside : between ≡ false → between ≡ accepted_decay d
    unfolding accepted_decay
    outside t = rw (e, ← is-between, t)

pub returns-in-HalfLife : goal.returns-in-HalfLife
returns-in-HalfLife c =
    let a = c in
    let l = a in
    of-half-life l.args.decay l.log_decay.result l.log_decay.ensures a.accepted-good.result a.accepted-good.ensures _ c.in-HalfLife.is

pub returns-then-between01 : goal.returns-then-between01
returns-then-between01 c =
    let b = c in
    let k = b in
    let a = k in
    let l = a in
    of-factor l.args.decay l.log_decay.result l.log_decay.ensures a.accepted-good.result a.accepted-good.ensures _ k.in-Lambda.is
    b.between01.result b.between01.ensures c.if-between01.true

pub returns-else-between01 : goal.returns-else-between01
returns-else-between01 c =
    let b = c in
    let k = b in
    let a = k in
    let l = a in
    outside l.args.decay l.log_decay.result l.log_decay.ensures a.accepted-good.result a.accepted-good.ensures _ k.in-Lambda.is
    b.between01.result b.between01.ensures c.if-between01.false
