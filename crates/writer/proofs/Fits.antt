-- The bodies of a question that keeps the format fit their kinds: not too many, and each within its bytes. Assumes nothing.
use mathlib.Core.Path.{◌≡◌, sym, subst}
use mathlib.Core.Bool.{true, ◌&&◌, and-eq-true_iff}
use mathlib.Core.List.{[], ◌∷◌}
use Prim.Native.Nat.{ℕ, ◌*◌, ◌^◌, ◌≤◌, ◌<◌}
use native.Mathlib.Omega.{arith}
use lib.ListN.{length}
use lib.Dec.{ltb, T, leb→le}
use lib.Ieee.Fits.{and_l, and_r, and_i}
use borrow.Author.Tests.{lt-ltb}
use Rattle.rules.specs.declared.Target.TheVariants.{ConstantVariance, ConstantCorrelation}
use Rattle.rules.specs.declared.Estimate.{Estimate}
use Rattle.rules.specs.declared.Estimate.TheVariants.{Sample, Given, Weighted, Semi, SemiBelow}
use Rattle.rules.specs.declared.Shrinkage.{Shrinkage}
use Rattle.rules.specs.declared.Shrinkage.TheVariants.{Unshrunk, Fixed, LedoitWolf}
use Rattle.std.specs.Prelude.{Option, Some, None}
use Rattle.paper.specs.declared.question.Asked.{Asked}
use Rattle.paper.specs.declared.question.Asked.TheVariants.{Covariance, WeightedMean, JamesStein, BayesStein}
use Rattle.paper.specs.Grammar.{file_assets, file_periods, kinds, place_in}
use Rattle.paper.specs.Rules.{outline}
use Rattle.paper.specs.Question.{Contents}
use Rattle.paper.proofs.Outlines.{Ruled, ruled}
use Rattle.paper.proofs.Questions.{returns_few, given_few}
use Rattle.writer.specs.Bodies.{ridge, fixed, target, half_life, semi, threshold, factor, sweeps, asked_number, shape, bodies}
use Rattle.writer.specs.Writer.{shape_kept, limit_kept, given_kept, record_kept, keeps_format}
use Rattle.writer.proofs.Trips.{below, Fit}
use Rattle.writer.proofs.Kept.{record_sizes}
use Rattle.writer.proofs.Held.{one_ridge, one_shrinkage, one_estimate, one_limit}

-- every number of the question is of 64 bits, as a u64 is
pub record Words (c : Contents) : Type 0 where
  pub returns_words : T (below (2 ^ 64) c.returns)
  pub ridge_word : T (below (2 ^ 64) (ridge c.question.regularization))
  pub fixed_word : T (below (2 ^ 64) (fixed c.question.shrinkage))
  pub half_life_word : T (below (2 ^ 64) (half_life c.question.estimate))
  pub threshold_word : T (below (2 ^ 64) (threshold c.question.estimate))
  pub given_words : T (below (2 ^ 64) c.given)
  pub factor_word : T (below (2 ^ 64) (factor c.question.estimate))

one_below : (n v : ℕ) → v < n → T (below n (v ∷ []))
one_below n v h = and_i (ltb v n) true (subst T (sym (lt-ltb v n h)) tt) tt

target_below : (s : Shrinkage ℕ) → T (below 256 (target s))
target_below Unshrunk = tt
target_below (Fixed b) = tt
target_below (LedoitWolf ConstantVariance) = tt
target_below (LedoitWolf ConstantCorrelation) = tt

semi_below_lem : (e : Estimate ℕ) → T (below 1 (semi e))
semi_below_lem Sample = tt
semi_below_lem Given = tt
semi_below_lem (Weighted decay) = tt
semi_below_lem Semi = tt
semi_below_lem (SemiBelow b) = tt

sweeps_below : (l : Option ℕ) → T (limit_kept l) → T (below 256 (sweeps l))
sweeps_below None t = tt
sweeps_below (Some l) t = let h : l ≤ 255 = leb→le l 255 t in one_below 256 l (omega arith)

asked_below : (a : Asked) → asked_number a < 256
asked_below Covariance = omega arith
asked_below WeightedMean = omega arith
asked_below JamesStein = omega arith
asked_below BayesStein = omega arith

module _ (c : Contents) (words : Words c) (keeps : keeps_format c ≡ true) where
  record_is_kept : record_kept c.question c.given ≡ true
  unfolding keeps_format
  record_is_kept = ((and-eq-true_iff (record_kept c.question c.given) _).0 keeps).0

  limit_is_kept : T (limit_kept c.question.limit)
  limit_is_kept =
      let q = c.question in
      and_r (shape_kept q) (limit_kept q.limit) (and_l (shape_kept q && limit_kept q.limit) (given_kept q c.given) (subst T (sym record_is_kept) tt))

  rules : Ruled (outline (bodies c))
  unfolding keeps_format
  rules = ruled (outline (bodies c)) ((and-eq-true_iff (record_kept c.question c.given) _).0 keeps).1

  few_returns : length c.returns ≤ file_periods * file_assets
  unfolding outline bodies kinds place_in
  few_returns = returns_few (outline (bodies c)) rules

  few_given : length c.given ≤ file_assets * file_assets
  unfolding outline bodies kinds place_in
  few_given = given_few (outline (bodies c)) rules

  shape_below : shape c.question.assets c.question.periods < 256 ^ 4
  shape_below = let h = record_sizes c.question c.given record_is_kept in let n = h.0 in let t = h.1 in omega arith

  pub fits : Fit kinds (bodies c)
  unfolding kinds bodies
  fits =
      let q = c.question in
      let s = one_shrinkage q.shrinkage in
      let e = one_estimate q.estimate in (
        omega arith,
        one_below (256 ^ 4) _ shape_below,
        tt,
        (
          few_returns,
          words.returns_words,
          tt,
          (
            one_ridge q.regularization,
            words.ridge_word,
            tt,
            (
              omega arith,
              words.fixed_word,
              tt,
              (
                omega arith,
                target_below q.shrinkage,
                tt,
                (
                  omega arith,
                  words.half_life_word,
                  tt,
                  (
                    omega arith,
                    semi_below_lem q.estimate,
                    tt,
                    (
                      omega arith,
                      words.threshold_word,
                      tt,
                      (
                        few_given,
                        words.given_words,
                        tt,
                        (
                          one_limit q.limit,
                          sweeps_below q.limit limit_is_kept,
                          tt,
                          (
                            omega arith,
                            words.factor_word,
                            tt,
                            (omega arith, one_below 256 _ (asked_below q.asked), tt, tt),
                          ),
                        ),
                      ),
                    ),
                  ),
                ),
              ),
            ),
          ),
        ),
      )
