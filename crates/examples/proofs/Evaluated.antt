-- What a computed case unfolds: a declaration that says `unfolding evaluated` unfolds every definition named here.
use Prim.Native.Nat.{ℕ}
use lib.Ieee.{add, sub, mul, div, neg, lt, le, eq, ne, is_nan, fits, of_int, of_bits, size, round}
use Rattle.leaves.specs.Numbers.{is_finite, abs, signum, clamp01, max0, min0, larger, smaller}
use Rattle.leaves.specs.Loops.{loop, sum_to, amax_to, max_to, min_to, first_to, tab, fill}
use Rattle.leaves.specs.Scaling.{binary_exponent, times, pow2_scaled}
use Rattle.leaves.specs.Shift.{shift}
use Rattle.leaves.specs.Root.{root, sticky, half_exponent, radicand, sqrt}
use Rattle.leaves.specs.Exp.{floor, horner, nearest_power, reduced, exp, exp_m1}
use Rattle.leaves.specs.Log.{series, ln_of, ln_scaled, between01, ln}
use Rattle.matrix.specs.Matrix.{rows, trace, amax, sum_over, total, squares, first_entry, all_finite}
use Rattle.matrix.specs.Rotation.{tangent, turn, turn_columns, turn_rows, rotated, rotate_by, rotate}
use Rattle.matrix.specs.Jacobi.{sweep, after_sweeps, off_diagonal, test, sweeping, start, swept, scaled_back, unturned, decompose}
use Rattle.rules.specs.Refusals.{first}
use Rattle.rules.specs.Sample.{mean, deviation, gram, covariance, largest, constant_asset, scaled}
use Rattle.rules.specs.Weighted.{log_decay, accepted, accepted_decay, weights, weighted_mean, denominator, weighted_covariance}
use Rattle.rules.specs.Semi.{shortfall, semicovariance, semicovariance_below}
use Rattle.rules.specs.Given.{asymmetry, decompose_given, indefinite}
use Rattle.rules.specs.LedoitWolf.{average_variance, average_correlation, constant_correlation, target, variation, covariation, target_covariation, error, squared_distance, intensity_by, intensity_of, ledoit_wolf}
use Rattle.rules.specs.Adjusted.{decomposition_of, base, intensity, weighted_target, mixed, shrunk, regularized, adjusted, is_adjusted}
use Rattle.rules.specs.Moments.{moments}
use Rattle.rules.specs.JamesStein.{grand_mean, largest_deviation, decompose_unequal, spread, james_stein_intensity, towards}
use Rattle.rules.specs.BayesStein.{singular, common_exponent, gathered, project, form, bayes_stein_shrinkage, shrunk_mean}
use Rattle.rules.specs.Order.{not_finite, opening, bad_sweep_limit, of_given, bad_regularization, bad_shrinkage, bad_decay, bad_estimate, not_the_sample, no_correlation, no_variance, of_settings, adjusted_order, ledoit_wolf_order, weighted_order, james_stein_order, bayes_stein_order}
use Rattle.rules.specs.Calls.{settle, adjusted_with, adjusted_returns, adjusted_covariance, ledoit_wolf_intensity, exponentially_weighted_mean, james_stein_mean, bayes_stein_mean}
use Rattle.rules.specs.Prices.{simple_returns, non_positive, prices_order, convert, returns_from_prices}

unfoldable pub evaluated : ℕ
unfolding add sub mul div neg lt le eq ne is_nan fits of_int of_bits size round is_finite abs signum clamp01 max0 min0 larger smaller loop sum_to amax_to max_to min_to first_to tab fill binary_exponent times pow2_scaled root sticky half_exponent radicand shift sqrt floor horner nearest_power reduced exp exp_m1 series ln_of ln_scaled between01 ln rows trace amax sum_over total squares first_entry all_finite tangent turn turn_columns turn_rows rotated rotate_by rotate sweep after_sweeps off_diagonal test sweeping start swept scaled_back unturned decompose first mean deviation gram covariance largest constant_asset scaled log_decay accepted accepted_decay weights weighted_mean denominator weighted_covariance shortfall semicovariance semicovariance_below asymmetry decompose_given indefinite average_variance average_correlation constant_correlation target variation covariation target_covariation error squared_distance intensity_by intensity_of ledoit_wolf decomposition_of base intensity weighted_target mixed shrunk regularized adjusted is_adjusted moments grand_mean largest_deviation decompose_unequal spread james_stein_intensity towards singular common_exponent gathered project form bayes_stein_shrinkage shrunk_mean not_finite opening bad_sweep_limit of_given bad_regularization bad_shrinkage bad_decay bad_estimate not_the_sample no_correlation no_variance of_settings adjusted_order ledoit_wolf_order weighted_order james_stein_order bayes_stein_order settle adjusted_with adjusted_returns adjusted_covariance ledoit_wolf_intensity exponentially_weighted_mean james_stein_mean bayes_stein_mean simple_returns non_positive prices_order convert returns_from_prices
evaluated = 0
