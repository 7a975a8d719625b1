-- The bounds of every quantity between the returns and an answer, each made of the bounds that it follows from as the quantity is made of others. At the bottom stand document 01's ranges
-- and the limits on assets and periods (Bits); nothing else is a number of its own but what the constants and `exp` ask for. So a limit or range that changes moves all that rests on it, and outside of
-- Exponential and Weights the proofs write no bound as a numeral. Bounds are powers of two of units, and 1 is 2 ^ one_bits of them. Assumes nothing.
use Prim.Native.Nat.{ℕ, suc, ◌+◌, ◌-◌}
use Rattle.leaves.proofs.Units.{one_bits, top_bits}
use Rattle.leaves.proofs.Bounds.{Bounds, sizes, multiples, sum_of, product_of, normal_product_of, quotient_of, root_of}
use Rattle.law.specs.Law.{return_range, covariance_range, mean_range, intensity_range}
use Rattle.law.proofs.Bits.{side_bits, period_bits, cell_bits}

-- ---- what document 01 grants
-- 0, or of size 2 ^ -r to 2 ^ r
abbrev pub sized_bounds : ℕ → Bounds
sized_bounds r = sizes (one_bits - r) (one_bits + r)

-- 0, or from 2 ^ -r to 1
abbrev pub fraction_bounds : ℕ → Bounds
fraction_bounds r = sizes (one_bits - r) one_bits

abbrev pub return_bounds : Bounds
return_bounds = sized_bounds return_range

-- a given entry or a regularization
abbrev pub covariance_bounds : Bounds
covariance_bounds = sized_bounds covariance_range

-- an intensity that shrinks a covariance, and one that shrinks a mean
abbrev pub intensity_bounds : Bounds
intensity_bounds = fraction_bounds intensity_range

abbrev pub mean_intensity_bounds : Bounds
mean_intensity_bounds = fraction_bounds mean_range

-- ---- constants
-- a whole number up to 2 ^ c
abbrev pub count_bounds : ℕ → Bounds
count_bounds c = multiples one_bits (c + one_bits)

abbrev pub one_bounds : Bounds
one_bounds = sizes one_bits one_bits

-- of zeros alone: no multiple of so much is so small, nor a root or covariance of such
abbrev pub zero_bounds : Bounds
zero_bounds = multiples top_bits 0

-- 1e-10 and 1e-12
abbrev pub ten_billionth_bounds : Bounds
ten_billionth_bounds = sizes (one_bits - 34) (one_bits - 33)

abbrev pub trillionth_bounds : Bounds
trillionth_bounds = sizes (one_bits - 40) (one_bits - 39)

-- ---- powers of two
-- how far above and below 0 the exponent of a value in the bounds b can lie
abbrev pub exponent_above : Bounds → ℕ
exponent_above b = b.most - one_bits

abbrev pub exponent_below : Bounds → ℕ
exponent_below b = one_bits - b.least

-- numbers over the power of two of the largest: below 2 in size
abbrev pub unit_of : Bounds → Bounds
unit_of b = multiples (b.grain + one_bits - b.most) (suc one_bits)

-- numbers times 2 ^ j, for a j from -q to p
abbrev pub scaled_by : ℕ → ℕ → Bounds → Bounds
scaled_by p q b = multiples (b.grain - q) (b.most + p)

-- scaled back by the exponent of a return
abbrev pub scaled_back_of : Bounds → Bounds
scaled_back_of b = scaled_by (exponent_above return_bounds) (exponent_below return_bounds) b

-- ---- means, deviations and covariances of numbers in the bounds b
abbrev pub average_of : Bounds → Bounds
average_of b = quotient_of (sum_of period_bits b) (count_bounds period_bits)

abbrev pub deviation_of : Bounds → Bounds
deviation_of b = sum_of 1 (average_of b)

abbrev pub covariance_of : Bounds → Bounds
covariance_of b = average_of (product_of (deviation_of b) (deviation_of b))

abbrev pub sample_bounds : Bounds
sample_bounds = covariance_of return_bounds

-- ---- the target of constant correlation
abbrev pub volatility_bounds : Bounds
volatility_bounds = root_of sample_bounds

abbrev pub correlation_bounds : Bounds
correlation_bounds = quotient_of (quotient_of sample_bounds volatility_bounds) volatility_bounds

abbrev pub average_correlation_bounds : Bounds
average_correlation_bounds = quotient_of (sum_of cell_bits correlation_bounds) (count_bounds cell_bits)

abbrev pub target_bounds : Bounds
target_bounds = normal_product_of (normal_product_of average_correlation_bounds volatility_bounds) volatility_bounds

-- ---- weights, and what is weighted
-- the last step of exp's Horner scheme, and its power of two for a weight: 64 half-lives are 64 ln 2, below 48, and 48 / ln 2 is below 70
abbrev pub horner_bounds : Bounds
horner_bounds = sizes (one_bits - 2) (suc one_bits)

abbrev pub weight_power : ℕ
weight_power = 70

abbrev pub weight_bounds : Bounds
weight_bounds = sizes (horner_bounds.least - weight_power) horner_bounds.most

abbrev pub total_weight_bounds : Bounds
total_weight_bounds = sum_of period_bits weight_bounds

-- the denominator of the weighted covariance
abbrev pub denominator_bounds : Bounds
denominator_bounds = sizes (one_bits - 77) (one_bits + 8 + period_bits)

-- a return over the power of two of its column's largest, or of the largest of all
abbrev pub unit_bounds : Bounds
unit_bounds = unit_of return_bounds

abbrev pub weighted_unit_bounds : Bounds
weighted_unit_bounds = quotient_of (sum_of period_bits (product_of weight_bounds unit_bounds)) total_weight_bounds

abbrev pub weighted_mean_bounds : Bounds
weighted_mean_bounds = scaled_back_of weighted_unit_bounds

abbrev pub root_weight_bounds : Bounds
root_weight_bounds = root_of (quotient_of weight_bounds denominator_bounds)

abbrev pub weighted_deviation_bounds : Bounds
weighted_deviation_bounds = product_of (sum_of 1 weighted_mean_bounds) root_weight_bounds

-- ---- estimates, shrunk and regularized
-- a given matrix averaged with its transpose
abbrev pub averaged_bounds : Bounds
averaged_bounds = quotient_of (sum_of 1 covariance_bounds) (count_bounds 1)

-- any estimate: the weighted one has the widest bounds
abbrev pub estimate_bounds : Bounds
estimate_bounds = sum_of period_bits (product_of weighted_deviation_bounds weighted_deviation_bounds)

-- an intensity's share of the average variance, of the constant-correlation target, and either of them with what is left of the estimate
abbrev variance_share_bounds : Bounds
variance_share_bounds = product_of (normal_product_of intensity_bounds (quotient_of (sum_of side_bits estimate_bounds) (count_bounds side_bits))) one_bounds

abbrev pub part_bounds : Bounds
part_bounds = multiples variance_share_bounds.grain (normal_product_of intensity_bounds target_bounds).most

abbrev pub shrunk_bounds : Bounds
shrunk_bounds = sum_of 1 part_bounds

abbrev pub adjusted_bounds : Bounds
adjusted_bounds = sum_of 1 shrunk_bounds

-- ---- the moments of the two Stein means, of returns below 2 in size
abbrev pub unit_mean_bounds : Bounds
unit_mean_bounds = average_of unit_bounds

abbrev pub unit_variance_bounds : Bounds
unit_variance_bounds = covariance_of unit_bounds

abbrev pub unit_volatility_bounds : Bounds
unit_volatility_bounds = root_of unit_variance_bounds

-- James-Stein: the grand mean μ₀, and α (μ₀ - μ), by which a mean moves towards it
abbrev pub grand_mean_bounds : Bounds
grand_mean_bounds = quotient_of (sum_of side_bits unit_mean_bounds) (count_bounds side_bits)

abbrev pub step_bounds : Bounds
step_bounds = product_of mean_intensity_bounds (sum_of 1 grand_mean_bounds)

-- Bayes-Stein: a volatility above its tolerance, of a column whose largest return is at least 1; its inverse, and the mean over it
abbrev pub tolerance_bounds : Bounds
tolerance_bounds = product_of ten_billionth_bounds unit_bounds

abbrev pub steady_volatility_bounds : Bounds
steady_volatility_bounds = sizes ten_billionth_bounds.least unit_volatility_bounds.most

abbrev pub inverse_bounds : Bounds
inverse_bounds = quotient_of one_bounds steady_volatility_bounds

abbrev pub mean_over_bounds : Bounds
mean_over_bounds = quotient_of unit_mean_bounds steady_volatility_bounds

-- (1 - α) μ, what is left of a mean, in its column's unit
abbrev pub left_mean_bounds : Bounds
left_mean_bounds = product_of (sum_of 1 mean_intensity_bounds) unit_mean_bounds
