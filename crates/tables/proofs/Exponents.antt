-- Sizes of the exponents that the code adds and negates, by the laws of b(x): at most `max_exponent`, and what is made of a few such numbers
-- is an i32. Assumes nothing.
pub use Rattle.leaves.proofs.Exponents.{size_is, size_neg, size_plus, size_minus, exponent_size, read, neg_fits, neg_read, plus_fits, plus_read, minus_fits, minus_read, both_fits, both_read}
