-- Laws of gathered numbers: they depend on the first n numbers and exponents alone, and the power is read back as it is. Assumes nothing.
use Rattle.std.proofs.Common.{◌≡◌, ℕ, ◌<◌, List, ℤ, ◌-ℤ◌, sym, ap, ◌∙◌, subst, arith}
use mathlib.Core.Option.{none}
use lib.Ieee.{Float}
use Rattle.leaves.specs.Scaling.{pow2_scaled}
use Rattle.leaves.proofs.Ints.{read_back}
use Rattle.leaves.proofs.Loops.{loop_ext, tab_ext}
use Rattle.rules.specs.BayesStein.{or_zero, common_exponent, gathered, with_exponent}
use Rattle.tables.proofs.Exponents.{read}
use Rattle.means.specs.Gather.{Gathered}

pub gathered_as : {n : ℕ} {m m' : ℕ → Float} {k k' : ℕ → ℤ} {e : ℤ} {l : List Float} → ((i : ℕ) → i < n → m i ≡ m' i) → ((i : ℕ) → i < n → k i ≡ k' i) → Gathered n m k e l → Gathered n m' k' e l
unfolding common_exponent gathered
gathered_as {n} {m} {m'} {k} {k'} {e} hm hk g = record {
  power = g.power ∙ ap or_zero (loop_ext n (λ i found. with_exponent found (m i) (k i)) (λ i found. with_exponent found (m' i) (k' i)) none (λ i h found t. with_exponent found (hm i h t) (hk i h t)));
  numbers = g.numbers ∙ tab_ext (λ i. pow2_scaled (m i) (k i -ℤ e)) (λ i. pow2_scaled (m' i) (k' i -ℤ e)) n (λ i h t. pow2_scaled (hm i h t) (hk i h t -ℤ e));
  size = g.size;
}

-- the power, as the machine reads it back
pub gathered_read : {n : ℕ} {m : ℕ → Float} {k : ℕ → ℤ} {e : ℤ} {l : List Float} → Gathered n m k e l → Gathered n m k (read_back e) l
gathered_read {n} {m} {k} {e} {l} g = subst (λ (z : ℤ). Gathered n m k z l) (sym (read e (omega arith))) g
