-- Pairs of inputs that show that the power-of-two law is not empty (`Pair`), by what is left to say of their questions.
use Prim.Native.Nat.{◌-◌}
use mathlib.Core.Path.{◌≡◌, refl}
use mathlib.Core.Option.{none}
use lib.Dec.{lit≤}
use lib.IntN.{pos, neg_ℤ}
use Rattle.law.specs.Law.{Question, answer, CopiedQuestion, QuestionInRange, Scaled, max_power}
use Rattle.law.proofs.Theorem.{turned_down}
use Rattle.law_examples.proofs.Inputs.{low, high, low_returns, high_returns, copies}

scaled_up : {q q' : Question} → QuestionInRange (low q) q → QuestionInRange (high q') q' → CopiedQuestion (pos max_power) q q' → Scaled (pos max_power) (low q) (high q')
scaled_up a b c = record {
  power = lit≤ tt;
  returns = copies;
  question = c;
  assets = refl;
  periods = refl;
  slice_length = refl;
  first = record { returns = low_returns; question = a };
  second = record { returns = high_returns; question = b };
}

-- both inputs are accepted, and meet every hypothesis of the law at k = max_power and at k = -max_power
pub record Pair (q q' : Question) : Type 0 where
  pub low_accepted : (answer (low q)).refusal ≡ none
  pub high_accepted : (answer (high q')).refusal ≡ none
  pub up : Scaled (pos max_power) (low q) (high q')
  pub down : Scaled (neg_ℤ (pos max_power)) (high q') (low q)

pub pair : {q q' : Question} → (answer (low q)).refusal ≡ none → (answer (high q')).refusal ≡ none → QuestionInRange (low q) q → QuestionInRange (high q') q' → CopiedQuestion (pos max_power) q q' → Pair q q'
pair {q} {q'} x y a b c = let s = scaled_up a b c in record { low_accepted = x; high_accepted = y; up = s; down = turned_down (max_power - 1) (low q) (high q') s }
