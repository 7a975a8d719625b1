-- Question files and screen numbers, by computation: case 6 of document 01 with the text that document 01 prints, files that are no questions, files that the
-- engine refuses, and the corners of the screen number. Assumes nothing.
use mathlib.Core.Path.{◌≡◌, refl}
use mathlib.Core.Bool.{true, false}
use mathlib.Core.List.{List, [], ◌∷◌, ◌++◌}
use Prim.Native.Nat.{ℕ}
use lib.IntN.{pos}
use lib.Ieee.{nan, inf, fin, sub, mul, div, le, of_int, of_bits, to_bits}
use Rattle.leaves.specs.Numbers.{is_finite, abs, larger, float}
use Rattle.leaves.specs.Loops.{loop, sum_to, amax_to, first_to, tab, fill}
use Rattle.leaves.specs.Log.{between01}
use Rattle.leaves.specs.Shift.{shift}
use Rattle.leaves.specs.Root.{root, sticky, half_exponent, radicand, sqrt}
use Rattle.matrix.specs.Matrix.{rows, trace, first_entry, all_finite}
use Rattle.rules.specs.Refusals.{first}
use Rattle.rules.specs.Sample.{mean, deviation, gram, covariance, largest, constant_asset}
use Rattle.rules.specs.Weighted.{accepted_decay}
use Rattle.rules.specs.Adjusted.{base, intensity, shrunk, regularized, adjusted, is_adjusted}
use Rattle.rules.specs.Order.{not_finite, opening, of_given, bad_regularization, bad_shrinkage, bad_decay, bad_estimate, not_the_sample, no_correlation, no_variance, of_settings, adjusted_order, weighted_order}
use Rattle.rules.specs.Calls.{settle, adjusted_with, adjusted_returns, adjusted_covariance, exponentially_weighted_mean}
use Rattle.paper.specs.declared.screen.Shown.TheVariants.{Big}
use Rattle.paper.specs.Text.{glyph, digits, unpadded}
use Rattle.paper.specs.Screen.{nearest, shown_as, shown, shown_text, screen_text}
use Rattle.paper.specs.Answer.{refused, bits_text, line_text, lines_text, outcome, outcome_text}
use Rattle.paper.specs.Grammar.{kinds, place_in, little, starts, taken, sheet}
use Rattle.paper.specs.Rules.{outline, present, shape_fits, settings_fit, has_decay, takes, well_formed, malformed, is_question, read_paper}
use Rattle.paper.specs.Question.{estimate_in, shrinkage_in, regularization_in, limit_in, asked_of, question_in, contents_in, said, read_question}
use Rattle.paper.specs.Marking.{settings_of, asked_for, answer_to, examined, marking}

-- 01 0200 0200 | 02 000000000000F03F | 02 0000000000000040 | 02 0000000000000840 | 02 0000000000001840 | 0B 00
abbrev case_6 : List ℕ
case_6 =
    0x01 ∷ 0x02 ∷ 0x00 ∷ 0x02 ∷ 0x00 ∷
    0x02 ∷ 0x00 ∷ 0x00 ∷ 0x00 ∷ 0x00 ∷ 0x00 ∷ 0x00 ∷ 0xF0 ∷ 0x3F ∷
    0x02 ∷ 0x00 ∷ 0x00 ∷ 0x00 ∷ 0x00 ∷ 0x00 ∷ 0x00 ∷ 0x00 ∷ 0x40 ∷
    0x02 ∷ 0x00 ∷ 0x00 ∷ 0x00 ∷ 0x00 ∷ 0x00 ∷ 0x00 ∷ 0x08 ∷ 0x40 ∷
    0x02 ∷ 0x00 ∷ 0x00 ∷ 0x00 ∷ 0x00 ∷ 0x00 ∷ 0x00 ∷ 0x18 ∷ 0x40 ∷
    0x0B ∷ 0x00 ∷
    []

-- ok 2 2
-- 0 0 4000000000000000 2.0000
-- 0 1 4010000000000000 4.0000
-- 1 0 4010000000000000 4.0000
-- 1 1 4020000000000000 8.0000
abbrev text_6 : List ℕ
text_6 =
    111 ∷ 107 ∷ 32 ∷ 50 ∷ 32 ∷ 50 ∷ 10 ∷
    48 ∷ 32 ∷ 48 ∷ 32 ∷ 52 ∷ 48 ∷ 48 ∷ 48 ∷ 48 ∷ 48 ∷ 48 ∷ 48 ∷ 48 ∷ 48 ∷ 48 ∷ 48 ∷ 48 ∷ 48 ∷ 48 ∷ 48 ∷ 32 ∷ 50 ∷ 46 ∷ 48 ∷ 48 ∷ 48 ∷ 48 ∷ 10 ∷
    48 ∷ 32 ∷ 49 ∷ 32 ∷ 52 ∷ 48 ∷ 49 ∷ 48 ∷ 48 ∷ 48 ∷ 48 ∷ 48 ∷ 48 ∷ 48 ∷ 48 ∷ 48 ∷ 48 ∷ 48 ∷ 48 ∷ 48 ∷ 32 ∷ 52 ∷ 46 ∷ 48 ∷ 48 ∷ 48 ∷ 48 ∷ 10 ∷
    49 ∷ 32 ∷ 48 ∷ 32 ∷ 52 ∷ 48 ∷ 49 ∷ 48 ∷ 48 ∷ 48 ∷ 48 ∷ 48 ∷ 48 ∷ 48 ∷ 48 ∷ 48 ∷ 48 ∷ 48 ∷ 48 ∷ 48 ∷ 32 ∷ 52 ∷ 46 ∷ 48 ∷ 48 ∷ 48 ∷ 48 ∷ 10 ∷
    49 ∷ 32 ∷ 49 ∷ 32 ∷ 52 ∷ 48 ∷ 50 ∷ 48 ∷ 48 ∷ 48 ∷ 48 ∷ 48 ∷ 48 ∷ 48 ∷ 48 ∷ 48 ∷ 48 ∷ 48 ∷ 48 ∷ 48 ∷ 32 ∷ 56 ∷ 46 ∷ 48 ∷ 48 ∷ 48 ∷ 48 ∷ 10 ∷
    []

-- what a computed case unfolds
unfoldable computed : ℕ
unfolding marking examined read_question said contents_in question_in estimate_in shrinkage_in regularization_in limit_in asked_of read_paper is_question sheet kinds taken starts little outline well_formed shape_fits settings_fit has_decay takes present place_in answer_to asked_for settings_of adjusted_with adjusted_returns adjusted_covariance exponentially_weighted_mean settle first adjusted_order weighted_order opening of_given of_settings not_finite bad_regularization bad_shrinkage bad_decay accepted_decay between01 bad_estimate not_the_sample no_correlation no_variance is_adjusted base covariance gram deviation mean largest constant_asset intensity adjusted shrunk regularized rows trace first_entry all_finite loop sum_to amax_to first_to tab fill is_finite abs larger sqrt root sticky half_exponent radicand shift sub mul div le of_int of_bits outcome outcome_text lines_text line_text shown_text shown shown_as nearest digits unpadded glyph to_bits
computed = 0

pub marking_6 : marking case_6 ≡ text_6
unfolding computed
marking_6 = refl

-- ---- files that are questions or not. A shape of n assets and T periods, and a last record that asks question q

abbrev shape : ℕ → ℕ → List ℕ
shape n T = 1 ∷ n ∷ 0 ∷ T ∷ 0 ∷ []

abbrev ask : ℕ → List ℕ
ask q = 11 ∷ q ∷ []

-- kind b with the number 0
abbrev zero_of : ℕ → List ℕ
zero_of b = b ∷ 0 ∷ 0 ∷ 0 ∷ 0 ∷ 0 ∷ 0 ∷ 0 ∷ 0 ∷ []

abbrev refusal : ℕ → List ℕ
refusal k = outcome_text (refused k)

pub record Malformed : Type 0 where
  pub nothing : read_paper [] ≡ malformed
  pub truncated : read_paper (shape 0 2 ++ 11 ∷ []) ≡ malformed
  pub after_11 : read_paper (shape 0 2 ++ ask 0 ++ 0 ∷ []) ≡ malformed
  pub no_shape : read_paper (ask 0) ≡ malformed
  pub no_question : read_paper (shape 0 2) ≡ malformed
  pub twice : read_paper (shape 0 2 ++ zero_of 3 ++ zero_of 3 ++ ask 0) ≡ malformed
  pub falling : read_paper (shape 0 2 ++ zero_of 4 ++ zero_of 3 ++ ask 0) ≡ malformed
  pub unknown : read_paper (shape 0 2 ++ 13 ∷ 0 ∷ [] ++ ask 0) ≡ malformed
  pub nine_assets : read_paper (shape 9 0 ++ ask 0) ≡ malformed
  pub periods_129 : read_paper (shape 0 129 ++ ask 0) ≡ malformed
  pub too_few_returns : read_paper (shape 1 2 ++ zero_of 2 ++ ask 0) ≡ malformed
  pub given_of_none : read_paper (shape 0 2 ++ zero_of 9 ++ ask 0) ≡ malformed
  pub two_shrinkages : read_paper (shape 0 2 ++ zero_of 4 ++ 5 ∷ 0 ∷ [] ++ ask 0) ≡ malformed
  pub two_estimates : read_paper (shape 0 2 ++ zero_of 6 ++ 7 ∷ [] ++ ask 0) ≡ malformed
  pub target_2 : read_paper (shape 0 2 ++ 5 ∷ 2 ∷ [] ++ ask 0) ≡ malformed
  pub question_4 : read_paper (shape 0 2 ++ ask 4) ≡ malformed
  pub limit_alone : read_paper (shape 0 2 ++ 10 ∷ 5 ∷ [] ++ ask 0) ≡ malformed
  pub no_decay : read_paper (shape 0 2 ++ ask 1) ≡ malformed
  pub weighted_and_more : read_paper (shape 0 2 ++ zero_of 3 ++ zero_of 6 ++ ask 1) ≡ malformed
  pub stein_and_more : read_paper (shape 0 2 ++ zero_of 3 ++ ask 2) ≡ malformed
  -- kind 12, in its place before 11
  pub factor_after_11 : read_paper (shape 0 2 ++ ask 1 ++ zero_of 12) ≡ malformed
  pub factor_before_5 : read_paper (shape 0 2 ++ zero_of 12 ++ 5 ∷ 0 ∷ [] ++ ask 0) ≡ malformed
  pub two_decays : read_paper (shape 0 2 ++ zero_of 6 ++ zero_of 12 ++ ask 1) ≡ malformed
  pub factor_and_more : read_paper (shape 0 2 ++ zero_of 3 ++ zero_of 12 ++ ask 1) ≡ malformed
  pub factor_and_limit : read_paper (shape 0 2 ++ 10 ∷ 100 ∷ [] ++ zero_of 12 ++ ask 0) ≡ malformed
  pub factor_of_stein : read_paper (shape 0 2 ++ zero_of 12 ++ ask 2) ≡ malformed

pub malformed_files : Malformed
unfolding computed
malformed_files = record {
  nothing = refl;
  truncated = refl;
  after_11 = refl;
  no_shape = refl;
  no_question = refl;
  twice = refl;
  falling = refl;
  unknown = refl;
  nine_assets = refl;
  periods_129 = refl;
  too_few_returns = refl;
  given_of_none = refl;
  two_shrinkages = refl;
  two_estimates = refl;
  target_2 = refl;
  question_4 = refl;
  limit_alone = refl;
  no_decay = refl;
  weighted_and_more = refl;
  stein_and_more = refl;
  factor_after_11 = refl;
  factor_before_5 = refl;
  two_decays = refl;
  factor_and_more = refl;
  factor_and_limit = refl;
  factor_of_stein = refl;
}

-- well-formed files that the engine refuses; a malformed one is refused before that
pub record Refused : Type 0 where
  pub no_assets : marking (shape 0 128 ++ ask 0) ≡ refusal 1
  pub one_period : marking (shape 1 1 ++ zero_of 2 ++ ask 0) ≡ refusal 3
  pub zero_variance_lem : marking (shape 1 2 ++ zero_of 2 ++ zero_of 2 ++ ask 0) ≡ refusal 9
  pub factor_of_0 : marking (shape 1 2 ++ zero_of 2 ++ zero_of 2 ++ zero_of 12 ++ ask 1) ≡ refusal 7
  pub malformed_first : marking (shape 0 129 ++ ask 0) ≡ refusal 15

pub refused_files : Refused
unfolding computed
refused_files = record { no_assets = refl; one_period = refl; zero_variance_lem = refl; factor_of_0 = refl; malformed_first = refl }

-- ---- the screen number

-- the text of the screen number of the float with these bits
abbrev Shows : ℕ → List ℕ → Type 0
Shows b text = screen_text (float b) ≡ text

-- 0.000d
abbrev last : ℕ → List ℕ
last d = 48 ∷ 46 ∷ 48 ∷ 48 ∷ 48 ∷ d ∷ []

abbrev zeros : List ℕ
zeros = last 48

pub record Screens : Type 0 where
  -- 0.03125, -0.03125 and 0.09375 are halves
  pub half : Shows 0x3FA0_0000_0000_0000 (48 ∷ 46 ∷ 48 ∷ 51 ∷ 49 ∷ 51 ∷ [])
  pub minus_half : Shows 0xBFA0_0000_0000_0000 (45 ∷ 48 ∷ 46 ∷ 48 ∷ 51 ∷ 49 ∷ 51 ∷ [])
  pub other_half : Shows 0x3FB8_0000_0000_0000 (48 ∷ 46 ∷ 48 ∷ 57 ∷ 51 ∷ 56 ∷ [])
  -- 0.00005 and 0.00025 lie a little above a half, 0.00015 and 0.00035 a little below
  pub above : Shows 0x3F0A_36E2_EB1C_432D (last 49) × Shows 0x3F30_624D_D2F1_A9FC (last 51)
  pub below : Shows 0x3F23_A92A_3055_3261 (last 49) × Shows 0x3F36_F006_8DB8_BAC7 (last 51)
  -- 9.99995 lies above one, 1.99995 below
  pub nines : Shows 0x4023_FFF9_7247_4539 (49 ∷ 48 ∷ 46 ∷ 48 ∷ 48 ∷ 48 ∷ 48 ∷ []) × Shows 0x3FFF_FFCB_923A_29C7 (49 ∷ 46 ∷ 57 ∷ 57 ∷ 57 ∷ 57 ∷ [])
  -- -0.00004, -0 and -0.00005
  pub minus : Shows 0xBF04_F8B5_88E3_68F1 zeros × Shows 0x8000_0000_0000_0000 zeros × Shows 0xBF0A_36E2_EB1C_432D (45 ∷ last 49)
  -- 2147483647.99999, and the number next to -2 ^ 31, with the longest text; 2 ^ 31, its negative, NaN and an infinity
  pub below_big : Shows 0x41DF_FFFF_FFFF_FFD6 (50 ∷ 49 ∷ 52 ∷ 55 ∷ 52 ∷ 56 ∷ 51 ∷ 54 ∷ 52 ∷ 56 ∷ 46 ∷ 48 ∷ 48 ∷ 48 ∷ 48 ∷ [])
  pub longest : Shows 0xC1DF_FFFF_FFFF_FFFF (45 ∷ 50 ∷ 49 ∷ 52 ∷ 55 ∷ 52 ∷ 56 ∷ 51 ∷ 54 ∷ 52 ∷ 56 ∷ 46 ∷ 48 ∷ 48 ∷ 48 ∷ 48 ∷ [])
  pub big : (shown (fin false 1 (pos 31)) ≡ Big) × (shown (fin true 1 (pos 31)) ≡ Big) × (shown nan ≡ Big) × (shown (inf false) ≡ Big)
  pub nan_bits : bits_text nan ≡ 55 ∷ 70 ∷ 70 ∷ 56 ∷ 48 ∷ 48 ∷ 48 ∷ 48 ∷ 48 ∷ 48 ∷ 48 ∷ 48 ∷ 48 ∷ 48 ∷ 48 ∷ 48 ∷ []

pub screens : Screens
unfolding computed
screens = record {
  half = refl;
  minus_half = refl;
  other_half = refl;
  above = (refl, refl);
  below = (refl, refl);
  nines = (refl, refl);
  minus = (refl, refl, refl);
  below_big = refl;
  longest = refl;
  big = (refl, refl, refl, refl);
  nan_bits = refl;
}
