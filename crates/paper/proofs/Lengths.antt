-- How long a question file and what is printed of it can be: a file has at most `max_file` bytes, and the text at most `max_text`, so that a program may lend
-- buffers of that size. Assumes nothing.
use mathlib.Core.Path.{◌≡◌, refl, sym, ap, ◌∙◌}
use mathlib.Core.Bool.{Bool, true, false, cond}
use mathlib.Core.List.{List, [], ◌∷◌, ◌++◌, map, sum}
use Rattle.std.specs.Prelude.{Option, Some, None, Result, Ok, Err}
use Prim.Native.Nat.{ℕ, zero, suc, ◌+◌, ◌-◌, ◌*◌, ◌/◌, ◌%◌, ◌≤◌, ◌<◌}
use native.Mathlib.Omega.{arith}
use lib.ListN.{length, take, drop, replicate, length-append, length-drop, length-replicate}
use lib.Seq.{take_at, drop_at}
use lib.Ieee.{Float}
use borrow.Author.Tests.{ne_eqb}
use Rattle.leaves.specs.Numbers.{zero⁺}
use Rattle.rules.specs.Calls.{adjusted_covariance, exponentially_weighted_mean, james_stein_mean, bayes_stein_mean}
use Rattle.rules.specs.declared.Answer.{Answer}
use Rattle.rules.specs.declared.Refusal.{Refusal}
use Rattle.rules.specs.declared.Decay.{Decay}
use Rattle.rules.specs.declared.Settings.{Settings}
use Rattle.rules.proofs.Opened.{settle_length}
use Rattle.rules.proofs.AdjustedCall.{adjusted_is}
use Rattle.paper.specs.declared.kinds.Kind.{Kind}
use Rattle.paper.specs.declared.question.Asked.{Asked}
use Rattle.paper.specs.declared.question.Asked.TheVariants.{WeightedMean, JamesStein, BayesStein, Covariance as AskedCovariance}
use Rattle.paper.specs.declared.question.Question.{Question}
use Rattle.paper.specs.declared.screen.Shown.{Shown}
use Rattle.paper.specs.declared.screen.Shown.TheVariants.{Big, Number}
use Rattle.paper.specs.Text.{minus_sign, Out, out, write, digits, max_digits, decimal}
use Rattle.paper.specs.Screen.{shown, shown_text, screen_text}
use Rattle.paper.specs.Answer.{malformed_number, Outcome, refused, ok, line_text, lines_text, outcome, outcome_text}
use Rattle.paper.specs.Grammar.{file_assets, starts, body, more, taken, sheet, kinds, none as nothing}
use Rattle.paper.specs.Rules.{malformed, is_question, read_paper}
use Rattle.paper.specs.Question.{Contents, read_question}
use Rattle.paper.specs.Marking.{decay_of, limit_of, settings_of, asked_for, asked, columns, answer_to, examined, marking}
use Rattle.paper.specs.Inner.{buffer, total}
use Rattle.paper.proofs.Digits.{digits_length, unpadded_length, few_digits}
use Rattle.paper.proofs.ScreenLaws.{screen_bounded}
use Rattle.paper.proofs.Writes.{write_room}
use Rattle.paper.proofs.Questions.{read_beside}
use Rattle.paper.proofs.Marks.{answer_fits}

-- ---- a file

-- a kind's records take at most m records' bytes, each its byte and its body
taken_bytes : (k : Kind) (m : ℕ) (bs : List ℕ) → length bs ≤ m * (k.body + 1) + length (taken k m bs).rest
unfolding taken
taken_bytes k zero bs = omega arith
taken_bytes k (suc m) bs = go (starts k bs) (taken_bytes k m (drop (k.body + 1) bs))
  where
    sum : (m q l r : ℕ) → l - q ≤ m * q + r → l ≤ suc m * q + r
    sum m q l r h = omega arith

    go : (t : Bool) → length (drop (k.body + 1) bs) ≤ m * (k.body + 1) + length (taken k m (drop (k.body + 1) bs)).rest
        → length bs ≤ suc m * (k.body + 1) + length (cond t (more (body k bs) (taken k m (drop (k.body + 1) bs))) (nothing bs)).rest
    go true h = sum m (k.body + 1) (length bs) _ (rw length-drop at h)
    go false h = omega arith

sheet_bytes : (ks : List Kind) (bs : List ℕ) → length bs ≤ total (map (λ (k : Kind). k.most * (k.body + 1)) ks) + length (sheet ks bs).rest
unfolding sheet sum
sheet_bytes [] bs = omega arith
sheet_bytes (k ∷ ks) bs = omega (arith, taken_bytes k k.most bs, sheet_bytes ks (taken k k.most bs).rest)

-- as many records of each kind as there may be
abbrev pub max_file : ℕ
max_file = 9849

-- a longer file is no question
pub too_long : (bs : List ℕ) → max_file < length bs → read_paper bs ≡ malformed
unfolding read_paper is_question kinds sum
too_long bs h = rw (ne_eqb (length (sheet kinds bs).rest) 0 (λ e. omega (arith, sheet_bytes kinds bs)))

-- ---- a text

decimal_length : (n : ℕ) → length (decimal n) ≤ max_digits
decimal_length n = omega (arith, unpadded_length (digits 10 max_digits n), digits_length 10 max_digits n)

-- the longest is -2147483648.0000
abbrev pub max_screen : ℕ
max_screen = 16

pub screen_length : (x : Float) → length (screen_text x) ≤ max_screen
unfolding shown_text
screen_length x = go (shown x) refl
  where
    sign : (m : Bool) → length {A = ℕ} (cond m (minus_sign ∷ []) []) ≤ 1
    sign true = omega arith
    sign false = omega arith

    go : (s : Shown) → shown x ≡ s → length (shown_text s) ≤ max_screen
    go Big e = omega arith
    go (Number m u) e =
        let whole : length (decimal (u / 10000)) ≤ 10 = few_digits 10 10 9 (u / 10000) (omega arith) (omega (arith, screen_bounded x m u e)) in
        simp (length-append, digits_length) (omega (arith, sign m))

-- row, column, bits, screen number, three spaces and a line feed
abbrev max_line : ℕ
max_line = 76

line_length : (i j : ℕ) (x : Float) → length (line_text i j x) ≤ max_line
unfolding line_text
line_length i j x = simp (length-append, digits_length) (omega (arith, decimal_length i, decimal_length j, screen_length x))

lines_length : (c k : ℕ) (xs : List Float) → length (lines_text c k xs) ≤ max_line * length xs
unfolding lines_text
lines_length c k [] = omega arith
lines_length c k (x ∷ xs) = rw length-append (omega (arith, line_length (k / c) (k % c) x, lines_length c (suc k) xs))

abbrev entries : Outcome → ℕ
entries (refused k) = 0
entries (ok n c xs) = length xs

-- the code's `TEXT`
abbrev pub max_text : ℕ
max_text = 8192

outcome_length : (a : Outcome) → entries a ≤ file_assets * file_assets → length (outcome_text a) ≤ max_text
unfolding outcome_text
outcome_length (refused k) h = simp length-append (omega (arith, decimal_length k))
outcome_length (ok n c xs) h = simp length-append (omega (arith, decimal_length n, decimal_length c, lines_length c 0 xs))

-- ---- the engine's answer is as long as its slice

module _ (r : List Float) (n T : ℕ) (slice : List Float) where
  covariance_length : (s : Settings) (g : List Float) (side : ℕ) → n * n ≤ length slice → length (adjusted_covariance r n T s g side slice).slice ≡ length slice
  covariance_length s g side h = rw (adjusted_is r n T s g side slice) (settle_length _ _ (n * n) _ slice (λ e. h))

  module _ (h : n ≤ length slice) where
    weighted_length : (d : Decay Float) → length (exponentially_weighted_mean r n T d slice).slice ≡ length slice
    unfolding exponentially_weighted_mean
    weighted_length d = settle_length _ _ n _ slice (λ e. h)

    james_stein_length : (l : ℕ) → length (james_stein_mean r n T l slice).slice ≡ length slice
    unfolding james_stein_mean
    james_stein_length l = settle_length _ _ n _ slice (λ e. h)

    bayes_stein_length : (l : ℕ) → length (bayes_stein_mean r n T l slice).slice ≡ length slice
    unfolding bayes_stein_mean
    bayes_stein_length l = settle_length _ _ n _ slice (λ e. h)

asked_length : (a : Asked) (q : Question) (r g slice : List Float) → q.assets * columns a q.assets ≤ length slice → length (asked_for a q r g slice).slice ≡ length slice
unfolding asked_for
asked_length AskedCovariance q r g slice h = covariance_length r q.assets q.periods slice (settings_of q) g q.assets h
asked_length WeightedMean q r g slice h = weighted_length r q.assets q.periods slice (omega arith) (decay_of q.estimate)
asked_length JamesStein q r g slice h = james_stein_length r q.assets q.periods slice (omega arith) (limit_of q.limit)
asked_length BayesStein q r g slice h = bayes_stein_length r q.assets q.periods slice (omega arith) (limit_of q.limit)

-- ---- what is printed

outcome_entries : (n c : ℕ) (a : Result Answer Refusal) (xs : List Float) → entries (outcome n c a xs) ≤ length xs
unfolding outcome
outcome_entries n c (Err r) xs = omega arith
outcome_entries n c (Ok a) xs = omega arith

answer_entries : (q : Question) (r g : List Float) → q.assets ≤ file_assets → entries (answer_to q r g) ≤ file_assets * file_assets
unfolding answer_to
answer_entries q r g few =
    let n = q.assets in
    let c = columns q.asked n in
    let slice = replicate (n * c) zero⁺ in
    let a = asked q r g slice in
    let blank : length slice ≡ n * c = length-replicate (n * c) zero⁺ in
    omega (arith, outcome_entries n c a.answer a.slice, asked_length q.asked q r g slice (omega arith), answer_fits q c few refl)

pub text_length : (paper : List ℕ) → length (marking paper) ≤ max_text
unfolding marking examined
text_length paper = go (read_question paper) refl
  where
    go : (o : Option Contents) → read_question paper ≡ o → length (outcome_text (examined o)) ≤ max_text
    go None e = outcome_length (refused malformed_number) (omega arith)
    go (Some c) e = outcome_length _ (answer_entries c.question _ _ (read_beside paper c e).assets_few)

-- what `mark` leaves at the front of a buffer with room is the whole text, and what stood behind is there still
pub whole_text : (paper s v : List ℕ) (n : ℕ) → max_text ≤ length s → out v n ≡ write (out s 0) (marking paper) → (take n v ≡ marking paper) × (drop n v ≡ drop n s)
whole_text paper s v n h e =
    let t = marking paper in
    let behind = drop (0 + length t) s in
    let w : out v n ≡ out (take 0 s ++ t ++ behind) (0 + length t) = e ∙ write_room t s 0 (omega (arith, text_length paper)) in
    let count : n ≡ 0 + length t = ap place w in
    let end : length t ≡ n = omega arith in
    let kept : drop n v ≡ behind = rw (ap buffer w) (drop_at t behind n end) in
    (rw (ap buffer w) (take_at t behind n end), kept ∙ ap (λ (k : ℕ). drop k s) (sym count))
  where
    place : Out ℕ → ℕ
    place (out v n) = n
