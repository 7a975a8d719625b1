-- Laws of `fill` (specs/Loops.antt), which replaces the first n elements of a list and keeps the others. Assumes nothing.
use Rattle.std.proofs.Common.{◌≡◌, ℕ, ◌<◌, ◌≤◌, List, ◌++◌, length, get_or, drop, sym, ap, ◌∙◌, append-nil, drop_of_length-le, length-take-le}
use lib.Seq.{length_front}
use Rattle.leaves.specs.Loops.{tab, fill}
use Rattle.leaves.proofs.Loops.{length_tab, tab_at}

module _ {A : Type 0} where
  pub length_fill : (f : ℕ → A) (n : ℕ) (old : List A) → n ≤ length old → length (fill n f old) ≡ length old
  unfolding fill
  length_fill f n old h = length_front old (tab n f) n (length_tab f n ∙ sym (length-take-le n old h))

  -- a list no longer than n is replaced whole
  pub fill_whole : (f : ℕ → A) (n : ℕ) (old : List A) → length old ≤ n → fill n f old ≡ tab n f
  unfolding fill
  fill_whole f n old h = ap (λ (r : List A). tab n f ++ r) (drop_of_length-le old h) ∙ append-nil (tab n f)

  -- the first n elements are f's
  pub fill_at : (f : ℕ → A) (n : ℕ) (old : List A) (k : ℕ) (d : A) → k < n → get_or (fill n f old) k d ≡ f k
  unfolding fill
  fill_at f n old k d h = tab_at f n (drop n old) k d h
