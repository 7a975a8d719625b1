-- A test stands before each sweep (document 01, "Jacobi"), so a decomposition found at a limit is found at every larger one, in every bit and count. Assumes nothing.
use mathlib.Core.Path.{◌≡◌, refl, sym, ap, ◌∙◌}
use mathlib.Core.Bool.{Bool, true, false, true≢false}
use mathlib.Core.List.{List}
use mathlib.Core.Option.{Option, none, some}
use Prim.Native.Nat.{ℕ, ◌≤◌}
use lib.Ieee.{Float, eq}
use Rattle.leaves.specs.Numbers.{zero⁺}
use Rattle.leaves.specs.Loops.{first_to}
use Rattle.leaves.proofs.Search.{first_later}
use Rattle.matrix.specs.Matrix.{Matrix, amax, all_finite}
use Rattle.matrix.specs.Rotation.{State}
use Rattle.matrix.specs.Jacobi.{Swept, stopping, swept_by, sweeping, start, tolerance, initial, swept, scaled_back, decomposed_by, decompose}
use Rattle.matrix.proofs.Sweeps.{sweeping_is, decompose_is}

module _ (n : ℕ) (tolerance : Float) (st : State) where
  abbrev stop : ℕ → Bool
  stop = stopping n tolerance st

  abbrev by : ℕ → Option ℕ → Swept
  by = swept_by n tolerance st

  sweeping_later : (limit limit' : ℕ) → limit ≤ limit' → (sweeping limit n tolerance st).done ≡ true → sweeping limit' n tolerance st ≡ sweeping limit n tolerance st
  sweeping_later limit limit' l d = go (first_to limit stop) refl (ap done_of (sym (sweeping_is n tolerance st limit)) ∙ d)
    where
      done_of : Swept → Bool
      done_of w = w.done

      go : (o : Option ℕ) → first_to limit stop ≡ o → (by limit o).done ≡ true → sweeping limit' n tolerance st ≡ sweeping limit n tolerance st
      go none e d = absurd (true≢false (sym d))
      go (some k) e d = sweeping_is n tolerance st limit' ∙ ap (by limit') (first_later stop limit limit' k l e) ∙ sym (sweeping_is n tolerance st limit ∙ ap (by limit) e)

pub larger_limit : (n : ℕ) (a : Matrix) (limit limit' : ℕ) → limit ≤ limit' → (decompose limit n a).found ≡ true → decompose limit' n a ≡ decompose limit n a
larger_limit n a limit limit' l = rw (decompose_is limit n a, decompose_is limit' n a) (go (all_finite n n a) (eq (amax n n a) zero⁺) (amax n n a) (start n (amax n n a) a))
  where
    go : (x y : Bool) (scale : Float) (b : List Float) → (decomposed_by limit n x y scale b).found ≡ true → decomposed_by limit' n x y scale b ≡ decomposed_by limit n x y scale b
    go false y scale b d = refl
    go true true scale b d = refl
    go true false scale b d = unfold scaled_back swept in ap (scaled_back n scale) (sweeping_later n (tolerance n b) (initial n b) limit limit' l d)
