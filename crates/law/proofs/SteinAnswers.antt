-- What the two Stein means answer, in two runs. Assumes nothing.
use mathlib.Core.Path.{◌≡◌, refl, sym, ap, subst}
use Prim.Native.Nat.{ℕ, ◌<◌}
use mathlib.Core.List.{List, [], ◌∷◌, ◌++◌}
use lib.Dec.{T}
use lib.IntN.{pos}
use lib.ListN.{take}
use lib.Ieee.{Float, binary64, fits}
use Rattle.std.specs.Prelude.{Ok}
use Rattle.leaves.specs.Loops.{fill}
use Rattle.leaves.specs.Shift.{shift}
use Rattle.matrix.specs.Jacobi.{Decomposition}
use Rattle.rules.specs.Refusals.{Check, passes}
use Rattle.rules.specs.Shrinking.{Shrinking, shrunk_by}
use Rattle.rules.specs.Calls.{Answered, answered, settle}
use Rattle.law.specs.Law.{Alike, All, AtLeast, mean_range, parts, Large}
use Rattle.law.proofs.Numbers.{times_shift, times_itself, filled_alike}

abbrev pub shrunk_into : ℕ → Shrinking → List Float → Answered
shrunk_into n w slice = answered (Ok (shrunk_by w)) (fill n w.mean slice)

pub large : (n : ℕ) (w : Shrinking) (slice : List Float) {c : Check} → c ≡ passes → Large (parts n (settle c slice (shrunk_into n w slice))) → AtLeast mean_range w.intensity × AtLeast mean_range w.target
unfolding settle
large n w slice e h = let l = subst (λ (c : Check). Large (parts n (settle c slice (shrunk_into n w slice)))) e h in (last (take n (fill n w.mean slice)) l.1, l.0)
  where
    last : (l : List Float) → All (AtLeast mean_range) (l ++ (w.intensity ∷ [])) → AtLeast mean_range w.intensity
    last [] h = h.0
    last (x ∷ l) h = last l h.1

pub record Copied (k n : ℕ) (w w' : Shrinking) : Type 0 where
  pub intensity : w'.intensity ≡ w.intensity
  pub target : T (fits binary64 w.target) × (w'.target ≡ shift (pos k) w.target)
  pub decomposition : w'.decomposition ≡ w.decomposition
  pub means : (i : ℕ) → i < n → T (fits binary64 (w.mean i)) × (w'.mean i ≡ shift (pos k) (w.mean i))

pub shrunk_alike : {k n : ℕ} {w w' : Shrinking} (slice slice' : List Float) → Copied k n w w' → Alike (pos k) (parts n (shrunk_into n w slice)) (parts n (shrunk_into n w' slice'))
shrunk_alike {k} {n} {w} {w'} slice slice' c = record {
  refusal = refl;
  entries = tt;
  means_and_target = (rw c.target.1 (times_shift k w.target c.target.0), filled_alike k n w.mean w'.mean slice slice' c.means);
  intensity = (rw c.intensity (times_itself w.intensity), tt);
  sweeps_and_rotations = ap (λ (d : Decomposition). d.sweeps ∷ d.rotations ∷ []) (sym c.decomposition);
}
