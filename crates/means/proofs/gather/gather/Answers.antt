-- `means::gather::gather` meets its contract: the quotients, their common exponent, and the quotients over it.
use Rattle.std.proofs.Common.{◌≡◌, ℕ, ◌≤◌, List, length, ℤ, neg_ℤ, nat_abs, refl, ◌∙◌, arith}
use lib.Ieee.{Float}
use Rattle.leaves.specs.Numbers.{◌⊘◌}
use Rattle.leaves.specs.Loops.{tab, nth}
use Rattle.leaves.proofs.Ints.{read_back}
use Rattle.leaves.proofs.Lists.{nth_stored, tab_long}
use Rattle.rules.specs.BayesStein.{common_exponent, gathered, exponent_at}
use Rattle.tables.specs.Exponents.{two_exponents}
use Rattle.tables.proofs.Exponents.{read}
use Rattle.means.specs.Gather.{Gathered}
use Rattle.means.proofs.Gathered.{gathered_as}
use Rattle.means.proofs.gather.gather.Goals as goal

made : (n : ℕ) (m : ℕ → Float) (k : ℕ → ℤ) (quotients : List Float) (e : ℤ) (l : List Float) → quotients ≡ tab n m → e ≡ common_exponent (length quotients) (nth quotients) k → nat_abs e ≤ two_exponents
    → l ≡ gathered (length quotients) (nth quotients) k (read_back e) → Gathered n m k (read_back e) l
made n m k quotients e l is-q is-e size is-l =
    let long : length quotients ≡ n = tab_long n m quotients is-q in
    let same : read_back e ≡ e = read e (omega arith) in
    let g : Gathered n (nth quotients) k (read_back e) l = record { power = same ∙ rw long at is-e; numbers = rw long at is-l; size = rw same size } in
    gathered_as (λ i h. nth_stored n m is-q i h) (λ i h. refl) g

pub returns : goal.returns
returns c =
    let a = c.args in
    let b = c.common_exponent-e in
    made (length a.out.now) (λ i. nth a.xs.now i ⊘ nth a.volatilities.now i) (λ i. neg_ℤ (exponent_at a.exponents.now i)) _ b.result _ c.divide.ensures b.ensures.0 b.ensures.1 c.scale_down.ensures
