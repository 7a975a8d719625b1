-- `means::forms::Decomposed::squared_distance` meets its contract: a form of the difference's projection.
use Rattle.std.proofs.Common.{◌≡◌, ℕ, ◌<◌, List, ap, ◌∙◌}
use lib.Ieee.{Float}
use Rattle.leaves.specs.Numbers.{◌⊖◌, ◌⊗◌}
use Rattle.leaves.specs.Loops.{sum_to, tab, nth}
use Rattle.leaves.proofs.Loops.{tab_ext, sum_ext}
use Rattle.leaves.proofs.Lists.{nth_stored}
use Rattle.matrix.specs.Matrix.{at}
use Rattle.matrix.specs.Jacobi.{Decomposition}
use Rattle.rules.specs.BayesStein.{project, form, squared_distance_of}
use Rattle.means.proofs.forms.Decomposed.squared_distance.Goals as goal

project-ext : (n : ℕ) (d : Decomposition) (f g : ℕ → Float) → ((i : ℕ) → i < n → f i ≡ g i) → project n d f ≡ project n d g
unfolding project
project-ext n d f g h =
    tab_ext (λ e. sum_to n (λ i. at d.vectors n i e ⊗ f i)) (λ e. sum_to n (λ i. at d.vectors n i e ⊗ g i)) n
    (λ e b. sum_ext n (λ i. at d.vectors n i e ⊗ f i) (λ i. at d.vectors n i e ⊗ g i) (λ i l. ap (λ (x : Float). at d.vectors n i e ⊗ x) (h i l)))

squared : (n : ℕ) (d : Decomposition) (x y : List Float) (a : Float) (z q : List Float) (r : Float) → z ≡ tab n (λ i. nth y i ⊖ a ⊗ nth x i) → q ≡ project n d (nth z) → r ≡ form n d q q → r ≡ squared_distance_of n d x y a
squared n d x y a z q r is-z is-q is-r =
    let f : ℕ → Float = λ i. nth y i ⊖ a ⊗ nth x i in
    let e : q ≡ project n d f = is-q ∙ project-ext n d (nth z) f (λ i h. nth_stored n f is-z i h) in
    is-r ∙ (λ t. form n d (e t) (e t))

pub returns : goal.returns
returns c d hv hV =
    let s = c in
    let a = s.args in
    squared a.self.now.n d a.x.now a.y.now a.a _ _ c.form.result (rw s.requires.2 at c.subtract.ensures) (c.project.ensures d hV) (c.form.ensures d hv)
