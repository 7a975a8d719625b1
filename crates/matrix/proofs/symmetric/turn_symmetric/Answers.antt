-- `matrix::symmetric::turn_symmetric` meets its contract: what its calls ensure, put together.
use mathlib.Core.Path.{◌≡◌, sym, ap, ◌∙◌, subst}
use mathlib.Core.List.{List}
use Prim.Native.Nat.{ℕ, ◌*◌, ◌<◌}
use borrow.Author.Rules.{rules}
use lib.ListN.{length}
use lib.Ieee.{Float}
use Rattle.matrix.specs.Matrix.{at, rows}
use Rattle.matrix.specs.Rotation.{turn_rows, turned_both}
use Rattle.matrix.specs.Inner.{turned_block, mirrored, Symmetric}
use Rattle.matrix.proofs.Symmetry.{mirrored_both, blocked_meet}
use Rattle.matrix.proofs.symmetric.turn_symmetric.Goals as goal

module _ (c s : Float) (n p q : ℕ) (a : List Float) (pq : p < q) (qn : q < n) (len : length a ≡ n * n) (same : Symmetric n a) {a₁ a₂ : List Float} (e₁ : a₁ ≡ turn_rows n p q c s a) (e₂ : a₂ ≡ turned_block n p q c s a₁) where
  block : a₂ ≡ turned_block n p q c s (turn_rows n p q c s a)
  block = e₂ ∙ ap (turned_block n p q c s) e₁

  meet : at a₂ n p q ≡ at a₂ n q p
  meet = subst (λ (l : List Float). at l n p q ≡ at l n q p) (sym block) (blocked_meet c s n p q pq qn a len)

  composed : {a₃ : List Float} → a₃ ≡ rows n n (mirrored n p q a₂) → a₃ ≡ turned_both n p q c s a
  composed e₃ = e₃ ∙ ap (λ (l : List Float). rows n n (mirrored n p q l)) block ∙ mirrored_both c s n p q pq qn a len same

pub mirror-requires : goal.mirror-requires
mirror-requires c =
    let r = c in
    let i = r in
    (i.requires.0, i.requires.1, search rules, meet _ _ _ _ _ _ i.requires.0 i.requires.1 i.requires.2 i.requires.3 r.turn_rows.ensures c.turn_block.ensures)

pub returns : goal.returns
returns c =
    let m = c in
    let r = m in
    let i = r in
    composed _ _ _ _ _ _ i.requires.0 i.requires.1 i.requires.2 i.requires.3 r.turn_rows.ensures m.turn_block.ensures m.mirror.ensures
