-- The shape of a table: what holds where none of its refusals comes, and what comes with the room of an answer beside it. Assumes nothing.
use Rattle.std.proofs.Common.{◌≡◌, ℕ, ◌*◌, ◌<◌, ◌≤◌, Bool, true, false, not, ◌||◌, [], ◌∷◌, sym, arith}
use borrow.Author.Tests.{eqb-true, eqb-false, ltb-false, not-false}
use mathlib.Mathlib.Data.Bool.Basic.{or-eq-false-eq-eq-false-and-eq-false}
use lib.Dec.{eqb, ltb}
use Rattle.matrix.specs.Limits.{max_side}
use Rattle.rules.specs.Refusals.{passes, refuses, when, first}
use Rattle.rules.specs.declared.Refusal.{Refusal}
use Rattle.rules.proofs.Firsts.{first_alone}
use Rattle.rules.proofs.Passed.{first_passes, passes_not}
use Rattle.inputs.specs.Opening.{by_table}

pub record Fitting (length n rows least most : ℕ) : Type 0 where
  pub some : 0 < n
  pub narrow : n ≤ max_side
  pub enough : least ≤ rows
  pub few : rows ≤ most
  pub long : length ≡ rows * n

pub fitting : (length n rows least most : ℕ) → passes ≡ first (by_table length n rows least most) → Fitting length n rows least most
fitting length n rows least most e =
    let a = first_passes (eqb n 0) _ _ (sym e) in
    let b = first_passes (ltb max_side n || ltb most rows) _ _ a.1 in
    let c = first_passes (ltb rows least) _ _ b.1 in
    let d = first_passes (not (eqb length (rows * n))) _ _ c.1 in
    let some = eqb-false n 0 a.0 in
    let large = (or-eq-false-eq-eq-false-and-eq-false _ _).0 b.0 in
    record {
      some = omega arith;
      narrow = ltb-false _ _ large.0;
      enough = ltb-false _ _ c.0;
      few = ltb-false _ _ large.1;
      long = eqb-true _ _ (not-false _ d.0);
    }

-- four tests, and a fifth that is refused as the fourth
pub room_refuses : (a b c d e : Bool) (A B C D : Refusal) {r : Refusal} → refuses r ≡ first (when a A ∷ when b B ∷ when c C ∷ when d D ∷ [])
    → refuses r ≡ first (when a A ∷ when b B ∷ when c C ∷ when (d || e) D ∷ [])
unfolding first
room_refuses true b c d e A B C D h = h
room_refuses false true c d e A B C D h = h
room_refuses false false true d e A B C D h = h
room_refuses false false false true e A B C D h = h
room_refuses false false false false e A B C D h = absurd (passes_not (sym h))

pub room_answers : (a b c d e : Bool) (A B C D : Refusal) → passes ≡ first (when a A ∷ when b B ∷ when c C ∷ when d D ∷ [])
    → when e D ≡ first (when a A ∷ when b B ∷ when c C ∷ when (d || e) D ∷ [])
unfolding first
room_answers true b c d e A B C D h = absurd (passes_not h)
room_answers false true c d e A B C D h = absurd (passes_not h)
room_answers false false true d e A B C D h = absurd (passes_not h)
room_answers false false false true e A B C D h = absurd (passes_not h)
room_answers false false false false e A B C D h = first_alone (when e D)
