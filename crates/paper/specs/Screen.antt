-- Document 01, "The exam program", and document 02, "Paper 3. Screens round": the screen number, from the exact value of a float. Definitions only.
use Rattle.std.specs.Prelude.{ℕ, ◌+◌, ◌-◌, ◌*◌, ◌/◌, ◌%◌, ◌^◌, ◌≤◌, ◌≡◌, Bool, not, ◌&&◌, cond, List, [], ◌∷◌, ◌++◌, leb, eqb, Float}
use Rattle.std.specs.Float.{nan, inf, fin}
use Rattle.std.specs.Float.Ieee.{up, down}
use Rattle.paper.specs.declared.screen.Shown.{Shown}
use Rattle.paper.specs.declared.screen.Shown.TheVariants.{Big, Number}
use Rattle.paper.specs.Text.{minus_sign, point, digits, decimal}

-- how far apart two numbers are
abbrev pub distance : ℕ → ℕ → ℕ
distance a b = (a - b) + (b - a)

-- No whole number is nearer to a / b than u is, and one that is as near is not larger. So u is the nearest one, and at a half the larger one.
pub record IsNearest (a b u : ℕ) : Type 0 where
  pub none_nearer : (v : ℕ) → distance a (u * b) ≤ distance a (v * b)
  pub half_up : (v : ℕ) → distance a (v * b) ≡ distance a (u * b) → v ≤ u

-- That number: a / b + 1 / 2, without its fraction. `nearest_is` and `nearest_only` (proofs/Nearest.antt) prove that it is the one.
unfoldable pub nearest : ℕ → ℕ → ℕ
nearest a b = (2 * a + b) / (2 * b)

-- the ten-thousandths nearest to a size a / b: of a size the larger one is the one away from zero
abbrev pub ten_thousandths : ℕ → ℕ → ℕ
ten_thousandths a b = nearest (a * 10000) b

-- a number of sign s (true for minus) and size a / b: big where that size is 2 ^ 31 or more, and no minus at 0.0000
unfoldable pub shown_as : Bool → ℕ → ℕ → Shown
shown_as s a b = cond (leb (2 ^ 31 * b) a) Big (Number (not (eqb (ten_thousandths a b) 0) && s) (ten_thousandths a b))

-- fin s m e is the number m * 2 ^ e with the sign s, and m * 2 ^ e is m * up e / down e
unfoldable pub shown : Float → Shown
shown nan = Big
shown (inf s) = Big
shown (fin s m e) = shown_as s (m * up e) (down e)

-- `big`; or a minus if there is one, the whole part, a point and four digits
unfoldable pub shown_text : Shown → List ℕ
shown_text Big = 98 ∷ 105 ∷ 103 ∷ []
shown_text (Number minus u) = cond minus (minus_sign ∷ []) [] ++ (decimal (u / 10000) ++ (point ∷ digits 10 4 (u % 10000)))

abbrev pub screen_text : Float → List ℕ
screen_text x = shown_text (shown x)
