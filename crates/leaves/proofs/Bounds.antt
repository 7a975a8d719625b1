-- How fine, how small and how large a value is: a multiple of 2 ^ grain units, and zero or from 2 ^ least to 2 ^ most units. The bounds of a sum, product, quotient or root are computed
-- from the operands' bounds as the value is from the operands, so that each quantity on the way of a computation has its bounds by name. Assumes nothing.
use Rattle.std.proofs.Common.{◌≡◌, ℕ, suc, ◌+◌, ◌-◌, ◌/◌, ◌^◌, ◌<◌, ◌≤◌, Bool, ◌&&◌, T, leb, inl, inr, le_trans, le_refl, lt_of_lt_of_le, lt_irrefl, eq-zero-or-pos, le→leb, leb→le, pow_mono}
use lib.Pow.{pow-lt}
use lib.Ieee.{Float}
use lib.Ieee.Fits.{and_i, and_l, and_r}
use Rattle.leaves.specs.Numbers.{zero⁺}
use Rattle.leaves.proofs.Units.{one_bits, fraction_bits, mag}
use Rattle.leaves.proofs.Range.{Range, range_weaken, range_finer, range_grain, range_zero}

pub record Bounds : Type 0 where
  pub grain : ℕ
  pub least : ℕ
  pub most : ℕ

abbrev pub Bounded : Bounds → Float → Type 0
Bounded b x = Range b.grain (2 ^ b.least) (2 ^ b.most) x

pub zero_bounded : (b : Bounds) → Bounded b zero⁺
zero_bounded b = range_zero b.grain (2 ^ b.least) (2 ^ b.most)

-- bounds that only zeros meet
pub only_zero : {x : Float} (b : Bounds) → b.most < b.least → Bounded b x → mag x ≡ 0
only_zero {x} b h r = elim (eq-zero-or-pos (mag x)) [ inl z ↦ z | inr p ↦ absurd (lt_irrefl (2 ^ b.most) (lt_of_lt_of_le (pow-lt h) (le_trans (r.least p) r.most))) ]

-- zero or from 2 ^ l to 2 ^ h units: the last bit of such a value is not below 2 ^ (l - fraction_bits)
abbrev pub sizes : ℕ → ℕ → Bounds
sizes l h = record { grain = l - fraction_bits; least = l; most = h }

-- multiples of 2 ^ g units, of which nothing else is known from below
abbrev pub multiples : ℕ → ℕ → Bounds
multiples g h = record { grain = g; least = g; most = h }

-- ---- results
-- of at most 2 ^ c terms
abbrev pub sum_of : ℕ → Bounds → Bounds
sum_of c b = multiples b.grain (c + b.most)

-- a product by its factors' grains, and by their sizes where it is in the normal range
abbrev pub product_of : Bounds → Bounds → Bounds
product_of b c = multiples (b.grain + c.grain - one_bits) (b.most + c.most - one_bits)

abbrev pub normal_product_of : Bounds → Bounds → Bounds
normal_product_of b c = sizes (b.least + c.least - one_bits) (b.most + c.most - one_bits)

abbrev pub quotient_of : Bounds → Bounds → Bounds
quotient_of b c = sizes (b.least + one_bits - c.most) (b.most + one_bits - c.least)

abbrev pub root_of : Bounds → Bounds
root_of b = sizes ((b.least + one_bits) / 2) ((suc b.most + one_bits) / 2)

-- ---- wider bounds
-- d is as fine as b and reaches as far; and d leaves room for b's least size too
abbrev pub covers : Bounds → Bounds → Bool
covers d b = leb d.grain b.grain && leb b.most d.most

abbrev pub within : Bounds → Bounds → Bool
within b d = covers d b && leb d.least b.least

pub is_covered : (d b : Bounds) → d.grain ≤ b.grain → b.most ≤ d.most → T (covers d b)
is_covered d b fine large = and_i (leb d.grain b.grain) (leb b.most d.most) (le→leb d.grain b.grain fine) (le→leb b.most d.most large)

module _ {x : Float} (b d : Bounds) where
  covered : T (covers d b) → Bounded b x → Range d.grain (2 ^ b.least) (2 ^ d.most) x
  covered t r =
      let fine : Bool = leb d.grain b.grain in
      let large : Bool = leb b.most d.most in
      range_weaken (2 ^ b.least) (2 ^ d.most) (le_refl (2 ^ b.least)) (pow_mono (leb→le b.most d.most (and_r fine large t))) (range_finer d.grain (leb→le d.grain b.grain (and_l fine large t)) r)

  pub bounded_coarse : T (covers d b) → Bounded b x → Bounded (multiples d.grain d.most) x
  bounded_coarse t r = range_grain (covered t r)

  pub bounded_within : T (within b d) → Bounded b x → Bounded d x
  bounded_within t r =
      let small : Bool = leb d.least b.least in
      range_weaken (2 ^ d.least) (2 ^ d.most) (pow_mono (leb→le d.least b.least (and_r (covers d b) small t))) (le_refl (2 ^ d.most)) (covered (and_l (covers d b) small t) r)
