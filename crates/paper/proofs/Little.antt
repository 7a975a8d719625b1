-- Laws of `little`: the number of up to eight bytes, with zeros above them, is what the library makes of the eight. Assumes nothing.
use mathlib.Core.Path.{◌≡◌, refl, ◌∙◌}
use mathlib.Core.List.{List, [], ◌∷◌, ◌++◌}
use Prim.Native.Nat.{ℕ, zero, suc, ◌+◌, ◌*◌, ◌≤◌}
use native.Mathlib.Omega.{arith}
use lib.ListN.{length, get_or, drop, drop_of_length-le, length-append, length-drop}
use Rattle.std.specs.Int.{from_le_bytes, w64}
use Rattle.paper.specs.Grammar.{little}

byte_more : (bs : List ℕ) (i : ℕ) → little (drop i bs) ≡ get_or bs i 0 + 256 * little (drop (suc i) bs)
unfolding little
byte_more [] zero = refl
byte_more [] (suc i) = refl
byte_more (b ∷ bs) zero = refl
byte_more (b ∷ bs) (suc i) = byte_more bs i

eight : (bs : List ℕ) → length bs ≡ 8 → from_le_bytes w64 bs ≡ little bs
unfolding little
eight bs e =
    let none : little (drop 8 bs) ≡ 0 = rw (drop_of_length-le bs {i = 8} (omega arith)) in
    omega (arith, byte_more bs 0, byte_more bs 1, byte_more bs 2, byte_more bs 3, byte_more bs 4, byte_more bs 5, byte_more bs 6, byte_more bs 7)

abbrev zeros : List ℕ
zeros = 0 ∷ 0 ∷ 0 ∷ 0 ∷ 0 ∷ 0 ∷ 0 ∷ 0 ∷ []

fewer_zeros : (n : ℕ) (zs : List ℕ) → little zs ≡ 0 → little (drop n zs) ≡ 0
unfolding little
fewer_zeros zero zs e = e
fewer_zeros (suc n) [] e = e
fewer_zeros (suc n) (z ∷ zs) e = fewer_zeros n zs (omega arith)

zeros_above : (bs zs : List ℕ) → little zs ≡ 0 → little (bs ++ zs) ≡ little bs
unfolding little
zeros_above [] zs e = e
zeros_above (b ∷ bs) zs e = rw (zeros_above bs zs e)

pub padded : (bs : List ℕ) (n : ℕ) → length bs ≡ n → n ≤ 8 → from_le_bytes w64 (bs ++ drop n zeros) ≡ little bs
unfolding little
padded bs n e h =
    let long : length (bs ++ drop n zeros) ≡ 8 = simp (length-append, length-drop) (omega arith) in
    eight (bs ++ drop n zeros) long ∙ zeros_above bs (drop n zeros) (fewer_zeros n zeros refl)
