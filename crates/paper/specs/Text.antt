-- Document 01, "The exam program": how numbers are spelled, and what it is to write text into a lent buffer. Definitions only.
use Rattle.std.specs.Prelude.{ℕ, zero, suc, ◌+◌, ◌/◌, ◌%◌, ◌≤◌, ◌≡◌, cond, List, [], ◌∷◌, ◌++◌, length, set, take, ltb, eqb}

-- ---- ASCII codes

abbrev pub line_feed : ℕ
line_feed = 10

abbrev pub space : ℕ
space = 32

abbrev pub minus_sign : ℕ
minus_sign = 45

abbrev pub point : ℕ
point = 46

abbrev pub digit_zero : ℕ
digit_zero = 48

-- ---- digits

-- the code of a digit below 16: 0 to 9, then A to F, where A is 65
unfoldable pub glyph : ℕ → ℕ
glyph d = cond (ltb d 10) (digit_zero + d) (55 + d)

-- the last k digits of n in base b, the most significant first
unfoldable pub digits : ℕ → ℕ → ℕ → List ℕ
digits b zero n = []
digits b (suc k) n = digits b k (n / b) ++ (glyph (n % b) ∷ [])

-- digits with no 0 in front of another
unfoldable pub unpadded : List ℕ → List ℕ
unpadded [] = []
unpadded (d ∷ []) = d ∷ []
unpadded (d ∷ e ∷ ds) = cond (eqb d digit_zero) (unpadded (e ∷ ds)) (d ∷ e ∷ ds)

-- no number of 64 bits has more decimal digits
abbrev pub max_digits : ℕ
max_digits = 20

abbrev pub decimal : ℕ → List ℕ
decimal n = unpadded (digits 10 max_digits n)

-- ---- a lent buffer

-- a buffer, and the place in it of the next byte or number
pub data Out (A : Type 0) : Type 0 where
  out : List A → ℕ → Out A

-- one more; a full buffer takes nothing
unfoldable pub put : {A : Type 0} → Out A → A → Out A
put (out s i) b = out (set s i b) (cond (ltb i (length s)) (i + 1) i)

-- a text, byte by byte, or numbers, one by one
unfoldable pub write : {A : Type 0} → Out A → List A → Out A
write o [] = o
write o (b ∷ t) = write (put o b) t

-- n counts numbers at the front of xs, in the words of the crate io, so that a caller may lend `&buf[..n]`
abbrev pub Counts : {A : Type 0} → ℕ → List A → Type 0
Counts n xs = (n ≤ length xs) × (n ≡ length (take n xs))
