-- Document 01, "Float leaves", sqrt: a value times a power of two, exactly, as multiplying by 2 ^ k gives it wherever the format holds the result.
-- Definitions only.
use Rattle.std.specs.Prelude.{zero, suc, ℤ, ◌+ℤ◌, Float}
use Rattle.std.specs.Float.{nan, inf, fin}

-- 2 ^ k times x, with no rounding
unfoldable pub shift : ℤ → Float → Float
shift k nan = nan
shift k (inf s) = inf s
shift k (fin s zero e) = fin s zero e
shift k (fin s (suc m) e) = fin s (suc m) (e +ℤ k)
