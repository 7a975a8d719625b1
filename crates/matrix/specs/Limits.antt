-- Document 01, "Records", with document 02's Paper 2: the largest side of a matrix and the largest sweep limit. Definitions only.
use Rattle.std.specs.Prelude.{ℕ}

abbrev pub max_side : ℕ
max_side = 24

abbrev pub max_sweeps : ℕ
max_sweeps = 100
