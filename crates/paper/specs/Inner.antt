-- What only the contracts of inner functions cite: what stands past the table of kinds, how many records a file can have, and that a value of the code, with the
-- numbers that were filled, stands for what the definitions take. Definitions only.
use Rattle.std.specs.Prelude.{◌≡◌, ℕ, ◌+◌, ◌*◌, ◌≤◌, cond, length, take, drop, Option, Some, None}
use mathlib.Core.List.{List, [], ◌∷◌, flatten, sum}
use Rattle.paper.specs.declared.kinds.Kind.{Kind}
use Rattle.paper.specs.declared.kinds.KindName.{KindName}
use Rattle.paper.specs.declared.kinds.KindName.TheVariants.{Shape, Return, Regularization, FixedShrinkage, Target, HalfLife, Semi, SemiThreshold, GivenEntry, SweepLimit, DecayFactor, Question}
use Rattle.paper.specs.declared.reader.Took.{Took}
use Rattle.paper.specs.declared.reader.Scanned.{Scanned}
use Rattle.paper.specs.declared.format.Outline.{Outline}
use Rattle.paper.specs.Text.{Out, out, write}
use Rattle.paper.specs.Grammar.{file_assets, file_periods, kind, kinds, Taken, Sheet, sheet}
use Rattle.paper.specs.Rules.{outline, is_question}

-- past the end of the table of kinds
abbrev pub missing : Kind
missing = kind 0 0 0

abbrev pub byte_of : KindName → ℕ
byte_of Shape = 1
byte_of Return = 2
byte_of Regularization = 3
byte_of FixedShrinkage = 4
byte_of Target = 5
byte_of HalfLife = 6
byte_of Semi = 7
byte_of SemiThreshold = 8
byte_of GivenEntry = 9
byte_of SweepLimit = 10
byte_of DecayFactor = 12
byte_of Question = 11

-- the most records of a file: ten of the twelve kinds come once at most
abbrev pub max_records : ℕ
max_records = file_periods * file_assets + file_assets * file_assets + 10

-- t was taken of the file s; its bodies went into the numbers v at i, which became v'
pub record TookIs (s : List ℕ) (t : Taken) (v : List ℕ) (i : ℕ) (v' : List ℕ) (r : Took) : Type 0 where
  pub numbers : out v' r.next ≡ write (out v i) t.bodies
  pub within : r.at ≤ length s
  pub rest : drop r.at s ≡ t.rest
  pub count : r.count ≡ length t.bodies

-- without the place of the next byte
abbrev pub buffer : Out ℕ → List ℕ
buffer (out v i) = v

-- the file s was taken as f; its bodies went to the front of the numbers v, which became v'
pub record ScannedIs (f : Sheet) (s v v' : List ℕ) (r : Scanned) : Type 0 where
  pub numbers : v' ≡ buffer (write (out v 0) (flatten f.lists))
  pub within : r.end ≤ length s
  pub rest : drop r.end s ≡ f.rest
  pub outline_is : r.outline ≡ outline f.lists

-- numbers cut into lists of these lengths
unfoldable pub split : List ℕ → List ℕ → List (List ℕ)
split [] ns = []
split (c ∷ cs) ns = take c ns ∷ split cs (drop c ns)

-- the file s was read: its outline where it is a question, and its bodies; the numbers v became v'. Nothing asks for `numbers`, but it leaves no part of a lent slice unsaid
pub record ReadIs (s v v' : List ℕ) (r : Option Outline) : Type 0 where
  pub room : max_records ≡ length v'
  pub outline_is : r ≡ cond (is_question (sheet kinds s)) (Some (outline (sheet kinds s).lists)) None
  pub parts_are : split (outline (sheet kinds s).lists).counts v' ≡ (sheet kinds s).lists
  pub numbers : v' ≡ buffer (write (out v 0) (flatten (sheet kinds s).lists))

-- how many numbers there are
abbrev pub total : List ℕ → ℕ
total cs = sum ◌+◌ 0 cs
