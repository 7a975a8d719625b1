-- `paper::kinds::place` meets its contract, kind by kind: the names stand in the order of the table.
use mathlib.Core.Path.{◌≡◌, refl}
use Prim.Native.Nat.{◌<◌}
use denote.Enum.Declared.{tag_of}
use lib.Dec.{lit<}
use Rattle.paper.specs.declared.kinds.KindName.{KindName}
use Rattle.paper.specs.declared.kinds.KindName.TheVariants.{Shape, Return, Regularization, FixedShrinkage, Target, HalfLife, Semi, SemiThreshold, GivenEntry, SweepLimit, DecayFactor, Question}
use Rattle.paper.specs.contracts.kinds.KindName.{the_type}
use Rattle.paper.specs.Grammar.{kinds, place_in}
use Rattle.paper.specs.Inner.{byte_of}
use Rattle.paper.proofs.kinds.place.Goals as goal

in_order : (k : KindName) → tag_of the_type k ≡ place_in kinds (byte_of k)
unfolding kinds place_in
in_order Shape = refl
in_order Return = refl
in_order Regularization = refl
in_order FixedShrinkage = refl
in_order Target = refl
in_order HalfLife = refl
in_order Semi = refl
in_order SemiThreshold = refl
in_order GivenEntry = refl
in_order SweepLimit = refl
in_order DecayFactor = refl
in_order Question = refl

twelve : (k : KindName) → tag_of the_type k < 12
twelve Shape = lit< tt
twelve Return = lit< tt
twelve Regularization = lit< tt
twelve FixedShrinkage = lit< tt
twelve Target = lit< tt
twelve HalfLife = lit< tt
twelve Semi = lit< tt
twelve SemiThreshold = lit< tt
twelve GivenEntry = lit< tt
twelve SweepLimit = lit< tt
twelve DecayFactor = lit< tt
twelve Question = lit< tt

pub returns : goal.returns
returns c = record { is_place = in_order c.args.kind; inside = twelve c.args.kind }
