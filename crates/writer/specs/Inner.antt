-- What only the contracts of inner functions cite: the bodies of each kind, as the code holds them. A kind other than the returns' and the given entries' comes once at
-- most. Definitions only.
use Rattle.std.specs.Prelude.{cond, List, [], ◌∷◌, ℕ, eqb}
use Rattle.paper.specs.declared.format.Outline.{Outline}
use Rattle.paper.specs.declared.kinds.Kind.{Kind}
use Rattle.paper.specs.Grammar.{kinds}

-- the bodies of kind k, of which there are so many, with this first one
unfoldable pub pick : Kind → ℕ → ℕ → List ℕ → List ℕ → List ℕ
pick k count first returns given = cond (eqb k.byte 2) returns (cond (eqb k.byte 9) given (cond (eqb count 0) [] (first ∷ [])))

unfoldable pub held_from : List Kind → List ℕ → List ℕ → List ℕ → List ℕ → List (List ℕ)
held_from [] counts firsts returns given = []
held_from (k ∷ ks) [] firsts returns given = []
held_from (k ∷ ks) (c ∷ counts) [] returns given = []
held_from (k ∷ ks) (c ∷ counts) (f ∷ firsts) returns given = pick k c f returns given ∷ held_from ks counts firsts returns given

abbrev pub held : Outline → List ℕ → List ℕ → List (List ℕ)
held o returns given = held_from kinds o.counts o.firsts returns given
