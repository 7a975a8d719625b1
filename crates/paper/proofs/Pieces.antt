-- Laws of `split` and `total`: how many numbers lists have, where the numbers of a kind stand, numbers that are cut into their lists again, and the floats made of
-- those of a kind. Assumes nothing.
use mathlib.Core.Path.{◌≡◌, refl, sym, ap, ◌∙◌}
use mathlib.Core.List.{List, [], ◌∷◌, ◌++◌, map, flatten, sum, sum-append, append_assoc}
use Prim.Native.Nat.{ℕ, zero, suc, ◌+◌, ◌-◌, ◌≤◌, ◌<◌}
use native.Mathlib.Nat.{zero-add, add_assoc, add-sub_cancel_left}
use native.Mathlib.Numerals.{add-one}
use native.Mathlib.Omega.{arith}
use lib.ListN.{length, get_or, take, drop, length-map, length-append, take-append-drop, length-drop, get_or-map}
use lib.Seq.{take-suc, drop-drop, take-append_seam, drop-append_seam, take_at, length-take-le}
use lib.Ieee.{Float}
use Rattle.leaves.specs.Numbers.{float}
use Rattle.leaves.specs.Loops.{tab, fill}
use Rattle.leaves.proofs.Loops.{tab_is}
use Rattle.paper.specs.Question.{front}
use Rattle.paper.specs.Inner.{split, total}

-- ---- how many

total_append : (cs ds : List ℕ) → total (cs ++ ds) ≡ total cs + total ds
total_append cs ds = sum-append ◌+◌ 0 zero-add add_assoc cs ds

pub total_more : (cs : List ℕ) (i : ℕ) → i < length cs → total (take (i + 1) cs) ≡ total (take i cs) + get_or cs i 0
unfolding sum
total_more cs i h = rw (add-one i, take-suc cs i 0 h) (total_append (take i cs) (get_or cs i 0 ∷ []) ∙ omega arith)

pub total_take : (cs : List ℕ) (i : ℕ) → total (take i cs) ≤ total cs
total_take cs i = omega (arith, ap (λ (l : List ℕ). total l) (take-append-drop i cs), total_append (take i cs) (drop i cs))

pub piece_in : (cs : List ℕ) (p : ℕ) → p < length cs → total (take p cs) + get_or cs p 0 ≤ total cs
piece_in cs p h = omega (arith, total_more cs p h, total_take cs (p + 1))

pub total_flatten : (q : List (List ℕ)) → total (map length q) ≡ length (flatten q)
unfolding sum flatten
total_flatten [] = refl
total_flatten (vs ∷ q) = rw (total_flatten q, length-append)

-- ---- which

-- the numbers of the kind at place p
piece : (cs ns : List ℕ) (p : ℕ) → get_or (split cs ns) p [] ≡ take (get_or cs p 0) (drop (total (take p cs)) ns)
unfolding split sum
piece [] ns p = refl
piece (c ∷ cs) ns zero = refl
piece (c ∷ cs) ns (suc p) = piece cs (drop c ns) p ∙ ap (take (get_or cs p 0)) (drop-drop (total (take p cs)) c ns)

-- lists, one after another, are cut into themselves
pub split_flatten : (q : List (List ℕ)) (r : List ℕ) → split (map length q) (flatten q ++ r) ≡ q
unfolding split flatten
split_flatten [] r = refl
split_flatten (vs ∷ q) r = rw (append_assoc vs (flatten q) r, take-append_seam vs (flatten q ++ r), drop-append_seam vs (flatten q ++ r), split_flatten q r)

-- ---- floats

tab_map : (f : ℕ → Float) (l : List ℕ) → tab (length l) (λ i. f (get_or l i 0)) ≡ map f l
tab_map f l = sym (tab_is (f 0) (map f l) (length l) (λ i. f (get_or l i 0)) (length-map l f) (λ k h. get_or-map f l k 0))

-- from the call that fills d with the floats of l
pub floats_filled : (l : List ℕ) (d₀ d : List Float) → d ≡ fill (length l) (λ i. float (get_or l i 0)) d₀ → take (length l) d ≡ map float l
unfolding fill
floats_filled l d₀ d g = rw (g, tab_map float l) (take_at (map float l) (drop (length l) d₀) (length l) (length-map l float))

-- from the call that copies the numbers of the kind at place p, which begin at place `from`
pub kind_copied : (cs ns : List ℕ) (p from : ℕ) (d : List ℕ) → from ≡ total (take p cs) → from + get_or cs p 0 ≤ length ns
    → take (from + get_or cs p 0 - from) (drop from ns) ++ drop (get_or cs p 0) d ≡ front (get_or (split cs ns) p []) d
kind_copied cs ns p from d e h =
    let n = get_or cs p 0 in
    rw (piece cs ns p, ← e, add-sub_cancel_left from n, length-take-le n (drop from ns) (rw length-drop (omega arith)))
