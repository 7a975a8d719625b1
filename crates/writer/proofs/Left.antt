-- Laws of `specs/Files.antt`: what a loop that writes has left after a turn. Assumes nothing.
use mathlib.Core.Path.{◌≡◌, ap}
use mathlib.Core.List.{List, [], ◌∷◌, ◌++◌, append-nil}
use Prim.Native.Nat.{ℕ, suc, ◌+◌, ◌-◌, ◌*◌, ◌/◌, ◌%◌, ◌≤◌, ◌<◌}
use native.Mathlib.Omega.{arith}
use lib.ListN.{length, drop, get_or, drop_of_length-le}
use Rattle.paper.specs.declared.kinds.Kind.{Kind}
use Rattle.paper.specs.Inner.{missing}
use Rattle.paper.specs.Text.{Out, write}
use Rattle.paper.proofs.Writes.{write_none, drop_next}
use Rattle.writer.specs.Files.{bytes_of, records, file_of, length_of}

-- ---- the bytes of a body

pub body_more : (len i v : ℕ) → i < len → bytes_of (len - i) v ≡ (v % 256 ∷ []) ++ bytes_of (len - (i + 1)) (v / 256)
unfolding bytes_of
body_more len i v h = ap (λ (n : ℕ). bytes_of n v) (one_less len i h)
  where
    one_less : (len i : ℕ) → i < len → len - i ≡ suc (len - (i + 1))
    one_less len i h = omega arith

pub body_none : (len i v : ℕ) → len ≤ i → bytes_of (len - i) v ≡ []
unfolding bytes_of
body_none len i v h =
    let e : len - i ≡ 0 = omega arith in
    ap (λ (n : ℕ). bytes_of n v) e

-- ---- the records of a kind

pub one_record : (k : Kind) (v : ℕ) → (k.byte ∷ []) ++ bytes_of k.body v ≡ records k (v ∷ [])
unfolding records
one_record k v = rw (append-nil (bytes_of k.body v))

pub records_more : (k : Kind) (i : ℕ) (vs : List ℕ) → i < length vs → records k (drop i vs) ≡ records k (get_or vs i 0 ∷ []) ++ records k (drop (i + 1) vs)
unfolding records
records_more k i vs h = rw (drop_next vs i 0 h, append-nil (bytes_of k.body (get_or vs i 0)))

pub records_none : (k : Kind) (i : ℕ) (vs : List ℕ) → length vs ≤ i → records k (drop i vs) ≡ []
unfolding records
records_none k i vs h = rw (drop_of_length-le vs h)

pub records_empty : (k : Kind) (o : Out ℕ) (vs : List ℕ) → vs ≡ [] → o ≡ write o (records k vs)
unfolding records
records_empty k o vs e = rw e (write_none o)

-- ---- the kinds of a file

module _ (ks : List Kind) (lists : List (List ℕ)) (i : ℕ) where
  pub file_more : i < length ks → i < length lists → file_of (drop i ks) (drop i lists) ≡ records (get_or ks i missing) (get_or lists i []) ++ file_of (drop (i + 1) ks) (drop (i + 1) lists)
  unfolding file_of
  file_more h l = rw (drop_next ks i missing h, drop_next lists i [] l)

  pub file_none : length ks ≤ i → file_of (drop i ks) (drop i lists) ≡ []
  unfolding file_of
  file_none h = rw (drop_of_length-le ks h)

module _ (ks : List Kind) (counts : List ℕ) (i s : ℕ) (passed : s + length_of (drop i ks) (drop i counts) ≡ length_of ks counts) where
  pub length_more : i < length ks → i < length counts → s + get_or counts i 0 * ((get_or ks i missing).body + 1) + length_of (drop (i + 1) ks) (drop (i + 1) counts) ≡ length_of ks counts
  unfolding length_of
  length_more h l =
      let this = get_or counts i 0 * ((get_or ks i missing).body + 1) in
      let one : length_of (drop i ks) (drop i counts) ≡ this + length_of (drop (i + 1) ks) (drop (i + 1) counts) = rw (drop_next ks i missing h, drop_next counts i 0 l) in
      omega arith

  pub length_all : length ks ≤ i → s ≡ length_of ks counts
  unfolding length_of
  length_all h =
      let none : length_of (drop i ks) (drop i counts) ≡ 0 = rw (drop_of_length-le ks h) in
      omega arith
