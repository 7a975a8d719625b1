-- There and back, kind by kind: what is written of taken records is the bytes, and what is taken of written records is their bodies. And what is taken of bytes keeps
-- within the table, and how long a file is, which is of bytes. Assumes nothing.
use mathlib.Core.Path.{◌≡◌, refl, sym, ap, ◌∙◌, subst}
use mathlib.Core.Bool.{Bool, true, false, not, ◌&&◌, cond, and-eq-true_iff}
use mathlib.Core.List.{List, [], ◌∷◌, ◌++◌, map, append_assoc}
use Prim.Native.Nat.{ℕ, zero, suc, ◌+◌, ◌*◌, ◌/◌, ◌%◌, ◌^◌, ◌≤◌, ◌<◌}
use native.Mathlib.Nat.{pow-suc, le_of_suc-le-suc, not-suc-le-zero}
use native.Mathlib.Numerals.{add-one}
use native.Mathlib.Omega.{arith}
use lib.ListN.{length, take, drop, take-append-drop, length-append}
use lib.Seq.{take_at, drop_at, length-take-le}
use lib.Pow.{are_bytes}
use lib.Dec.{ltb, eqb, T, T_not, ltb→lt, lt→ltb}
use lib.Ieee.Fits.{and_l, and_r, and_i}
use borrow.Author.Tests.{ltb-true, eqb-true, lt-ltb, le-ltb, eq-eqb}
use Rattle.paper.specs.declared.kinds.Kind.{Kind}
use Rattle.paper.specs.Grammar.{little, starts, body, Taken, none, more, taken, also, sheet}
use Rattle.paper.proofs.Taking.{taken_stop}
use Rattle.writer.specs.Files.{bytes_of, records, file_of, length_of}

-- ---- numbers

bytes_little : (l : ℕ) (bs : List ℕ) → length bs ≡ l → T (are_bytes bs) → bytes_of l (little bs) ≡ bs
unfolding bytes_of little
bytes_little zero [] e t = refl
bytes_little (suc l) [] e t = absurd (no l e)
  where
    no : (l : ℕ) → 0 ≡ suc l → ⊥
    no l e = omega arith
bytes_little zero (b ∷ bs) e t = absurd (no (length bs) e)
  where
    no : (l : ℕ) → suc l ≡ 0 → ⊥
    no l e = omega arith
bytes_little (suc l) (b ∷ bs) e t =
    let h : b < 256 = ltb→lt b 256 (and_l (ltb b 256) (are_bytes bs) t) in
    rw (low b (little bs) h, high b (little bs) h, bytes_little l bs (omega arith) (and_r (ltb b 256) (are_bytes bs) t))
  where
    low : (b x : ℕ) → b < 256 → (b + 256 * x) % 256 ≡ b
    low b x h = omega arith

    high : (b x : ℕ) → b < 256 → (b + 256 * x) / 256 ≡ x
    high b x h = omega arith

pub little_bytes : (l v : ℕ) → v < 256 ^ l → little (bytes_of l v) ≡ v
unfolding bytes_of little
little_bytes zero v h = omega arith
little_bytes (suc l) v h = rw (little_bytes l (v / 256) (less v (256 ^ l) (rw pow-suc at h))) (whole v)
  where
    less : (v p : ℕ) → v < p * 256 → v / 256 < p
    less v p h = omega arith

    whole : (v : ℕ) → v % 256 + 256 * (v / 256) ≡ v
    whole v = omega arith

pub little_small : (bs : List ℕ) → T (are_bytes bs) → little bs < 256 ^ length bs
unfolding little
little_small [] t = omega arith
little_small (b ∷ bs) t =
    rw pow-suc (sum b (little bs) (256 ^ length bs) (ltb→lt b 256 (and_l (ltb b 256) (are_bytes bs) t)) (little_small bs (and_r (ltb b 256) (are_bytes bs) t)))
  where
    sum : (b x p : ℕ) → b < 256 → x < p → b + 256 * x < p * 256
    sum b x p h g = omega arith

bytes_length : (l v : ℕ) → length (bytes_of l v) ≡ l
unfolding bytes_of
bytes_length zero v = refl
bytes_length (suc l) v = ap suc (bytes_length l (v / 256))

-- ---- bytes

head_bytes : (s t : List ℕ) → T (are_bytes (s ++ t)) → T (are_bytes s)
head_bytes [] t h = tt
head_bytes (b ∷ s) t h =
    let c = are_bytes (s ++ t) in
    and_i (ltb b 256) (are_bytes s) (and_l (ltb b 256) c h) (head_bytes s t (and_r (ltb b 256) c h))

tail_bytes : (s t : List ℕ) → T (are_bytes (s ++ t)) → T (are_bytes t)
tail_bytes [] t h = h
tail_bytes (b ∷ s) t h = tail_bytes s t (and_r (ltb b 256) (are_bytes (s ++ t)) h)

both_bytes : (s t : List ℕ) → T (are_bytes s) → T (are_bytes t) → T (are_bytes (s ++ t))
both_bytes [] t g h = h
both_bytes (b ∷ s) t g h = and_i (ltb b 256) (are_bytes (s ++ t)) (and_l (ltb b 256) (are_bytes s) g) (both_bytes s t (and_r (ltb b 256) (are_bytes s) g) h)

take_bytes : (n : ℕ) (bs : List ℕ) → T (are_bytes bs) → T (are_bytes (take n bs))
take_bytes n bs t = head_bytes (take n bs) (drop n bs) (subst (λ (y : List ℕ). T (are_bytes y)) (sym (take-append-drop n bs)) t)

drop_bytes : (n : ℕ) (bs : List ℕ) → T (are_bytes bs) → T (are_bytes (drop n bs))
drop_bytes n bs t = tail_bytes (take n bs) (drop n bs) (subst (λ (y : List ℕ). T (are_bytes y)) (sym (take-append-drop n bs)) t)

-- ---- a record in front

starts_empty : (k : Kind) → starts k [] ≡ false
unfolding starts
starts_empty k = rw (le-ltb k.body 0 (omega arith))

starts_byte : (k : Kind) (x : ℕ) (xs : List ℕ) → starts k (x ∷ xs) ≡ true → x ≡ k.byte
unfolding starts
starts_byte k x xs e = eqb-true x k.byte ((and-eq-true_iff (ltb k.body (suc (length xs))) (eqb x k.byte)).0 e).1

starts_long : (k : Kind) (x : ℕ) (xs : List ℕ) → starts k (x ∷ xs) ≡ true → k.body ≤ length xs
unfolding starts
starts_long k x xs e = le_of_suc-le-suc (ltb-true k.body (suc (length xs)) ((and-eq-true_iff (ltb k.body (suc (length xs))) (eqb x k.byte)).0 e).0)

-- ---- writing what was taken

-- one record: r is written of what was taken behind it, and s is left
one_back : (k : Kind) (x : ℕ) (xs r s : List ℕ) → starts k (x ∷ xs) ≡ true → T (are_bytes xs) → r ++ s ≡ drop k.body xs
    → (k.byte ∷ (bytes_of k.body (little (take k.body xs)) ++ r)) ++ s ≡ x ∷ xs
one_back k x xs r s e t g =
    let l = k.body in
    ap (λ (y : List ℕ). (k.byte ∷ (y ++ r)) ++ s) (bytes_little l (take l xs) (length-take-le l xs (starts_long k x xs e)) (take_bytes l xs t))
    ∙ ap (λ (y : List ℕ). k.byte ∷ y) (append_assoc (take l xs) r s ∙ ap (λ (y : List ℕ). take l xs ++ y) g ∙ take-append-drop l xs)
    ∙ ap (λ (y : ℕ). y ∷ xs) (sym (starts_byte k x xs e))

taken_back : (k : Kind) (m : ℕ) (bs : List ℕ) → T (are_bytes bs) → records k (taken k m bs).bodies ++ (taken k m bs).rest ≡ bs
unfolding taken records
taken_back k zero bs t = refl
taken_back k (suc m) [] t = rw (starts_empty k)
taken_back k (suc m) (x ∷ xs) t =
    let n = k.body + 1 in
    go (starts k (x ∷ xs)) refl (taken_back k m (drop n (x ∷ xs)) (drop_bytes n (x ∷ xs) t))
  where
    go : (c : Bool) → starts k (x ∷ xs) ≡ c → (let y = taken k m (drop (k.body + 1) (x ∷ xs)) in records k y.bodies ++ y.rest ≡ drop (k.body + 1) (x ∷ xs))
        → let y = cond c (more (body k (x ∷ xs)) (taken k m (drop (k.body + 1) (x ∷ xs)))) (none (x ∷ xs)) in records k y.bodies ++ y.rest ≡ x ∷ xs
    go true e g = one_back k x xs _ _ e (and_r (ltb x 256) (are_bytes xs) t) (g ∙ ap (λ (n : ℕ). drop n (x ∷ xs)) (add-one k.body))
    go false e g = refl

rest_bytes : (k : Kind) (m : ℕ) (bs : List ℕ) → T (are_bytes bs) → T (are_bytes (taken k m bs).rest)
rest_bytes k m bs t =
    let y = taken k m bs in
    tail_bytes (records k y.bodies) y.rest (subst (λ (z : List ℕ). T (are_bytes z)) (sym (taken_back k m bs t)) t)

pub sheet_back : (ks : List Kind) (bs : List ℕ) → T (are_bytes bs) → file_of ks (sheet ks bs).lists ++ (sheet ks bs).rest ≡ bs
unfolding sheet file_of
sheet_back [] bs t = refl
sheet_back (k ∷ ks) bs t =
    let y = taken k k.most bs in
    let r = records k y.bodies in
    append_assoc r (file_of ks (sheet ks y.rest).lists) (sheet ks y.rest).rest
    ∙ ap (λ (z : List ℕ). r ++ z) (sheet_back ks y.rest (rest_bytes k k.most bs t))
    ∙ taken_back k k.most bs t

-- ---- taking what was written

-- every number of the list is below a bound
abbrev pub below : ℕ → List ℕ → Bool
below n [] = true
below n (v ∷ vs) = ltb v n && below n vs

-- the byte is none of the kinds'
abbrev pub other : ℕ → List Kind → Bool
other b [] = true
other b (k ∷ ks) = not (eqb b k.byte) && other b ks

-- each kind has at most as many bodies as it may have, each within its length, and no two kinds have one byte
abbrev pub Fit : List Kind → List (List ℕ) → Type 0
Fit [] [] = Unit
Fit [] (vs ∷ lists) = ⊥
Fit (k ∷ ks) [] = ⊥
Fit (k ∷ ks) (vs ∷ lists) = (length vs ≤ k.most) × T (below (256 ^ k.body) vs) × T (other k.byte ks) × Fit ks lists

starts_here : (k : Kind) (v : ℕ) (r : List ℕ) → starts k (k.byte ∷ (bytes_of k.body v ++ r)) ≡ true
unfolding starts
starts_here k v r =
    rw (eq-eqb k.byte k.byte refl, lt-ltb k.body (suc (length (bytes_of k.body v ++ r))) (long (simp (length-append, bytes_length) (omega arith))))
  where
    long : k.body ≤ length (bytes_of k.body v ++ r) → k.body < suc (length (bytes_of k.body v ++ r))
    long h = omega arith

-- one record
one_forth : (k : Kind) (m v : ℕ) (r : List ℕ) → v < 256 ^ k.body → taken k (suc m) (k.byte ∷ (bytes_of k.body v ++ r)) ≡ more v (taken k m r)
unfolding taken
one_forth k m v r h =
    let e = bytes_length k.body v in
    rw (starts_here k v r, add-one k.body, drop_at (bytes_of k.body v) r k.body e, take_at (bytes_of k.body v) r k.body e, little_bytes k.body v h)

taken_forth : (k : Kind) (m : ℕ) (vs r : List ℕ) → length vs ≤ m → T (below (256 ^ k.body) vs) → starts k r ≡ false → taken k m (records k vs ++ r) ≡ record { bodies = vs; rest = r }
unfolding records
taken_forth k m [] r h t e = taken_stop k m r e
taken_forth k zero (v ∷ vs) r h t e = absurd (not-suc-le-zero h)
taken_forth k (suc m) (v ∷ vs) r h t e =
    let p = 256 ^ k.body in
    ap (λ (y : List ℕ). taken k (suc m) (k.byte ∷ y)) (append_assoc (bytes_of k.body v) (records k vs) r)
    ∙ one_forth k m v (records k vs ++ r) (ltb→lt v p (and_l (ltb v p) (below p vs) t))
    ∙ ap (more v) (taken_forth k m vs r (le_of_suc-le-suc h) (and_r (ltb v p) (below p vs) t) e)

-- no kind's record stands where another kind's begin
starts_other : (k : Kind) (x : ℕ) (xs : List ℕ) → T (not (eqb k.byte x)) → starts k (x ∷ xs) ≡ false
starts_other k x xs t = go (starts k (x ∷ xs)) refl
  where
    go : (c : Bool) → starts k (x ∷ xs) ≡ c → c ≡ false
    go true e = absurd (T_not (eqb k.byte x) t (subst T (sym (eq-eqb k.byte x (sym (starts_byte k x xs e)))) tt))
    go false e = refl

starts_apart : (k : Kind) (ks : List Kind) (lists : List (List ℕ)) → T (other k.byte ks) → starts k (file_of ks lists) ≡ false
unfolding file_of records
starts_apart k [] lists t = starts_empty k
starts_apart k (j ∷ ks) [] t = starts_empty k
starts_apart k (j ∷ ks) ([] ∷ lists) t = starts_apart k ks lists (and_r (not (eqb k.byte j.byte)) (other k.byte ks) t)
starts_apart k (j ∷ ks) ((v ∷ vs) ∷ lists) t = starts_other k j.byte _ (and_l (not (eqb k.byte j.byte)) (other k.byte ks) t)

pub sheet_forth : (ks : List Kind) (lists : List (List ℕ)) → Fit ks lists → sheet ks (file_of ks lists) ≡ record { lists = lists; rest = [] }
unfolding sheet file_of
sheet_forth [] [] f = refl
sheet_forth [] (vs ∷ lists) f = absurd f
sheet_forth (k ∷ ks) [] f = absurd f
sheet_forth (k ∷ ks) (vs ∷ lists) f =
    ap (λ (y : Taken). also y.bodies (sheet ks y.rest)) (taken_forth k k.most vs (file_of ks lists) f.0 f.1 (starts_apart k ks lists f.2))
    ∙ ap (also vs) (sheet_forth ks lists f.3)

-- ---- what is taken of bytes

-- as many lists as kinds, each with at most as many bodies as the kind may have, each within its length
abbrev pub Within : List Kind → List (List ℕ) → Type 0
Within [] [] = Unit
Within [] (vs ∷ lists) = ⊥
Within (k ∷ ks) [] = ⊥
Within (k ∷ ks) (vs ∷ lists) = (length vs ≤ k.most) × T (below (256 ^ k.body) vs) × Within ks lists

taken_few : (k : Kind) (m : ℕ) (bs : List ℕ) → length (taken k m bs).bodies ≤ m
unfolding taken
taken_few k zero bs = omega arith
taken_few k (suc m) bs = go (starts k bs) (taken_few k m (drop (k.body + 1) bs))
  where
    go : (c : Bool) → length (taken k m (drop (k.body + 1) bs)).bodies ≤ m → length (cond c (more (body k bs) (taken k m (drop (k.body + 1) bs))) (none bs)).bodies ≤ suc m
    go true h = omega arith
    go false h = omega arith

body_small : (k : Kind) (x : ℕ) (xs : List ℕ) → starts k (x ∷ xs) ≡ true → T (are_bytes xs) → body k (x ∷ xs) < 256 ^ k.body
body_small k x xs e t =
    let l = k.body in
    subst (λ (n : ℕ). little (take l xs) < 256 ^ n) (length-take-le l xs (starts_long k x xs e)) (little_small (take l xs) (take_bytes l xs t))

taken_below : (k : Kind) (m : ℕ) (bs : List ℕ) → T (are_bytes bs) → T (below (256 ^ k.body) (taken k m bs).bodies)
unfolding taken
taken_below k zero bs t = tt
taken_below k (suc m) [] t = rw (starts_empty k) tt
taken_below k (suc m) (x ∷ xs) t =
    let n = k.body + 1 in
    go (starts k (x ∷ xs)) refl (taken_below k m (drop n (x ∷ xs)) (drop_bytes n (x ∷ xs) t))
  where
    go : (c : Bool) → starts k (x ∷ xs) ≡ c → T (below (256 ^ k.body) (taken k m (drop (k.body + 1) (x ∷ xs))).bodies)
        → T (below (256 ^ k.body) (cond c (more (body k (x ∷ xs)) (taken k m (drop (k.body + 1) (x ∷ xs)))) (none (x ∷ xs))).bodies)
    go true e g =
        let v = body k (x ∷ xs) in
        let p = 256 ^ k.body in
        let vs = (taken k m (drop (k.body + 1) (x ∷ xs))).bodies in
        and_i (ltb v p) (below p vs) (lt→ltb v p (body_small k x xs e (and_r (ltb x 256) (are_bytes xs) t))) g
    go false e g = tt

pub sheet_within : (ks : List Kind) (bs : List ℕ) → T (are_bytes bs) → Within ks (sheet ks bs).lists
unfolding sheet
sheet_within [] bs t = tt
sheet_within (k ∷ ks) bs t =
    (taken_few k k.most bs, taken_below k k.most bs t, sheet_within ks (taken k k.most bs).rest (rest_bytes k k.most bs t))

-- ---- the file's length

records_length : (k : Kind) (vs : List ℕ) → length (records k vs) ≡ length vs * (k.body + 1)
unfolding records
records_length k [] = omega arith
records_length k (v ∷ vs) = rw (length-append, bytes_length, records_length k vs) (sum k.body (length vs))
  where
    sum : (l n : ℕ) → suc (l + n * (l + 1)) ≡ suc n * (l + 1)
    sum l n = omega arith

pub file_length : (ks : List Kind) (lists : List (List ℕ)) → length (file_of ks lists) ≡ length_of ks (map length lists)
unfolding file_of length_of
file_length [] lists = refl
file_length (k ∷ ks) [] = refl
file_length (k ∷ ks) (vs ∷ lists) = rw (length-append, records_length k vs, file_length ks lists)

-- ---- the file's bytes

-- each kind's byte is one
abbrev pub all_bytes : List Kind → Bool
all_bytes [] = true
all_bytes (k ∷ ks) = ltb k.byte 256 && all_bytes ks

are_bytes_lem : (l v : ℕ) → T (are_bytes (bytes_of l v))
unfolding bytes_of
are_bytes_lem zero v = tt
are_bytes_lem (suc l) v = and_i (ltb (v % 256) 256) (are_bytes (bytes_of l (v / 256))) (lt→ltb (v % 256) 256 (omega arith)) (are_bytes_lem l (v / 256))

records_bytes : (k : Kind) (vs : List ℕ) → T (ltb k.byte 256) → T (are_bytes (records k vs))
unfolding records
records_bytes k [] t = tt
records_bytes k (v ∷ vs) t =
    and_i (ltb k.byte 256) (are_bytes (bytes_of k.body v ++ records k vs)) t (both_bytes (bytes_of k.body v) (records k vs) (are_bytes_lem k.body v) (records_bytes k vs t))

pub file_bytes : (ks : List Kind) (lists : List (List ℕ)) → T (all_bytes ks) → T (are_bytes (file_of ks lists))
unfolding file_of
file_bytes [] lists t = tt
file_bytes (k ∷ ks) [] t = tt
file_bytes (k ∷ ks) (vs ∷ lists) t =
    let b = ltb k.byte 256 in
    both_bytes (records k vs) (file_of ks lists) (records_bytes k vs (and_l b (all_bytes ks) t)) (file_bytes ks lists (and_r b (all_bytes ks) t))
