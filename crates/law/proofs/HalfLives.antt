-- A half-life h whose log is accepted is finite and above zero; and where T - 1 ≤ 64 h, (T - 1) × log is at least -48, since 64 ln 2 is below 45. Assumes nothing.
use mathlib.Core.Path.{◌≡◌, refl, sym, ap, ◌∙◌, subst, subst₂}
use mathlib.Core.Logic.{inl, inr}
use Prim.Native.Nat.{ℕ, zero, suc, ◌+◌, ◌-◌, ◌*◌, ◌≤◌, ◌<◌}
use native.Mathlib.Nat.{le_trans, le_of_eq, lt_irrefl, mul-le-mul_left, mul-le-mul_right, mul_comm, mul_right_comm, le_of_mul-le-mul_right}
use native.Mathlib.Omega.{arith}
use mathlib.Core.Bool.{Bool, true, false, ◌||◌}
use lib.Dec.{T, eqb, lit≤}
use lib.IntN.{pos}
use lib.Ieee.{Float, nan, inf, fin, binary64, fits, unlike, neg, le, div, of_bits}
use lib.Ieee.Bits.{is_true}
use lib.Ieee.Fits.{div-fits, and_l, and_r}
use borrow.Author.Tests.{ne_eqb}
use Rattle.leaves.specs.Numbers.{◌⊗◌, ◌⊘◌, count, is_finite}
use Rattle.leaves.specs.Exp.{ln2}
use Rattle.leaves.proofs.Rounding.{near, Representable, near_error, near_representable, representable_up}
use Rattle.leaves.proofs.Units.{U, U_pos, Top, Val, sign, mag, zero_mag, val_mag, val_pos, val_finite, mag_val, mag_representable, neg_val, finite_mag, rounded_val, rounded_cases}
use Rattle.leaves.proofs.Arithmetic.{mul_rounded, div_rounded}
use Rattle.leaves.proofs.Range.{count_val}
use Rattle.leaves.proofs.Signs.{sign_round}
use Rattle.rules.specs.Weighted.{log_decay, accepted}
use Rattle.rules.specs.Order.{max_periods}
use Rattle.rules.specs.declared.Decay.TheVariants.{HalfLife}
use Rattle.law.specs.Law.{LongHalfLife, max_half_lives}
use Rattle.law.proofs.Bits.{half_life_bits}
use Rattle.law.proofs.Comparisons.{le_yes}
use Rattle.law.proofs.Exponential.{W, age_most, U-W, W-large, N, N-is, ln2_val, near_above}
use Rattle.law.proofs.Weights.{Decaying, log_val}

abbrev log : Float → Float
log h = log_decay (HalfLife h)

log_fits : (h : Float) → T (fits binary64 (log h))
log_fits h = unfold log_decay in div-fits binary64 (neg ln2) h

-- h is H units, and the size of its log is N U / H units, rounded
abbrev Units : Float → Type 0
Units h = (H : ℕ) × Val h false H × (0 < H) × Representable H × (mag (log h) ≡ near (N * U) H)

module _ (h : Float) (fit : T (fits binary64 h)) (ok : accepted (log h) ≡ true) where
  half_life_lem : Units h
  half_life_lem = go h fit (log_val (log h) (log_fits h) ok).0 (log_val (log h) (log_fits h) ok).1
    where
      log_is : (h : Float) → log h ≡ neg ln2 ⊘ h
      log_is h = unfold log_decay in refl

      go : (h : Float) → T (fits binary64 h) → Val (log h) true (mag (log h)) → 0 < mag (log h) → Units h
      go nan t v p = unfold log_decay div neg of_bits in absurd v
      go (inf s) t v p = absurd (lt_irrefl 0 (subst (λ (n : ℕ). 0 < n) (ap mag (log_is (inf s)) ∙ unfold div neg of_bits in zero_mag (unlike true s) (pos 0)) p))
      go (fin s zero e) t v p = unfold log_decay div neg of_bits in absurd v
      go (fin s (suc m) e) t v p = signed (mag_val (fin s (suc m) e) t (unfold is_finite in tt)) (mag_representable (fin s (suc m) e) t (unfold is_finite in tt)).0
        where
          H : ℕ
          H = mag (fin s (suc m) e)

          above : 0 < H
          above = val_pos s m e (sign (fin s (suc m) e)) H (mag_val (fin s (suc m) e) t (unfold is_finite in tt))

          signed : Val (fin s (suc m) e) (sign (fin s (suc m) e)) H → Representable H → Units (fin s (suc m) e)
          signed w k =
              let x = fin s (suc m) e in
              let n = neg_val ln2 false N ln2_val in
              let q = log_is x ∙ div_rounded (neg ln2) x true (sign x) N H n w above in
              let i : unlike true (sign x) ≡ true = sym (ap sign q ∙ sign_round (unlike true (sign x)) (N * U) (H * U)) ∙ (val_mag (log x) true (mag (log x)) v).0 in
              let z : sign x ≡ false = not_true (sign x) i in
              (H, subst (λ (b : Bool). Val x b H) z w, above, k, finite_mag (log x) (unlike true (sign x)) (N * U) H above q (val_finite (log x) true (mag (log x)) v))
            where
              not_true : (b : Bool) → unlike true b ≡ true → b ≡ false
              not_true true i = sym i
              not_true false i = refl

-- ---- T - 1 ≤ 64 h
times_log : (j a H n u w : ℕ) → j * u ≤ max_half_lives * H → 100000 * (a * H) ≤ 100001 * (n * u) + 50000 * H → 0 < H
    → 100000 * n ≤ 69315 * u → u ≡ 32 * w → j ≤ max_periods → 10000000 ≤ w → j * a ≤ age_most * w
times_log j a H n u w l e p q i few large =
    let f : j * (100000 * (a * H)) ≤ j * (100001 * (n * u) + 50000 * H) = mul-le-mul_left j e in
    let g : n * (j * u) ≤ n * (max_half_lives * H) = mul-le-mul_left n l in
    let c : 100000 * (j * a) * H ≤ (100001 * max_half_lives * n + 50000 * j) * H = omega arith in
    let x = le_of_mul-le-mul_right {k = H} c p in
    omega arith

module _ (P : ℕ) (periods : 2 ≤ P) (most : P ≤ max_periods) (h : Float) (fit : T (fits binary64 h)) (ok : accepted (log h) ≡ true) (long : le (count (P - 1)) (count max_half_lives ⊗ h) ≡ true) where
  -- in units
  granted : (P - 1) * U ≤ max_half_lives * (half_life_lem h fit ok).0
  granted =
      let q = half_life_lem h fit ok in
      let H = q.0 in
      let held : Representable (max_half_lives * H) = subst Representable (mul_comm H max_half_lives) (representable_up H half_life_bits q.3) in
      let e : near (max_half_lives * U * H) U ≡ max_half_lives * H = ap (λ (n : ℕ). near n U) (mul_right_comm max_half_lives U H) ∙ near_representable (max_half_lives * H) U U_pos held in
      let x = mul_rounded (count max_half_lives) h false false (max_half_lives * U) H (count_val max_half_lives (lit≤ tt)) q.1 in
      elim (rounded_cases false (max_half_lives * U * H) U U_pos) [
        | inl under ↦
            let v : Val (count max_half_lives ⊗ h) false (max_half_lives * H) = subst₂ (λ (z : Float) (n : ℕ). Val z false n) (sym x) e (rounded_val false (max_half_lives * U * H) U U_pos under) in
            le_yes (count (P - 1)) (count max_half_lives ⊗ h) (count_val (P - 1) (le_trans (omega arith) (le_trans most (lit≤ tt)))) v long
        | inr over ↦ let top : max_periods * U ≤ Top = unfold U Top in lit≤ tt in le_trans (mul-le-mul_right U (le_trans (omega arith) most)) (le_trans top (le_trans over.0 (le_of_eq e)))
      ]

  decaying : Decaying P (log h)
  decaying =
      let q = half_life_lem h fit ok in
      let H = q.0 in
      let e : near (N * U) H ≡ mag (log h) = sym q.4 in
      record {
        fit = log_fits h;
        ok = ok;
        aged = times_log (P - 1) (mag (log h)) H N U W granted
            (subst (λ (a : ℕ). 100000 * (a * H) ≤ 100001 * (N * U) + 50000 * H) e (near_above (near (N * U) H) (N * U) H (near_error (N * U) H q.2))) q.2 N-is.1 U-W (omega arith) W-large;
      }

pub long_decaying : (P : ℕ) → 2 ≤ P → P ≤ max_periods → (h : Float) → LongHalfLife P h → accepted (log_decay (HalfLife h)) ≡ true → Decaying P (log_decay (HalfLife h))
long_decaying P two most h t ok =
    let a : Bool = fits binary64 h in
    let b : Bool = eqb P 0 || le (count (P - 1)) (count max_half_lives ⊗ h) in
    decaying P two most h (and_l a b t) ok (go P two (le (count (P - 1)) (count max_half_lives ⊗ h)) (and_r a b t))
  where
    go : (P : ℕ) → 2 ≤ P → (b : Bool) → T (eqb P 0 || b) → b ≡ true
    go zero two b t = absurd (omega arith)
    go (suc P) two b t = is_true b (rw (ne_eqb (suc P) 0 (λ e. absurd (omega arith))) at t)
