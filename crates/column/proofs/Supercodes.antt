-- The two supercodes of a level, whose generators have no common factor, together are the level's code. Assumes nothing.
use mathlib.Core.Path.{◌≡◌, sym, subst}
use mathlib.Core.Logic.{◌↔◌}
use Prim.Native.Nat.{ℕ, suc, ◌+◌, ◌*◌, ◌/◌, ◌<◌}
use Rattle.poly.specs.Polynomial.{product, Multiple, Degree}
use Rattle.poly.proofs.Coprime.{Bezout, multiple_of_left, multiple_of_right, multiple_of_both}
use Rattle.column.specs.Shape.{Word, Shape, generator, level_code}
use Rattle.column.specs.Trellis.{Exists, ExistsWhole, ExistsSupercode, Dead}
use Rattle.column.specs.Mask.{parity, mask_of}
use Rattle.column.proofs.Begins.{full_path_is_word, prefix_exists, zero_exists}
use Rattle.column.proofs.Checks.{extension_exists}

-- the level's generator as a product of two without a common factor
pub record Split (S : Shape) (i : ℕ) : Type 0 where
  pub left_degree : Degree (S.supercodes i).left.degree (S.supercodes i).left.generator
  pub right_degree : Degree (S.supercodes i).right.degree (S.supercodes i).right.generator
  pub whole : product (S.supercodes i).left.generator (S.supercodes i).right.generator ≡ generator S i
  pub u : ℕ
  pub v : ℕ
  pub bezout : Bezout (S.supercodes i).left.generator (S.supercodes i).right.generator u v

module _ (S : Shape) (i : ℕ) where
  -- ---- what holds in every shape

  pub whole_prefix : (t q : ℕ) → t < S.bits → ExistsWhole S i (suc t) q → ExistsWhole S i t (q / 2)
  whole_prefix = prefix_exists S.bits (level_code S i)

  pub supercode_prefix : (t q : ℕ) → t < S.bits → ExistsSupercode S i (suc t) q → ExistsSupercode S i t (q / 2)
  supercode_prefix t q h e = (prefix_exists S.bits (S.supercodes i).left t q h e.0, prefix_exists S.bits (S.supercodes i).right t q h e.1)

  pub whole_zero : (t : ℕ) → ExistsWhole S i t 0
  whole_zero = zero_exists S.bits (level_code S i)

  pub supercode_zero : (t : ℕ) → ExistsSupercode S i t 0
  supercode_zero t = (zero_exists S.bits (S.supercodes i).left t, zero_exists S.bits (S.supercodes i).right t)

  -- where one of the two is the level's code already
  pub no_dead : (S.supercodes i).left.generator ≡ generator S i → (t p : ℕ) → Dead S i t p → ⊥
  no_dead same t p d =
      let e : Exists S.bits (S.supercodes i).left t p = d.0.0 in
      d.1 (e.0, (e.1.0, subst (λ (g : ℕ). Multiple g e.0) same e.1.1), e.2)

  -- ---- what holds by the certificate

  module _ (split : Split S i) where
    in_left : (w : ℕ) → Multiple (generator S i) w → Multiple (S.supercodes i).left.generator w
    in_left w m = multiple_of_left (S.supercodes i).left.generator (S.supercodes i).right.generator w (subst (λ (g : ℕ). Multiple g w) (sym split.whole) m)

    in_right : (w : ℕ) → Multiple (generator S i) w → Multiple (S.supercodes i).right.generator w
    in_right w m = multiple_of_right (S.supercodes i).left.generator (S.supercodes i).right.generator w (subst (λ (g : ℕ). Multiple g w) (sym split.whole) m)

    pub word_of_both : (n w : ℕ) → (Word n (S.supercodes i).left w × Word n (S.supercodes i).right w) ↔ Word n (level_code S i) w
    word_of_both n w = (
      λ h. (
        h.0.0,
        subst (λ (g : ℕ). Multiple g w) split.whole
            (multiple_of_both (S.supercodes i).left.generator (S.supercodes i).right.generator split.u split.v w split.bezout h.0.1 h.1.1),
      ),
      λ h. ((h.0, in_left w h.1), (h.0, in_right w h.1)),
    )

    pub whole_in_supercode : (t p : ℕ) → ExistsWhole S i t p → ExistsSupercode S i t p
    whole_in_supercode t p e = ((e.0, (e.1.0, in_left e.0 e.1.1), e.2), (e.0, (e.1.0, in_right e.0 e.1.1), e.2))

    pub full_paths_agree : (p : ℕ) → ExistsWhole S i S.bits p ↔ ExistsSupercode S i S.bits p
    full_paths_agree p = (
      whole_in_supercode S.bits p,
      λ e.
          (full_path_is_word S.bits (level_code S i) p).1
          ((word_of_both S.bits p).0 ((full_path_is_word S.bits (S.supercodes i).left p).0 e.0, (full_path_is_word S.bits (S.supercodes i).right p).0 e.1)),
    )

    pub supercode_extension : (t p b : ℕ) → t < S.bits → b < 2
        → ExistsSupercode S i (suc t) (p * 2 + b)
        ↔ (ExistsSupercode S i t p × (parity (mask_of S.bits (S.supercodes i).left (suc t)) (p * 2 + b) ≡ 0)
        × (parity (mask_of S.bits (S.supercodes i).right (suc t)) (p * 2 + b) ≡ 0))
    supercode_extension t p b h hb =
        let left = extension_exists S.bits (S.supercodes i).left split.left_degree t p b h hb in
        let right = extension_exists S.bits (S.supercodes i).right split.right_degree t p b h hb in (
          λ e. (((left.0 e.0).0, (right.0 e.1).0), (left.0 e.0).1, (right.0 e.1).1),
          λ e. (left.1 (e.0.0, e.1), right.1 (e.0.1, e.2)),
        )
