-- The two trellises of a column are trees as the stack search asks for, and have the level's codewords for full paths. Assumes nothing.
use mathlib.Core.Bool.{true, false}
use mathlib.Core.List.{List, [], ◌∷◌}
use mathlib.Core.Logic.{◌↔◌}
use mathlib.Core.Path.{◌≡◌, refl, ap, subst, subst⁻¹}
use Prim.Native.Nat.{ℕ, zero, suc, ◌/◌, ◌≤◌, ◌<◌}
use native.Mathlib.Omega.{arith}
use lib.ListN.{length}
use lib.Signed.{◌≤ℤ◌}
use Rattle.column.specs.Shape.{Shape, Sound as ShapeSound, Word, levels, level_code}
use Rattle.column.specs.Trellis.{ExistsWhole, ExistsSupercode}
use Rattle.column.proofs.Begins.{full_path_is_word}
use Rattle.column.proofs.Supercodes.{Split, whole_prefix, supercode_prefix, whole_zero, supercode_zero, whole_in_supercode, full_paths_agree}
use Rattle.paths.specs.Paths.{Path}
use Rattle.paths.specs.Order.{Order}
use Rattle.paths.specs.Tree.{Tree, Full, Sound}
use Rattle.paths.specs.Dead.{Within}
use Rattle.trellis.specs.Values.{Values}
use Rattle.trellis.specs.Order.{number}
use Rattle.trellis.specs.Demand.{whole_trellis, supercode_trellis}
use Rattle.trellis.proofs.Order.{order, sums_fall, number_half}
use Rattle.trellis.proofs.Existence.{whole_exists_exactly, supercode_exists_exactly}

-- ---- the path of zeros

zeros : ℕ → Path
zeros zero = []
zeros (suc k) = false ∷ zeros k

zeros_length : (k : ℕ) → length (zeros k) ≡ k
unfolding zeros
zeros_length zero = refl
zeros_length (suc k) = ap suc (zeros_length k)

zeros_number : (k : ℕ) → number (zeros k) ≡ 0
unfolding zeros number
zeros_number zero = refl
zeros_number (suc k) = omega (arith, zeros_number k)

-- ---- a tree whose paths are those with a property of length and number, which goes down to a path's prefixes and holds of zeros

module _ (t : Tree) (P : ℕ → ℕ → Type 0) (exactly : (p : Path) → (t.exists p ≡ true) ↔ ((length p ≤ t.size) × P (length p) (number p))) (some_size : 0 < t.size) where
  pub full_exactly : (w : Path) → Full t w ↔ ((length w ≡ t.size) × P t.size (number w))
  full_exactly w = (
    λ f. (f.long, subst (λ (k : ℕ). P k (number w)) f.long ((exactly w).0 f.there.in_tree).1),
    λ h. record {
      there = record {
        some_bit = omega (arith, h.0);
        in_tree = (exactly w).1 (omega (arith, h.0), subst⁻¹ (λ (k : ℕ). P k (number w)) h.0 h.1);
      };
      long = h.0;
    },
  )

  pub tree_sound : Order t.before → ((p q : Path) → t.before p q ≡ true → t.sum q ≤ℤ t.sum p) → ((k q : ℕ) → k < t.size → P (suc k) q → P k (q / 2)) → ((k : ℕ) → P k 0) → Sound t
  tree_sound order fall down none = record {
    order = order;
    sums_fall = fall;
    parents = λ b c p e.
        let h = (exactly (b ∷ c ∷ p)).0 e in
        (exactly (c ∷ p)).1 (omega (arith, h.0), subst (P (suc (length p))) (number_half b (c ∷ p)) (down (suc (length p)) (number (b ∷ c ∷ p)) h.0 h.1));
    short = λ p e. ((exactly p).0 e).0;
    some_full = (zeros t.size, (full_exactly (zeros t.size)).1 (zeros_length t.size, subst⁻¹ (P t.size) (zeros_number t.size) (none t.size)));
  }

-- ---- the two trellises

module _ (S : Shape) (some_bits : 0 < S.bits) (vs : Values) (soft : List ℕ) (i : ℕ) where
  module _ (sound : ShapeSound S) (level : i < levels S) where
    pub whole_sound : Sound (whole_trellis S vs soft i)
    whole_sound =
        tree_sound (whole_trellis S vs soft i) (ExistsWhole S i) (whole_exists_exactly S vs soft i sound level) some_bits (order vs soft) (sums_fall vs soft) (whole_prefix S i) (whole_zero S i)

    -- the full paths are the codewords of the level
    pub full_is_codeword_in_whole : (w : Path) → Full (whole_trellis S vs soft i) w ↔ ((length w ≡ S.bits) × Word S.bits (level_code S i) (number w))
    full_is_codeword_in_whole w =
        let full = full_exactly (whole_trellis S vs soft i) (ExistsWhole S i) (whole_exists_exactly S vs soft i sound level) some_bits w in
        let word = full_path_is_word S.bits (level_code S i) (number w) in
        (λ f. ((full.0 f).0, word.0 (full.0 f).1), λ h. full.1 (h.0, word.1 h.1))

  module _ (split : Split S i) where
    pub supercode_sound : Sound (supercode_trellis S vs soft i)
    supercode_sound =
        tree_sound (supercode_trellis S vs soft i) (ExistsSupercode S i) (supercode_exists_exactly S vs soft i split) some_bits (order vs soft) (sums_fall vs soft) (supercode_prefix S i)
        (supercode_zero S i)

    pub full_is_codeword_in_supercode : (w : Path) → Full (supercode_trellis S vs soft i) w ↔ ((length w ≡ S.bits) × Word S.bits (level_code S i) (number w))
    full_is_codeword_in_supercode w =
        let full = full_exactly (supercode_trellis S vs soft i) (ExistsSupercode S i) (supercode_exists_exactly S vs soft i split) some_bits w in
        let word = full_path_is_word S.bits (level_code S i) (number w) in
        let agree = full_paths_agree S i split (number w) in
        (λ f. ((full.0 f).0, word.0 (agree.1 (full.0 f).1)), λ h. full.1 (h.0, agree.0 (word.1 h.1)))

  module _ (sound : ShapeSound S) (level : i < levels S) (split : Split S i) where
    pub whole_within_supercode : Within (whole_trellis S vs soft i) (supercode_trellis S vs soft i)
    whole_within_supercode = record {
      same_size = refl;
      same_order = refl;
      exists_too = λ p e.
          let h = (whole_exists_exactly S vs soft i sound level p).0 e.in_tree in
          record { some_bit = e.some_bit; in_tree = (supercode_exists_exactly S vs soft i split p).1 (h.0, whole_in_supercode S i split (length p) (number p) h.1) };
      full_too = λ w f. (full_is_codeword_in_whole sound level w).1 ((full_is_codeword_in_supercode split w).0 f);
    }
