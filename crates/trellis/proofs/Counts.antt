-- What the two numbers of demand 3 count: each path that has the property, once; and a list of these paths there is. Assumes nothing.
use mathlib.Core.Bool.{Bool, true}
use mathlib.Core.List.{List}
use mathlib.Core.Logic.{◌↔◌, ◌⊎◌}
use mathlib.Core.Path.{◌≡◌, refl}
use Prim.Native.Nat.{ℕ, ◌≤◌, ◌<◌}
use lib.ListN.{length}
use Rattle.column.specs.Shape.{Shape}
use Rattle.column.specs.Trellis.{Dead}
use Rattle.paths.specs.Lists.{Lists, filter}
use Rattle.paths.specs.Paths.{Path, prefix, paths}
use Rattle.paths.specs.Order.{Ahead}
use Rattle.paths.specs.Tree.{counted, number as rank}
use Rattle.paths.specs.Dead.{dead_and_ahead, dead_paths_ahead}
use Rattle.paths.proofs.Lists.{same_members_length, of_filter, in_filter, filter_no_repeats}
use Rattle.paths.proofs.Paths.{in_paths, of_paths, paths_no_repeats}
use Rattle.trellis.specs.Values.{Values}
use Rattle.trellis.specs.Order.{number, before}
use Rattle.trellis.specs.Demand.{Search, trellis, whole_trellis, supercode_trellis, ExistsFor, Counted, DeadAhead}
use Rattle.trellis.proofs.Demand.{Searchable, counted_exactly, dead_and_ahead_exactly}

-- a test that says exactly which paths of at most n bits have two properties
module _ (n : ℕ) (P Q : Path → Type 0) (test : Path → Bool) (tests : (p : Path) → (test p ≡ true) ↔ ((length p ≤ n) × P p × Q p)) where
  tested_lists : Lists (λ p. (0 < length p) × (length p ≤ n) × P p × Q p) (filter test (paths n))
  tested_lists = record {
    once = filter_no_repeats test (paths n) (paths_no_repeats n);
    exactly = λ p. (
      λ m. let h = of_filter test (paths n) p m in let k = (tests p).0 h.1 in ((of_paths n p h.0).0, k.0, k.1, k.2),
      λ h. in_filter test (paths n) p (in_paths n p h.0 h.1) ((tests p).1 (h.1, h.2, h.3)),
    );
  }

  -- two such lists are equally long
  tested_length : (ps : List Path) → Lists (λ p. (0 < length p) × (length p ≤ n) × P p × Q p) ps → length ps ≡ length (filter test (paths n))
  tested_length ps lists =
      same_members_length ps (filter test (paths n)) lists.once tested_lists.once
      (λ p m. (tested_lists.exactly p).1 ((lists.exactly p).0 m)) (λ p m. (lists.exactly p).1 ((tested_lists.exactly p).0 m))

module _ (S : Shape) (i : ℕ) (given : Searchable S i) (vs : Values) (soft : List ℕ) (w : Path) where
  module _ (s : Search) where
    -- demand 3: "exactly the number of its trellis paths that are prefixes of this codeword or ahead of it"
    pub rank_counts : (ps : List Path) → Lists (Counted s S vs soft i w) ps → length ps ≡ rank (trellis s S vs soft i) w
    unfolding rank
    rank_counts =
        tested_length S.bits (λ p. ExistsFor s S i (length p) (number p)) (λ p. (prefix p w ≡ true) ⊎ Ahead (before vs soft) p w) (counted (trellis s S vs soft i) w)
        (counted_exactly S i given vs soft s w)

    pub rank_is_a_number_of_paths : (ps : List Path) × Lists (Counted s S vs soft i w) ps × (length ps ≡ rank (trellis s S vs soft i) w)
    unfolding rank
    rank_is_a_number_of_paths = (
      _,
      tested_lists S.bits (λ p. ExistsFor s S i (length p) (number p)) (λ p. (prefix p w ≡ true) ⊎ Ahead (before vs soft) p w) (counted (trellis s S vs soft i) w)
          (counted_exactly S i given vs soft s w),
      refl,
    )

  -- demand 3: "exactly the dead paths ahead of that codeword"
  pub dead_ahead_counts : (ps : List Path) → Lists (DeadAhead S vs soft i w) ps → length ps ≡ dead_paths_ahead (whole_trellis S vs soft i) (supercode_trellis S vs soft i) w
  unfolding dead_paths_ahead
  dead_ahead_counts =
      tested_length S.bits (λ p. Dead S i (length p) (number p)) (λ p. Ahead (before vs soft) p w) (dead_and_ahead (whole_trellis S vs soft i) (supercode_trellis S vs soft i) w)
      (dead_and_ahead_exactly S i given vs soft w)

  pub dead_ahead_is_a_number_of_paths : (ps : List Path) × Lists (DeadAhead S vs soft i w) ps × (length ps ≡ dead_paths_ahead (whole_trellis S vs soft i) (supercode_trellis S vs soft i) w)
  unfolding dead_paths_ahead
  dead_ahead_is_a_number_of_paths = (
    _,
    tested_lists S.bits (λ p. Dead S i (length p) (number p)) (λ p. Ahead (before vs soft) p w) (dead_and_ahead (whole_trellis S vs soft i) (supercode_trellis S vs soft i) w)
        (dead_and_ahead_exactly S i given vs soft w),
    refl,
  )
