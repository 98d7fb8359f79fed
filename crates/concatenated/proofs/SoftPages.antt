-- The look-up of a column, and the columns of a soft page. Assumes nothing.
use mathlib.Core.Bool.{Bool, cond, ◌&&◌, and-false}
use mathlib.Core.List.{List, []}
use mathlib.Core.Path.{◌≡◌, ap, ap₂, ◌∙◌, subst⁻¹}
use Prim.Native.Nat.{ℕ, suc, ◌*◌, ◌≤◌, ◌<◌}
use native.Mathlib.Nat.{mul-le-mul_right, suc-mul}
use native.Mathlib.Omega.{arith}
use lib.Dec.{eqb, ltb}
use lib.ListN.{length, length-drop, get_or, take, drop, take-append-drop}
use lib.Seq.{length-take-le}
use borrow.Author.Tests.{eq-eqb, ne_eqb, lt-ltb, le-ltb}
use Rattle.concatenated.specs.Lists.{All}
use Rattle.concatenated.specs.Format.{Format}
use Rattle.concatenated.specs.SoftPage.{Soft, column_part, soft_columns}
use Rattle.concatenated.proofs.Lists.{all_of_append, all_listed, listed_length, listed_at}

module _ (P : Format) (page : List ℕ) where
  -- 01: "For a column above 62 or a page of another length the part is empty"
  pub no_part_above_the_last_column : (j : ℕ) → P.columns ≤ j → column_part P page j ≡ []
  unfolding column_part
  no_part_above_the_last_column j h = ap (λ (t : Bool). cond t (take P.shape.bits (drop (j * P.shape.bits) page)) []) (ap (λ (t : Bool). eqb (length page) (P.columns * P.shape.bits) && t) (le-ltb j P.columns h) ∙ and-false (eqb (length page) (P.columns * P.shape.bits)))

  pub no_part_of_another_length : (j : ℕ) → (length page ≡ P.columns * P.shape.bits → ⊥) → column_part P page j ≡ []
  unfolding column_part
  no_part_of_another_length j h =
      ap (λ (t : Bool). cond (t && ltb j P.columns) (take P.shape.bits (drop (j * P.shape.bits) page)) []) (ne_eqb (length page) (P.columns * P.shape.bits) h)

  module _ (full : length page ≡ P.columns * P.shape.bits) where
    pub part_of_the_page : (j : ℕ) → j < P.columns → column_part P page j ≡ take P.shape.bits (drop (j * P.shape.bits) page)
    unfolding column_part
    part_of_the_page j h =
        ap₂ (λ (s t : Bool). cond (s && t) (take P.shape.bits (drop (j * P.shape.bits) page)) []) (eq-eqb (length page) (P.columns * P.shape.bits) full) (lt-ltb j P.columns h)

    part_within : (j : ℕ) → j < P.columns → P.shape.bits ≤ length (drop (j * P.shape.bits) page)
    part_within j h =
        let inside : suc j * P.shape.bits ≤ P.columns * P.shape.bits = mul-le-mul_right P.shape.bits h in
        omega (arith, length-drop (j * P.shape.bits) page, suc-mul j P.shape.bits)

    pub part_length : (j : ℕ) → j < P.columns → length (column_part P page j) ≡ P.shape.bits
    part_length j h = ap length (part_of_the_page j h) ∙ length-take-le P.shape.bits (drop (j * P.shape.bits) page) (part_within j h)

    pub part_is_soft : Soft page → (j : ℕ) → j < P.columns → Soft (column_part P page j)
    part_is_soft soft j h =
        let later : List ℕ = drop (j * P.shape.bits) page in
        let soft_later = (all_of_append (λ q. q ≤ 7) (take (j * P.shape.bits) page) later (subst⁻¹ Soft (take-append-drop (j * P.shape.bits) page) soft)).1 in
        subst⁻¹ Soft (part_of_the_page j h)
        (all_of_append (λ q. q ≤ 7) (take P.shape.bits later) (drop P.shape.bits later) (subst⁻¹ Soft (take-append-drop P.shape.bits later) soft_later)).0

    -- the columns of a soft page are soft columns of the right length
    pub columns_are_soft : Soft page → All (λ c. (length c ≡ P.shape.bits) × Soft c) (soft_columns P page)
    unfolding soft_columns
    columns_are_soft soft = all_listed (λ c. (length c ≡ P.shape.bits) × Soft c) (column_part P page) P.columns (λ j h. (part_length j h, part_is_soft soft j h))

  pub as_many_columns : length (soft_columns P page) ≡ P.columns
  unfolding soft_columns
  as_many_columns = listed_length (column_part P page) P.columns

  pub column_at : (j : ℕ) → j < P.columns → get_or (soft_columns P page) j [] ≡ column_part P page j
  unfolding soft_columns
  column_at j h = listed_at (column_part P page) P.columns j [] h
